-- What a line says, before anything of it is kept. (this product's own)
use Rattle.std.specs.Prelude.{ℕ, List, Option, None, Some, option_map, Result, Ok, Err, if◌then◌else◌}
use Rattle.serde_json.specs.Data.{Data}
use Rattle.fdb_lines.specs.declared.line.Operation.{Operation}
use Rattle.fdb_lines.specs.declared.line.Times.{Times}
use Rattle.fdb_lines.specs.Lines.{is_learn, kind_of}
use Rattle.fdb_log_reader.specs.declared.error.Why.{Why}
use Rattle.fdb_log_reader.specs.declared.error.Why.TheVariants.{BadMember}
use Rattle.fdb_log_reader.specs.declared.member.Member.{Member}
use Rattle.fdb_log_reader.specs.declared.member.Member.TheVariants.{Learn}
use Rattle.fdb_log_reader.specs.declared.parsing.Parts.{Parts}
use Rattle.fdb_log_reader.specs.Columns.{key_in}
use Rattle.fdb_log_reader.specs.Members.{and_then, call_of, client_of, times_of}

-- whose call it was, what was done, when, and its key
pub record SaidParts : Type 0 where
  pub client : Option (List ℕ)
  pub call : Operation
  pub times : Option Times
  pub key : Option (List ℕ)

-- The key that a line names by the member of this name, if keys are kept. Beside keys no line has learnt.
abbrev pub key_said : Option (List ℕ) → Operation → (List ℕ → Option Data) → Result (Option (List ℕ)) Why
key_said None call beside = Ok None
key_said (Some member) call beside = if is_learn (kind_of call) then Err (BadMember Learn) else key_in (beside member)

-- what a line says, by its members and those beside them, where clients have these names, and keys this member
abbrev pub parts_said : List (List ℕ) → Option (List ℕ) → (Member → Option Data) → (List ℕ → Option Data) → Result SaidParts Why
parts_said names member says beside =
    and_then (client_of says) (λ client.
    and_then (call_of names says) (λ call.
    and_then (times_of says) (λ times.
    and_then (key_said member call beside) (λ key.
    Ok (record { client = client; call = call; times = times; key = key })))))

-- what the parts of a line say
abbrev pub parts_of : Parts → SaidParts
parts_of parts = record { client = option_map (λ name. name.now) parts.client; call = parts.call; times = parts.times; key = option_map (λ name. name.now) parts.key }
