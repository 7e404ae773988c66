-- What is kept of a line of a log that is cut.
use Rattle.std.proofs.Common.{◌≡◌, ◌∙◌, ◌⊎◌, ℕ, List, [], Some, Result, Ok, Err, MatchResult, ap, inr}
use Rattle.serde_json.specs.Find.{get}
use Rattle.fdb_log_reader.specs.declared.part_text.Above.{Above}
use Rattle.fdb_log_reader.specs.declared.error.Why.{Why}
use Rattle.fdb_log_reader.specs.declared.error.Why.TheVariants.{Memory}
use Rattle.fdb_log_reader.specs.declared.part_text.KeyedLine.{KeyedLine}
use Rattle.fdb_log_reader.specs.declared.usual.Usual.{Usual}
use Rattle.fdb_log_reader.specs.Members.{and_then, member_of}
use Rattle.fdb_log_reader.specs.ReadLine.{unless}
use Rattle.fdb_log_reader.specs.Split.{keyed, keyed_line, keyed_said, refusal_below}
use Rattle.fdb_log_reader.specs.private.Usual.{StandsFor, beside_of, says_of}
use Rattle.fdb_log_reader.proofs.UsualForm.{parts_same}

-- a line in the usual form says what its members do
pub usual_keyed : (member : List ℕ) (above : Above) (bytes : List ℕ) (line : Usual) → StandsFor bytes (Some member) line
    → keyed_line member above bytes ≡ keyed_said member above (says_of line) (beside_of line)
usual_keyed member above bytes line is =
    let value = is.0 in
    ap (λ value. and_then value (λ value. keyed_said member above (member_of value) (λ name. get name value))) is.1
    ∙ (ap (λ says. keyed_said member above says (λ name. get name value)) is.2
    ∙ ap (λ parts. and_then parts (λ parts. unless (refusal_below above parts) (keyed parts))) (parts_same [] (Some member) (says_of line) (λ name. get name value) (beside_of line) is.3))

pub keyed_so : (result exact said : Result KeyedLine Why) → exact ≡ said → MatchResult result (λ it. said ≡ Ok it) (λ why. said ≡ Err why)
    → MatchResult result (λ it. exact ≡ Ok it) (λ why. (why ≡ Memory) ⊎ (exact ≡ Err why))
keyed_so (Ok it) exact said same is = same ∙ is
keyed_so (Err why) exact said same is = inr (same ∙ is)
