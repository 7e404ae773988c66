-- What lines say, whatever numbers their clients and keys have. (this product's own)
use Rattle.std.specs.Prelude.{◌≡◌, ℕ, List, Option, None, Some, IfSome, option_and_then, slice_get, Result, Ok, Err}
use Rattle.fdb_lines.specs.declared.line.Line.{Line}
use Rattle.fdb_lines.specs.declared.line.Operation.{Operation}
use Rattle.fdb_lines.specs.declared.line.Times.{Times}
use Rattle.fdb_log_reader.specs.declared.error.Why.{Why}
use Rattle.fdb_log_reader.specs.ReadLine.{LineNames, SaidLine}

-- the name of a client, and that of a key, by its number, if there is one
abbrev pub client_named : LineNames → Option ℕ → Option (List ℕ)
client_named names client = option_and_then (slice_get names.clients) client

abbrev pub key_named : LineNames → Option ℕ → Option (List ℕ)
key_named names key = option_and_then (λ keys. option_and_then (slice_get keys.names) key) names.keys

-- What a line says, whatever numbers its client and its key have: their names, its call, and its times.
pub record Named : Type 0 where
  pub client : Option (List ℕ)
  pub key : Option (List ℕ)
  pub call : Operation
  pub times : Option Times

abbrev pub named : LineNames → Line → Option ℕ → Named
named names line key = record { client = client_named names line.client; key = key_named names key; call = line.call; times = line.times }

abbrev pub named_said : LineNames → SaidLine → Named
named_said names said = named names said.line said.key

-- and of one that may be refused: none
abbrev pub named_if : LineNames → Result SaidLine Why → Option Named
named_if names (Ok said) = Some (named_said names said)
named_if names (Err why) = None

-- each of some names stands once
abbrev pub StandOnce : List (List ℕ) → Type 0
StandOnce names = (i j : ℕ) (name : List ℕ) → slice_get names i ≡ Some name → slice_get names j ≡ Some name → i ≡ j

-- So no two clients have one name, and no two keys.
pub record HaveOneNumber (names : LineNames) : Type 0 where
  pub clients : StandOnce names.clients
  pub keys : IfSome names.keys (λ keys. StandOnce keys.names)
