-- How a program ends that has a text to write. (this product's own)
use Rattle.std.specs.Prelude.{◌≡◌, ℕ, List, Option, None, Some, Result, Ok, Err}
use Rattle.std.specs.Io.KnownBytes.{Appends}
use Rattle.fdb_command.specs.Output.{TakesAny}
use Rattle.fdb_command.specs.declared.failure.Failure.{Failure}
use Rattle.fdb_command.specs.declared.failure.Failure.TheVariants.{Refused, Arguments, Memory, Found, Reading, Writing, OwnFile}

-- How `put` may end with a text that tells of this fault or none and of this refusal or none. The text was written whole, unless
-- writing failed; a fault comes before a refusal.
abbrev pub IsEnding : {E F : Type 0} → List ℕ → Option F → Option E → (before after : Option (List ℕ)) → Result (Unit {0}) (Failure E F) → Type 0
IsEnding text found refused before after (Ok done) = (found ≡ None) × (refused ≡ None) × Appends before after text
IsEnding text found refused before after (Err (Refused error)) = (found ≡ None) × (refused ≡ Some error) × Appends before after text
IsEnding text found refused before after (Err Arguments) = ⊥
IsEnding text found refused before after (Err Memory) = ⊥
IsEnding text found refused before after (Err (Found fault)) = (found ≡ Some fault) × Appends before after text
IsEnding text found refused before after (Err Reading) = ⊥
IsEnding text found refused before after (Err Writing) = TakesAny text before after
IsEnding text found refused before after (Err (OwnFile file)) = ⊥
