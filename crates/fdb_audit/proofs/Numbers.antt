-- The number that an argument gives.
use Rattle.std.proofs.Common.{◌≡◌, ◌∙◌, ℕ, Option, None, Some, ap}
use Rattle.std.specs.Prelude.{option_map}
use Rattle.std.specs.Str.Parse.{digits_value, without_leading_plus}
use Rattle.clap.specs.Words.{Text}
use Rattle.fdb_command.specs.Arguments.{IsNumber}

pub number_of : (low high : ℕ) (given : Option Text) (found : Option ℕ) → IsNumber low high given found
    → found ≡ option_map (λ digits. digits_value 10 (without_leading_plus digits)) given
number_of low high None found is = is
number_of low high (Some digits) found is = is.1 ∙ ap Some is.4
