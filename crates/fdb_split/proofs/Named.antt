-- What the arguments of the program name.
use Rattle.std.proofs.Common.{◌≡◌, ◌∙◌, ◌≤◌, ℕ, Option, None, Some, IfSome, ap, subst, sym}
use Rattle.std.specs.Prelude.{option_map}
use Rattle.std.specs.Str.Parse.{digits_value, without_leading_plus}
use Rattle.clap.specs.Words.{Text}
use Rattle.fdb_command.specs.Arguments.{IsNumber}

pub number_of : (low high : ℕ) (given : Option Text) (found : Option ℕ) → IsNumber low high given found
    → option_map (λ digits. digits_value 10 (without_leading_plus digits)) given ≡ found
number_of low high None found is = sym is
number_of low high (Some digits) found is = ap Some (sym is.4) ∙ sym is.1

pub at_least : (low high : ℕ) (given : Option Text) (found : Option ℕ) → IsNumber low high given found → IfSome found (λ n. low ≤ n)
at_least low high None found is = subst (λ (found : Option ℕ). IfSome found (λ n. low ≤ n)) (sym is) tt
at_least low high (Some digits) found is = subst (λ (found : Option ℕ). IfSome found (λ n. low ≤ n)) (sym is.1) is.2

pub at_most : (low high : ℕ) (given : Option Text) (found : Option ℕ) → IsNumber low high given found → IfSome found (λ n. n ≤ high)
at_most low high None found is = subst (λ (found : Option ℕ). IfSome found (λ n. n ≤ high)) (sym is) tt
at_most low high (Some digits) found is = subst (λ (found : Option ℕ). IfSome found (λ n. n ≤ high)) (sym is.1) is.3
