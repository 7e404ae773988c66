-- Tests, joined.
use Rattle.std.proofs.Common.{◌≡◌, ℕ, ◌<◌, nat_lt, arith}
use Rattle.std.proofs.lemmas.Bool.Decides.{nat_tests}

pub same_tests : (a b x y : ℕ) → (a < b → x < y) → (x < y → a < b) → nat_lt a b ≡ nat_lt x y
same_tests a b x y f g = grind (arith, nat_tests)
