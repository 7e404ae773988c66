-- How many names there are, beside the lines.
use Rattle.std.proofs.Common.{ℕ, ◌+◌, ◌≤◌, Bool, true, false, List, [], ◌∷◌, ◌++◌, length, length-append, Option, None, Some, is_some, if◌then◌else◌, arith}
use Rattle.fdb_log_reader.specs.Numbers.{number_in, with_client}

-- a line more has at most one name more
pub few_names : (names : List (List ℕ)) (client : Option (List ℕ)) → length (with_client names client) ≤ length names + 1
few_names names None = omega arith
few_names names (Some name) = few (is_some (number_in names name))
  where
    few : (b : Bool) → length (if b then names else names ++ name ∷ []) ≤ length names + 1
    few true = omega arith
    few false = omega (arith, length-append names (name ∷ []))
