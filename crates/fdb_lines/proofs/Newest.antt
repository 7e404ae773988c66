-- The newest line of a group before a moment, found in a sorted table.
use Rattle.std.proofs.Common.{◌≡◌, ◌≢◌, ◌⊎◌, ℕ, ◌-◌, ◌^◌, ◌<◌, ◌≤◌, ◌==◌, nat_lt, ◌&&◌, List, length, Option, None, Some, arith}
use Rattle.std.specs.List.Sorted.{IsNonDecreasingBy}
use Rattle.std.proofs.lemmas.Bool.Decides.{nat_tests}
use Rattle.fdb_lines.specs.declared.line.End.{End}
use Rattle.fdb_lines.specs.private.EndTable.{key, end_key, end_at, no_end, comes_by, IsFront, IsNewestAt}
use Rattle.fdb_lines.specs.private.Entries.{IsNewest}
use Rattle.fdb_lines.specs.private.Known.{moment}

group_below : (one other : End) → end_key one ≤ end_key other → one.group ≤ other.group
group_below one other h = grind (arith, one.fits, other.fits)

groups_rise : (xs : List End) → IsNonDecreasingBy end_key xs → (i j : ℕ) → i ≤ j → j < length xs → (end_at xs i).group ≤ (end_at xs j).group
groups_rise xs sorted i j le lt = group_below (end_at xs i) (end_at xs j) (sorted i j no_end le lt)

-- the first of its group is the newest yet
pub first_of_group : (xs : List End) → IsNonDecreasingBy end_key xs → (i : ℕ) → i < length xs → (i ≡ 0) ⊎ ((end_at xs (i - 1)).group ≢ (end_at xs i).group) → IsNewestAt xs i i
first_of_group xs sorted i lt apart = (
  omega arith,
  grind (arith, nat_tests),
  λ j le same.
      let a = λ (l : j < i). groups_rise xs sorted j (i - 1) (omega (arith, l)) (omega (arith, l)) in
      let b = groups_rise xs sorted (i - 1) i (omega arith) lt in
      grind (arith, nat_tests),
)

-- ---- the search

comes_is : (end : End) (group time place : ℕ) → place < 2 ^ 32 → comes_by (moment group time place) end ≡ (end.group == group && nat_lt (end_key end) (key group time place))
comes_is end group time place fits = grind (arith, nat_tests, end.fits)

abbrev pub Found : List End → ℕ → ℕ → ℕ → Option ℕ → Type 0
Found xs group time place = IsNewest (λ i. comes_by (moment group time place) (end_at xs i)) (λ i. (end_at xs i).version) (length xs)

pub found : (xs : List End) (group time place front k : ℕ) → place < 2 ^ 32 → front ≤ length xs → IsFront xs (key group time place) front
    → 0 < front → (end_at xs (front - 1)).group ≡ group → IsNewestAt xs (front - 1) k → Found xs group time place (Some k)
found xs group time place front k fits le parts some same is =
    let inside = is.0 in
    let here = comes_is (end_at xs k) group time place fits in
    let below = parts.0 k (omega arith) in (
      omega arith,
      grind (arith, nat_tests, is.1),
      λ j lt comes.
          let there = comes_is (end_at xs j) group time place fits in
          let above = λ (l : front ≤ j). parts.1 j l lt in
          let most = is.2 j in
          grind (arith, nat_tests),
    )

pub not_found : (xs : List End) → IsNonDecreasingBy end_key xs → (group time place front : ℕ) → time < 2 ^ 64 → place < 2 ^ 32 → front ≤ length xs
    → IsFront xs (key group time place) front → (front ≡ 0) ⊎ ((end_at xs (front - 1)).group ≢ group) → Found xs group time place None
not_found xs sorted group time place front ft fp le parts other j lt =
    let there = comes_is (end_at xs j) group time place fp in
    let above = λ (l : front ≤ j). parts.1 j l lt in
    let rise = λ (l : j < front). groups_rise xs sorted j (front - 1) (omega (arith, l)) (omega (arith, l)) in
    let last : End = record { group = group; time = time; place = place; version = 0; fits = (ft, fp) } in
    let below = λ (l : 0 < front). group_below (end_at xs (front - 1)) last (let b = parts.0 (front - 1) (omega (arith, l)) in omega arith) in
    grind (arith, nat_tests)
