-- The order by zones is an order of values.
use Rattle.std.proofs.Common.{◌≡◌, ◌≢◌, ◌⊎◌, ℕ, zero, suc, ◌+◌, ◌<◌, ◌≤◌, ◌==◌, Bool, true, false, cond, min, List, length, Option, None, Some, refl, ap, sym, ◌∙◌, inl, inr, arith}
use Rattle.std.proofs.lemmas.Bool.{cases_eq, cases_lt}
use Rattle.std.proofs.lemmas.Bool.Decides.{nat_tests}
use Rattle.fdb_lines.specs.declared.line.Line.{Line}
use Rattle.fdb_lines.specs.Before.{began, ended}
use Rattle.fdb_lines.specs.Lines.{line_at}
use Rattle.fdb_lines.specs.Summary.{tally}
use Rattle.fdb_values.specs.ByValue.{IsOrderOfValues, SomeComesFirst, comes_first, start_value, value_at}
use Rattle.fdb_values.specs.Zones.{first_end, key_of, last_begin, rank_by_zone, sooner, stands_below, zone_key}
use Rattle.fdb_values.proofs.Facts.{greatest_among, greatest_bound}

-- ---- tallies of which one counts more

counts_as_much : (a b : ℕ → Bool) (n : ℕ) → ((j : ℕ) → j < n → a j ≡ true → b j ≡ true) → tally a n ≤ tally b n
counts_as_much a b zero all = omega arith
counts_as_much a b (suc n) all =
    let rest = counts_as_much a b n (λ j lt. all j (omega arith)) in
    let here = all n (omega arith) in
    grind arith

counts_more : (a b : ℕ → Bool) (n i : ℕ) → ((j : ℕ) → j < n → a j ≡ true → b j ≡ true) → i < n → a i ≡ false → b i ≡ true → tally a n < tally b n
counts_more a b zero i all lt fails passes = absurd (omega arith)
counts_more a b (suc n) i all lt fails passes =
    let here = all n (omega arith) in
    elim (cases_eq i n) [
      | inl same ↦
          let rest = counts_as_much a b n (λ j lj. all j (omega arith)) in
          let none : a n ≡ false = ap a (sym same) ∙ fails in
          let one : b n ≡ true = ap b (sym same) ∙ passes in
          grind arith
      | inr other ↦
          let rest = counts_more a b n i (λ j lj. all j (omega arith)) (omega arith) fails passes in
          grind arith
    ]

-- ---- one of two values stands below the other

below_self : (key : ℕ → ℕ) (u : ℕ) → stands_below key u u ≡ false
below_self key u = grind (arith, nat_tests)

below_on : (key : ℕ → ℕ) (u v w : ℕ) → stands_below key u v ≡ true → stands_below key w u ≡ true → stands_below key w v ≡ true
below_on key u v w up low = grind (arith, nat_tests)

below_by_key : (key : ℕ → ℕ) (u v : ℕ) → key u < key v → stands_below key u v ≡ true
below_by_key key u v less = grind (arith, nat_tests)

below_or_above : (key : ℕ → ℕ) (u v : ℕ) → u ≢ v → (stands_below key u v ≡ true) ⊎ (stands_below key v u ≡ true)
below_or_above key u v ne = grind (arith, nat_tests)

-- ---- what ends first

first_most : (lines : List Line) (v n k end : ℕ) → k < n → value_at lines k ≡ v → ended (line_at lines k) ≡ Some end
    → (first : ℕ) × (first_end lines v n ≡ Some first) × (first ≤ end)
first_most lines v zero k end lt is ends = absurd (omega arith)
first_most lines v (suc n) k end lt is ends =
    elim (cases_eq k n) [
      | inl same ↦
          let value : value_at lines n ≡ v = ap (value_at lines) (sym same) ∙ is in
          let here : ended (line_at lines n) ≡ Some end = ap (λ i. ended (line_at lines i)) (sym same) ∙ ends in
          at_last value here (first_end lines v n) refl
      | inr other ↦
          let rest = first_most lines v n k end (omega arith) is ends in
          before rest.0 (cond (value_at lines n == v) (ended (line_at lines n)) None) rest.1 rest.2
    ]
  where
    at_last : value_at lines n ≡ v → ended (line_at lines n) ≡ Some end → (rest : Option ℕ) → first_end lines v n ≡ rest
        → (first : ℕ) × (first_end lines v (suc n) ≡ Some first) × (first ≤ end)
    at_last value here None are = (end, grind (arith, nat_tests), omega arith)
    at_last value here (Some rest) are = (min end rest, grind (arith, nat_tests), omega arith)

    before : (rest : ℕ) (more : Option ℕ) → first_end lines v n ≡ Some rest → rest ≤ end
        → (first : ℕ) × (sooner more (first_end lines v n) ≡ Some first) × (first ≤ end)
    before rest None are le = (rest, are, le)
    before rest (Some more) are le = (min more rest, ap (sooner (Some more)) are, omega arith)

first_among : (lines : List Line) (v n first : ℕ) → first_end lines v n ≡ Some first
    → (k : ℕ) × (k < n) × (value_at lines k ≡ v) × (ended (line_at lines k) ≡ Some first)
first_among lines v zero first is = absurd (grind arith)
first_among lines v (suc n) first is =
    let rest = first_among lines v n first in
    grind (arith, nat_tests)

-- ---- keys

-- a value of which a call comes before one of another, and none the other way round, has the lower key
keys_climb : (margin first last other : ℕ) (others : Option ℕ) → first + margin < other
    → ((end : ℕ) → others ≡ Some end → last ≤ end + margin) → zone_key margin (Some first) last < zone_key margin others other
keys_climb margin first last other None less back = grind (arith, nat_tests)
keys_climb margin first last other (Some end) less back = let low = back end refl in grind (arith, nat_tests)

module _ (margin : ℕ) (lines : List Line) where
  abbrev key : ℕ → ℕ
  key = key_of margin lines

  -- a call that comes before another had ended by more than the margin
  came_first : (j k : ℕ) → comes_first margin lines j k ≡ true → (end : ℕ) × (ended (line_at lines j) ≡ Some end) × (end + margin < began (line_at lines k))
  came_first j k first = grind (arith, nat_tests)

  comes : (j k end : ℕ) → ended (line_at lines j) ≡ Some end → end + margin < began (line_at lines k) → comes_first margin lines j k ≡ true
  comes j k end ends less = grind (arith, nat_tests)

  key_less : (j k : ℕ) → j < length lines → k < length lines → comes_first margin lines j k ≡ true
      → (SomeComesFirst margin lines (value_at lines k) (value_at lines j) → ⊥) → key (value_at lines j) < key (value_at lines k)
  key_less j k lj lk first none =
      let u = value_at lines j in
      let v = value_at lines k in
      let n = length lines in
      let came = came_first j k first in
      let ends = first_most lines u n j came.0 lj refl came.1 in
      let begins = greatest_bound (λ i. value_at lines i == v) (λ i. began (line_at lines i)) n k lk (grind (arith, nat_tests)) in
      let climb = keys_climb margin ends.0 (last_begin lines u n) (last_begin lines v n) (first_end lines v n) (omega (arith, ends.2, came.2, begins))
      (λ end is. elim (cases_lt (end + margin) (last_begin lines u n)) [
        | inl back ↦ elim (greatest_among (λ i. value_at lines i == u) (λ i. began (line_at lines i)) n) [
          | inl nothing ↦ absurd (omega (arith, nothing, back))
          | inr some ↦
              let by = first_among lines v n end is in
              let value : value_at lines some.0 ≡ u = (let test = some.2 in grind (arith, nat_tests)) in
              absurd (none (by.0, some.0, by.1, some.1, by.2, value, comes by.0 some.0 end by.3 (omega (arith, some.3, back))))
        ]
        | inr low ↦ low
      ]) in
      rw ends.1 climb

  -- ---- ranks

  below_rank : (u v i : ℕ) → i < length lines → value_at lines i ≡ u → v ≢ start_value → stands_below key u v ≡ true
      → rank_by_zone margin lines u < rank_by_zone margin lines v
  below_rank u v i lt is ne below =
      let more = counts_more (λ k. stands_below key (value_at lines k) u) (λ k. stands_below key (value_at lines k) v) (length lines) i
      (λ k lk. below_on key u v (value_at lines k) below) lt (ap (λ w. stands_below key w u) is ∙ below_self key u) (ap (λ w. stands_below key w v) is ∙ below) in
      grind (arith, nat_tests)

  pub zones_order : IsOrderOfValues margin lines (rank_by_zone margin lines)
  zones_order = record {
    first = refl;
    others = λ k lk zero. elim (cases_eq (value_at lines k) start_value) [ inl is ↦ is | inr ne ↦ absurd (grind (arith, nat_tests)) ];
    apart = λ j k lj lk same. elim (cases_eq (value_at lines j) (value_at lines k)) [
      | inl one ↦ one
      | inr ne ↦ absurd (apart_by j k lj lk ne same)
    ];
    ordered = λ j k lj lk first ne other none. below_rank (value_at lines j) (value_at lines k) j lj refl other (below_by_key key (value_at lines j) (value_at lines k) (key_less j k lj lk first none));
  }
    where
      apart_by : (j k : ℕ) → j < length lines → k < length lines → value_at lines j ≢ value_at lines k
          → rank_by_zone margin lines (value_at lines j) ≡ rank_by_zone margin lines (value_at lines k) → ⊥
      apart_by j k lj lk ne same = elim (cases_eq (value_at lines j) start_value) [
        | inl is ↦ grind (arith, nat_tests)
        | inr one ↦ elim (cases_eq (value_at lines k) start_value) [
          | inl is ↦ grind (arith, nat_tests)
          | inr other ↦ elim (below_or_above key (value_at lines j) (value_at lines k) ne) [
            | inl low ↦ omega (arith, same, below_rank (value_at lines j) (value_at lines k) j lj refl other low)
            | inr high ↦ omega (arith, same, below_rank (value_at lines k) (value_at lines j) k lk refl one high)
          ]
        ]
      ]
