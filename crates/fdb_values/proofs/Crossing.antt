-- What a fault by rank shows: two values, of each of which a call comes before one of the other.
use Rattle.std.proofs.Common.{◌≡◌, ◌≢◌, ◌⊎◌, ℕ, ◌<◌, ◌≤◌, ◌==◌, ◌&&◌, Bool, true, false, List, length, ap, sym, ◌∙◌, inl, inr, arith}
use Rattle.std.proofs.lemmas.Bool.{and_parts, both_ways, cases_Bool, cases_eq, cases_lt}
use Rattle.std.proofs.lemmas.Bool.Decides.{nat_tests}
use Rattle.fdb_lines.specs.declared.line.Line.{Line}
use Rattle.fdb_lines.specs.declared.fault.Fault.TheVariants.{NotAbove, Order, Wrong}
use Rattle.fdb_lines.specs.Faults.{knows, last, some_below, stands}
use Rattle.fdb_lines.specs.Lines.{Case, Commit, draws, kind_at, shows, version_at}
use Rattle.fdb_values.specs.ByValue.{AreByValue, IsOrderOfValues, SomeComesFirst, call_at, comes_first, ranked, start_value, value_at}
use Rattle.fdb_values.specs.Fits.{commits_it}
use Rattle.fdb_values.proofs.Fitting.{commits, committed}
use Rattle.fdb_values.proofs.RankedCase.{IsOf, of_lines}
use Rattle.fdb_values.proofs.Facts.{raises_it, greatest_among, none_at, some_find}

module _ (margin : ℕ) (lines : List Line) where
  pair : ℕ → ℕ → ℕ → ℕ → Bool
  pair u v j k = value_at lines j == u && (value_at lines k == v && comes_first margin lines j k)

  pair_from : (u v j k : ℕ) → value_at lines j ≡ u → value_at lines k ≡ v → comes_first margin lines j k ≡ true → pair u v j k ≡ true
  unfolding pair
  pair_from u v j k one other first = grind (arith, nat_tests)

  pair_parts : (u v j k : ℕ) → pair u v j k ≡ true → (value_at lines j ≡ u) × (value_at lines k ≡ v) × (comes_first margin lines j k ≡ true)
  unfolding pair
  pair_parts u v j k is = grind (arith, nat_tests)

  -- whether some call of a value comes before one of another can be told
  decide : (u v : ℕ) → SomeComesFirst margin lines u v ⊎ (SomeComesFirst margin lines u v → ⊥)
  decide u v =
      let n = length lines in
      elim (cases_Bool (some_below (λ j. some_below (pair u v j) n) n)) [
        | inl some ↦
            let j = some_find (λ j. some_below (pair u v j) n) n some in
            let k = some_find (pair u v j.0) n j.2 in
            let it = pair_parts u v j.0 k.0 k.2 in
            inl (j.0, k.0, j.1, k.1, it.0, it.1, it.2)
        | inr none ↦ inr (λ some.
            let after = none_at (λ j. some_below (pair u v j) n) n some.0 none some.2 in
            both_ways (pair u v some.0 some.1) (none_at (pair u v some.0) n some.1 after some.3) (pair_from u v some.0 some.1 some.4 some.5 some.6))
      ]

  module _ (rank : ℕ → ℕ) (by : AreByValue lines) (o : IsOrderOfValues margin lines rank) where
    -- a call that comes before another of another value, which ranks no higher
    crossed : (j k : ℕ) → j < length lines → k < length lines → comes_first margin lines j k ≡ true → value_at lines j ≢ value_at lines k → value_at lines k ≢ start_value
        → rank (value_at lines k) ≤ rank (value_at lines j) → SomeComesFirst margin lines (value_at lines k) (value_at lines j)
    crossed j k lj lk first ne other low = elim (decide (value_at lines k) (value_at lines j)) [
      | inl some ↦ some
      | inr none ↦ absurd (omega (arith, low, o.ordered j k lj lk first ne other none))
    ]

    differ : (u v : ℕ) → rank v < rank u → u ≢ v
    differ u v up same = omega (arith, up, ap rank same)

    module _ (c : Case) (of : IsOf margin lines rank c) where
      -- what is known comes from a line before
      known_by : (k : ℕ) → k < length lines → 0 < knows c k → (j : ℕ) × (j < length lines) × (comes_first margin lines j k ≡ true) × (knows c k ≤ rank (value_at lines j))
      known_by k lk some = elim (greatest_among (λ j. c.before j k && shows (kind_at c j)) (version_at c) (length c.lines)) [
        | inl none ↦ absurd (omega (arith, some, none, of.start))
        | inr it ↦
            let lj : it.0 < length lines = omega (arith, it.1, of.many) in
            (it.0, lj, sym (of.before it.0 k lj lk) ∙ (and_parts (c.before it.0 k) (shows (kind_at c it.0)) it.2).0, omega (arith, it.3, of.start, of.versions it.0 lj))
      ]

      drawn_by : (k : ℕ) → k < length lines → 0 < last c k → (j : ℕ) × (j < length lines) × (comes_first margin lines j k ≡ true) × (last c k ≤ rank (value_at lines j))
      drawn_by k lk some = elim (greatest_among (λ j. c.before j k && draws (kind_at c j)) (version_at c) (length c.lines)) [
        | inl none ↦ absurd (omega (arith, some, none))
        | inr it ↦
            let lj : it.0 < length lines = omega (arith, it.1, of.many) in
            (it.0, lj, sym (of.before it.0 k lj lk) ∙ (and_parts (c.before it.0 k) (draws (kind_at c it.0)) it.2).0, omega (arith, it.3, of.versions it.0 lj))
      ]

      stale : (k : ℕ) → k < length lines → stands c Order k ≡ true
          → (j : ℕ) × (j < length lines) × (comes_first margin lines j k ≡ true) × (value_at lines j ≢ value_at lines k)
          × ((value_at lines k ≡ start_value) ⊎ SomeComesFirst margin lines (value_at lines k) (value_at lines j))
      stale k lk fault =
          let less : version_at c k < knows c k = grind (arith, nat_tests) in
          let it = known_by k lk (omega arith) in
          let up : rank (value_at lines k) < rank (value_at lines it.0) = omega (arith, less, of.versions k lk, it.3) in
          let ne : value_at lines it.0 ≢ value_at lines k = differ (value_at lines it.0) (value_at lines k) up in (
            it.0,
            it.1,
            it.2,
            ne,
            elim (cases_eq (value_at lines k) start_value) [
              | inl is ↦ inl is
              | inr other ↦ inr (crossed it.0 k it.1 lk it.2 ne other (omega (arith, up)))
            ],
          )

      low_commit : (k : ℕ) → k < length lines → stands c NotAbove k ≡ true
          → (j : ℕ) × (j < length lines) × (comes_first margin lines j k ≡ true)
          × ((value_at lines j ≡ value_at lines k) ⊎ SomeComesFirst margin lines (value_at lines k) (value_at lines j))
      low_commit k lk fault = elim (by.calls k lk) [
        | inl read ↦ let kind = of.kinds k lk ∙ read in absurd (grind arith)
        | inr commit ↦
            let other : value_at lines k ≢ start_value = by.new k lk commit in
            let positive : 0 < rank (value_at lines k) = elim (cases_lt 0 (rank (value_at lines k))) [ inl lt ↦ lt | inr ge ↦ absurd (other (o.others k lk (omega arith))) ] in
            let version = of.versions k lk in
            let low : (version_at c k ≤ knows c k) ⊎ (version_at c k ≤ last c k) = grind (arith, nat_tests) in
            let from : (j : ℕ) → j < length lines → comes_first margin lines j k ≡ true → rank (value_at lines k) ≤ rank (value_at lines j)
            → (i : ℕ) × (i < length lines) × (comes_first margin lines i k ≡ true)
            × ((value_at lines i ≡ value_at lines k) ⊎ SomeComesFirst margin lines (value_at lines k) (value_at lines i)) = λ j lj first le. (
              j,
              lj,
              first,
              elim (cases_eq (value_at lines j) (value_at lines k)) [
                | inl same ↦ inl same
                | inr ne ↦ inr (crossed j k lj lk first ne other le)
              ],
            ) in
            elim low [
              | inl known ↦ let it = known_by k lk (omega (arith, positive, version, known)) in from it.0 it.1 it.2 (omega (arith, it.3, version, known))
              | inr drawn ↦ let it = drawn_by k lk (omega (arith, positive, version, drawn)) in from it.0 it.1 it.2 (omega (arith, it.3, version, drawn))
            ]
      ]

      -- a read of a value that nobody wrote, or only a commit at which a fault stands
      unwritten : (k : ℕ) → k < length lines → stands c Wrong k ≡ true
          → ((i : ℕ) → i < length lines → call_at lines i ≡ Commit → value_at lines i ≢ value_at lines k)
          ⊎ ((i : ℕ) × (i < length lines) × (call_at lines i ≡ Commit) × (value_at lines i ≡ value_at lines k) × (stands c NotAbove i ≡ true))
      unwritten k lk fault =
          let v = value_at lines k in
          let n = length lines in
          elim (cases_Bool (some_below (commits_it lines v) n)) [
            | inl some ↦
                let i = some_find (commits_it lines v) n some in
                let it = committed lines i.0 v i.2 in
                let version = of.versions i.0 i.1 ∙ (ap rank it.1 ∙ sym (of.versions k lk)) in
                let kind = of.kinds i.0 i.1 ∙ it.0 in
                inr (
                  i.0,
                  i.1,
                  it.0,
                  it.1,
                  not_above_at i.0 (omega (arith, i.1, of.many)) (version_at c k) version kind
                      (none_at (raises_it c (version_at c k)) (length c.lines) i.0 (unraised k fault) (omega (arith, i.1, of.many))),
                )
            | inr none ↦ inl (λ i li commit same. both_ways (commits_it lines v i) (none_at (commits_it lines v) n i none li) (commits lines i v commit same))
          ]
        where
          unraised : (k : ℕ) → stands c Wrong k ≡ true → some_below (raises_it c (version_at c k)) (length c.lines) ≡ false
          unraised k fault = grind (arith, nat_tests)

          not_above_at : (i : ℕ) → i < length c.lines → (v : ℕ) → version_at c i ≡ v → kind_at c i ≡ Commit → raises_it c v i ≡ false → stands c NotAbove i ≡ true
          not_above_at i li v version kind low = grind (arith, nat_tests)

-- ---- of ranked lines

module _ (margin : ℕ) (lines : List Line) (rank : ℕ → ℕ) (by : AreByValue lines) (o : IsOrderOfValues margin lines rank) (k : ℕ) (lk : k < length lines) where
  pub order_shows : stands (ranked margin lines rank) Order k ≡ true
      → (j : ℕ) × (j < length lines) × (comes_first margin lines j k ≡ true) × (value_at lines j ≢ value_at lines k)
      × ((value_at lines k ≡ start_value) ⊎ SomeComesFirst margin lines (value_at lines k) (value_at lines j))
  order_shows = stale margin lines rank by o (ranked margin lines rank) (of_lines margin lines rank by) k lk

  pub not_above_shows : stands (ranked margin lines rank) NotAbove k ≡ true
      → (j : ℕ) × (j < length lines) × (comes_first margin lines j k ≡ true)
      × ((value_at lines j ≡ value_at lines k) ⊎ SomeComesFirst margin lines (value_at lines k) (value_at lines j))
  not_above_shows = low_commit margin lines rank by o (ranked margin lines rank) (of_lines margin lines rank by) k lk

  pub wrong_shows : stands (ranked margin lines rank) Wrong k ≡ true
      → ((i : ℕ) → i < length lines → call_at lines i ≡ Commit → value_at lines i ≢ value_at lines k)
      ⊎ ((i : ℕ) × (i < length lines) × (call_at lines i ≡ Commit) × (value_at lines i ≡ value_at lines k) × (stands (ranked margin lines rank) NotAbove i ≡ true))
  wrong_shows = unwritten margin lines rank by o (ranked margin lines rank) (of_lines margin lines rank by) k lk
