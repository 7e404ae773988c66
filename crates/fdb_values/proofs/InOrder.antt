-- Where lines are explained by value, no fault stands at them by rank: the calls of a value stand together, between its commit
-- and the next, so of two values one is wholly above the other.
use Rattle.std.proofs.Common.{◌≡◌, ◌≢◌, ◌⊎◌, ℕ, ◌<◌, ◌≤◌, true, ◌&&◌, List, length, refl, ap, sym, ◌∙◌, inl, inr, arith}
use Rattle.std.proofs.lemmas.Bool.{and_parts, cases_eq, cases_lt, false_from_ne_true}
use Rattle.std.proofs.lemmas.Bool.Decides.{nat_tests}
use Rattle.fdb_lines.specs.declared.line.Line.{Line}
use Rattle.fdb_lines.specs.declared.fault.Fault.TheVariants.{Order, Wrong, NotAbove, Twice, Stray}
use Rattle.fdb_lines.specs.Faults.{IsFaultless, draws_again, is_raised, knows, last, stands}
use Rattle.fdb_lines.specs.Lines.{Case, Kind, Read, Commit, draws, kind_at, reports, shows, version_at}
use Rattle.fdb_values.specs.ByValue.{AreByValue, ExplainByValue, IsOrderOfValues, call_at, comes_first, start_value, value_at}
use Rattle.fdb_values.proofs.RankedCase.{IsOf}
use Rattle.fdb_values.proofs.Facts.{raises_it, greatest_among, some_at, some_find}

-- The commit that wrote the value of a line: the last that stands at it or above.
record IsWriter (lines : List Line) (at : ℕ → ℕ) (j w : ℕ) : Type 0 where
  there : w < length lines
  writes : call_at lines w ≡ Commit
  value : value_at lines w ≡ value_at lines j
  above : at w ≤ at j
  last : (i : ℕ) → i < length lines → call_at lines i ≡ Commit → at i ≤ at j → at i ≤ at w

not_both : (kind : Kind) → kind ≡ Read → kind ≡ Commit → ⊥
not_both kind read commit = grind arith

module _ (margin : ℕ) (lines : List Line) (by : AreByValue lines) (at : ℕ → ℕ) (e : ExplainByValue margin lines at) where
  -- another moment is another line, and so is another kind of call
  strictly : (i j : ℕ) → i < length lines → j < length lines → call_at lines i ≡ Commit → call_at lines j ≡ Read → at i ≤ at j → at i < at j
  strictly i j li lj commit read le = elim (cases_lt (at i) (at j)) [
    | inl lt ↦ lt
    | inr ge ↦ absurd (not_both (call_at lines i) (ap (call_at lines) (e.apart i j li lj (omega arith)) ∙ read) commit)
  ]

  written : (j : ℕ) → j < length lines → value_at lines j ≢ start_value → (w : ℕ) × IsWriter lines at j w
  written j lj ne = elim (by.calls j lj) [
    | inl read ↦ elim (e.reads j lj read) [
      | inl wrote ↦
          let w = wrote.0 in
          let it = wrote.1 in (
            w,
            record {
              there = it.there;
              writes = it.writes;
              value = wrote.2;
              above = omega (arith, it.above);
              last = λ i li commit le. it.last i li commit (strictly i j li lj commit read le);
            },
          )
      | inr none ↦ absurd (ne none.1)
    ]
    | inr commit ↦ (j, record { there = lj; writes = commit; value = refl; above = omega arith; last = λ i li writes le. le })
  ]

  -- no call of another value stands above one of the first
  first_first : (j k : ℕ) → j < length lines → k < length lines → value_at lines j ≢ start_value → value_at lines k ≡ start_value → at j < at k → ⊥
  first_first j k lj lk ne is lt =
      let w = written j lj ne in
      elim (by.calls k lk) [
        | inl read ↦ elim (e.reads k lk read) [
          | inl wrote ↦ by.new wrote.0 wrote.1.there wrote.1.writes (wrote.2 ∙ is)
          | inr none ↦ let low = none.0 w.0 w.1.there w.1.writes in omega (arith, low, w.1.above)
        ]
        | inr commit ↦ by.new k lk commit is
      ]

  -- Of two values one is wholly above the other.
  apart : (j j' k k' : ℕ) → j < length lines → j' < length lines → k < length lines → k' < length lines
      → value_at lines j ≡ value_at lines j' → value_at lines k ≡ value_at lines k' → value_at lines j ≢ value_at lines k
      → value_at lines j ≢ start_value → value_at lines k ≢ start_value → at j < at k → at k' < at j' → ⊥
  apart j j' k k' lj lj' lk lk' one other ne first second lt gt =
      let w = written j lj first in
      let w' = written j' lj' (λ is. first (one ∙ is)) in
      let x = written k lk second in
      let x' = written k' lk' (λ is. second (other ∙ is)) in
      let same : w.0 ≡ w'.0 = by.once w.0 w'.0 w.1.there w'.1.there w.1.writes w'.1.writes (w.1.value ∙ (one ∙ sym w'.1.value)) in
      let alike : x.0 ≡ x'.0 = by.once x.0 x'.0 x.1.there x'.1.there x.1.writes x'.1.writes (x.1.value ∙ (other ∙ sym x'.1.value)) in
      let up : at w.0 ≤ at x.0 = x.1.last w.0 w.1.there w.1.writes (omega (arith, w.1.above)) in
      let down : at x'.0 ≤ at w'.0 = w'.1.last x'.0 x'.1.there x'.1.writes (omega (arith, x'.1.above)) in
      let meet : at w.0 ≡ at x.0 = omega (arith, up, down, ap at same, ap at alike) in
      ne (sym w.1.value ∙ (ap (value_at lines) (e.apart w.0 x.0 w.1.there x.1.there meet) ∙ x.1.value))

  -- what comes before a commit is of another value
  another : (j k : ℕ) → j < length lines → k < length lines → call_at lines k ≡ Commit → at j < at k → value_at lines j ≢ value_at lines k
  another j k lj lk commit lt same =
      let w = written j lj (λ is. by.new k lk commit (sym same ∙ is)) in
      let it = by.once w.0 k w.1.there lk w.1.writes commit (w.1.value ∙ same) in
      omega (arith, w.1.above, ap at it)

  module _ (rank : ℕ → ℕ) (o : IsOrderOfValues margin lines rank) where
    climbs : (j k : ℕ) → j < length lines → k < length lines → comes_first margin lines j k ≡ true → value_at lines j ≢ value_at lines k
        → rank (value_at lines j) < rank (value_at lines k)
    climbs j k lj lk first ne =
        let lt = e.ordered j k lj lk first in
        let begins : value_at lines k ≢ start_value = λ is. first_first j k lj lk (λ other. ne (other ∙ sym is)) is lt in
        o.ordered j k lj lk first ne begins (λ some.
        let k' = some.0 in
        let j' = some.1 in
        let back = e.ordered k' j' some.2 some.3 some.6 in
        elim (cases_eq (value_at lines j) start_value) [
          | inl is ↦ first_first k' j' some.2 some.3 (λ other. begins (sym some.4 ∙ other)) (some.5 ∙ is) back
          | inr not ↦ apart j j' k k' lj some.3 lk some.2 (sym some.5) (sym some.4) ne not begins lt back
        ])

    module _ (c : Case) (of : IsOf margin lines rank c) where
      outside : (k : ℕ) → k < length c.lines → k < length lines
      outside k lt = omega (arith, of.many)

      inside : (k : ℕ) → k < length lines → k < length c.lines
      inside k lt = omega (arith, of.many)

      -- what calls before a call have for versions, of whatever kind they are
      before_below : (j k : ℕ) → j < length lines → k < length lines → c.before j k ≡ true → version_at c j ≤ version_at c k
      before_below j k lj lk before =
          let first : comes_first margin lines j k ≡ true = sym (of.before j k lj lk) ∙ before in
          elim (cases_eq (value_at lines j) (value_at lines k)) [
            | inl same ↦ omega (arith, of.versions j lj, of.versions k lk, ap rank same)
            | inr ne ↦ omega (arith, of.versions j lj, of.versions k lk, climbs j k lj lk first ne)
          ]

      before_less : (j k : ℕ) → j < length lines → k < length lines → call_at lines k ≡ Commit → c.before j k ≡ true → version_at c j < version_at c k
      before_less j k lj lk commit before =
          let first : comes_first margin lines j k ≡ true = sym (of.before j k lj lk) ∙ before in
          let ne = another j k lj lk commit (e.ordered j k lj lk first) in
          omega (arith, of.versions j lj, of.versions k lk, climbs j k lj lk first ne)

      positive : (k : ℕ) → k < length lines → call_at lines k ≡ Commit → 0 < version_at c k
      positive k lk commit = elim (cases_eq (version_at c k) 0) [
        | inl zero ↦ absurd (by.new k lk commit (o.others k lk (omega (arith, of.versions k lk))))
        | inr not ↦ omega arith
      ]

      known_below : (k : ℕ) → k < length lines → knows c k ≤ version_at c k
      known_below k lk = elim (greatest_among (λ j. c.before j k && shows (kind_at c j)) (version_at c) (length c.lines)) [
        | inl none ↦ omega (arith, of.start)
        | inr some ↦
            let j = some.0 in
            let below = before_below j k (outside j some.1) lk (and_parts (c.before j k) _ some.2).0 in
            omega (arith, of.start, some.3)
      ]

      known_less : (k : ℕ) → k < length lines → call_at lines k ≡ Commit → knows c k < version_at c k
      known_less k lk commit = elim (greatest_among (λ j. c.before j k && shows (kind_at c j)) (version_at c) (length c.lines)) [
        | inl none ↦ omega (arith, of.start, positive k lk commit)
        | inr some ↦
            let j = some.0 in
            let below = before_less j k (outside j some.1) lk commit (and_parts (c.before j k) _ some.2).0 in
            omega (arith, of.start, some.3)
      ]

      last_less : (k : ℕ) → k < length lines → call_at lines k ≡ Commit → last c k < version_at c k
      last_less k lk commit = elim (greatest_among (λ j. c.before j k && draws (kind_at c j)) (version_at c) (length c.lines)) [
        | inl none ↦ omega (arith, positive k lk commit)
        | inr some ↦
            let j = some.0 in
            let below = before_less j k (outside j some.1) lk commit (and_parts (c.before j k) _ some.2).0 in
            omega (arith, some.3)
      ]

      -- a value that is read, and is not the first, was raised by its commit
      raised : (k : ℕ) → k < length lines → value_at lines k ≢ start_value → is_raised c (version_at c k) ≡ true
      raised k lk ne =
          let w = written k lk ne in
          let lw = w.1.there in
          let less = known_less w.0 lw w.1.writes in
          let same : version_at c w.0 ≡ version_at c k = of.versions w.0 lw ∙ (ap rank w.1.value ∙ sym (of.versions k lk)) in
          let reported : reports (kind_at c w.0) ≡ true = ap reports (of.kinds w.0 lw ∙ w.1.writes) in
          some_at (raises_it c (version_at c k)) (length c.lines) w.0 (inside w.0 lw) (grind (arith, nat_tests))

      kind_is : (k : ℕ) → k < length lines → (kind_at c k ≡ Read) ⊎ ((kind_at c k ≡ Commit) × (call_at lines k ≡ Commit))
      kind_is k lk = elim (by.calls k lk) [ inl read ↦ inl (of.kinds k lk ∙ read) | inr commit ↦ inr (of.kinds k lk ∙ commit, commit) ]

      pub faultless : IsFaultless c
      faultless Order k lt = let low = known_below k (outside k lt) in grind (arith, nat_tests)
      faultless Wrong k lt =
          let lk = outside k lt in
          let version = of.versions k lk in
          let start = of.start in
          let first = o.first in
          elim (cases_eq (value_at lines k) start_value) [
            | inl is ↦ let zero : version_at c k ≡ c.start = version ∙ (ap rank is ∙ (first ∙ sym start)) in grind (arith, nat_tests)
            | inr ne ↦ let up = raised k lk ne in grind (arith, nat_tests)
          ]
      faultless NotAbove k lt =
          let lk = outside k lt in
          elim (kind_is k lk) [
            | inl read ↦ grind (arith, nat_tests)
            | inr commit ↦
                let known = known_less k lk commit.1 in
                let drawn = last_less k lk commit.1 in
                grind (arith, nat_tests)
          ]
      faultless Twice k lt = false_from_ne_true (stands c Twice k) (λ f.
          let some = some_find (draws_again c k) (length c.lines) (and_parts (draws (kind_at c k)) _ f).1 in
          let one = kind_is k (outside k lt) in
          let other = kind_is some.0 (outside some.0 some.1) in
          let again = some.2 in
          grind (arith, nat_tests))
      faultless Stray k lt = let is = kind_is k (outside k lt) in grind (arith, nat_tests)
