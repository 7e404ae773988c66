-- Where no fault stands, the order by rank explains the lines: of a value its commit, and then its reads by when they began.
use Rattle.std.proofs.Common.{◌≡◌, ◌⊎◌, ℕ, suc, ◌+◌, ◌*◌, ◌<◌, ◌≤◌, ◌==◌, ◌&&◌, nat_lt, Bool, true, false, List, length, refl, ap, ◌∙◌, inl, inr, arith, mul-le-mul_left}
use Rattle.std.proofs.lemmas.Bool.{and_parts, cases_order}
use Rattle.std.proofs.lemmas.Bool.Decides.{nat_tests}
use Rattle.fdb_lines.specs.declared.line.Line.{Line}
use Rattle.fdb_lines.specs.declared.fault.Fault.TheVariants.{NotAbove}
use Rattle.fdb_lines.specs.Faults.{IsFaultless, greatest_of, knows}
use Rattle.fdb_lines.specs.Lines.{Case, Read, Commit, draws, is_read, kind_at, reports, shows, version_at}
use Rattle.fdb_lines.specs.Order.{IsRanked}
use Rattle.fdb_values.specs.ByValue.{AreByValue, ExplainByValue, HasValue, IsLastAbove, IsOrderOfValues, call_at, comes_first, value_at}
use Rattle.fdb_values.proofs.RankedCase.{IsOf}
use Rattle.fdb_values.proofs.Facts.{no_order, no_wrong, shown_known, greatest_bound}

-- a number that is first by one, and then by another
climbs : (width a b j k : ℕ) → j < width → (a < b) ⊎ ((a ≤ b) × (j < k)) → width * a + j < width * b + k
climbs width a b j k lt (inl less) = let m = mul-le-mul_left width (let h : a + 1 ≤ b = omega arith in h) in omega arith
climbs width a b j k lt (inr same) = let m = mul-le-mul_left width same.0 in omega arith

-- by rank, and the commit first
abbrev stage_of : Bool → ℕ → ℕ
stage_of true r = 2 * r + 1
stage_of false r = 2 * r

within : (read : Bool) (r : ℕ) → (2 * r ≤ stage_of read r) × (stage_of read r ≤ 2 * r + 1)
within true r = omega arith
within false r = omega arith

module _ (margin : ℕ) (lines : List Line) (rank : ℕ → ℕ) (by : AreByValue lines) (o : IsOrderOfValues margin lines rank)
    (c : Case) (of : IsOf margin lines rank c) (none : IsFaultless c) where
  abbrev r : ℕ → ℕ
  r k = rank (value_at lines k)

  abbrev stage : ℕ → ℕ
  stage k = stage_of (is_read (call_at lines k)) (r k)

  inside : (k : ℕ) → k < length lines → k < length c.lines
  inside k lt = omega (arith, of.many)

  shown : (k : ℕ) → k < length lines → shows (kind_at c k) ≡ true
  shown k lt = elim (by.calls k lt) [ inl read ↦ ap shows (of.kinds k lt ∙ read) | inr commit ↦ ap shows (of.kinds k lt ∙ commit) ]

  -- of a read the version is not below what was known, and that of a commit is above
  not_below : (k : ℕ) → k < length lines → call_at lines k ≡ Read → knows c k ≤ r k
  not_below k lt read = omega (arith, of.versions k lt, no_order c none k (inside k lt) (of.kinds k lt ∙ read))

  above : (k : ℕ) → k < length lines → call_at lines k ≡ Commit → knows c k < r k
  above k lt commit =
      let version = of.versions k lt in
      let drawn : draws (kind_at c k) ≡ true = ap draws (of.kinds k lt ∙ commit) in
      let f = none NotAbove k (inside k lt) in
      grind (arith, nat_tests)

  rises : (j k : ℕ) → j < length lines → k < length lines → c.before j k ≡ true → (r j < r k) ⊎ ((r j ≡ r k) × (call_at lines k ≡ Read))
  rises j k lj lk before =
      let version = of.versions j lj in
      let known = shown_known c j k (inside j lj) before (shown j lj) in
      elim (by.calls k lk) [
        | inl read ↦ let low = not_below k lk read in grind arith
        | inr commit ↦ inl (omega (arith, above k lk commit))
      ]

  module _ (turn : ℕ → ℕ) (ranked : IsRanked c turn) (moment : ℕ → ℕ)
      (less : (j k : ℕ) → j < length lines → (stage j < stage k) ⊎ ((stage j ≤ stage k) × (turn j < turn k)) → moment j < moment k) where
    ordered : (j k : ℕ) → j < length lines → k < length lines → comes_first margin lines j k ≡ true → moment j < moment k
    ordered j k lj lk first =
        let before : c.before j k ≡ true = of.before j k lj lk ∙ first in
        let turns = ranked.climbs j k (inside j lj) (inside k lk) before in
        let one = within (is_read (call_at lines j)) (r j) in
        let other = within (is_read (call_at lines k)) (r k) in
        elim (rises j k lj lk before) [
          | inl up ↦ less j k lj (inl (omega (arith, one.1, other.0)))
          | inr same ↦
              let last : stage k ≡ 2 * r k + 1 = ap (λ kind. stage_of (is_read kind) (r k)) same.1 in
              less j k lj (inr (omega (arith, one.1, same.0, last), turns))
        ]

    apart : (j k : ℕ) → j < length lines → k < length lines → moment j ≡ moment k → j ≡ k
    apart j k lj lk same =
        let less_one = less j k lj in
        let less_other = less k j lk in
        elim (cases_order (stage j) (stage k)) [
          | inl alike ↦ elim (cases_order (turn j) (turn k)) [
            | inl one ↦ ranked.apart j k (inside j lj) (inside k lk) one
            | inr either ↦ elim either [
              | inl lt ↦ absurd (omega (arith, less_one (inr (omega arith, lt))))
              | inr gt ↦ absurd (omega (arith, less_other (inr (omega arith, gt))))
            ]
          ]
          | inr either ↦ elim either [
            | inl lt ↦ absurd (omega (arith, less_one (inl lt)))
            | inr gt ↦ absurd (omega (arith, less_other (inl gt)))
          ]
        ]

    reads_at : (k : ℕ) → k < length lines → call_at lines k ≡ Read → stage k ≡ 2 * r k + 1
    reads_at k lt read = ap (λ kind. stage_of (is_read kind) (r k)) read

    writes_at : (k : ℕ) → k < length lines → call_at lines k ≡ Commit → stage k ≡ 2 * r k
    writes_at k lt commit = ap (λ kind. stage_of (is_read kind) (r k)) commit

    -- a read of the first value has no commit above it
    none_above : (k : ℕ) → k < length lines → call_at lines k ≡ Read → r k ≡ 0 → (i : ℕ) → i < length lines → call_at lines i ≡ Commit → moment k ≤ moment i
    none_above k lk read zero i li commit =
        let positive = above i li commit in
        let lt = less k i lk (inl (omega (arith, reads_at k lk read, writes_at i li commit))) in
        omega arith

    -- the last commit above a read is that which wrote its value
    last_above : (k j : ℕ) → k < length lines → j < length lines → call_at lines k ≡ Read → call_at lines j ≡ Commit → r j ≡ r k
        → IsLastAbove lines moment (moment k) j
    last_above k j lk lj read commit same = record {
      there = lj;
      writes = commit;
      above = less j k lj (inl (omega (arith, reads_at k lk read, writes_at j lj commit)));
      last = λ i li writes up. elim (cases_order (r i) (r j)) [
        | inl one ↦ omega (arith, ap moment (by.once i j li lj writes commit (o.apart i j li lj one)))
        | inr either ↦ elim either [
          | inl lt ↦ let lower = less i j li (inl (omega (arith, writes_at i li writes, writes_at j lj commit))) in omega arith
          | inr gt ↦ let higher = less k i lk (inl (omega (arith, reads_at k lk read, writes_at i li writes))) in absurd (omega arith)
        ]
      ];
    }

    has : (k : ℕ) → k < length lines → call_at lines k ≡ Read → HasValue lines moment (moment k) (value_at lines k)
    has k lk read =
        let version = of.versions k lk in
        elim (no_wrong c none k (inside k lk) (of.kinds k lk ∙ read)) [
          | inl first ↦
              let zero : r k ≡ 0 = omega (arith, first, of.start, version) in
              inr (none_above k lk read zero, o.others k lk zero)
          | inr either ↦ elim either [
            | inl raised ↦
                let j = raised.0 in
                let lj : j < length lines = omega (arith, raised.1, of.many) in
                let version_too = of.versions j lj in
                let parts = and_parts (reports (kind_at c j)) (version_at c j == version_at c k && nat_lt (knows c j) (version_at c k)) raised.2 in
                let kind = of.kinds j lj in
                let commit : call_at lines j ≡ Commit = elim (by.calls j lj) [
                  | inl reads ↦ let reported = parts.0 in let it = kind ∙ reads in grind arith
                  | inr writes ↦ writes
                ] in
                let same : r j ≡ r k = (let two = and_parts (version_at c j == version_at c k) (nat_lt (knows c j) (version_at c k)) parts.1 in let equal = two.0 in grind (arith, nat_tests)) in
                inl (j, last_above k j lk lj read commit same, o.apart j k lj lk same)
            | inr part ↦ let all = of.complete in let some = part.0 in absurd (grind arith)
          ]
        ]

    explain : ExplainByValue margin lines moment
    explain = record { apart = apart; ordered = ordered; reads = has }

  pub by_rank : (turn : ℕ → ℕ) → IsRanked c turn → (at : ℕ → ℕ) × ExplainByValue margin lines at
  by_rank turn ranked =
      let wide = suc (greatest_of (λ i. true) turn (length lines)) in
      let moment : ℕ → ℕ = λ k. wide * stage k + turn k in (
        moment,
        explain turn ranked moment (λ j k lj.
            let low = greatest_bound (λ i. true) turn (length lines) j lj refl in
            climbs wide (stage j) (stage k) (turn j) (turn k) (omega arith)),
      )
