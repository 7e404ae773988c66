-- No fault is invented: where some history explains the lines, none stands.
use Rattle.std.proofs.Common.{◌≡◌, ◌≢◌, ◌⊎◌, ℕ, zero, suc, ◌<◌, true, false, ◌&&◌, List, length, refl, ap, inl, inr, arith}
use Rattle.std.proofs.lemmas.Bool.{and_parts, false_from_ne_true}
use Rattle.std.proofs.lemmas.Bool.Decides.{nat_tests}
use Rattle.fdb_lines.specs.Lines.{Read, Report, Case, kind_at, version_at, draws, shows}
use Rattle.fdb_lines.specs.declared.slot.Effect.{Effect}
use Rattle.fdb_lines.specs.declared.slot.Effect.TheVariants.{Asks, Reports, Reads}
use Rattle.fdb_lines.specs.Explained.{Happens, ReportedBefore, IsMoment, Explains}
use Rattle.fdb_lines.specs.declared.fault.Fault.TheVariants.{Order, Wrong, NotAbove, Twice, Stray}
use Rattle.fdb_lines.specs.Faults.{stands, IsFaultless, knows, last, is_drawn, is_own, is_raised, is_reported, draws_it, reports_it, draws_again}
use Rattle.fdb_lines.proofs.Numbers.{greatest_among, some_at, some_find}
use Rattle.fdb_lines.proofs.Facts.{raises_it, draws_own}

module _ (c : Case) (history : List Effect) (e : Explains c history) where
  -- what a call knows was reported before it
  known_before : (k p : ℕ) → k < length c.lines → IsMoment c e.asked e.took k p → ReportedBefore c.start history p (knows c k)
  known_before k p lk moment =
      elim (greatest_among (λ j. c.before j k && shows (kind_at c j)) (version_at c) (length c.lines)) [
        | inl none ↦ inl (omega arith)
        | inr some ↦
            let j = some.0 in
            let parts = and_parts (c.before j k) (shows (kind_at c j)) some.2 in
            let first = e.ordered j k (e.took j) p some.1 lk (grind (arith, nat_tests)) (inr (parts.1, refl)) moment in
            let takes = e.takes j some.1 parts.1 in
            let read = e.legal.had (e.took j) (version_at c j) in
            let greatest = some.3 in
            grind (arith, nat_tests)
      ]

  -- the last that was drawn before an ask is below it
  last_below : (k : ℕ) → k < length c.lines → draws (kind_at c k) ≡ true → (last c k ≡ 0) ⊎ (last c k < version_at c k)
  last_below k lk d =
      elim (greatest_among (λ j. c.before j k && draws (kind_at c j)) (version_at c) (length c.lines)) [
        | inl none ↦ inl none
        | inr some ↦
            let j = some.0 in
            let parts = and_parts (c.before j k) (draws (kind_at c j)) some.2 in
            let first = e.ordered j k (e.asked j) (e.asked k) some.1 lk (grind (arith, nat_tests)) (inl (parts.1, refl)) (inl (d, refl)) in
            let less = e.legal.rising (e.asked k) (version_at c k) (version_at c j) (e.asks k lk d) (e.asked j, first, e.asks j some.1 parts.1) in
            inr (omega (arith, some.3))
      ]

  -- a version that is read, and not the start, was raised by a line, or others reported it
  raised : (k : ℕ) → Happens history (e.took k) (Reads (version_at c k)) → version_at c k ≢ c.start
      → (n m : ℕ) → m < n → m < e.took k → Happens history m (Reports (version_at c k))
      → (is_raised c (version_at c k) ≡ true) ⊎ ((c.complete ≡ false) × (is_reported c (version_at c k) ≡ false))
  raised k read ne zero m lt before h = absurd (omega arith)
  raised k read ne (suc n) m lt before h =
      let v = version_at c k in
      elim (e.others m (Reports v) h) [
        | inl line ↦
            let asks = e.asks line.0 line.1 in
            let takes = e.takes line.0 line.1 in
            let some = some_at (raises_it c v) (length c.lines) line.0 line.1 in
            let up : knows c line.0 < v → is_raised c v ≡ true = λ less. grind (arith, nat_tests) in
            elim (known_before line.0 m line.1 line.2) [
              | inl first ↦ let most = e.legal.greatest (e.took k) v c.start read (inl refl) in inl (up (omega arith))
              | inr q ↦
                  let most = e.legal.greatest (e.took k) v (knows c line.0) read (inr (q.0, omega (arith, q.1), q.2)) in
                  let again = raised k read ne n q.0 in
                  grind arith
            ]
        | inr others ↦
            let unreported : is_reported c v ≡ false = false_from_ne_true (is_reported c v) (λ r.
            let some = some_find (reports_it c v) (length c.lines) r in
            let other = others.1 some.0 some.1 in
            grind (arith, nat_tests)) in
            inr (others.0, unreported)
      ]

  pub invented : IsFaultless c
  invented Order k lk =
      let takes = e.takes k lk in
      let most = e.legal.greatest (e.took k) (version_at c k) (knows c k) in
      let known = known_before k (e.took k) lk in
      grind (arith, nat_tests)
  invented NotAbove k lk =
      let asks = e.asks k lk in
      let above = e.legal.above (e.asked k) (version_at c k) (knows c k) in
      let known = known_before k (e.asked k) lk in
      let last = last_below k lk in
      grind (arith, nat_tests)
  invented Twice k lk = false_from_ne_true (stands c Twice k) (λ f.
      let some = some_find (draws_again c k) (length c.lines) (and_parts (draws (kind_at c k)) _ f).1 in
      let j = some.0 in
      let asks = e.asks j some.1 in
      let v = version_at c k in
      let here : Happens history (e.asked k) (Asks v) = e.asks k lk (and_parts (draws (kind_at c k)) _ f).0 in
      let there : Happens history (e.asked j) (Asks v) = grind (arith, nat_tests) in
      let first = λ (l : e.asked j < e.asked k). e.legal.rising (e.asked k) v v here (e.asked j, l, there) in
      let later = λ (l : e.asked k < e.asked j). e.legal.rising (e.asked j) v v there (e.asked k, l, here) in
      let both = e.apart j k (e.asked k) some.1 lk in
      grind (arith, nat_tests))
  invented Stray k lk = false_from_ne_true (stands c Stray k) (λ f.
      let is : kind_at c k ≡ Report = grind (arith, nat_tests) in
      let asked = e.legal.drawn (e.took k) (version_at c k) (cc (e.takes k lk (ap shows is))) in
      let above = e.legal.above asked.0 (version_at c k) c.start asked.2 (inl refl) in
      let by : (is_drawn c (version_at c k) ≡ true) ⊎ (c.complete ≡ false) = elim (e.others asked.0 (Asks (version_at c k)) asked.2) [
        | inl line ↦
            let asks = e.asks line.0 line.1 in
            let takes = e.takes line.0 line.1 in
            let drawn = some_at (draws_it c (version_at c k)) (length c.lines) line.0 line.1 in
            grind (arith, nat_tests)
        | inr others ↦ inr others.0
      ] in
      let own : is_drawn c (version_at c k) ≡ true → is_own c k ≡ true = λ drawn.
      let some = some_find (draws_it c (version_at c k)) (length c.lines) drawn in
      let by = e.owned some.0 k some.1 lk is (grind (arith, nat_tests)) (grind (arith, nat_tests)) in
      let same = by.4 in
      some_at (draws_own c k) (length c.lines) by.0 by.1 (grind (arith, nat_tests)) in
      grind (arith, nat_tests))
  invented Wrong k lk = false_from_ne_true (stands c Wrong k) (λ f.
      let is : kind_at c k ≡ Read = grind (arith, nat_tests) in
      let ne : version_at c k ≢ c.start = grind (arith, nat_tests) in
      let read : Happens history (e.took k) (Reads (version_at c k)) = cc (e.takes k lk (ap shows is)) in
      elim (e.legal.had (e.took k) (version_at c k) read) [
        | inl first ↦ ne first
        | inr q ↦ let up = raised k read ne (e.took k) q.0 q.1 q.1 q.2 in grind (arith, nat_tests)
      ])
