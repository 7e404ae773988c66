-- Why a fault stands in a part that stands for all is why it stands in all.
use Rattle.std.proofs.Common.{◌≡◌, ◌⊎◌, ℕ, zero, suc, ◌<◌, ◌≤◌, ◌==◌, nat_lt, Bool, true, false, ◌&&◌, ◌||◌, List, Option, None, Some, length, slice_index, refl, ap, sym, subst, ◌∙◌, inl, inr, arith}
use Rattle.std.proofs.lemmas.Bool.{and_from, and_parts, both_ways, cases_lt, false_from_ne_true}
use Rattle.std.proofs.lemmas.Bool.Decides.{nat_tests}
use Rattle.std.proofs.lemmas.List.{length-map}
use Rattle.fdb_lines.specs.declared.fault.Fault.{Fault}
use Rattle.fdb_lines.specs.declared.fault.Fault.TheVariants.{Order, Wrong, NotAbove, Twice, Stray}
use Rattle.fdb_lines.specs.declared.line.Line.{Line}
use Rattle.fdb_lines.specs.declared.fault.Means.{Means}
use Rattle.fdb_lines.specs.declared.fault.Means.TheVariants.{Ended, Own, Learnt}
use Rattle.fdb_lines.specs.declared.fault.Reason.{Reason}
use Rattle.fdb_lines.specs.declared.fault.Reason.TheVariants.{Known, Unreported, Reported, Drawn, Undrawn}
use Rattle.fdb_lines.specs.declared.fault.Witness.{Witness}
use Rattle.fdb_lines.specs.Before.{began, by_time, ended, ended_before, has_heard, is_of, one_client}
use Rattle.fdb_lines.specs.Carried.{with_times, IsCovered, MayGo, StandFor}
use Rattle.fdb_lines.specs.Keys.{placed_by, placed_means, placed_reason}
use Rattle.fdb_lines.specs.Lines.{Kind, is_learn, kind_of, line_at, lines_in, shows, teller_of, version_of}
use Rattle.fdb_lines.specs.Reasons.{knew_by, shows_or_draws, IsKnown, IsMeans, IsReason, IsWitness}
use Rattle.fdb_lines.specs.Watching.{is_watched, opts_of}
use Rattle.fdb_lines.proofs.Carried.{as_much, at_part, before_part, drawn_is, known, lets, past_before, version_in}
use Rattle.fdb_lines.proofs.Numbers.{greatest_bound}

-- ---- what was heard of

heard_more : (lines : List Line) (n m a j : ℕ) → n ≤ m → has_heard lines n a j ≡ true → has_heard lines m a j ≡ true
heard_more lines n zero a j le heard = let same : n ≡ 0 = omega arith in subst (λ k. has_heard lines k a j ≡ true) same heard
heard_more lines n (suc m) a j le heard = elim (cases_lt m n) [
  | inl lt ↦ let same : n ≡ suc m = omega arith in subst (λ k. has_heard lines k a j ≡ true) same heard
  | inr ge ↦ let rest = heard_more lines n m a j ge heard in grind arith
]

module _ (margin at : ℕ) (lines : List Line) (places : List ℕ) (stand : StandFor margin at lines places) where
  abbrev part : List Line
  part = lines_in lines places

  abbrev place : ℕ → ℕ
  place = slice_index places

  inside : (j : ℕ) → j < length part → j < length places
  inside j lt = omega (arith, length-map places (line_at lines))

  outside : (j : ℕ) → j < length places → j < length part
  outside j lt = omega (arith, length-map places (line_at lines))

  line_is : (j : ℕ) → j < length places → line_at part j ≡ line_at lines (place j)
  line_is j lt = at_part lines places j lt

  -- by a line of the part
  heard_here : (n a j m : ℕ) → n < length places → j < length places → place n < m → is_of a (line_at part n).client ≡ true
      → (n == j || (is_learn (kind_of (line_at part n).call) && has_heard lines (place n) (teller_of (line_at part n).call) (place j))) ≡ true
      → has_heard lines m a (place j) ≡ true
  heard_here n a j m ln lj lt of is =
      let line = line_is n ln in
      let of_all : is_of a (line_at lines (place n)).client ≡ true = sym (ap (λ (l : Line). is_of a l.client) line) ∙ of in
      let is_all : (n == j || (is_learn (kind_of (line_at lines (place n)).call) && has_heard lines (place n) (teller_of (line_at lines (place n)).call) (place j))) ≡ true =
      sym (ap (λ (l : Line). n == j || (is_learn (kind_of l.call) && has_heard lines (place n) (teller_of l.call) (place j))) line) ∙ is in
      let same : n ≡ j → place n ≡ place j = ap place in
      heard_more lines (suc (place n)) m a (place j) (omega arith) (grind (arith, nat_tests))

  heard_part : (n a j m : ℕ) → n ≤ length places → j < length places → ((i : ℕ) → i < n → place i < m) → has_heard part n a j ≡ true → has_heard lines m a (place j) ≡ true
  heard_part zero a j m le lj below heard = absurd (both_ways false refl heard)
  heard_part (suc n) a j m le lj below heard =
      let old = λ (is : has_heard part n a j ≡ true). heard_part n a j m (omega arith) lj (λ i lt. below i (omega arith)) is in
      let told = λ (is : has_heard part n (teller_of (line_at part n).call) j ≡ true).
      heard_part n (teller_of (line_at part n).call) j (place n) (omega arith) lj (λ i lt. stand.rising i n lt (omega arith)) is in
      let one = heard_here n a j m (omega arith) lj (below n (omega arith)) in
      grind (arith, nat_tests)

  module _ (i : ℕ) (li : i < length places) where
    abbrev k : ℕ
    k = place i

    -- ---- a line that was known

    knew_same : (lets_know : Kind → Bool) (version j : ℕ) → j < length places
        → knew_by (with_times part) (opts_of margin) lets_know i version j ≡ knew_by (with_times lines) (opts_of margin) lets_know k version (place j)
    knew_same lets_know version j lj = rw (before_part margin lines places stand.rising j i lj li, line_is j lj) refl

    means_same : (j : ℕ) (means : Means) → j < length places → IsMeans margin part j i means → IsMeans margin lines (place j) k (placed_means places means)
    means_same j Ended lj is =
        let end = ap ended (line_is j lj) in
        let begins = ap began (line_is i li) in
        let past = is.2 in
        (is.0, sym end ∙ is.1, omega arith)
    means_same j Own lj is = subst (λ (l : Line). one_client (line_at lines (place j)).client l.client ≡ true) (line_is i li)
        (subst (λ (l : Line). one_client l.client (line_at part i).client ≡ true) (line_is j lj) is)
    means_same j (Learnt m) lj is =
        let less = is.0 in
        let lm : m < length places = omega arith in
        let line = line_is m lm in (
          stand.rising m i less li,
          subst (λ (l : Line). one_client (line_at lines (place m)).client l.client ≡ true) (line_is i li)
              (subst (λ (l : Line). one_client l.client (line_at part i).client ≡ true) line is.1),
          sym (ap (λ (l : Line). is_learn (kind_of l.call)) line) ∙ is.2,
          sym (ap (λ (l : Line). has_heard lines (place m) (teller_of l.call) (place j)) line)
              ∙ heard_part m (teller_of (line_at part m).call) j (place m) (omega arith) lj (λ n lt. stand.rising n m lt lm) is.3,
        )

    witness_same : (lets_know : Kind → Bool) (version : ℕ) (by : Witness) → IsWitness (with_times part) (opts_of margin) lets_know i version by
        → IsKnown (with_times lines) (opts_of margin) lets_know k version (placed_by places (Some by))
    witness_same lets_know version by is =
        let lj = inside by.place is.there in
        record {
          there = stand.within by.place lj;
          knew = sym (knew_same lets_know version by.place lj) ∙ is.knew;
          means = means_same by.place by.means lj is.means;
        }

    -- ---- that no line let it be known

    no_end : (above : Bool) (one other : Line) (end : Option ℕ) → end ≡ None → ended_before margin above one end other ≡ false
    no_end above one other None none = refl
    no_end above one other (Some end) none = absurd cc

    module _ (from : at ≤ began (line_at lines k)) (lets_know : Kind → Bool)
        (may : (line : Line) → MayGo margin at part line → (ended line ≡ None) ⊎ IsCovered margin at lets_know part line)
        (version : ℕ) (most : known margin lets_know part i ≤ version) where
      -- a line that covers one of the version lets it be known too
      covered_knew : (line : Line) → IsCovered margin at lets_know part line → lets_know (kind_of line.call) ≡ true → version_of line.call ≡ version
          → (j : ℕ) × (j < length part) × (knew_by (with_times part) (opts_of margin) lets_know i version j ≡ true)
      covered_knew line covered does is =
          let by = covered does in
          let lj = inside by.0 by.1 in
          let begins = ap began (line_is i li) in
          let before : by_time margin part by.0 i ≡ true = past_before margin at (nat_lt by.0 i) (line_at part by.0) (line_at part i) (ended (line_at part by.0)) by.2 (omega arith) in
          let least = greatest_bound (lets margin lets_know part i) (version_in part) (length part) by.0 by.1 (and_from _ _ before by.3) in
          let more = by.4 in
          let same : version_in part by.0 ≡ version = omega arith in
          (by.0, by.1, and_from _ _ before (and_from _ _ by.3 (grind (arith, nat_tests))))

      none_knew : ((j : ℕ) → j < length part → knew_by (with_times part) (opts_of margin) lets_know i version j ≡ false)
          → (j : ℕ) → j < length lines → knew_by (with_times lines) (opts_of margin) lets_know k version j ≡ false
      none_knew none j lj = elim (stand.rest j lj) [
        | inl among ↦
            sym (ap (knew_by (with_times lines) (opts_of margin) lets_know k version) among.2)
            ∙ (sym (knew_same lets_know version among.0 among.1) ∙ none among.0 (outside among.0 among.1))
        | inr go ↦ elim (may (line_at lines j) go) [
          | inl unknown ↦ rw (no_end (nat_lt j k) (line_at lines j) (line_at lines k) (ended (line_at lines j)) unknown) refl
          | inr covered ↦ false_from_ne_true _ (λ knew.
              let parts = and_parts (by_time margin lines j k) _ knew in
              let two = and_parts (lets_know (kind_of (line_at lines j).call)) _ parts.1 in
              let there = covered_knew (line_at lines j) covered two.0 (let is = two.1 in grind (arith, nat_tests)) in
              both_ways _ (none there.0 there.1) there.2)
        ]
      ]

      known_same : (by : Option Witness) → IsKnown (with_times part) (opts_of margin) lets_know i version by
          → IsKnown (with_times lines) (opts_of margin) lets_know k version (placed_by places by)
      known_same None is = (is.0, none_knew is.1)
      known_same (Some by) is = witness_same lets_know version by is

    -- ---- each reason

    module _ (from : at ≤ began (line_at lines k)) where
      shown_same : known margin shows part i ≡ known margin shows lines k
      shown_same = as_much margin at lines places stand shows (λ line go. elim go.nothing_new [ inl none ↦ inl none | inr both ↦ inr both.0 ]) i li from

      drawn_same : known margin shows_or_draws part i ≡ known margin shows_or_draws lines k
      drawn_same = as_much margin at lines places stand shows_or_draws (λ line go. elim go.nothing_new [ inl none ↦ inl none | inr both ↦ inr both.1 ]) i li from

      pub reason_same : (fault : Fault) (reason : Reason) → is_watched fault ≡ true → IsReason (with_times part) (opts_of margin) i fault reason
          → IsReason (with_times lines) (opts_of margin) k fault (placed_reason places reason)
      reason_same Order (Known version by) of is =
          let line = ap (λ (l : Line). version_of l.call) (line_is i li) in
          let shown = shown_same in
          let less = is.0 in
          let most = is.1 in (
            omega arith,
            omega arith,
            known_same from shows (λ line go. elim go.nothing_new [ inl none ↦ inl none | inr both ↦ inr both.0 ]) version (omega arith) by is.2,
          )
      reason_same NotAbove (Known version by) of is =
          let line = ap (λ (l : Line). version_of l.call) (line_is i li) in
          let drawn = drawn_same in
          let one = drawn_is part (opts_of margin) i in
          let other = drawn_is lines (opts_of margin) k in
          let less = is.0 in
          let most = is.1 in (
            omega arith,
            omega arith,
            known_same from shows_or_draws (λ line go. elim go.nothing_new [ inl none ↦ inl none | inr both ↦ inr both.1 ]) version (omega arith) by is.2,
          )
      reason_same Order Unreported of is = absurd is
      reason_same Order (Reported j version by) of is = absurd is
      reason_same Order (Drawn j) of is = absurd is
      reason_same Order Undrawn of is = absurd is
      reason_same NotAbove Unreported of is = absurd is
      reason_same NotAbove (Reported j version by) of is = absurd is
      reason_same NotAbove (Drawn j) of is = absurd is
      reason_same NotAbove Undrawn of is = absurd is
      reason_same Wrong reason of is = absurd (both_ways false refl of)
      reason_same Twice reason of is = absurd (both_ways false refl of)
      reason_same Stray reason of is = absurd (both_ways false refl of)
