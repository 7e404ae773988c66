-- Why a stale read is one, or a version is not above others, stays true, whatever begins later.
use Rattle.std.proofs.Common.{◌≡◌, ℕ, zero, suc, ◌<◌, ◌≤◌, ◌==◌, Bool, true, false, ◌&&◌, ◌||◌, List, ◌++◌, Option, None, Some, length, refl, ap, sym, subst, ◌∙◌, inl, inr, arith, length-append}
use Rattle.std.proofs.lemmas.Bool.{both_ways, cases_lt}
use Rattle.fdb_lines.specs.declared.fault.Fault.{Fault}
use Rattle.fdb_lines.specs.declared.fault.Fault.TheVariants.{Order, Wrong, NotAbove, Twice, Stray}
use Rattle.fdb_lines.specs.declared.line.Line.{Line}
use Rattle.fdb_lines.specs.declared.fault.Means.{Means}
use Rattle.fdb_lines.specs.declared.fault.Means.TheVariants.{Ended, Own, Learnt}
use Rattle.fdb_lines.specs.declared.fault.Reason.{Reason}
use Rattle.fdb_lines.specs.declared.fault.Reason.TheVariants.{Known, Unreported, Reported, Drawn, Undrawn}
use Rattle.fdb_lines.specs.declared.fault.Witness.{Witness}
use Rattle.fdb_lines.specs.Before.{began, by_time, ended, has_heard, is_of, one_client}
use Rattle.fdb_lines.specs.Carried.{with_times}
use Rattle.fdb_lines.specs.Lines.{Kind, is_learn, kind_of, line_at, shows, teller_of, version_of}
use Rattle.fdb_lines.specs.Reasons.{knew_by, shows_or_draws, IsKnown, IsMeans, IsReason}
use Rattle.fdb_lines.specs.Watching.{is_watched, opts_of}
use Rattle.fdb_lines.proofs.Carried.{drawn_is, first_line, lets_none, no_later}

and_none : (a b c : Bool) → (a && b) ≡ false → (a && (b && c)) ≡ false
and_none true true c none = absurd (both_ways true none refl)
and_none true false c none = refl
and_none false b c none = refl

module _ (margin at : ℕ) (lines more : List Line) (from : (j : ℕ) → j < length more → at ≤ began (line_at more j)) where
  abbrev both : List Line
  both = lines ++ more

  line_is : (j : ℕ) → j < length lines → line_at both j ≡ line_at lines j
  line_is = first_line margin at lines more from shows

  heard_same : (n a j : ℕ) → n ≤ length lines → has_heard both n a j ≡ has_heard lines n a j
  heard_same zero a j le = refl
  heard_same (suc n) a j le =
      let told = teller_of (line_at lines n).call in
      ap (λ (l : Line). has_heard both n a j || (is_of a l.client && (n == j || (is_learn (kind_of l.call) && has_heard both n (teller_of l.call) j)))) (line_is n (omega arith))
      ∙ (ap (λ (b : Bool). b || (is_of a (line_at lines n).client && (n == j || (is_learn (kind_of (line_at lines n).call) && has_heard both n told j)))) (heard_same n a j (omega arith))
      ∙ ap (λ (b : Bool). has_heard lines n a j || (is_of a (line_at lines n).client && (n == j || (is_learn (kind_of (line_at lines n).call) && b)))) (heard_same n told j (omega arith)))

  module _ (k : ℕ) (lk : k < length lines) (to : began (line_at lines k) ≤ at) where
    -- ---- a line that was known

    knew_same : (lets_know : Kind → Bool) (version j : ℕ) → j < length lines
        → knew_by (with_times lines) (opts_of margin) lets_know k version j ≡ knew_by (with_times both) (opts_of margin) lets_know k version j
    knew_same lets_know version j lj = rw (line_is j lj, line_is k lk) refl

    means_same : (j : ℕ) (means : Means) → j < length lines → IsMeans margin lines j k means → IsMeans margin both j k means
    means_same j Ended lj is =
        let end = ap ended (line_is j lj) in
        let begins = ap began (line_is k lk) in
        let past = is.2 in
        (is.0, end ∙ is.1, omega arith)
    means_same j Own lj is = subst (λ (l : Line). one_client (line_at both j).client l.client ≡ true) (sym (line_is k lk))
        (subst (λ (l : Line). one_client l.client (line_at lines k).client ≡ true) (sym (line_is j lj)) is)
    means_same j (Learnt m) lj is =
        let less = is.0 in
        let lm : m < length lines = omega arith in
        let line = line_is m lm in (
          less,
          subst (λ (l : Line). one_client (line_at both m).client l.client ≡ true) (sym (line_is k lk))
              (subst (λ (l : Line). one_client l.client (line_at lines k).client ≡ true) (sym line) is.1),
          ap (λ (l : Line). is_learn (kind_of l.call)) line ∙ is.2,
          ap (λ (l : Line). has_heard both m (teller_of l.call) j) line ∙ (heard_same m (teller_of (line_at lines m).call) j (omega arith) ∙ is.3),
        )

    none_knew : (lets_know : Kind → Bool) (version j : ℕ) → length lines ≤ j → j < length both → knew_by (with_times both) (opts_of margin) lets_know k version j ≡ false
    none_knew lets_know version j ge lj = and_none (by_time margin both j k) _ _ (lets_none margin at lines more from lets_know j k ge lj lk to)

    known_same : (lets_know : Kind → Bool) (version : ℕ) (by : Option Witness) → IsKnown (with_times lines) (opts_of margin) lets_know k version by
        → IsKnown (with_times both) (opts_of margin) lets_know k version by
    known_same lets_know version None is = (
      is.0,
      λ j lj. elim (cases_lt j (length lines)) [
        | inl old ↦ sym (knew_same lets_know version j old) ∙ is.1 j old
        | inr ge ↦ none_knew lets_know version j ge lj
      ],
    )
    known_same lets_know version (Some by) is =
        let there = is.there in
        record {
          there = omega (arith, length-append lines more);
          knew = sym (knew_same lets_know version by.place there) ∙ is.knew;
          means = means_same by.place by.means there is.means;
        }

    -- ---- each reason

    pub reason_stays : (fault : Fault) (reason : Reason) → is_watched fault ≡ true → IsReason (with_times lines) (opts_of margin) k fault reason
        → IsReason (with_times both) (opts_of margin) k fault reason
    reason_stays Order (Known version by) of is =
        let line = ap (λ (l : Line). version_of l.call) (line_is k lk) in
        let shown = no_later margin at lines more from shows k lk to in
        let less = is.0 in
        let most = is.1 in
        (omega arith, omega arith, known_same shows version by is.2)
    reason_stays NotAbove (Known version by) of is =
        let line = ap (λ (l : Line). version_of l.call) (line_is k lk) in
        let drawn = no_later margin at lines more from shows_or_draws k lk to in
        let one = drawn_is lines (opts_of margin) k in
        let other = drawn_is both (opts_of margin) k in
        let less = is.0 in
        let most = is.1 in
        (omega arith, omega arith, known_same shows_or_draws version by is.2)
    reason_stays Order Unreported of is = absurd is
    reason_stays Order (Reported j version by) of is = absurd is
    reason_stays Order (Drawn j) of is = absurd is
    reason_stays Order Undrawn of is = absurd is
    reason_stays NotAbove Unreported of is = absurd is
    reason_stays NotAbove (Reported j version by) of is = absurd is
    reason_stays NotAbove (Drawn j) of is = absurd is
    reason_stays NotAbove Undrawn of is = absurd is
    reason_stays Wrong reason of is = absurd (both_ways false refl of)
    reason_stays Twice reason of is = absurd (both_ways false refl of)
    reason_stays Stray reason of is = absurd (both_ways false refl of)
