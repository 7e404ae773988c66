-- Pairs of lines in order by time, counted by two tables of calls that ended.
use Rattle.std.proofs.Common.{◌≡◌, ℕ, zero, suc, ◌+◌, ◌-◌, ◌<◌, ◌≤◌, ◌==◌, nat_lt, Bool, true, false, ◌&&◌, ◌||◌, List, [], ◌∷◌, length, get_or, slice_index_or, count_by, Option, None, Some, refl, sym, ◌∙◌, arith, zero-le}
use Rattle.std.proofs.lemmas.Bool.Decides.{nat_tests}
use Rattle.std.proofs.lemmas.Bool.{lt-ltb, le-ltb}
use Rattle.std.proofs.lemmas.List.Sums.{sum_by-cons}
use Rattle.fdb_lines.specs.declared.line.End.{End}
use Rattle.fdb_lines.specs.declared.line.Line.{Line}
use Rattle.fdb_lines.specs.Before.{began, ended, one_client, ended_before, by_time}
use Rattle.fdb_lines.specs.Lines.{line_at}
use Rattle.fdb_lines.specs.Summary.{tally}
use Rattle.fdb_lines.specs.private.EndTable.{end_key, end_at, no_end, IsFront}
use Rattle.fdb_lines.specs.private.Ended.{stands_before, count_before, had_ended, times_before, HasEnds, HasTimes}
use Rattle.fdb_lines.specs.private.Entries.{IsFrontBy}
use Rattle.fdb_lines.proofs.Tallies.{adds, item_at, tally_sums}

-- ---- the table

-- as many pass a test as come before the first that does not, where none passes from there on
counted : {X : Type 0} (d : X) (test : X → Bool) (xs : List X) (front : ℕ) → front ≤ length xs → ((i : ℕ) → i < front → test (slice_index_or xs i d) ≡ true)
    → ((i : ℕ) → front ≤ i → i < length xs → test (slice_index_or xs i d) ≡ false) → count_by test xs ≡ front
counted d test [] front le passes fails = omega (arith, le)
counted d test (x ∷ xs) zero le passes fails =
    let rest = counted d test xs zero zero-le (λ i l. absurd (omega (arith, l))) (λ i from l. fails (suc i) zero-le (omega (arith, l))) in
    grind (arith, sum_by-cons (λ e. adds (test e)) x xs, fails zero zero-le (omega arith), rest)
counted d test (x ∷ xs) (suc front) le passes fails =
    let rest = counted d test xs front (omega (arith, le)) (λ i l. passes (suc i) (omega (arith, l))) (λ i from l. fails (suc i) (omega (arith, from)) (omega (arith, l))) in
    grind (arith, sum_by-cons (λ e. adds (test e)) x xs, passes zero (omega arith), rest)

-- the order by keys is that by group, time and place
keys_order : (end moment : End) (group time place : ℕ) → (moment.group ≡ group) × (moment.time ≡ time) × (moment.place ≡ place)
    → stands_before (Some group) time place (Some end.group) (Some end.time) end.place ≡ nat_lt (end_key end) (end_key moment)
keys_order end moment group time place is = grind (arith, nat_tests, end.fits, moment.fits)

pub none_counted : (ends : List End) (group : Option ℕ) (time place : ℕ) → group ≡ None → 0 ≡ count_before ends group time place
none_counted ends group time place none =
    rw none (sym (counted no_end (λ end. false) ends 0 zero-le (λ i l. absurd (omega (arith, l))) (λ i from l. refl)))

pub front_counts : (ends : List End) (moment : End) (group time place front : ℕ)
    → (moment.group ≡ group) × (moment.time ≡ time) × (moment.place ≡ place) → front ≤ length ends
    → IsFront ends (end_key moment) front → front ≡ count_before ends (Some group) time place
front_counts ends moment group time place front is le parts =
    sym (counted no_end (λ (end : End). stands_before (Some group) time place (Some end.group) (Some end.time) end.place) ends front le
    (λ i l. keys_order (end_at ends i) moment group time place is ∙ lt-ltb _ _ (parts.0 i l))
    (λ i from l. keys_order (end_at ends i) moment group time place is ∙ le-ltb _ _ (parts.1 i from l)))

pub front_times : (times : List ℕ) (time front : ℕ) → front ≤ length times → IsFrontBy (λ (end : ℕ). end) 0 times time front → front ≡ times_before times time
front_times times time front le parts =
    sym (counted 0 (λ end. nat_lt end time) times front le (λ i l. lt-ltb _ _ (parts.0 i l)) (λ i from l. le-ltb _ _ (parts.1 i from l)))

-- ---- pairs of lines

-- Of one line before another: of its client's own that had ended, those by more than the margin count twice, with all of lower groups.
pair : (margin j k : ℕ) (one other : Line) (end : Option ℕ)
    → adds (ended_before margin (nat_lt j k) one end other) + adds (stands_before other.client (began other - margin) 0 one.client end j)
    ≡ adds (had_ended end (began other - margin)) + adds (stands_before other.client (began other) k one.client end j)
pair margin j k one other None = refl
pair margin j k one other (Some end) = by one.client other.client (began other)
  where
    by : (own client : Option ℕ) (time : ℕ)
        → adds (nat_lt (end + margin) time || (one_client own client && (nat_lt end time || (nat_lt j k && end == time))))
        + adds (stands_before client (time - margin) 0 own (Some end) j)
        ≡ adds (had_ended (Some end) (time - margin)) + adds (stands_before client time k own (Some end) j)
    by None client time = grind (arith, nat_tests)
    by (Some a) None time = grind (arith, nat_tests)
    by (Some a) (Some b) time = grind (arith, nat_tests)

pub by_two : (margin : ℕ) (lines : List Line) (k n : ℕ) (all : List ℕ) (own : List End) (line : Line) (time bound : ℕ) → HasTimes lines n all → HasEnds lines n own
    → k < length lines → line ≡ get_or lines k line → time ≡ began line → bound ≡ time - margin
    → tally (λ j. by_time margin lines j k) n + count_before own line.client bound 0 ≡ times_before all bound + count_before own line.client time k
by_two margin lines k n all own line time bound of_all of_own lt is time_is bound_is =
    rw (of_all bound, of_own line.client bound 0, of_own line.client time k, bound_is, time_is, item_at lines lines k line refl lt is)
    (tally_sums _ _ _ _ n (λ j. pair margin j k (line_at lines j) (line_at lines k) (ended (line_at lines j))))
