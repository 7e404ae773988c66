-- By how much a call is late, by the first line to end of those that outdate it.
use Rattle.std.proofs.Common.{◌≡◌, ◌≢◌, ◌⊎◌, ℕ, max, ◌-◌, ◌<◌, ◌≤◌, nat_lt, nat_le, Bool, true, false, ◌&&◌, ◌||◌, List, Option, None, Some, length, refl, ap, sym, subst, ◌∙◌, inl, inr, arith}
use Rattle.std.proofs.lemmas.Bool.{and_from, and_parts, both_ways, cases_Bool, cases_lt}
use Rattle.std.proofs.lemmas.Bool.Decides.{nat_tests}
use Rattle.std.proofs.lemmas.Option.{none-some}
use Rattle.fdb_lines.specs.declared.line.End.{End}
use Rattle.fdb_lines.specs.declared.fault.Fault.{Fault}
use Rattle.fdb_lines.specs.declared.fault.Fault.TheVariants.{Order, Wrong, NotAbove, Twice, Stray}
use Rattle.fdb_lines.specs.declared.fault.Late.{Late}
use Rattle.fdb_lines.specs.declared.line.Line.{Line}
use Rattle.fdb_lines.specs.declared.line.Times.{Times}
use Rattle.fdb_lines.specs.declared.log.AuditOpts.{AuditOpts}
use Rattle.fdb_lines.specs.declared.known.Exposure.TheVariants.{Shown, Drawn}
use Rattle.fdb_lines.specs.Audit.{case_of, start_of}
use Rattle.fdb_lines.specs.Before.{began, by_time, ended, ended_before, ended_of}
use Rattle.fdb_lines.specs.Carried.{with_times}
use Rattle.fdb_lines.specs.Faults.{stands}
use Rattle.fdb_lines.specs.Late.{outdates, stands_under, IsFirstThat, IsLate, IsLateAt, IsLateBy}
use Rattle.fdb_lines.specs.Lines.{are_known, draws, has_times, Lines, is_read, kind_of, line_at, shows}
use Rattle.fdb_lines.specs.Reasons.{shows_or_draws}
use Rattle.fdb_lines.specs.private.Known.{version_in}
use Rattle.fdb_lines.specs.private.Late.{outdates_by, sooner, IsFirstEnd}
use Rattle.fdb_lines.specs.private.Tables.{IsFirstDrawn}
use Rattle.fdb_lines.proofs.Carried.{drawn_is, known, lets, began_by}
use Rattle.fdb_lines.proofs.Numbers.{greatest_among, greatest_bound}
use Rattle.fdb_lines.proofs.Reasoning.{shown_too}

-- ---- what makes a fault stand under a margin: a line that outdates the call and comes before it, or what no margin moves

abbrev OutdatedBy : Fault → List Line → ℕ → ℕ → Type 0
OutdatedBy fault lines margin k = (j : ℕ) × (j < length lines) × (by_time margin lines j k ≡ true) × (outdates fault lines k j ≡ true)

abbrev under : Fault → List Line → AuditOpts → ℕ → ℕ → Bool
under fault lines opts k margin = stands_under fault (with_times lines) opts k margin

record IsByOthers (fault : Fault) (lines : List Line) (opts : AuditOpts) (k : ℕ) : Type 0 where
  outdated : (margin : ℕ) → OutdatedBy fault lines margin k → under fault lines opts k margin ≡ true
  why : (margin : ℕ) → under fault lines opts k margin ≡ true → ((other : ℕ) → under fault lines opts k other ≡ true) ⊎ OutdatedBy fault lines margin k

of_order : (lines : List Line) (opts : AuditOpts) (k : ℕ) → is_read (kind_of (line_at lines k).call) ≡ true → IsByOthers Order lines opts k
of_order lines opts k read = record {
  outdated = λ margin some.
      let parts = and_parts (shows (kind_of (line_at lines some.0).call)) _ some.3 in
      let least = greatest_bound (lets margin shows lines k) (version_in lines) (length lines) some.0 some.1 (and_from _ _ some.2 parts.0) in
      let more = parts.1 in
      rw read (grind (arith, nat_tests));
  why = λ margin stale.
      let less = (and_parts (is_read (kind_of (line_at lines k).call)) _ stale).1 in
      elim (cases_lt (version_in lines k) (start_of opts.complete)) [
        | inl below ↦ inl (λ other. rw read (grind (arith, nat_tests)))
        | inr ge ↦ elim (greatest_among (lets margin shows lines k) (version_in lines) (length lines)) [
          | inl none ↦ absurd (grind (arith, nat_tests))
          | inr some ↦
              let parts = and_parts (by_time margin lines some.0 k) _ some.2 in
              let number = some.3 in
              inr (some.0, some.1, parts.0, and_from _ _ parts.1 (grind (arith, nat_tests)))
        ]
      ];
}

-- of a draw, all that is shown or drawn counts
drawn_under : (lines : List Line) (opts : AuditOpts) (k margin : ℕ)
    → under NotAbove lines opts k margin ≡ (draws (kind_of (line_at lines k).call) && nat_le (version_in lines k) (max (start_of opts.complete) (known margin shows_or_draws lines k)))
drawn_under lines opts k margin =
    let is = drawn_is lines (record { complete = opts.complete; margin = margin }) k in
    ap (λ n. draws (kind_of (line_at lines k).call) && nat_le (version_in lines k) n) (omega arith)

of_not_above : (lines : List Line) (opts : AuditOpts) (k : ℕ) → draws (kind_of (line_at lines k).call) ≡ true → IsByOthers NotAbove lines opts k
of_not_above lines opts k draw = record {
  outdated = λ margin some.
      let parts = and_parts (shows_or_draws (kind_of (line_at lines some.0).call)) _ some.3 in
      let least = greatest_bound (lets margin shows_or_draws lines k) (version_in lines) (length lines) some.0 some.1 (and_from _ _ some.2 parts.0) in
      let more = parts.1 in
      drawn_under lines opts k margin ∙ rw draw (grind (arith, nat_tests));
  why = λ margin stand.
      let less = (and_parts (draws (kind_of (line_at lines k).call)) _ (sym (drawn_under lines opts k margin) ∙ stand)).1 in
      elim (cases_lt (start_of opts.complete) (version_in lines k)) [
        | inr below ↦ inl (λ other. drawn_under lines opts k other ∙ rw draw (grind (arith, nat_tests)))
        | inl ge ↦ elim (greatest_among (lets margin shows_or_draws lines k) (version_in lines) (length lines)) [
          | inl none ↦ absurd (grind (arith, nat_tests))
          | inr some ↦
              let parts = and_parts (by_time margin lines some.0 k) _ some.2 in
              let number = some.3 in
              inr (some.0, some.1, parts.0, and_from _ _ parts.1 (grind (arith, nat_tests)))
        ]
      ];
}

-- ---- by how much

-- a line whose end by the margin is too late comes before only by its client's clock, which no margin moves
own_still : (lines : List Line) (margin other j k : ℕ) (o : Option ℕ) → ((time : ℕ) → o ≡ Some time → began (line_at lines k) - time ≤ margin)
    → ended_before margin (nat_lt j k) (line_at lines j) o (line_at lines k) ≡ true → ended_before other (nat_lt j k) (line_at lines j) o (line_at lines k) ≡ true
own_still lines margin other j k None late before = absurd (both_ways false refl before)
own_still lines margin other j k (Some time) late before = let most = late time refl in grind (arith, nat_tests)

late_by : (fault : Fault) (lines : List Line) (opts : AuditOpts) (k by : ℕ) → IsByOthers fault lines opts k
    → ((j time : ℕ) → j < length lines → outdates fault lines k j ≡ true → ended (line_at lines j) ≡ Some time → began (line_at lines k) - time ≤ by)
    → ((margin : ℕ) → margin < by → OutdatedBy fault lines margin k) → IsLateBy fault (with_times lines) opts k by
late_by fault lines opts k by others most some = record {
  under = λ margin less. others.outdated margin (some margin less);
  not_beyond = λ margin ge stand other. elim (others.why margin stand) [
    | inl always ↦ always other
    | inr j ↦
        others.outdated other
        (j.0, j.1, own_still lines margin other j.0 k (ended (line_at lines j.0)) (λ time end. let late = most j.0 time j.1 j.3 end in omega arith) j.2, j.3)
  ];
}

-- ---- with times, or without: then no end is known, and no margin counts

no_end_untimed : (line : Line) → has_times line ≡ false → ended line ≡ None
no_end_untimed line none = by line.times none
  where
    by : (o : Option Times) → are_known o ≡ false → ended_of o ≡ None
    by None e = refl
    by (Some times) e = absurd (both_ways true e refl)

-- what holds of lines with times and of lines without
of_both : (log : Lines) (P : Lines → Type 0) → (log.timed ≡ true → P (with_times log.lines)) → (log.timed ≡ false → P (record { timed = false; lines = log.lines })) → P log
of_both log P timed untimed = by log.timed refl
  where
    by : (b : Bool) → log.timed ≡ b → P log
    by true e = subst (λ b. P (record { timed = b; lines = log.lines })) (sym e) (timed e)
    by false e = subst (λ b. P (record { timed = b; lines = log.lines })) (sym e) (untimed e)

-- in a log without times no line has any
abbrev pub AreAlike : Lines → Type 0
AreAlike log = log.timed ≡ false → (k : ℕ) → k < length log.lines → has_times (line_at log.lines k) ≡ false

by_first : (fault : Fault) (log : Lines) (opts : AuditOpts) (k j end : ℕ) → AreAlike log → IsByOthers fault log.lines opts k
    → IsFirstThat (outdates fault log.lines k) log.lines j end → IsLateBy fault log opts k (began (line_at log.lines k) - end)
by_first fault log opts k j end alike others first =
    of_both log (λ ls. IsLateBy fault ls opts k (began (line_at log.lines k) - end))
    (λ timed. late_by fault log.lines opts k (began (line_at log.lines k) - end) others
    (λ i time lt passes at. let least = first.first i time lt passes at in omega arith)
    (λ margin less. (j, first.there, rw first.ended_at (grind (arith, nat_tests)), first.passes)))
    (λ untimed. absurd (none-some end (sym (no_end_untimed (line_at log.lines j) (alike untimed j first.there)) ∙ first.ended_at)))

by_none : (fault : Fault) (log : Lines) (opts : AuditOpts) (k : ℕ) → IsByOthers fault log.lines opts k
    → IsFirstEnd (outdates fault log.lines k) log.lines None → IsLateBy fault log opts k 0
by_none fault log opts k others none =
    of_both log (λ ls. IsLateBy fault ls opts k 0)
    (λ timed. late_by fault log.lines opts k 0 others
    (λ i time lt passes at. absurd (none-some time (sym (none i lt passes) ∙ at)))
    (λ margin less. absurd (omega arith)))
    (λ untimed. record { under = λ margin less. absurd (omega arith); not_beyond = λ margin ge stand other. stand })

-- ---- what is said of a call

-- the late call by the first of the lines that outdate it
abbrev pub late_of : List Line → ℕ → ℕ → ℕ → Late
late_of lines k j end = record { place = j; by = began (line_at lines k) - end }

-- a call's own end is never before it began
by_own : (fault : Fault) (log : Lines) (opts : AuditOpts) (k end : ℕ) → AreAlike log → IsByOthers fault log.lines opts k
    → IsFirstThat (outdates fault log.lines k) log.lines k end → IsLateBy fault log opts k 0
by_own fault log opts k end alike others first =
    let from = began_by (line_at log.lines k) end first.ended_at in
    subst (IsLateBy fault log opts k) (omega arith) (by_first fault log opts k k end alike others first)

late_none : (fault : Fault) (log : Lines) (opts : AuditOpts) (k : ℕ) → IsByOthers fault log.lines opts k → IsFirstEnd (outdates fault log.lines k) log.lines None
    → IsLate fault log opts k None
late_none fault log opts k others none = (inl none, by_none fault log opts k others none)

late_own : (fault : Fault) (log : Lines) (opts : AuditOpts) (k j end : ℕ) → AreAlike log → IsByOthers fault log.lines opts k
    → IsFirstThat (outdates fault log.lines k) log.lines j end → j ≡ k → IsLate fault log opts k None
late_own fault log opts k j end alike others is own =
    let here = subst (λ i. IsFirstThat (outdates fault log.lines k) log.lines i end) own is in
    (inr (end, here), by_own fault log opts k end alike others here)

late_first : (fault : Fault) (log : Lines) (opts : AuditOpts) (k j end : ℕ) → AreAlike log → IsByOthers fault log.lines opts k
    → IsFirstThat (outdates fault log.lines k) log.lines j end → j ≢ k → IsLate fault log opts k (Some (late_of log.lines k j end))
late_first fault log opts k j end alike others is other = (end, is, other, refl, by_first fault log opts k j end alike others is)

-- ---- of each fault

abbrev StandsAt : Lines → AuditOpts → Fault → ℕ → Type 0
StandsAt log opts fault k = stands (case_of log opts) fault k ≡ true

read_of : (log : Lines) (opts : AuditOpts) (k : ℕ) → StandsAt log opts Order k → is_read (kind_of (line_at log.lines k).call) ≡ true
read_of log opts k stand = (and_parts _ _ stand).0

draw_of : (log : Lines) (opts : AuditOpts) (k : ℕ) → StandsAt log opts NotAbove k → draws (kind_of (line_at log.lines k).call) ≡ true
draw_of log opts k stand = (and_parts _ _ stand).0

pub none_is : (log : Lines) (opts : AuditOpts) (k : ℕ) (fault : Fault) → StandsAt log opts fault k → IsFirstEnd (outdates fault log.lines k) log.lines None → IsLateAt log opts k fault None
none_is log opts k Order stand none = late_none Order log opts k (of_order log.lines opts k (read_of log opts k stand)) none
none_is log opts k Wrong stand none = refl
none_is log opts k NotAbove stand none = late_none NotAbove log opts k (of_not_above log.lines opts k (draw_of log opts k stand)) none
none_is log opts k Twice stand none = refl
none_is log opts k Stray stand none = refl

pub own_is : (log : Lines) (opts : AuditOpts) (k : ℕ) (fault : Fault) (j end : ℕ) → AreAlike log → StandsAt log opts fault k
    → IsFirstThat (outdates fault log.lines k) log.lines j end → j ≡ k → IsLateAt log opts k fault None
own_is log opts k Order j end alike stand is own = late_own Order log opts k j end alike (of_order log.lines opts k (read_of log opts k stand)) is own
own_is log opts k Wrong j end alike stand is own = refl
own_is log opts k NotAbove j end alike stand is own = late_own NotAbove log opts k j end alike (of_not_above log.lines opts k (draw_of log opts k stand)) is own
own_is log opts k Twice j end alike stand is own = refl
own_is log opts k Stray j end alike stand is own = refl

pub first_is : (log : Lines) (opts : AuditOpts) (k : ℕ) (fault : Fault) (j end : ℕ) → AreAlike log → StandsAt log opts fault k
    → IsFirstThat (outdates fault log.lines k) log.lines j end → j ≢ k → IsLateAt log opts k fault (Some (late_of log.lines k j end))
first_is log opts k Order j end alike stand is other = late_first Order log opts k j end alike (of_order log.lines opts k (read_of log opts k stand)) is other
first_is log opts k Wrong j end alike stand is other = absurd (both_ways false refl is.passes)
first_is log opts k NotAbove j end alike stand is other = late_first NotAbove log opts k j end alike (of_not_above log.lines opts k (draw_of log opts k stand)) is other
first_is log opts k Twice j end alike stand is other = absurd (both_ways false refl is.passes)
first_is log opts k Stray j end alike stand is other = absurd (both_ways false refl is.passes)

-- ---- the first of the lines that outdate a call, by the tables

same_first : (lines : List Line) (one other : ℕ → Bool) (o : Option End) → ((j : ℕ) → j < length lines → one j ≡ other j) → IsFirstEnd one lines o → IsFirstEnd other lines o
same_first lines one other None same none = λ j lt passes. none j lt (same j lt ∙ passes)
same_first lines one other (Some end) same is = record {
  there = is.there;
  passes = sym (same end.place is.there) ∙ is.passes;
  ended_at = is.ended_at;
  first = λ i time lt passes at. is.first i time lt (same i lt ∙ passes) at;
}

-- no line that passes another test has ended before
first_of : (lines : List Line) (one other : ℕ → Bool) (j end : ℕ) → IsFirstThat one lines j end
    → ((i time : ℕ) → i < length lines → other i ≡ true → ended (line_at lines i) ≡ Some time → end ≤ time) → IsFirstThat (λ i. one i || other i) lines j end
first_of lines one other j end is least = record {
  there = is.there;
  passes = (let passes = is.passes in grind arith);
  ended_at = is.ended_at;
  first = λ i time lt passes at. elim (cases_Bool (one i)) [ inl one_too ↦ is.first i time lt one_too at | inr not_one ↦ least i time lt (grind arith) at ];
}

stepped : (lines : List Line) (one other : ℕ → Bool) (o : Option End) → IsFirstEnd (λ j. other j || one j) lines o → IsFirstEnd (λ j. one j || other j) lines o
stepped lines one other o = same_first lines (λ j. other j || one j) (λ j. one j || other j) o (λ j lt. grind arith)

sooner_is : (lines : List Line) (one other : ℕ → Bool) (a b : Option End) → IsFirstEnd one lines a → IsFirstEnd other lines b → IsFirstEnd (λ j. one j || other j) lines (sooner a b)
sooner_is lines one other None None none none_too = λ j lt passes. elim (cases_Bool (one j)) [ inl is ↦ none j lt is | inr not_one ↦ none_too j lt (grind arith) ]
sooner_is lines one other None (Some b) none is =
    stepped lines one other (Some b) (first_of lines other one b.place b.time is (λ i time lt passes at. absurd (none-some time (sym (none i lt passes) ∙ at))))
sooner_is lines one other (Some a) None is none =
    first_of lines one other a.place a.time is (λ i time lt passes at. absurd (none-some time (sym (none i lt passes) ∙ at)))
sooner_is lines one other (Some a) (Some b) is is_too = elim (cases_lt b.time a.time) [
  | inl less ↦
      rw (to_test less) (stepped lines one other (Some b) (first_of lines other one b.place b.time is_too (λ i time lt passes at. let least = is.first i time lt passes at in omega arith)))
  | inr ge ↦
      rw (to_no_test ge) (first_of lines one other a.place a.time is (λ i time lt passes at. let least = is_too.first i time lt passes at in omega arith))
]
  where
    to_test : b.time < a.time → nat_lt b.time a.time ≡ true
    to_test less = grind (arith, nat_tests)

    to_no_test : a.time ≤ b.time → nat_lt b.time a.time ≡ false
    to_no_test ge = grind (arith, nat_tests)

alone : (shown : Option End) → sooner shown None ≡ shown
alone None = refl
alone (Some end) = refl

pub not_above_first : (lines : List Line) (k : ℕ) (shown drawn : Option End) → IsFirstEnd (outdates_by NotAbove Shown lines (version_in lines k)) lines shown
    → IsFirstDrawn lines (version_in lines k) drawn → IsFirstEnd (outdates NotAbove lines k) lines (sooner shown drawn)
not_above_first lines k shown drawn is (inl is_too) =
    let v = version_in lines k in
    same_first lines (λ j. outdates_by NotAbove Shown lines v j || outdates_by NotAbove Drawn lines v j) (outdates NotAbove lines k) (sooner shown drawn) (λ j lt. grind arith)
    (sooner_is lines (outdates_by NotAbove Shown lines v) (outdates_by NotAbove Drawn lines v) shown drawn is is_too)
not_above_first lines k shown drawn is (inr none) =
    subst (IsFirstEnd (outdates NotAbove lines k) lines) (sym (ap (sooner shown) none.1 ∙ alone shown))
    (same_first lines (outdates_by NotAbove Shown lines (version_in lines k)) (outdates NotAbove lines k) shown (λ j lt.
    let too = shown_too (with_times lines) none.0 j lt in
    grind arith) is)
