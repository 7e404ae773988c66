-- The first end in a table of all that outdates a version, and by how much a call is late.
use Rattle.std.proofs.Common.{◌≡◌, ℕ, ◌+◌, ◌<◌, ◌≤◌, ◌==◌, not, zero-le, Bool, true, false, ◌&&◌, List, Option, None, Some, length, get_or, refl, ap, sym, subst, ◌∙◌, inl, inr, arith}
use Rattle.std.specs.List.Sorted.{IsNonDecreasingBy, IsPartitionPoint, IsPartitionedBy}
use Rattle.std.proofs.lemmas.Bool.{both_ways, cases_lt, and_from, and_parts}
use Rattle.std.proofs.lemmas.Bool.Decides.{nat_tests}
use Rattle.std.proofs.lemmas.List.{get_or_default}
use Rattle.std.proofs.lemmas.Option.{same_Some}
use Rattle.fdb_lines.specs.declared.line.End.{End}
use Rattle.fdb_lines.specs.declared.fault.Fault.{Fault}
use Rattle.fdb_lines.specs.declared.fault.Fault.TheVariants.{Order, Wrong, NotAbove, Twice, Stray}
use Rattle.fdb_lines.specs.declared.line.Line.{Line}
use Rattle.fdb_lines.specs.declared.known.Exposure.{Exposure}
use Rattle.fdb_lines.specs.Before.{ended}
use Rattle.fdb_lines.specs.Late.{is_outdated, IsFirstThat}
use Rattle.fdb_lines.specs.Lines.{line_at}
use Rattle.fdb_lines.specs.private.EndTable.{Moment, comes_by, end_at, end_key, no_end, AreNewest, IsNewestAt}
use Rattle.fdb_lines.specs.private.Known.{counts_at, had_ended, moment, stands_in, version_in, AreEnds}
use Rattle.fdb_lines.specs.private.Late.{outdates_by, IsFirstEnd}
use Rattle.fdb_lines.proofs.Entries.{entry, entry_for}

-- ---- the entries of a table of all

abbrev pub IsOf : Exposure → List Line → ℕ → End → Type 0
IsOf seen lines n end =
    (end.place < n) × (end.group ≡ 0) × (counts_at seen lines end.place ≡ true) × (ended (line_at lines end.place) ≡ Some end.time)
    × (end.version ≡ version_in lines end.place)

-- what answers as an end at each moment has its time
time_is : (end : End) (counts : Bool) (o : Option ℕ)
    → ((m : Moment) → comes_by m end ≡ (counts && (0 == m.group && had_ended o end.place m.time m.place)))
    → (end.group ≡ 0) × (counts ≡ true) × (o ≡ Some end.time)
time_is end counts None same =
    let at = same (moment end.group (end.time + 1) 0) in
    absurd (grind (arith, nat_tests))
time_is end counts (Some t) same =
    let one = same (moment end.group (end.time + 1) 0) in
    let two = same (moment end.group (t + 1) 0) in
    let group : end.group ≡ 0 = grind (arith, nat_tests) in
    let is : counts ≡ true = grind (arith, nat_tests) in
    let most : t ≤ end.time = grind (arith, nat_tests) in
    let least : end.time ≤ t = grind (arith, nat_tests) in
    let time : t ≡ end.time = omega arith in
    (group, is, ap (λ (m : ℕ). Some m) time)

pub end_is : (seen : Exposure) (lines : List Line) (n : ℕ) (ends : List End) → AreEnds false seen lines n ends → (i : ℕ) → i < length ends → IsOf seen lines n (end_at ends i)
end_is seen lines n ends are i lt =
    let is = entry _ _ _ _ _ n ends no_end are i lt in
    let end = end_at ends i in
    let time = time_is end (counts_at seen lines end.place) (ended (line_at lines end.place)) is.2 in
    (is.0, time.0, time.1, time.2, is.1)

-- each line that lets its version be known and ended has an entry
pub end_for : (seen : Exposure) (lines : List Line) (n : ℕ) (ends : List End) → AreEnds false seen lines n ends → (j time : ℕ) → j < n → counts_at seen lines j ≡ true
    → ended (line_at lines j) ≡ Some time → (i : ℕ) × (i < length ends) × ((end_at ends i).place ≡ j)
end_for seen lines n ends are j time lt counts end =
    let passes : stands_in false seen (line_at lines j) j (moment 0 (time + 1) 0) ≡ true = rw (counts, end) (grind (arith, nat_tests)) in
    let own = entry_for _ _ _ _ _ n ends no_end are (moment 0 (time + 1) 0) j lt passes in
    (own.0, own.1, own.2)

-- ---- the newest up to each end rises

abbrev pub OneGroup : List End → Type 0
OneGroup ends = (i : ℕ) → i < length ends → (end_at ends i).group ≡ 0

newest_is : (ends : List End) (newest : List ℕ) → AreNewest ends newest → (i : ℕ) (d : ℕ) → i < length newest → IsNewestAt ends i (get_or newest i d)
newest_is ends newest are i d lt = subst (IsNewestAt ends i) (get_or_default newest i 0 d lt) (are.1 i lt)

pub newest_rise : (ends : List End) (newest : List ℕ) → AreNewest ends newest → OneGroup ends → IsNonDecreasingBy (λ (at : ℕ). (end_at ends at).version) newest
newest_rise ends newest are one i j d le lt =
    let size = are.0 in
    let here = newest_is ends newest are i d (omega arith) in
    let there = newest_is ends newest are j d lt in
    let within = here.0 in
    let at = one (get_or newest i d) (omega arith) in
    let last = one j (omega arith) in
    there.2 (get_or newest i d) (omega arith) (grind (arith, nat_tests))

-- what outdates a version, a newer one does too
still : (fault : Fault) (v one other : ℕ) → one ≤ other → is_outdated fault v one ≡ true → is_outdated fault v other ≡ true
still Order v one other le is = grind (arith, nat_tests)
still Wrong v one other le is = absurd (both_ways false refl is)
still NotAbove v one other le is = grind (arith, nat_tests)
still Twice v one other le is = absurd (both_ways false refl is)
still Stray v one other le is = absurd (both_ways false refl is)

-- the ends whose newest yet does not outdate a version stand in front
abbrev pub is_behind : List End → Fault → ℕ → ℕ → Bool
is_behind ends fault v at = not (is_outdated fault v (end_at ends at).version)

pub parted : (ends : List End) (newest : List ℕ) (fault : Fault) (v : ℕ) → AreNewest ends newest → OneGroup ends → IsPartitionedBy (is_behind ends fault v) newest
parted ends newest fault v are one i j d le lt passes =
    let up = newest_rise ends newest are one i j d le lt in
    let more = still fault v (end_at ends (get_or newest i d)).version (end_at ends (get_or newest j d)).version up in
    grind arith

abbrev pub IsPoint : List End → List ℕ → Fault → ℕ → ℕ → Type 0
IsPoint ends newest fault v front = IsPartitionPoint (λ (at : ℕ). is_behind ends fault v at ≡ true) (λ (at : ℕ). is_behind ends fault v at ≡ false) newest front

abbrev BehindBefore : List End → Fault → ℕ → ℕ → Type 0
BehindBefore ends fault v front = (i : ℕ) → i < front → i < length ends → is_outdated fault v (end_at ends i).version ≡ false

-- where it outdates a version first, that end does, and none before
pub first_in : (ends : List End) (newest : List ℕ) (fault : Fault) (front v : ℕ) → AreNewest ends newest → OneGroup ends → IsPoint ends newest fault v front
    → BehindBefore ends fault v front × (front < length ends → is_outdated fault v (end_at ends front).version ≡ true)
first_in ends newest fault front v are one point =
    let size = are.0 in
    let below : BehindBefore ends fault v front = λ i less lt.
    let most = (newest_is ends newest are i 0 (omega arith)).2 i (omega arith) (grind (arith, nat_tests)) in
    let passes = point.0 i 0 zero-le less in
    let more = still fault v (end_at ends i).version (end_at ends (get_or newest i 0)).version most in
    grind arith in (
      below,
      λ lt.
          let here = newest_is ends newest are front 0 (omega arith) in
          let at = get_or newest front 0 in
          let within = here.0 in
          let above = point.1 front 0 (omega arith) (omega arith) in
          let newer : is_outdated fault v (end_at ends at).version ≡ true = grind arith in
          elim (cases_lt at front) [
            | inl less ↦ absurd (both_ways (is_outdated fault v (end_at ends at).version) (below at less (omega arith)) newer)
            | inr ge ↦ let same : at ≡ front = omega arith in subst (λ i. is_outdated fault v (end_at ends i).version ≡ true) same newer
          ],
    )

time_below : (one other : End) → one.group ≡ 0 → other.group ≡ 0 → end_key one ≤ end_key other → one.time ≤ other.time
time_below one other a b le = grind (arith, one.fits, other.fits)

-- the first line that outdates a version
pub first_is : (fault : Fault) (seen : Exposure) (lines : List Line) (ends : List End) (v front : ℕ) → IsNonDecreasingBy end_key ends → AreEnds false seen lines (length lines) ends
    → BehindBefore ends fault v front → (front < length ends → is_outdated fault v (end_at ends front).version ≡ true)
    → front < length ends → IsFirstThat (outdates_by fault seen lines v) lines (end_at ends front).place (end_at ends front).time
first_is fault seen lines ends v front sorted are below above lt =
    let is = end_is seen lines (length lines) ends are front lt in
    record {
      there = is.0;
      passes = and_from _ _ is.2 (subst (λ n. is_outdated fault v n ≡ true) is.4 (above lt));
      ended_at = is.3;
      first = λ i time inside shown end.
          let parts = and_parts (counts_at seen lines i) _ shown in
          let own = end_for seen lines (length lines) ends are i time inside parts.0 end in
          let of = end_is seen lines (length lines) ends are own.0 own.1 in
          let version : (end_at ends own.0).version ≡ version_in lines i = of.4 ∙ ap (version_in lines) own.2 in
          let newer = subst (λ n. is_outdated fault v n ≡ true) (sym version) parts.1 in
          let behind : front ≤ own.0 = elim (cases_lt own.0 front) [ inl less ↦ absurd (both_ways _ (below own.0 less own.1) newer) | inr ge ↦ ge ] in
          let up = time_below (end_at ends front) (end_at ends own.0) is.1 of.1 (sorted front own.0 no_end behind own.1) in
          let same : (end_at ends own.0).time ≡ time = same_Some _ _ (sym of.3 ∙ (ap (λ k. ended (line_at lines k)) own.2 ∙ end)) in
          omega arith;
    }

pub none_is : (fault : Fault) (seen : Exposure) (lines : List Line) (ends : List End) (v front : ℕ) → AreEnds false seen lines (length lines) ends
    → BehindBefore ends fault v front → length ends ≤ front → IsFirstEnd (outdates_by fault seen lines v) lines None
none_is fault seen lines ends v front are below past j lt shown = by (ended (line_at lines j)) refl
  where
    by : (o : Option ℕ) → ended (line_at lines j) ≡ o → o ≡ None
    by None e = refl
    by (Some time) e =
        let parts = and_parts (counts_at seen lines j) _ shown in
        let own = end_for seen lines (length lines) ends are j time lt parts.0 e in
        let inside = own.1 in
        let of = end_is seen lines (length lines) ends are own.0 own.1 in
        let old = below own.0 (omega arith) own.1 in
        let version : (end_at ends own.0).version ≡ version_in lines j = of.4 ∙ ap (version_in lines) own.2 in
        absurd (both_ways _ old (subst (λ n. is_outdated fault v n ≡ true) (sym version) parts.1))

-- ---- the search

pub one_group : (seen : Exposure) (lines : List Line) (ends : List End) → AreEnds false seen lines (length lines) ends → OneGroup ends
one_group seen lines ends are i lt = (end_is seen lines (length lines) ends are i lt).1

pub found_first : (fault : Fault) (seen : Exposure) (lines : List Line) (ends : List End) (newest : List ℕ) (v front : ℕ) (end : End) → IsNonDecreasingBy end_key ends → AreNewest ends newest
    → AreEnds false seen lines (length lines) ends → IsPoint ends newest fault v front → front < length ends → end ≡ get_or ends front end
    → IsFirstEnd (outdates_by fault seen lines v) lines (Some end)
found_first fault seen lines ends newest v front end sorted settled are point lt is =
    let first = first_in ends newest fault front v settled (one_group seen lines ends are) point in
    let at : end_at ends front ≡ end = get_or_default ends front no_end end lt ∙ sym is in
    subst (λ (e : End). IsFirstThat (outdates_by fault seen lines v) lines e.place e.time) at (first_is fault seen lines ends v front sorted are first.0 first.1 lt)

pub found_none : (fault : Fault) (seen : Exposure) (lines : List Line) (ends : List End) (newest : List ℕ) (v front : ℕ) → AreNewest ends newest
    → AreEnds false seen lines (length lines) ends → IsPoint ends newest fault v front → length ends ≤ front → IsFirstEnd (outdates_by fault seen lines v) lines None
found_none fault seen lines ends newest v front settled are point past =
    none_is fault seen lines ends v front are (first_in ends newest fault front v settled (one_group seen lines ends are) point).0 past
