-- By how much a call is late in a part that stands for all: as in all, or by more than a horizon and at least by so much.
use Rattle.std.proofs.Common.{◌≡◌, ◌≢◌, ◌⊎◌, ℕ, ◌+◌, ◌-◌, ◌<◌, ◌≤◌, Bool, true, false, List, Option, None, Some, length, slice_index, refl, ap, sym, subst, ◌∙◌, inl, inr, arith}
use Rattle.std.proofs.lemmas.Bool.{and_from, and_parts, both_ways, cases_lt}
use Rattle.std.proofs.lemmas.Bool.Decides.{nat_tests}
use Rattle.std.proofs.lemmas.List.{length-map}
use Rattle.std.proofs.lemmas.Option.{none-some}
use Rattle.fdb_lines.specs.declared.fault.Fault.{Fault}
use Rattle.fdb_lines.specs.declared.fault.Fault.TheVariants.{Order, Wrong, NotAbove, Twice, Stray}
use Rattle.fdb_lines.specs.declared.fault.Late.{Late}
use Rattle.fdb_lines.specs.declared.line.Line.{Line}
use Rattle.fdb_lines.specs.declared.log.AuditOpts.{AuditOpts}
use Rattle.fdb_lines.specs.Audit.{case_of}
use Rattle.fdb_lines.specs.Before.{began, ended}
use Rattle.fdb_lines.specs.Carried.{past_by, with_times, IsCovered, MayGo, StandFor}
use Rattle.fdb_lines.specs.Faults.{stands}
use Rattle.fdb_lines.specs.Keys.{placed_late}
use Rattle.fdb_lines.specs.Late.{can_outdate, is_outdated, outdates, IsFirstThat, IsLate, IsLateAt, IsLateAtLeast}
use Rattle.fdb_lines.specs.Lines.{Kind, Lines, kind_of, line_at, lines_in, version_of}
use Rattle.fdb_lines.specs.Watching.{is_watched, opts_of}
use Rattle.fdb_lines.proofs.Above.{not_above_true, order_true}
use Rattle.fdb_lines.proofs.Carried.{at_part, began_by}
use Rattle.fdb_lines.proofs.Lateness.{first_is, none_is, own_is}

-- what outdates a call outdates it with a newer version too
newer_too : (fault : Fault) (version one other : ℕ) → one ≤ other → is_outdated fault version one ≡ true → is_outdated fault version other ≡ true
newer_too Order version one other le is = grind (arith, nat_tests)
newer_too Wrong version one other le is = is
newer_too NotAbove version one other le is = grind (arith, nat_tests)
newer_too Twice version one other le is = is
newer_too Stray version one other le is = is

-- a past line has a known end
has_end : (margin at : ℕ) (o : Option ℕ) → past_by margin at o ≡ true → (end : ℕ) × (o ≡ Some end) × (end + margin < at)
has_end margin at None past = absurd (both_ways false refl past)
has_end margin at (Some end) past = (end, refl, grind (arith, nat_tests))

abbrev HasCover : ℕ → ℕ → (Kind → Bool) → List Line → Line → Type 0
HasCover margin at lets_know part line = (ended line ≡ None) ⊎ IsCovered margin at lets_know part line

cover_of : (fault : Fault) (margin at : ℕ) (part : List Line) (line : Line) → is_watched fault ≡ true → MayGo margin at part line → HasCover margin at (can_outdate fault) part line
cover_of Order margin at part line of go = elim go.nothing_new [ inl none ↦ inl none | inr both ↦ inr both.0 ]
cover_of NotAbove margin at part line of go = elim go.nothing_new [ inl none ↦ inl none | inr both ↦ inr both.1 ]
cover_of Wrong margin at part line of go = absurd (both_ways false refl of)
cover_of Twice margin at part line of go = absurd (both_ways false refl of)
cover_of Stray margin at part line of go = absurd (both_ways false refl of)

module _ (margin at : ℕ) (lines : List Line) (places : List ℕ) (stand : StandFor margin at lines places) (i : ℕ) (li : i < length places)
    (fault : Fault) (of : is_watched fault ≡ true) where
  abbrev part : List Line
  part = lines_in lines places

  abbrev place : ℕ → ℕ
  place = slice_index places

  abbrev k : ℕ
  k = place i

  inside : (j : ℕ) → j < length part → j < length places
  inside j lt = omega (arith, length-map places (line_at lines))

  outside : (j : ℕ) → j < length places → j < length part
  outside j lt = omega (arith, length-map places (line_at lines))

  outdates_same : (j : ℕ) → j < length places → outdates fault part i j ≡ outdates fault lines k (place j)
  outdates_same j lj = rw (at_part lines places i li, at_part lines places j lj) refl

  end_same : (j : ℕ) → j < length places → ended (line_at part j) ≡ ended (line_at lines (place j))
  end_same j lj = ap ended (at_part lines places j lj)

  begins_same : began (line_at part i) ≡ began (line_at lines k)
  begins_same = ap began (at_part lines places i li)

  -- a line of the part outdates the call, and had ended before the moment
  abbrev IsOutdatedBefore : Type 0
  IsOutdatedBefore = (j : ℕ) × (j < length part) × (outdates fault part i j ≡ true) × (end : ℕ) × (ended (line_at part j) ≡ Some end) × (end + margin < at)

  covered_outdates : (line : Line) → IsCovered margin at (can_outdate fault) part line → can_outdate fault (kind_of line.call) ≡ true
      → is_outdated fault (version_of (line_at part i).call) (version_of line.call) ≡ true → IsOutdatedBefore
  covered_outdates line covered can is =
      let by = covered can in
      let end = has_end margin at (ended (line_at part by.0)) by.2 in
      (by.0, by.1, and_from _ _ by.3 (newer_too fault _ _ _ by.4 is), end.0, end.1, end.2)

  -- where a line that is gone outdates it, one of the part does that is past; or its end is not known
  gone : (j : ℕ) → MayGo margin at part (line_at lines j) → outdates fault lines k j ≡ true → (ended (line_at lines j) ≡ None) ⊎ IsOutdatedBefore
  gone j go is =
      let parts = and_parts (can_outdate fault (kind_of (line_at lines j).call)) _ is in
      let line = ap (λ (l : Line). is_outdated fault (version_of l.call) (version_of (line_at lines j).call)) (at_part lines places i li) in
      elim (cover_of fault margin at part (line_at lines j) of go) [
        | inl none ↦ inl none
        | inr covered ↦ inr (covered_outdates (line_at lines j) covered parts.0 (line ∙ parts.1))
      ]

  -- what holds of all that outdate it holds of those of the part and of those that are gone
  of_all : (P : ℕ → Type 0) → ((j : ℕ) → j < length places → outdates fault part i j ≡ true → P (place j))
      → ((j : ℕ) → (ended (line_at lines j) ≡ None) ⊎ IsOutdatedBefore → P j)
      → (j : ℕ) → j < length lines → outdates fault lines k j ≡ true → P j
  of_all P kept left j lj is = elim (stand.rest j lj) [
    | inl among ↦
        let there : outdates fault lines k (place among.0) ≡ true = ap (outdates fault lines k) among.2 ∙ is in
        subst P among.2 (kept among.0 among.1 (outdates_same among.0 among.1 ∙ there))
    | inr go ↦ left j (gone j go is)
  ]

  -- the first of the part is the first of all, unless one of the part had ended before the moment
  first_same : (j end : ℕ) → IsFirstThat (outdates fault part i) part j end → (IsOutdatedBefore → ⊥) → IsFirstThat (outdates fault lines k) lines (place j) end
  first_same j end first none =
      let lj = inside j first.there in
      record {
        there = stand.within j lj;
        passes = sym (outdates_same j lj) ∙ first.passes;
        ended_at = sym (end_same j lj) ∙ first.ended_at;
        first = λ n time ln is at_time. of_all (λ m. ended (line_at lines m) ≡ Some time → end ≤ time)
            (λ m lm passes at_m. first.first m time (outside m lm) passes (end_same m lm ∙ at_m))
            (λ m left at_m. elim left [ inl unknown ↦ absurd (none-some time (sym unknown ∙ at_m)) | inr before ↦ absurd (none before) ])
            n ln is at_time;
      }

  -- nothing had ended before the moment that outdates it, where the first of the part had not
  not_before : (j end : ℕ) → IsFirstThat (outdates fault part i) part j end → at ≤ end → IsOutdatedBefore → ⊥
  not_before j end first later before =
      let least = first.first before.0 before.3 before.1 before.2 before.4 in
      let past = before.5 in
      omega arith

  abbrev opts : AuditOpts
  opts = opts_of margin

  abbrev all : Lines
  all = with_times lines

  abbrev Kept : Option Late → Type 0
  Kept late = IsLateAt all opts k fault (placed_late places late) ⊎ IsLateAtLeast at fault all opts k (placed_late places late)

  timed_only : (P : Type 0) → true ≡ false → P
  timed_only P untimed = absurd cc

  module _ (stands_here : (other : ℕ) → stands (case_of (with_times part) (record { complete = None; margin = other })) fault i ≡ true
      → stands (case_of all (record { complete = None; margin = other })) fault k ≡ true)
      (stand_at : stands (case_of all opts) fault k ≡ true) (from : at ≤ began (line_at lines k)) where
    kept_first : (late : Late) → IsLate fault (with_times part) opts i (Some late) → Kept (Some late)
    kept_first late is =
        let end = is.0 in
        let first = is.1 in
        let lj = inside late.place first.there in
        elim (cases_lt end at) [
          | inl before ↦ inr (
            end,
            stand.within late.place lj,
            sym (outdates_same late.place lj) ∙ first.passes,
            sym (end_same late.place lj) ∙ first.ended_at,
            before,
            is.3 ∙ ap (λ n. n - end) begins_same,
            λ other less. stands_here other (is.4.under other less),
          )
          | inr later ↦
              let there = first_same late.place end first (not_before late.place end first later) in
              let by : late.by ≡ began (line_at lines k) - end = is.3 ∙ ap (λ n. n - end) begins_same in
              inl (subst (λ n. IsLateAt all opts k fault (Some (record { place = place late.place; by = n }))) (sym by)
              (first_is all opts k fault (place late.place) end (λ untimed. timed_only _ untimed) stand_at there (apart late.place lj is.2)))
        ]
      where
        apart : (j : ℕ) → j < length places → j ≢ i → place j ≢ k
        apart j lj other same = elim (cases_lt j i) [
          | inl less ↦ let rise = stand.rising j i less li in omega arith
          | inr ge ↦ elim (cases_lt i j) [
            | inl more ↦ let rise = stand.rising i j more lj in omega arith
            | inr le ↦ other (omega arith)
          ]
        ]

    kept_none : IsLate fault (with_times part) opts i None → Kept None
    kept_none is = elim is.0 [
      | inl none ↦ inl (none_is all opts k fault stand_at (of_all (λ j. ended (line_at lines j) ≡ None)
          (λ j lj passes. sym (end_same j lj) ∙ none j (outside j lj) passes)
          (λ j left. elim left [ inl unknown ↦ unknown | inr before ↦ absurd (none-some before.3 (sym (none before.0 before.1 before.2) ∙ before.4)) ])))
      | inr own ↦
          let first = own.1 in
          let least = began_by (line_at part i) own.0 first.ended_at in
          let begins = begins_same in
          let there = first_same i own.0 first (not_before i own.0 first (omega arith)) in
          inl (own_is all opts k fault k own.0 (λ untimed. timed_only _ untimed) stand_at there refl)
    ]

    kept_late : (late : Option Late) → IsLate fault (with_times part) opts i late → Kept late
    kept_late None is = kept_none is
    kept_late (Some late) is = kept_first late is

pub late_same : (margin at : ℕ) (lines : List Line) (places : List ℕ) → StandFor margin at lines places → (i : ℕ) → i < length places
    → at ≤ began (line_at lines (slice_index places i)) → (fault : Fault) → is_watched fault ≡ true
    → stands (case_of (with_times lines) (opts_of margin)) fault (slice_index places i) ≡ true
    → (late : Option Late) → IsLateAt (with_times (lines_in lines places)) (opts_of margin) i fault late
    → IsLateAt (with_times lines) (opts_of margin) (slice_index places i) fault (placed_late places late)
    ⊎ IsLateAtLeast at fault (with_times lines) (opts_of margin) (slice_index places i) (placed_late places late)
late_same margin at lines places stand i li from Order of stand_at late is =
    kept_late margin at lines places stand i li Order of (λ other. order_true lines places stand.within stand.rising (record { complete = None; margin = other }) i li) stand_at from late is
late_same margin at lines places stand i li from NotAbove of stand_at late is =
    kept_late margin at lines places stand i li NotAbove of (λ other. not_above_true lines places stand.within stand.rising (record { complete = None; margin = other }) i li) stand_at from late is
late_same margin at lines places stand i li from Wrong of stand_at late is = absurd (both_ways false refl of)
late_same margin at lines places stand i li from Twice of stand_at late is = absurd (both_ways false refl of)
late_same margin at lines places stand i li from Stray of stand_at late is = absurd (both_ways false refl of)
