-- What a call knows: the newest of lines that pass a test, or one of two.
use Rattle.std.proofs.Common.{◌≡◌, ℕ, ◌+◌, ◌-◌, ◌<◌, ◌≤◌, ◌==◌, nat_lt, Bool, true, false, cond, ◌&&◌, ◌||◌, List, [], ◌∷◌, ◌++◌, length, Option, None, Some, refl, ap, sym, ◌∙◌, inl, inr, arith, length-append}
use Rattle.std.proofs.lemmas.Bool.Decides.{nat_tests}
use Rattle.std.proofs.lemmas.Bool.{cases_lt, both_ways, and_parts}
use Rattle.std.proofs.lemmas.List.{get_or_append_left, get_or_push}
use Rattle.fdb_lines.specs.declared.line.Line.{Line}
use Rattle.fdb_lines.specs.declared.fault.Means.{Means}
use Rattle.fdb_lines.specs.declared.fault.Means.TheVariants.{Ended, Own}
use Rattle.fdb_lines.specs.declared.fault.Witness.{Witness}
use Rattle.fdb_lines.specs.declared.known.Exposure.{Exposure}
use Rattle.fdb_lines.specs.Before.{began, ended, one_client, ended_before, by_time}
use Rattle.fdb_lines.specs.Faults.{greatest_of}
use Rattle.fdb_lines.specs.Lines.{line_at}
use Rattle.fdb_lines.specs.Reasons.{IsMeans}
use Rattle.fdb_lines.specs.private.EndTable.{is_earlier}
use Rattle.fdb_lines.specs.private.Entries.{IsNewest}
use Rattle.fdb_lines.specs.private.Known.{counts_at, had_ended, newer, newest_known, of_all, of_own, of_version, version_by, version_in, witness, lets_know, AreKnownOf, IsFound, IsKnownBy, KnowsOf}
use Rattle.fdb_lines.proofs.Numbers.{greatest_bound, greatest_least}

-- ---- in general

-- by tests that agree, and kinds of witness of which one is the other too
pub as_well : (a b : ℕ → Bool) (Is IsToo : Witness → Type 0) (lines : List Line) (o : Option Witness)
    → ((j : ℕ) → j < length lines → a j ≡ b j) → ((by : Witness) → Is by → IsToo by) → IsKnownBy a Is lines o → IsKnownBy b IsToo lines o
as_well a b Is IsToo lines None same too none = λ j lt. sym (same j lt) ∙ none j lt
as_well a b Is IsToo lines (Some by) same too is =
    (is.0, sym (same by.place is.0) ∙ is.1, too by is.2, λ j lt passes. is.3 j lt (same j lt ∙ passes))

-- the newer of two is that of both
pub newer_is : (a b : ℕ → Bool) (Is : Witness → Type 0) (lines : List Line) (one other : Option Witness)
    → IsKnownBy a Is lines one → IsKnownBy b Is lines other → IsKnownBy (λ j. a j || b j) Is lines (newer lines one other)
newer_is a b Is lines None None none no_other = λ j lt. let x = none j lt in let y = no_other j lt in grind arith
newer_is a b Is lines None (Some y) none is =
    (is.0, grind (arith, is.1), is.2, λ j lt passes. let none_j = none j lt in let most = is.3 j lt in grind arith)
newer_is a b Is lines (Some x) None is none =
    (is.0, grind (arith, is.1), is.2, λ j lt passes. let none_j = none j lt in let most = is.3 j lt in grind arith)
newer_is a b Is lines (Some x) (Some y) is too = by (nat_lt (version_in lines x.place) (version_in lines y.place)) refl
  where
    by : (less : Bool) → nat_lt (version_in lines x.place) (version_in lines y.place) ≡ less → IsKnownBy (λ j. a j || b j) Is lines (Some (cond less y x))
    by true less = (too.0, grind (arith, too.1), too.2, λ j lt passes. let m = is.3 j lt in let n = too.3 j lt in grind (arith, nat_tests))
    by false not_less = (is.0, grind (arith, is.1), is.2, λ j lt passes. let m = is.3 j lt in let n = too.3 j lt in grind (arith, nat_tests))

-- its version is the greatest
pub version_is : (test : ℕ → Bool) (Is : Witness → Type 0) (lines : List Line) (o : Option Witness) → IsKnownBy test Is lines o
    → version_by lines o ≡ greatest_of test (version_in lines) (length lines)
version_is test Is lines None none =
    let most = greatest_least test (version_in lines) (length lines) 0 (λ j lt passes. absurd (both_ways (test j) (none j lt) passes)) in
    omega arith
version_is test Is lines (Some by) is =
    let most = greatest_least test (version_in lines) (length lines) (version_in lines by.place) is.3 in
    let least = greatest_bound test (version_in lines) (length lines) by.place is.0 is.1 in
    omega arith

-- and where that is at most a version, it is the witness of that version
pub found_is : (before : ℕ → ℕ → Bool) (margin : ℕ) (seen : Exposure) (lines : List Line) (k version : ℕ) (o : Option Witness)
    → KnowsOf (lets_know before seen lines) margin lines k o → newest_known before seen lines k ≤ version
    → IsFound before margin seen lines k version (of_version lines version o)
found_is before margin seen lines k version None none most = λ j lt. let fails = none j lt in grind arith
found_is before margin seen lines k version (Some w) is most = by (version_in lines w.place == version) refl
  where
    by : (same : Bool) → (version_in lines w.place == version) ≡ same → IsFound before margin seen lines k version (cond same (Some w) None)
    by true same = (is.0, grind (arith, is.1), is.2)
    by false other = λ j lt.
        let newest = is.3 j lt in
        let up = greatest_bound (lets_know before seen lines k) (version_in lines) (length lines) w.place is.0 is.1 in
        grind (arith, nat_tests)

-- one line more, and what it knows
pub known_more : (test : ℕ → ℕ → Bool) (margin : ℕ) (lines : List Line) (n : ℕ) (known : List (Option Witness)) (by : Option Witness)
    → AreKnownOf test margin lines n known → KnowsOf test margin lines n by → AreKnownOf test margin lines (n + 1) (known ++ by ∷ [])
known_more test margin lines n known by are is = (
  length-append known (by ∷ []) ∙ ap (λ m. m + 1) are.0,
  λ k lt. elim (cases_lt k n) [
    | inl old ↦ let len = are.0 in rw (get_or_append_left known (by ∷ []) None k (omega arith)) (are.1 k old)
    | inr ge ↦
        let at : n ≡ k = omega arith in
        rw (← at, get_or_push known by None n are.0) is
  ],
)

-- ---- by time

-- the newest line is known by means that each line that passes has
pub known_so : (test : ℕ → ℕ → Bool) (margin : ℕ) (lines : List Line) (k : ℕ) (means : Means) (o : Option ℕ)
    → ((j : ℕ) → test k j ≡ true → IsMeans margin lines j k means) → IsNewest (test k) (version_in lines) (length lines) o
    → KnowsOf test margin lines k (witness o means)
known_so test margin lines k means None so none = none
known_so test margin lines k means (Some j) so is = (is.0, is.1, so j is.1, is.2)

pub ended_means : (margin : ℕ) (seen : Exposure) (lines : List Line) (k j : ℕ) → of_all margin seen lines k j ≡ true → IsMeans margin lines j k Ended
ended_means margin seen lines k j is = by (ended (line_at lines j)) refl (and_parts (counts_at seen lines j) _ is).1
  where
    by : (o : Option ℕ) → ended (line_at lines j) ≡ o → had_ended o j (began (line_at lines k) - margin) 0 ≡ true → IsMeans margin lines j k Ended
    by None e had = absurd (both_ways false refl had)
    by (Some end) e had = (end, e, grind (arith, nat_tests))

pub own_means : (margin : ℕ) (seen : Exposure) (lines : List Line) (k j : ℕ) → of_own seen lines k j ≡ true → IsMeans margin lines j k Own
own_means margin seen lines k j is = grind arith

-- what comes before by time stands in one of the tables
by_two : (margin j k time end : ℕ) (counts same : Bool)
    → ((nat_lt (end + margin) time || (same && (nat_lt end time || (nat_lt j k && end == time)))) && counts)
    ≡ ((counts && is_earlier end j (time - margin) 0) || (counts && (same && is_earlier end j time k)))
by_two margin j k time end counts same = grind (arith, nat_tests)

before_is : (margin : ℕ) (seen : Exposure) (lines : List Line) (j k : ℕ) (end : Option ℕ)
    → (ended_before margin (nat_lt j k) (line_at lines j) end (line_at lines k) && counts_at seen lines j)
    ≡ ((counts_at seen lines j && had_ended end j (began (line_at lines k) - margin) 0)
    || (counts_at seen lines j && (one_client (line_at lines j).client (line_at lines k).client && had_ended end j (began (line_at lines k)) k)))
before_is margin seen lines j k None = grind arith
before_is margin seen lines j k (Some end) =
    by_two margin j k (began (line_at lines k)) end (counts_at seen lines j) (one_client (line_at lines j).client (line_at lines k).client)

pub both_are : (margin : ℕ) (seen : Exposure) (lines : List Line) (k : ℕ) (one other : Option Witness)
    → KnowsOf (of_all margin seen lines) margin lines k one → KnowsOf (of_own seen lines) margin lines k other
    → KnowsOf (lets_know (by_time margin lines) seen lines) margin lines k (newer lines one other)
both_are margin seen lines k one other is too =
    as_well (λ j. of_all margin seen lines k j || of_own seen lines k j) (lets_know (by_time margin lines) seen lines k) _ _ lines (newer lines one other)
    (λ j lt. sym (before_is margin seen lines j k (ended (line_at lines j)))) (λ by h. h)
    (newer_is (of_all margin seen lines k) (of_own seen lines k) (λ by. IsMeans margin lines by.place k by.means) lines one other is too)
