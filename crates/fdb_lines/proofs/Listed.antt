-- The list of faults is empty exactly where none stands.
use Rattle.std.proofs.Common.{◌≡◌, ◌↔◌, ℕ, zero, suc, ◌<◌, ◌≤◌, false, List, [], ◌∷◌, ◌++◌, length, slice_get, Option, None, Some, option_map, inl, inr, refl, ap, sym, ◌∙◌, arith, append-nil, append_assoc, length-append}
use Rattle.std.proofs.lemmas.Bool.{cases_lt, cond-false}
use Rattle.std.proofs.lemmas.Option.{slice_get_past}
use Rattle.fdb_lines.specs.declared.fault.Fault.{Fault}
use Rattle.fdb_lines.specs.declared.fault.Fault.TheVariants.{Order, Wrong, NotAbove, Twice, Stray}
use Rattle.fdb_lines.specs.declared.fault.Found.{Found}
use Rattle.fdb_lines.specs.declared.log.AuditOpts.{AuditOpts}
use Rattle.fdb_lines.specs.declared.fault.Finding.{Finding}
use Rattle.fdb_lines.specs.Audit.{case_of, AreExplained}
use Rattle.fdb_lines.specs.Faults.{stands, IsFaultless}
use Rattle.fdb_lines.specs.Lines.{Case, Lines}
use Rattle.fdb_lines.specs.Listing.{found_if, faults_at, faults_below, faults_of}
use Rattle.fdb_lines.specs.Order.{history, rank_of}
use Rattle.fdb_lines.specs.Reasons.{found_of}
use Rattle.fdb_lines.specs.private.Tables.{IsFirstBetween}
use Rattle.fdb_lines.proofs.Sound.{invented}
use Rattle.fdb_lines.proofs.Complete.{explained}
use Rattle.fdb_lines.proofs.Ranked.{ranked}

pub law : (log : Lines) (opts : AuditOpts) → IsFaultless (case_of log opts) ↔ AreExplained (case_of log opts)
law log opts = (
  λ none. (history (case_of log opts) (rank_of log.timed log.lines), explained (case_of log opts) (rank_of log.timed log.lines) (ranked log opts) none),
  λ some. invented (case_of log opts) some.0 some.1,
)

-- ---- the list is empty exactly where none stands

none_at : (c : Case) (k : ℕ) → length (faults_at c k) ≡ 0 → (fault : Fault) → length (found_if c fault k) ≡ 0
none_at c k e fault = grind (arith, length-append {A = Found})

none_below : (c : Case) (n : ℕ) → length (faults_below c n) ≡ 0 → (fault : Fault) (k : ℕ) → k < n → stands c fault k ≡ false
none_below c zero e fault k lt = absurd (omega arith)
none_below c (suc n) e fault k lt =
    let sum = length-append (faults_below c n) (faults_at c n) in
    let here = none_at c n (omega arith) fault in
    let below = none_below c n (omega arith) fault k in
    let same : k ≡ n → stands c fault k ≡ stands c fault n = ap (stands c fault) in
    grind arith

nothing_below : (c : Case) → IsFaultless c → (n : ℕ) → n ≤ length c.lines → length (faults_below c n) ≡ 0
nothing_below c none zero le = refl
nothing_below c none (suc n) le =
    let here : (fault : Fault) → length (found_if c fault n) ≡ 0 = λ fault. ap length (cond-false (stands c fault n) _ [] (none fault n (omega arith))) in
    omega (arith, length-append {A = Found}, nothing_below c none n (omega arith), here Order, here Wrong, here NotAbove, here Twice, here Stray)

pub explained_by_length : (log : Lines) (opts : AuditOpts) (found : List Found) → found ≡ faults_of (case_of log opts) → (length found ≡ 0) ↔ AreExplained (case_of log opts)
explained_by_length log opts found e =
    let c = case_of log opts in (
      λ none. (law log opts).0 (none_below c (length c.lines) (sym (ap length e) ∙ none)),
      λ some. ap length e ∙ nothing_below c ((law log opts).1 some) (length c.lines) (omega arith),
    )

pub explained_by_first : (log : Lines) (opts : AuditOpts) (first : Option Found) → first ≡ slice_get (faults_of (case_of log opts)) 0 → (first ≡ None) ↔ AreExplained (case_of log opts)
explained_by_first log opts first e =
    let all = faults_of (case_of log opts) in
    let listed = explained_by_length log opts all refl in
    (λ none. listed.0 (no_first all (sym e ∙ none)), λ some. e ∙ slice_get_past all 0 (omega (arith, listed.1 some)))
  where
    no_first : (found : List Found) → slice_get found 0 ≡ None → length found ≡ 0
    no_first [] e = refl
    no_first (x ∷ xs) e = absurd cc

-- ---- the first

pub below_more : (c : Case) (k n : ℕ) → k ≤ n → (rest : List Found) × (faults_below c n ≡ faults_below c k ++ rest)
below_more c k zero le = let same : k ≡ 0 = omega arith in ([], sym (ap (λ j. faults_below c j ++ []) same))
below_more c k (suc n) le = elim (cases_lt k (suc n)) [
  | inl lt ↦ let below = below_more c k n (omega arith) in (below.0 ++ faults_at c n, ap (λ found. found ++ faults_at c n) below.1 ∙ append_assoc (faults_below c k) below.0 (faults_at c n))
  | inr ge ↦ let same : suc n ≡ k = omega arith in ([], ap (faults_below c) same ∙ sym (append-nil (faults_below c k)))
]

-- what stands first of some lines does so of these and more below
pub first_of_more : (c : Case) (from k n : ℕ) (first : Found) → k ≤ n → IsFirstBetween c from k (Some first) → IsFirstBetween c from n (Some first)
first_of_more c from k n first le is =
    let more = below_more c k n le in
    (is.0 ++ more.0, more.1 ∙ ap (λ found. found ++ more.0) is.1 ∙ append_assoc (faults_below c from) (first ∷ is.0) more.0)

-- none stands at some lines, and what does first at those below
pub first_after_none : (c : Case) (from k n : ℕ) (first : Option Found) → IsFirstBetween c from k None → IsFirstBetween c k n first → IsFirstBetween c from n first
first_after_none c from k n None none is = is ∙ none
first_after_none c from k n (Some first) none is = (is.0, is.1 ∙ ap (λ found. found ++ first ∷ is.0) none)

-- of all lines
pub first_of_all : (log : Lines) (opts : AuditOpts) (first : Option Finding) → IsFirstBetween (case_of log opts) 0 (length log.lines) (option_map found_of first)
    → (option_map found_of first ≡ slice_get (faults_of (case_of log opts)) 0) × ((first ≡ None) ↔ AreExplained (case_of log opts))
first_of_all log opts None is =
    let first = sym (ap (λ found. slice_get found 0) is) in
    let same = explained_by_first log opts None first in
    (first, (λ none. same.0 refl, λ some. refl))
first_of_all log opts (Some x) is =
    let first = sym (ap (λ found. slice_get found 0) is.1) in
    let same = explained_by_first log opts (Some x.found) first in
    (first, (λ none. absurd cc, λ some. absurd (let none = same.1 some in cc)))
