-- What clients have heard of, line by line.
use Rattle.std.proofs.Common.{◌≡◌, ℕ, suc, ◌<◌, ◌==◌, Bool, true, false, cond, ◌&&◌, ◌||◌, List, length, Option, None, Some, refl, ap, sym, ◌∙◌, inl, inr, arith}
use Rattle.std.proofs.lemmas.Bool.Decides.{nat_tests}
use Rattle.std.proofs.lemmas.Bool.{cases_Bool, and_parts, cond-true, cond-false}
use Rattle.fdb_lines.specs.declared.line.Line.{Line}
use Rattle.fdb_lines.specs.declared.fault.Means.{Means}
use Rattle.fdb_lines.specs.declared.fault.Means.TheVariants.{Own}
use Rattle.fdb_lines.specs.declared.fault.Witness.{Witness}
use Rattle.fdb_lines.specs.declared.known.Exposure.{Exposure}
use Rattle.fdb_lines.specs.Before.{is_of, has_heard, one_client, by_telling}
use Rattle.fdb_lines.specs.Before.{heard_by as heard_at}
use Rattle.fdb_lines.specs.Lines.{line_at, kind_of, is_learn, teller_of}
use Rattle.fdb_lines.specs.Reasons.{IsMeans}
use Rattle.fdb_lines.specs.private.Known.{counts_at, newer, version_in, lets_know, IsKnownBy, KnowsOf}
use Rattle.fdb_lines.specs.private.Exposure.{counts}
use Rattle.fdb_lines.specs.private.Telling.{gained, heard_of, learnt_by, IsHeard, IsHeardAs}
use Rattle.fdb_lines.proofs.Knowing.{as_well, newer_is}

-- what was heard of by the lines above is heard of by one line more
stays : (lines : List Line) (k a j : ℕ) (means : Means) → IsHeardAs lines k a j means → IsHeardAs lines (suc k) a j means
stays lines k a j means h = grind arith

of_one : (a : ℕ) (o : Option ℕ) → is_of a o ≡ true → one_client o (Some a) ≡ true
of_one a o e = grind (arith, nat_tests)

-- ---- what is new by a line

abbrev IsOf : List Line → ℕ → ℕ → Witness → Type 0
IsOf lines n a by = IsHeardAs lines n a by.place by.means

abbrev new : Exposure → List Line → ℕ → ℕ → Bool
new seen lines k j =
    (k == j || (is_learn (kind_of (line_at lines k).call) && has_heard lines k (teller_of (line_at lines k).call) j)) && counts_at seen lines j

-- a line that learns lets learn of what its teller has heard of
learns_new : (seen : Exposure) (lines : List Line) (k j : ℕ) → is_learn (kind_of (line_at lines k).call) ≡ true
    → (has_heard lines k (teller_of (line_at lines k).call) j && counts_at seen lines j) ≡ new seen lines k j
learns_new seen lines k j does =
    let own = λ (e : k ≡ j). ap (counts_at seen lines) e in
    grind (arith, nat_tests)

learnt_is : (seen : Exposure) (lines : List Line) (k a : ℕ) (o : Option Witness) → is_of a (line_at lines k).client ≡ true → is_learn (kind_of (line_at lines k).call) ≡ true
    → IsHeard seen lines k (teller_of (line_at lines k).call) o → IsKnownBy (new seen lines k) (IsOf lines (suc k) a) lines (learnt_by k o)
learnt_is seen lines k a None of does none = λ j lt. sym (learns_new seen lines k j does) ∙ none j lt
learnt_is seen lines k a (Some w) of does h = (
  h.0,
  sym (learns_new seen lines k w.place does) ∙ h.1,
  (omega arith, of_one a (line_at lines k).client of, does, (and_parts (has_heard lines k (teller_of (line_at lines k).call) w.place) _ h.1).0),
  λ j lt passes. h.3 j lt (learns_new seen lines k j does ∙ passes),
)

-- what a line lets its client learn of
gained_is : (seen : Exposure) (lines : List Line) (newest : ℕ → Option Witness) (k a : ℕ) → k < length lines → is_of a (line_at lines k).client ≡ true
    → ((p : ℕ) → IsHeard seen lines k p (newest p)) → IsKnownBy (new seen lines k) (IsOf lines (suc k) a) lines (gained seen newest k (line_at lines k).call)
gained_is seen lines newest k a lt of are = by (is_learn (kind_of (line_at lines k).call)) (counts seen (kind_of (line_at lines k).call)) refl refl
  where
    by : (learns counted : Bool) → is_learn (kind_of (line_at lines k).call) ≡ learns → counts seen (kind_of (line_at lines k).call) ≡ counted
        → IsKnownBy (new seen lines k) (IsOf lines (suc k) a) lines
        (cond learns (learnt_by k (newest (teller_of (line_at lines k).call))) (cond counted (Some (record { place = k; means = Own })) None))
    by true counted does is = learnt_is seen lines k a (newest (teller_of (line_at lines k).call)) of does (are (teller_of (line_at lines k).call))
    by false true does_not is = (
      lt,
      grind (arith, nat_tests),
      of_one a (line_at lines k).client of,
      λ j l passes. let same = λ (e : k ≡ j). ap (version_in lines) e in grind (arith, nat_tests),
    )
    by false false does_not is = λ j l. let own = λ (e : k ≡ j). ap (counts_at seen lines) e in grind (arith, nat_tests)

-- what each client has heard of by one line more
pub heard_more : (seen : Exposure) (lines : List Line) (newest : ℕ → Option Witness) (k q : ℕ) → k < length lines → ((p : ℕ) → IsHeard seen lines k p (newest p))
    → IsHeard seen lines (suc k) q
    (cond (is_of q (line_at lines k).client) (newer lines (newest q) (gained seen newest k (line_at lines k).call)) (newest q))
heard_more seen lines newest k q lt are =
    let own = is_of q (line_at lines k).client in
    let here = gained seen newest k (line_at lines k).call in
    let old : ℕ → Bool = λ j. has_heard lines k q j && counts_at seen lines j in
    let after : ℕ → Bool = λ j. has_heard lines (suc k) q j && counts_at seen lines j in
    let still : IsKnownBy old (IsOf lines (suc k) q) lines (newest q) =
    as_well old old (IsOf lines k q) (IsOf lines (suc k) q) lines (newest q) (λ j l. refl) (λ by h. stays lines k q by.place by.means h) (are q) in
    elim (cases_Bool own) [
      | inl does ↦
          rw (cond-true own (newer lines (newest q) here) (newest q) does)
          (as_well (λ j. old j || new seen lines k j) after (IsOf lines (suc k) q) (IsOf lines (suc k) q) lines (newer lines (newest q) here) (λ j l. grind arith) (λ by h. h)
          (newer_is old (new seen lines k) (IsOf lines (suc k) q) lines (newest q) here still (gained_is seen lines newest k q lt does are)))
      | inr does_not ↦
          rw (cond-false own (newer lines (newest q) here) (newest q) does_not)
          (as_well old after (IsOf lines (suc k) q) (IsOf lines (suc k) q) lines (newest q) (λ j l. grind arith) (λ by h. h) still)
    ]

-- ---- what a call knows by what its client has heard of

means_is : (margin : ℕ) (lines : List Line) (k a j : ℕ) (means : Means) → (line_at lines k).client ≡ Some a → IsHeardAs lines k a j means → IsMeans margin lines j k means
means_is margin lines k a j means is h = grind arith

pub knows_is : (margin : ℕ) (seen : Exposure) (lines : List Line) (newest : ℕ → Option Witness) (k : ℕ) → ((p : ℕ) → IsHeard seen lines k p (newest p))
    → KnowsOf (lets_know (by_telling lines) seen lines) margin lines k (heard_of newest (line_at lines k).client)
knows_is margin seen lines newest k are = by (line_at lines k).client refl
  where
    by : (o : Option ℕ) → (line_at lines k).client ≡ o → KnowsOf (lets_know (by_telling lines) seen lines) margin lines k (heard_of newest o)
    by None is = λ j lt. ap (λ o. heard_at lines k o j && counts_at seen lines j) is
    by (Some a) is =
        as_well (λ j. has_heard lines k a j && counts_at seen lines j) (lets_know (by_telling lines) seen lines k) (IsOf lines k a)
        (λ (by : Witness). IsMeans margin lines by.place k by.means) lines (newest a)
        (λ j lt. sym (ap (λ o. heard_at lines k o j && counts_at seen lines j) is)) (λ by h. means_is margin lines k a by.place by.means is h) (are a)
