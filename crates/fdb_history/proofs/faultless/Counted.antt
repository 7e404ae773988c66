-- How far the calls of the logs have come, and how many changes there are where each position so far has one.
use Rattle.std.proofs.Common.{◌≡◌, ℕ, zero, suc, ◌+◌, ◌<◌, ◌≤◌, ◌==◌, ◌&&◌, max, Bool, true, false, IsTrue, leb, cond, List, [], ◌∷◌, ◌++◌, length, filter, flat_map, slice_get, Some, count_by, refl, ap, sym, ◌∙◌, inl, inr, arith, le_refl}
use Rattle.std.specs.List.{AllByRecursion}
use Rattle.std.proofs.lemmas.Bool.{le-leb, ne_eqb, cases_lt, cases_order}
use Rattle.std.proofs.lemmas.Bool.Decides.{nat_tests}
use Rattle.std.proofs.lemmas.List.Elements.{filter-append, filter_agree}
use Rattle.std.proofs.lemmas.List.Sums.{length-filter}
use Rattle.fdb_history.specs.Event.{is_change}
use Rattle.fdb_history.specs.Faults.{at_position, change_in, changes_at, OutOfOrder, IsReached, Nowhere}
use Rattle.fdb_history.specs.Log.{calls_of, answer_changes}
use Rattle.fdb_history.specs.private.Auditing.{farthest_in, farthest}
use Rattle.fdb_history.specs.declared.auditing.registers.PlacedChange.{PlacedChange}
use Rattle.fdb_history.specs.declared.register.Placed.{Placed}
use Rattle.fdb_history.specs.declared.log.Call.{Call}
use Rattle.fdb_history.specs.declared.log.CallAnswer.{CallAnswer}
use Rattle.fdb_history.specs.declared.log.CallAnswer.TheVariants.{Acked}
use Rattle.fdb_history.specs.declared.log.ClientLog.{ClientLog}
use Rattle.fdb_history.proofs.Lists.{all_at, of_client, adds}
use Rattle.fdb_history.proofs.faultless.Logs.{every_in, every_log}
use Rattle.fdb_history.proofs.faultless.Ranks.{changes_to}

-- ---- how far the calls have come

far_in-least : (far : ℕ) (calls : List Call) → far ≤ farthest_in far calls
far_in-least far [] = le_refl far
far_in-least far (call ∷ calls) = let more = far_in-least (max far call.position) calls in omega arith

far-least : (far : ℕ) (logs : List ClientLog) → far ≤ farthest far logs
far-least far [] = le_refl far
far-least far (log ∷ logs) = let first = far_in-least far log.calls in let more = far-least (farthest_in far log.calls) logs in omega arith

-- no call has come farther
far_in-most : (far most : ℕ) (calls : List Call) → farthest_in far calls ≤ most → AllByRecursion (λ call. call.position ≤ most) calls
far_in-most far most [] within = tt
far_in-most far most (call ∷ calls) within = let least = far_in-least (max far call.position) calls in (omega arith, far_in-most (max far call.position) most calls within)

pub far-most : (far most : ℕ) (logs : List ClientLog) → farthest far logs ≤ most → AllByRecursion (λ log. AllByRecursion (λ call. call.position ≤ most) log.calls) logs
far-most far most [] within = tt
far-most far most (log ∷ logs) within =
    let least = far-least (farthest_in far log.calls) logs in (far_in-most far most log.calls (omega arith), far-most (farthest_in far log.calls) most logs within)

pub far-above : (logs : List ClientLog) (position : ℕ) → IsReached logs position → position ≤ farthest 0 logs
far-above logs position (client, place, call, at, most) =
    let P : Call → Type 0 = λ call. call.position ≤ farthest 0 logs in
    let within = all_at P (calls_of logs client) place call (of_client (AllByRecursion P) tt logs client (far-most 0 (farthest 0 logs) logs (le_refl (farthest 0 logs)))) at in
    omega arith

-- and some call has come so far
far_in-reached : (far : ℕ) (calls : List Call) → far < farthest_in far calls → (place : ℕ) × (call : Call) × (slice_get calls place ≡ Some call) × (farthest_in far calls ≤ call.position)
far_in-reached far [] more = absurd (omega arith)
far_in-reached far (call ∷ calls) more =
    elim (cases_lt (max far call.position) (farthest_in (max far call.position) calls)) [
      | inl later ↦ let is = far_in-reached (max far call.position) calls later in (suc is.0, is.1, is.2, is.3)
      | inr here ↦ (0, call, refl, omega arith)
    ]

pub far-reached : (far : ℕ) (logs : List ClientLog) → far < farthest far logs → IsReached logs (farthest far logs)
far-reached far [] more = absurd (omega arith)
far-reached far (log ∷ logs) more =
    elim (cases_lt (farthest_in far log.calls) (farthest (farthest_in far log.calls) logs)) [
      | inl later ↦ let is = far-reached (farthest_in far log.calls) logs later in (suc is.0, is.1, is.2, is.3, is.4)
      | inr here ↦ let is = far_in-reached far log.calls (omega arith) in (0, is.0, is.1, is.2, omega (arith, is.3))
    ]

-- ---- no change stands at 0

-- where none of the parts of a list passes, none of the whole does
filter-flat_none : {X : Type 0} (f : X → List PlacedChange) (xs : List X) → AllByRecursion (λ x. at_position 0 (f x) ≡ []) xs → at_position 0 (flat_map f xs) ≡ []
filter-flat_none f [] each = refl
filter-flat_none f (x ∷ xs) each =
    filter-append (λ change. change.position == 0) (f x) (flat_map f xs) ∙ ap (λ l. l ++ at_position 0 (flat_map f xs)) each.0 ∙ filter-flat_none f xs each.1

zero-call : (position : ℕ) (answer : CallAnswer) → (IsTrue (answer_changes answer) → 1 ≤ position) → at_position 0 (change_in position answer) ≡ []
zero-call position (Acked rec raised true) least = let above = least refl in rw (ne_eqb position 0 (λ same. omega arith))
zero-call position _ least = refl

-- Where no call is out of order, no change stands at 0.
pub none-at-zero : (logs : List ClientLog) → Nowhere (OutOfOrder logs) → changes_at logs 0 ≡ []
none-at-zero logs order =
    let changes : Call → List PlacedChange = λ call. change_in call.position call.answer in
    filter-flat_none (λ log. flat_map changes log.calls) logs (every_log (λ calls. at_position 0 (flat_map changes calls) ≡ []) logs (λ client.
    filter-flat_none changes (calls_of logs client) (every_in (λ call. at_position 0 (changes call) ≡ []) (calls_of logs client) (λ place call at.
    zero-call call.position call.answer (λ up. elim (cases_order call.position call.asked) [
      | inl same ↦ absurd (order client place (call, at, λ forward. omega (arith, forward.2 up)))
      | inr (inl below) ↦ absurd (order client place (call, at, λ forward. omega (arith, forward.1)))
      | inr (inr above) ↦ omega arith
    ])))))

-- ---- how many changes there are

-- what passes one of two tests that never pass together passes a third
split : (f g h : Placed → Bool) → ((p : Placed) → cond (f p) 1 0 ≡ cond (g p) 1 0 + cond (h p) 1 0) → (all : List Placed) → length (filter f all) ≡ length (filter g all) + length (filter h all)
split f g h each [] = refl
split f g h each (p ∷ all) = omega (arith, each p, adds f p all, adds g p all, adds h p all, split f g h each all)

-- whether an event is a change at this position or below
abbrev up_to : ℕ → Placed → Bool
up_to position p = leb p.position position && is_change p.event

-- one change at each position so far
module _ (n : ℕ) (all : List Placed) (none : changes_to 0 all ≡ []) (each : (position : ℕ) → 1 ≤ position → position ≤ n → length (changes_to position all) ≡ 1) where
  changes_up_to : (k : ℕ) → k ≤ n → length (filter (up_to k) all) ≡ k
  changes_up_to zero within = ap length (filter_agree (up_to 0) (λ p. is_change p.event && (p.position == 0)) (λ p. by p.position (is_change p.event)) all ∙ none)
    where
      by : (m : ℕ) (up : Bool) → (leb m 0 && up) ≡ (up && (m == 0))
      by m true = grind (arith, nat_tests)
      by m false = grind (arith, nat_tests)
  changes_up_to (suc k) within =
      omega (
        arith,
        changes_up_to k (omega arith),
        each (suc k) (omega arith) within,
        split (up_to (suc k)) (up_to k) (λ p. is_change p.event && (p.position == suc k)) (λ p. by p.position (is_change p.event)) all,
      )
    where
      by : (m : ℕ) (up : Bool) → cond (leb m (suc k) && up) 1 0 ≡ cond (leb m k && up) 1 0 + cond (up && (m == suc k)) 1 0
      by m true = grind (arith, nat_tests)
      by m false = grind (arith, nat_tests)

  -- there are as many where no event is beyond
  pub changes-counted : AllByRecursion (λ p. p.position ≤ n) all → n ≡ count_by (λ p. is_change p.event) all
  changes-counted within = sym (changes_up_to n (le_refl n)) ∙ ap length (whole all within) ∙ length-filter (λ p. is_change p.event) all
    where
      whole : (xs : List Placed) → AllByRecursion (λ p. p.position ≤ n) xs → filter (up_to n) xs ≡ filter (λ p. is_change p.event) xs
      whole [] within = refl
      whole (p ∷ xs) within = rw (le-leb p.position n within.0) (ap (λ l. cond (is_change p.event) (p ∷ l) l) (whole xs within.1))
