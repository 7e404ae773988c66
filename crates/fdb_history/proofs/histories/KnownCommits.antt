-- A read never misses a commit that its client knows of.
use Rattle.std.proofs.Common.{◌≡◌, ℕ, zero, suc, ◌<◌, ◌≤◌, ◌==◌, Bool, true, false, IsTrue, List, [], ◌∷◌, map, filter, flat_map, Some, slice_get, refl, sym, ◌∙◌, subst, inl, inr, arith, le_refl, le_trans}
use Rattle.std.specs.List.{AllByRecursion}
use Rattle.std.proofs.lemmas.Grind.{common_steps}
use Rattle.std.proofs.lemmas.Bool.Decides.{nat_tests}
use Rattle.std.proofs.lemmas.Bool.{cases_Bool, cases_lt, eq-eqb, false≢true}
use Rattle.std.proofs.lemmas.Option.{same_Some, none-some}
use Rattle.fdb_history.specs.Faults.{change_in, changes_in, changes_at, register_at, IsWrongAnswer, IsFaultless}
use Rattle.fdb_history.specs.Linear.{IsLinear, NeverGoesBack}
use Rattle.fdb_history.specs.Log.{calls_of, answer_changes}
use Rattle.fdb_history.specs.Register.{changes, after_report, after_reports}
use Rattle.fdb_history.specs.declared.auditing.registers.PlacedChange.{PlacedChange}
use Rattle.fdb_history.specs.declared.register.Event.{Event}
use Rattle.fdb_history.specs.declared.log.TagLimit.{TagLimit}
use Rattle.fdb_history.specs.declared.log.Call.{Call}
use Rattle.fdb_history.specs.declared.log.CallAnswer.TheVariants.{Version, Acked}
use Rattle.fdb_history.specs.declared.log.ClientLog.{ClientLog}
use Rattle.fdb_history.specs.declared.register.Record.{Record}
use Rattle.fdb_history.proofs.histories.AfterReport.{version-at_least, min_known-at_least}
use Rattle.fdb_history.proofs.Lists.{all_parts, all_at, of_client, kept, left_out}
use Rattle.fdb_history.proofs.explained.NoFault.{faultless}
use Rattle.fdb_history.proofs.faultless.Legal.{same_record, answered_so}

-- ---- of lists

-- what holds of each element of the parts in a row holds of each element of each part
all_flat : {X Y : Type 0} (P : Y → Type 0) (parts : X → List Y) (xs : List X) → AllByRecursion P (flat_map parts xs) → AllByRecursion (λ x. AllByRecursion P (parts x)) xs
all_flat P parts [] all = tt
all_flat P parts (x ∷ xs) all = let both = all_parts P (parts x) (flat_map parts xs) all in (both.0, all_flat P parts xs both.1)

-- what holds of each element that is kept holds of each one that passes
all_passing : {X : Type 0} (P : X → Type 0) (keep : X → Bool) (xs : List X) → AllByRecursion P (filter keep xs) → AllByRecursion (λ x. keep x ≡ true → P x) xs
all_passing P keep [] all = tt
all_passing P keep (x ∷ xs) all =
    elim (cases_Bool (keep x)) [
      | inl passes ↦ let both = subst (AllByRecursion P) (kept keep x xs passes) all in (λ again. both.0, all_passing P keep xs both.1)
      | inr fails ↦ (λ passes. absurd (false≢true (sym fails ∙ passes)), all_passing P keep xs (subst (AllByRecursion P) (left_out keep x xs fails) all))
    ]

-- ---- the register at a position

-- neither the version nor the minimum known committed version of one record is above the other's
abbrev pub AtMost : Record → Record → Type 0
AtMost one other = (one.version ≤ other.version) × (one.min_known ≤ other.min_known)

AtMost-refl : (rec : Record) → AtMost rec rec
AtMost-refl rec = (le_refl rec.version, le_refl rec.min_known)

AtMost-trans : (a b c : Record) → AtMost a b → AtMost b c → AtMost a c
AtMost-trans a b c first second = (le_trans first.0 second.0, le_trans first.1 second.1)

after_report-found : (current rec : Record) → AtMost current (after_report current rec)
after_report-found current rec = ((version-at_least current rec).0, (min_known-at_least current rec).0)

after_report-told : (current rec : Record) → AtMost rec (after_report current rec)
after_report-told current rec = ((version-at_least current rec).1, (min_known-at_least current rec).1)

-- reports leave at least what they found
after_reports-at_least : (current : Record) (reports : List Record) → AtMost current (after_reports current reports)
after_reports-at_least current [] = AtMost-refl current
after_reports-at_least current (rec ∷ reports) =
    AtMost-trans current (after_report current rec) (after_reports (after_report current rec) reports)
    (after_report-found current rec) (after_reports-at_least (after_report current rec) reports)

abbrev records : List PlacedChange → List Record
records changes = map (λ change. change.rec) changes

-- and at least what each reported
each_at_most : (current : Record) (changes : List PlacedChange) → AllByRecursion (λ change. AtMost change.rec (after_reports current (records changes))) changes
each_at_most current [] = tt
each_at_most current (change ∷ changes) = (
  AtMost-trans change.rec (after_report current change.rec) (after_reports (after_report current change.rec) (records changes))
      (after_report-told current change.rec) (after_reports-at_least (after_report current change.rec) (records changes)),
  each_at_most (after_report current change.rec) changes,
)

-- the register does not fall from a position to a later one
register_at-in_order : (start : Record) (logs : List ClientLog) (earlier later : ℕ) → earlier ≤ later → AtMost (register_at start logs earlier) (register_at start logs later)
register_at-in_order start logs zero zero order = AtMost-refl start
register_at-in_order start logs (suc earlier) zero order = absurd (omega arith)
register_at-in_order start logs earlier (suc later) order =
    elim (cases_lt later earlier) [
      | inl beyond ↦ let same : earlier ≡ suc later = omega arith in subst (λ p. AtMost (register_at start logs earlier) (register_at start logs p)) same (AtMost-refl (register_at start logs earlier))
      | inr within ↦
          AtMost-trans (register_at start logs earlier) (register_at start logs later) (register_at start logs (suc later))
          (register_at-in_order start logs earlier later within) (after_reports-at_least (register_at start logs later) (records (changes_at logs (suc later))))
    ]

-- what holds of each change at a position holds of each acknowledgement in the logs that changed there
of_change : (P : PlacedChange → Type 0) (logs : List ClientLog) (client place : ℕ) (call : Call) (rec : Record) (raised : Bool) → AllByRecursion P (changes_at logs call.position)
    → slice_get (calls_of logs client) place ≡ Some call → call.answer ≡ Acked rec raised true → P (record { position = call.position; rec = rec })
of_change P logs client place call rec raised all at is =
    let Q : PlacedChange → Type 0 = λ change. (change.position == call.position) ≡ true → P change in
    let each = all_flat Q (λ log. flat_map (λ c. change_in c.position c.answer) log.calls) logs (all_passing P (λ change. change.position == call.position) (changes_in logs) all) in
    let own = of_client (λ calls. AllByRecursion Q (flat_map (λ c. change_in c.position c.answer) calls)) tt logs client each in
    let here = all_at (λ c. AllByRecursion Q (change_in c.position c.answer)) (calls_of logs client) place call (all_flat Q (λ c. change_in c.position c.answer) (calls_of logs client) own) at in
    (subst (λ answer. AllByRecursion Q (change_in call.position answer)) is here).0 (eq-eqb call.position call.position refl)

-- each change at a position is at most the register there
below_register : (start : Record) (logs : List ClientLog) (position : ℕ) → 1 ≤ position
    → AllByRecursion (λ change. AtMost change.rec (register_at start logs position)) (changes_at logs position)
below_register start logs zero least = absurd (omega arith)
below_register start logs (suc position) least = each_at_most (register_at start logs position) (changes_at logs (suc position))

-- ---- the order of a log

-- a call of a log begins at least where the log did
begins : (before : ℕ) (calls : List Call) (place : ℕ) (call : Call) → NeverGoesBack before calls → slice_get calls place ≡ Some call → before ≤ call.asked
begins before [] place call forward at = absurd (none-some call at)
begins before (first ∷ calls) zero call forward at = subst (λ (c : Call). before ≤ c.asked) (same_Some first call at) forward.0.0
begins before (first ∷ calls) (suc place) call forward at =
    let rest = begins first.position calls place call forward.1 at in let least = forward.0.0 in let most = forward.0.1 in omega arith

-- a call begins at least where each earlier one ended
follows : (before : ℕ) (calls : List Call) (earlier later : ℕ) (one other : Call) → NeverGoesBack before calls
    → slice_get calls earlier ≡ Some one → slice_get calls later ≡ Some other → earlier < later → one.position ≤ other.asked
follows before [] earlier later one other forward at_one at_other order = absurd (none-some one at_one)
follows before (first ∷ calls) zero zero one other forward at_one at_other order = absurd (omega arith)
follows before (first ∷ calls) zero (suc later) one other forward at_one at_other order =
    subst (λ (c : Call). c.position ≤ other.asked) (same_Some first one at_one) (begins first.position calls later other forward.1 at_other)
follows before (first ∷ calls) (suc earlier) zero one other forward at_one at_other order = absurd (omega arith)
follows before (first ∷ calls) (suc earlier) (suc later) one other forward at_one at_other order =
    follows first.position calls earlier later one other forward.1 at_one at_other (omega arith)

-- the same of a client's calls, where a history explains the logs
pub follows_in : (start : Record) (logs : List ClientLog) (history : List Event) → IsLinear start logs history → (client earlier later : ℕ) (one other : Call)
    → slice_get (calls_of logs client) earlier ≡ Some one → slice_get (calls_of logs client) later ≡ Some other → earlier < later → one.position ≤ other.asked
follows_in start logs history linear client earlier later one other =
    follows 0 (calls_of logs client) earlier later one other (of_client (NeverGoesBack 0) tt logs client linear.ordered)

-- ---- commits that a client knows of

-- no call ends before it began
ends_later : (start : Record) (logs : List ClientLog) → IsFaultless start logs → (client place : ℕ) (call : Call) → slice_get (calls_of logs client) place ≡ Some call → call.asked ≤ call.position
ends_later start logs fine client place call at =
    elim (cases_lt call.position call.asked) [
      | inl short ↦ absurd (fine.order client place (call, at, λ forward. omega (arith, forward.1)))
      | inr enough ↦ enough
    ]

-- a report that would not change a record is of no more than that
no_more : (current rec : Record) → changes current rec ≡ false → AtMost rec current
no_more current rec stays = grind (arith, common_steps, nat_tests)

-- the register at an acknowledgement's position has at least what was reported
acknowledged : (start : Record) (logs : List ClientLog) → IsFaultless start logs → (client place : ℕ) (call : Call) (rec : Record) (raised changed : Bool)
    → slice_get (calls_of logs client) place ≡ Some call → call.answer ≡ Acked rec raised changed → AtMost rec (register_at start logs call.position)
acknowledged start logs fine client place call rec raised true at is =
    let ends = ends_later start logs fine client place call at in
    let changes : IsTrue (answer_changes call.answer) = subst (λ answer. IsTrue (answer_changes answer)) (sym is) refl in
    elim (cases_lt 0 call.position) [
      | inl beyond ↦
          of_change (λ change. AtMost change.rec (register_at start logs call.position)) logs client place call rec raised (below_register start logs call.position beyond) at is
      | inr none ↦ absurd (fine.order client place (call, at, λ forward. omega (arith, forward.2 changes)))
    ]
acknowledged start logs fine client place call rec raised false at is =
    let register = register_at start logs call.position in
    let right = answered_so register rec raised false (λ wrong. fine.wrong client place (call, at, subst (IsWrongAnswer start logs call.position) (sym is) wrong)) in
    no_more register rec (sym right.1)

-- a read is of the register at its position
read_there : (start : Record) (logs : List ClientLog) → IsFaultless start logs → (client place : ℕ) (call : Call) (rec : Record) (limits : List TagLimit) (locked_out : Bool)
    → slice_get (calls_of logs client) place ≡ Some call → call.answer ≡ Version rec limits locked_out → rec ≡ register_at start logs call.position
read_there start logs fine client place call rec limits locked_out at is =
    same_record rec (register_at start logs call.position) (λ apart. fine.wrong client place (call, at, subst (IsWrongAnswer start logs call.position) (sym is) apart))

-- a read that begins at least where a commit was acknowledged has at least what was reported
pub known : (start : Record) (logs : List ClientLog) (history : List Event) (writer reader committed place : ℕ) (commit read : Call) (reported seen : Record) (raised changed locked_out : Bool) (limits : List TagLimit)
    → IsLinear start logs history → slice_get (calls_of logs writer) committed ≡ Some commit → commit.answer ≡ Acked reported raised changed
    → slice_get (calls_of logs reader) place ≡ Some read → read.answer ≡ Version seen limits locked_out → commit.position ≤ read.asked → AtMost reported seen
known start logs history writer reader committed place commit read reported seen raised changed locked_out limits linear at_commit is_commit at_read is_read order =
    let fine = faultless start logs history linear in
    let least = acknowledged start logs fine writer committed commit reported raised changed at_commit is_commit in
    let ends = ends_later start logs fine reader place read at_read in
    let risen = register_at-in_order start logs commit.position read.position (omega arith) in
    let same = read_there start logs fine reader place read seen limits locked_out at_read is_read in
    AtMost-trans reported (register_at start logs commit.position) seen least
    (subst (AtMost (register_at start logs commit.position)) (sym same) risen)
