-- Faults that are judged by a table of the register stand where they stand by the register itself.
use Rattle.std.proofs.Common.{◌≡◌, ℕ, ◌-◌, ◌≤◌, true, false, List, Option, None, Some, slice_get, sym, subst, inl, inr, arith}
use Rattle.std.proofs.lemmas.Bool.{cases_lt}
use Rattle.fdb_history.specs.Audit.{IsNotAbove, Low}
use Rattle.fdb_history.specs.private.Auditing.{AreRegisters, IsFirstCall, by_table}
use Rattle.fdb_history.specs.Faults.{OutOfOrder, WronglyAnswered, StandsAt, IsReached, IsMisanswered, IsWrongBy, Nowhere, register_at}
use Rattle.fdb_history.specs.Log.{calls_of}
use Rattle.fdb_history.specs.declared.auditing.call_fault.CallName.{CallName}
use Rattle.fdb_history.specs.declared.auditing.registers.Registers.{Registers}
use Rattle.fdb_history.specs.declared.log.Call.{Call}
use Rattle.fdb_history.specs.declared.log.CallAnswer.{CallAnswer}
use Rattle.fdb_history.specs.declared.log.CallAnswer.TheVariants.{Version, Answered, Acked}
use Rattle.fdb_history.specs.declared.log.ClientLog.{ClientLog}
use Rattle.fdb_history.specs.declared.register.Record.{Record}

-- what stands at the same calls stands first at the same call
pub same_first : (P Q : ℕ → ℕ → Type 0) → ((client call : ℕ) → P client call → Q client call) → ((client call : ℕ) → Q client call → P client call)
    → (found : Option CallName) → IsFirstCall P found → IsFirstCall Q found
same_first P Q to from None none = λ client call stands. none client call (from client call stands)
same_first P Q to from (Some name) first =
    record {
      stands = to name.client name.call first.stands;
      none_before = λ client call comes stands. first.none_before client call comes (from client call stands);
    }

-- two registers that agree where an answer is judged judge it alike
wrong_alike : (f g : ℕ → Record) (position : ℕ) (answer : CallAnswer) → f position ≡ g position → f (position - 1) ≡ g (position - 1) → IsWrongBy f position answer → IsWrongBy g position answer
wrong_alike f g position (Version rec limits locked_out) here before wrong = subst (λ r. rec ≡ r → ⊥) here wrong
wrong_alike f g position (Acked rec raised true) here before wrong = subst (λ (r : Record). IsMisanswered r rec raised true) before wrong
wrong_alike f g position (Acked rec raised false) here before wrong = subst (λ (r : Record). IsMisanswered r rec raised false) here wrong
wrong_alike f g position _ here before wrong = wrong

low_alike : (f g : ℕ → Record) (asked : ℕ) (answer : CallAnswer) → f asked ≡ g asked → IsNotAbove f asked answer → IsNotAbove g asked answer
low_alike f g asked (Version rec limits locked_out) here low = low
low_alike f g asked (Acked rec raised changed) here low = low
low_alike f g asked (Answered issued) here low = subst (λ (r : Record). (issued.fresh ≡ true) × (issued.ordinal ≡ 0 → ⊥) × (issued.version ≤ r.version)) here low
low_alike f g asked _ here low = low

-- what a call has reached
reached : (logs : List ClientLog) (client place : ℕ) (call : Call) (position : ℕ) → slice_get (calls_of logs client) place ≡ Some call → position ≤ call.position → IsReached logs position
reached logs client place call position at below = (client, place, call, at, below)

pub first_wrong : (start : Record) (logs : List ClientLog) (registers : Registers) → AreRegisters start logs registers → (found : Option CallName)
    → IsFirstCall (StandsAt (λ before call. IsWrongBy (by_table registers) call.position call.answer) logs) found → IsFirstCall (WronglyAnswered start logs) found
first_wrong start logs registers right =
    same_first _ _
    (λ client place stands.
    let call = stands.0 in
    let agree = λ (position : ℕ) (below : position ≤ call.position). right position (reached logs client place call position stands.1 below) in
    (call, stands.1, wrong_alike (by_table registers) (register_at start logs) call.position call.answer (agree call.position (omega arith)) (agree (call.position - 1) (omega arith)) stands.2))
    (λ client place stands.
    let call = stands.0 in
    let agree = λ (position : ℕ) (below : position ≤ call.position). right position (reached logs client place call position stands.1 below) in
    (call, stands.1, wrong_alike (register_at start logs) (by_table registers) call.position call.answer (sym (agree call.position (omega arith))) (sym (agree (call.position - 1) (omega arith))) stands.2))

pub first_low : (start : Record) (logs : List ClientLog) (registers : Registers) → Nowhere (OutOfOrder logs) → AreRegisters start logs registers → (found : Option CallName)
    → IsFirstCall (StandsAt (λ before call. IsNotAbove (by_table registers) call.asked call.answer) logs) found → IsFirstCall (Low start logs) found
first_low start logs registers order right =
    same_first _ _
    (λ client place stands.
    let call = stands.0 in
    let agree = right call.asked (reached logs client place call call.asked stands.1 (asked_within client place call stands.1)) in
    (call, stands.1, low_alike (by_table registers) (register_at start logs) call.asked call.answer agree stands.2))
    (λ client place stands.
    let call = stands.0 in
    let agree = right call.asked (reached logs client place call call.asked stands.1 (asked_within client place call stands.1)) in
    (call, stands.1, low_alike (register_at start logs) (by_table registers) call.asked call.answer (sym agree) stands.2))
  where
    asked_within : (client place : ℕ) (call : Call) → slice_get (calls_of logs client) place ≡ Some call → call.asked ≤ call.position
    asked_within client place call at =
        elim (cases_lt call.position call.asked) [
          | inl below ↦ absurd (order client place (call, at, λ forward. omega (arith, forward.1)))
          | inr least ↦ least
        ]
