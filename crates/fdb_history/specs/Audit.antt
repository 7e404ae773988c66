-- What an audit answers. (this product's own)
use Rattle.std.specs.Prelude.{◌≡◌, ◌≤◌, ◌≢◌, ℕ, true, List, Result, Ok, Err}
use Rattle.fdb_history.specs.Explained.{explained}
use Rattle.fdb_history.specs.Faults.{IsFaultless, OutOfOrder, WronglyAnswered, IsClash, IsGap, StandsAt, IsFirst, IsLeast, Nowhere, AtNoPosition, register_at}
use Rattle.fdb_history.specs.Strays.{IsStray}
use Rattle.fdb_history.specs.declared.chain.Issued.{Issued}
use Rattle.fdb_history.specs.declared.register.History.{History}
use Rattle.fdb_history.specs.declared.auditing.AuditFault.{AuditFault}
use Rattle.fdb_history.specs.declared.auditing.AuditFault.TheVariants.{Order, Clash, Gap, Wrong, Stray, NotAbove, Memory}
use Rattle.fdb_history.specs.declared.log.CallAnswer.{CallAnswer}
use Rattle.fdb_history.specs.declared.log.CallAnswer.TheVariants.{Version, Answered, Acked, Told, Refused}
use Rattle.fdb_history.specs.declared.log.ClientLog.{ClientLog}
use Rattle.fdb_history.specs.declared.register.Record.{Record}

-- A drawn version is not above what its asker had seen. The first of the chain is left out, and the
-- register is given at each position.
abbrev pub IsNotAbove : (ℕ → Record) → ℕ → CallAnswer → Type 0
IsNotAbove register asked (Answered issued) =
    (issued.fresh ≡ true) × (issued.ordinal ≢ 0) × (issued.version ≤ (register asked).version)
IsNotAbove register asked (Version rec limits locked_out) = ⊥
IsNotAbove register asked (Acked rec raised changed) = ⊥
IsNotAbove register asked Told = ⊥
IsNotAbove register asked (Refused cause) = ⊥

-- The calls whose drawn versions are not above what they had seen.
abbrev pub Low : Record → List ClientLog → ℕ → ℕ → Type 0
Low start logs =
    StandsAt (λ before call. IsNotAbove (register_at start logs) call.asked call.answer) logs

-- The fault is the first that stands, by kind and place. None of an earlier kind does, and it is
-- the first of its kind. Memory may run out at any time.
abbrev pub IsFirstFault : Record → List Issued → List ClientLog → AuditFault → Type 0
IsFirstFault start chain logs (Order client call) = IsFirst (OutOfOrder logs) client call
IsFirstFault start chain logs (Clash position) =
    Nowhere (OutOfOrder logs) × IsLeast (IsClash logs) position
IsFirstFault start chain logs (Gap position) =
    Nowhere (OutOfOrder logs) × AtNoPosition (IsClash logs) × IsLeast (IsGap logs) position
IsFirstFault start chain logs (Wrong client call) =
    Nowhere (OutOfOrder logs) × AtNoPosition (IsClash logs) × AtNoPosition (IsGap logs)
    × IsFirst (WronglyAnswered start logs) client call
IsFirstFault start chain logs (Stray client call) =
    IsFaultless start logs × IsFirst (IsStray chain logs) client call
IsFirstFault start chain logs (NotAbove client call) =
    IsFaultless start logs × Nowhere (IsStray chain logs) × IsFirst (Low start logs) client call
IsFirstFault start chain logs Memory = Unit {0}

-- Where no fault stands, the answer is the history of the logs in the fixed order.
abbrev pub IsAudited : Record → List Issued → List ClientLog → Result History AuditFault → Type 0
IsAudited start chain logs (Ok history) =
    IsFaultless start logs × Nowhere (IsStray chain logs) × Nowhere (Low start logs)
    × (history.events ≡ explained logs)
IsAudited start chain logs (Err fault) = IsFirstFault start chain logs fault
