-- What an audit answers, by what its parts found.
use Rattle.std.proofs.Common.{◌≡◌, List, Result, Ok, Err, IfOk, IfErr, refl, subst, sym}
use Rattle.fdb_history.specs.Audit.{IsAudited, IsFirstFault, Low}
use Rattle.fdb_history.specs.Faults.{IsFaultless, OutOfOrder, WronglyAnswered, IsClash, IsGap, Nowhere, AtNoPosition}
use Rattle.fdb_history.specs.Linear.{IsLinear}
use Rattle.fdb_history.specs.Strays.{IsStray}
use Rattle.fdb_history.specs.declared.chain.Issued.{Issued}
use Rattle.fdb_history.specs.declared.register.Event.{Event}
use Rattle.fdb_history.specs.declared.register.History.{History}
use Rattle.fdb_history.specs.declared.auditing.AuditFault.{AuditFault}
use Rattle.fdb_history.specs.declared.auditing.AuditFault.TheVariants.{Order, Clash, Gap, Wrong, Stray, NotAbove, Memory}
use Rattle.fdb_history.specs.declared.log.ClientLog.{ClientLog}
use Rattle.fdb_history.specs.declared.register.Record.{Record}
use Rattle.fdb_history.proofs.explained.NoFault.{faultless}
use Rattle.fdb_history.proofs.faultless.Explained.{linear}

-- the parts of a history without a fault
pub no_fault : (start : Record) (logs : List ClientLog) → Nowhere (OutOfOrder logs) → AtNoPosition (IsClash logs) → AtNoPosition (IsGap logs) → Nowhere (WronglyAnswered start logs) → IsFaultless start logs
no_fault start logs order clash gap wrong = record { order = order; clash = clash; gap = gap; wrong = wrong }

-- the history that is answered is linear
pub audited_linear : (start : Record) (chain : List Issued) (logs : List ClientLog) (answer : Result History AuditFault) → IsAudited start chain logs answer
    → IfOk answer (λ history. IsLinear start logs history.events)
audited_linear start chain logs (Ok history) audited = subst (IsLinear start logs) (sym audited.3) (linear start logs audited.0)
audited_linear start chain logs (Err fault) audited = tt

-- of logs that have a linear history, and where nothing is stray or low, memory alone can be refused
fault_of_linear : (start : Record) (chain : List Issued) (logs : List ClientLog) → IsFaultless start logs → Nowhere (IsStray chain logs) → Nowhere (Low start logs)
    → (fault : AuditFault) → IsFirstFault start chain logs fault → fault ≡ Memory
fault_of_linear start chain logs fine no_stray none_low (Order client call) first = absurd (fine.order client call first.stands)
fault_of_linear start chain logs fine no_stray none_low (Clash position) first = absurd (fine.clash position first.1.stands)
fault_of_linear start chain logs fine no_stray none_low (Gap position) first = absurd (fine.gap position first.2.stands)
fault_of_linear start chain logs fine no_stray none_low (Wrong client call) first = absurd (fine.wrong client call first.3.stands)
fault_of_linear start chain logs fine no_stray none_low (Stray client call) first = absurd (no_stray client call first.1.stands)
fault_of_linear start chain logs fine no_stray none_low (NotAbove client call) first = absurd (none_low client call first.2.stands)
fault_of_linear start chain logs fine no_stray none_low Memory first = refl

pub audited_complete : (start : Record) (chain : List Issued) (logs : List ClientLog) (answer : Result History AuditFault) → IsAudited start chain logs answer
    → (history : List Event) → IsLinear start logs history → Nowhere (IsStray chain logs) → Nowhere (Low start logs) → IfErr answer (λ fault. fault ≡ Memory)
audited_complete start chain logs (Ok answered) audited history explains no_stray none_low = tt
audited_complete start chain logs (Err fault) audited history explains no_stray none_low =
    fault_of_linear start chain logs (faultless start logs history explains) no_stray none_low fault audited
