-- How the parts of an audit answer one another. (this product's own)
use Rattle.std.specs.Prelude.{◌≡◌, ℕ, ◌+◌, ◌<◌, ◌≤◌, ◌==◌, Bool, false, if◌then◌else◌, List, [], ◌∷◌, length, take, Option, None, Some, slice_get, slice_index_or, count_by, max}
use Rattle.std.specs.List.{AllByRecursion}
use Rattle.fdb_history.specs.Event.{is_change}
use Rattle.fdb_history.specs.Explained.{placed_in}
use Rattle.fdb_history.specs.Faults.{IsClash, IsGap, IsFirst, IsLeast, IsReached, Nowhere, AtNoPosition, at_position, changes_at, register_at}
use Rattle.fdb_history.specs.Register.{after_report}
use Rattle.fdb_history.specs.declared.auditing.call_fault.CallName.{CallName}
use Rattle.fdb_history.specs.declared.auditing.registers.PlacedChange.{PlacedChange}
use Rattle.fdb_history.specs.declared.auditing.registers.Registers.{Registers}
use Rattle.fdb_history.specs.declared.chain.Issued.{Issued}
use Rattle.fdb_history.specs.declared.auditing.AuditFault.{AuditFault}
use Rattle.fdb_history.specs.declared.auditing.AuditFault.TheVariants.{Clash, Gap, Memory}
use Rattle.fdb_history.specs.declared.log.Call.{Call}
use Rattle.fdb_history.specs.declared.log.ClientLog.{ClientLog}
use Rattle.fdb_history.specs.declared.register.Record.{Record}

-- the first call at which something stands, if it stands at any
abbrev pub IsFirstCall : (ℕ → ℕ → Type 0) → Option CallName → Type 0
IsFirstCall Stands None = Nowhere Stands
IsFirstCall Stands (Some name) = IsFirst Stands name.client name.call

-- the calls of a log before a place have no such fault
abbrev pub NoneBefore : (List Call → Call → Type 0) → List Call → ℕ → Type 0
NoneBefore Fault calls place =
    (p : ℕ) (call : Call) → p < place → slice_get calls p ≡ Some call → Fault (take p calls) call
    → ⊥

-- the first of a log's calls that has a fault, if one has
abbrev pub IsFirstOf : (List Call → Call → Type 0) → List Call → Option ℕ → Type 0
IsFirstOf Fault calls None =
    (p : ℕ) (call : Call) → slice_get calls p ≡ Some call → Fault (take p calls) call → ⊥
IsFirstOf Fault calls (Some place) =
    ((call : Call) × (slice_get calls place ≡ Some call) × Fault (take place calls) call)
    × NoneBefore Fault calls place

-- the least position at which something stands, if it stands at any
abbrev pub IsLeastIfAny : (ℕ → Type 0) → Option ℕ → Type 0
IsLeastIfAny Stands None = AtNoPosition Stands
IsLeastIfAny Stands (Some position) = IsLeast Stands position

-- no number falls below the one before it, from this one on
abbrev pub Rises : {X : Type 0} → (X → ℕ) → ℕ → List X → Type 0
Rises n low [] = Unit {0}
Rises n low (x ∷ xs) = (low ≤ n x) × Rises n (n x) xs

-- the changes stand in the order of their positions
abbrev pub AreByPosition : List PlacedChange → Type 0
AreByPosition changes = Rises (λ (change : PlacedChange). change.position) 0 changes

-- the changes of a list are those of the logs, at each position
abbrev pub AreChangesOf : List ClientLog → List PlacedChange → Type 0
AreChangesOf logs changes = (position : ℕ) → at_position position changes ≡ changes_at logs position

-- the first position that a change shares with the one before it
abbrev pub clash_in : ℕ → List PlacedChange → Option ℕ
clash_in before [] = None
clash_in before (change ∷ changes) =
    if change.position == before then Some before else clash_in change.position changes

-- the first number, from this one on, at which the changes do not stand in turn
abbrev pub missing_in : ℕ → List PlacedChange → ℕ
missing_in next [] = next
missing_in next (change ∷ changes) =
    if change.position == next then missing_in (next + 1) changes else next

-- the register before any change, and then after each change in turn
abbrev pub table_of : Record → List PlacedChange → List Record
table_of current [] = current ∷ []
table_of current (change ∷ changes) = current ∷ table_of (after_report current change.rec) changes

-- the greatest of a position and those of some calls
abbrev pub farthest_in : ℕ → List Call → ℕ
farthest_in far [] = far
farthest_in far (call ∷ calls) = farthest_in (max far call.position) calls

-- the greatest of a position and those of all calls in the logs
abbrev pub farthest : ℕ → List ClientLog → ℕ
farthest far [] = far
farthest far (log ∷ logs) = farthest (farthest_in far log.calls) logs

-- the register at a position, by a table
abbrev pub by_table : Registers → ℕ → Record
by_table registers position = slice_index_or registers.table.items position registers.start

-- the table is right at each position that a call has reached
abbrev pub AreRegisters : Record → List ClientLog → Registers → Type 0
AreRegisters start logs registers =
    (position : ℕ) → IsReached logs position
    → by_table registers position ≡ register_at start logs position

-- the first fault of the changes: two at one position, and then none where one is owed
abbrev pub IsChangeFault : List ClientLog → AuditFault → Type 0
IsChangeFault logs (Clash position) = IsLeast (IsClash logs) position
IsChangeFault logs (Gap position) = AtNoPosition (IsClash logs) × IsLeast (IsGap logs) position
IsChangeFault logs Memory = Unit {0}
IsChangeFault logs _ = ⊥

-- no register call has a position above the number of changes
abbrev pub IsWithin : List ClientLog → Type 0
IsWithin logs =
    AllByRecursion (λ p. p.position ≤ count_by (λ q. is_change q.event) (placed_in 0 logs))
    (placed_in 0 logs)

-- the marks of the chain's entries are the answers of this test
pub record AreMarks
    (chain : List Issued) (marks : List Bool) (test : ℕ → Issued → Bool) : Type 0 where
  pub count : length marks ≡ length chain
  pub each : (place : ℕ) (entry : Issued) → slice_get chain place ≡ Some entry
      → slice_index_or marks place false ≡ test place entry

-- this client has an entry with no mark
abbrev pub HasUnmarked : List Issued → List Bool → ℕ → Type 0
HasUnmarked chain marks client =
    (place : ℕ) × (entry : Issued) × (slice_get chain place ≡ Some entry) × (entry.proxy ≡ client)
    × (slice_index_or marks place false ≡ false)
