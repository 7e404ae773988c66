-- What C is told of a whole log: its faults as a list, or what an audit finds as a text.
use Rattle.std.specs.Prelude.{◌≡◌, ◌⊎◌, ℕ, List, Option, None, Some, Result, Ok, Err}
use Rattle.fdb_lines.specs.Audit.{AreExplained, case_of}
use Rattle.fdb_lines.specs.Lines.{Lines}
use Rattle.fdb_lines.specs.declared.fault.Found.{Found}
use Rattle.fdb_lines.specs.declared.log.AuditOpts.{AuditOpts}
use Rattle.fdb_log_reader.specs.declared.error.ReadError.{ReadError}
use Rattle.fdb_c.specs.Audit.{AreFaults, HasNoRoom, IsRefusal, IsToldWhy, IsWritten}
use Rattle.fdb_c.specs.declared.audit.FdbRefused.{FdbRefused}
use Rattle.fdb_c.specs.declared.audit_faults.FdbFault.{FdbFault}
use Rattle.fdb_c.specs.declared.status.TheConstants.{FDB_OK, FDB_MEMORY, FDB_ROOM, FDB_FAULT}

-- The verdict on the log that was read: some history explains it, or its faults were written, or
-- there is no room for them.
pub record IsListed {L : Type 0} (read : Result L ReadError) (lines : L → Lines) (opts : AuditOpts) (old new : List FdbFault) (size status : ℕ)
    : Type 0 where
  pub ok : status ≡ FDB_OK → (log : L) × (read ≡ Ok log) × AreExplained (case_of (lines log) opts) × (new ≡ old) × (size ≡ 0)
  pub fault : status ≡ FDB_FAULT → (log : L) × (read ≡ Ok log) × (¬ (AreExplained (case_of (lines log) opts)))
      × (written : List FdbFault) × AreFaults (lines log) None opts written × IsWritten written old new size
  pub room : status ≡ FDB_ROOM → (log : L) × (read ≡ Ok log) × (¬ (AreExplained (case_of (lines log) opts)))
      × (written : List FdbFault) × AreFaults (lines log) None opts written × HasNoRoom written old new size

-- The same as a text, which says of the log what is found: no fault, or the first.
pub record IsSaid {L : Type 0} (read : Result L ReadError) (Says : L → Option Found → List ℕ → Type 0) (old new : List ℕ) (size status : ℕ)
    : Type 0 where
  pub ok : status ≡ FDB_OK → (log : L) × (read ≡ Ok log)
      × (written : List ℕ) × Says log None written × IsWritten written old new size
  pub fault : status ≡ FDB_FAULT → (log : L) × (read ≡ Ok log)
      × (first : Found) × (written : List ℕ) × Says log (Some first) written × IsWritten written old new size
  pub room : status ≡ FDB_ROOM → (log : L) × (read ≡ Ok log)
      × (first : Option Found) × (written : List ℕ) × Says log first written × HasNoRoom written old new size

-- Why a log is refused is told, and then nothing is written, nor where memory was refused.
pub record IsRefusedAs {L T : Type 0} (read : Result L ReadError) (old new : List T) (size_old size_new : ℕ)
    (refused_old refused_new : FdbRefused) (status : ℕ) : Type 0 where
  pub refused : IsRefusal status → IsToldWhy (λ error. read ≡ Err error) refused_new status
  pub untold : IsRefusal status → (new ≡ old) × (size_new ≡ size_old)
  pub memory : status ≡ FDB_MEMORY → (new ≡ old) × (size_new ≡ size_old)
  pub taken : ¬ IsRefusal status → refused_new ≡ refused_old
  pub statuses : (status ≡ FDB_OK) ⊎ (status ≡ FDB_FAULT) ⊎ (status ≡ FDB_ROOM) ⊎ (status ≡ FDB_MEMORY) ⊎ IsRefusal status
