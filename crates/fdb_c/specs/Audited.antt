-- What an audit is that takes a log piece by piece, and what it finds. (this product's own)
use Rattle.std.specs.Prelude.{◌≡◌, ◌≢◌, ◌⊎◌, ℕ, ◌++◌, Bool, true, false, List, [], Option, None, Some, Result, Ok, Err}
use Rattle.fdb_lines.specs.declared.fault.Found.{Found}
use Rattle.fdb_log_reader.specs.Reader.{reads_on}
use Rattle.fdb_log_reader.specs.Reading.{Reading, reading_with}
use Rattle.fdb_log_reader.specs.declared.reader.LogReader.{LogReader}
use Rattle.fdb_log_reader.specs.declared.error.ReadError.{ReadError}
use Rattle.fdb_audit.specs.Judged.{IsTextOfReading, keys_of_lines}
use Rattle.fdb_c.specs.Audit.{Asked, AreFaults}
use Rattle.fdb_c.specs.declared.audit_faults.FdbFault.{FdbFault}
use Rattle.fdb_c.specs.declared.status.TheConstants.{FDB_OK, FDB_FAULT}

-- What it was asked for, the bytes that have come, what was found once the log had ended, as a text and as faults, and whether
-- it is over: its log has ended or was refused, or memory was.
pub record AuditState : Type 0 where
  pub asked : Asked
  pub bytes : List ℕ
  pub text : List ℕ
  pub faults : List FdbFault
  pub is_over : Bool

abbrev pub new_audit : Asked → AuditState
new_audit asked = record { asked = asked; bytes = []; text = []; faults = []; is_over = false }

-- more bytes have come
abbrev pub fed : AuditState → List ℕ → AuditState
fed audit bytes = record audit { bytes = audit.bytes ++ bytes }

-- nothing can come any more
abbrev pub over : AuditState → AuditState
over audit = record audit { is_over = true }

-- What is found of what was read: no fault, exactly where some history explains the lines, or those of each key, or the first;
-- the text that says so, and all faults.
pub record IsFoundOf (reading : Reading) (asked : Asked) (first : Option Found) (text : List ℕ) (faults : List FdbFault) : Type 0 where
  pub says : IsTextOfReading reading asked.opts asked.wanted first text
  pub lists : AreFaults reading.log (keys_of_lines reading.keys) asked.opts faults

-- what a text stands for, with the keys and the members that are asked for
abbrev pub reading_by : Asked → List ℕ → Result Reading ReadError
reading_by asked bytes = reading_with asked.key asked.shown None bytes

-- The audit is over, and has found something.
abbrev pub IsEnded : AuditState → AuditState → Type 0
IsEnded before after = after ≡ record before { text = after.text; faults = after.faults; is_over = true }

-- It is what is found of the log that has come.
pub record HasFound (audit : AuditState) (first : Option Found) : Type 0 where
  pub reading : Reading
  pub stands : reading_by audit.asked audit.bytes ≡ Ok reading
  pub found : IsFoundOf reading audit.asked first audit.text audit.faults

-- A fault is found of it.
pub record HasFoundFault (audit : AuditState) : Type 0 where
  pub first : Found
  pub found : HasFound audit (Some first)

-- a reader has read these bytes: it reads on with whatever text comes after them
abbrev pub ReadsOn : Asked → List ℕ → LogReader → Type 0
ReadsOn asked bytes reader = (text : List ℕ) → reads_on reader text ≡ reading_by asked (bytes ++ text)

-- The log is refused for this, whatever comes after the bytes that have come.
abbrev pub IsRefusedFor : AuditState → List ℕ → ReadError → Type 0
IsRefusedFor audit bytes error = (text : List ℕ) → reading_by audit.asked (audit.bytes ++ (bytes ++ text)) ≡ Err error

-- The log has ended: something is found, or the audit is over without.
pub record HasEnded (before after : AuditState) (status : ℕ) : Type 0 where
  pub found : (status ≡ FDB_OK) ⊎ (status ≡ FDB_FAULT) → IsEnded before after
  pub ends : status ≢ FDB_OK → status ≢ FDB_FAULT → after ≡ over before

-- The verdict on it.
pub record IsVerdict (audit : AuditState) (status : ℕ) : Type 0 where
  pub ok : status ≡ FDB_OK → HasFound audit None
  pub fault : status ≡ FDB_FAULT → HasFoundFault audit
