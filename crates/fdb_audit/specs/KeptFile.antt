-- How the file fails in which lines are kept. (this product's own)
use Rattle.std.specs.Prelude.{◌≡◌, ◌++◌, ℕ, List, Option, None, Some, codes, string_bytes}
use Rattle.clap.specs.Words.{Text}
use Rattle.fdb_command.specs.declared.failure.Access.{Access}
use Rattle.fdb_command.specs.declared.failure.Access.TheVariants as access
use Rattle.fdb_command.specs.declared.failure.Failure.{Failure}
use Rattle.fdb_command.specs.declared.failure.Failure.TheVariants.{Refused, Arguments, Memory, Found, Reading, Writing, OwnFile}
use Rattle.fdb_command.specs.declared.failure.FileFault.{FileFault}
use Rattle.fdb_log_reader.specs.Printed.{shown_text}
use Rattle.fdb_audit.specs.declared.printer.LogFault.{LogFault}
use Rattle.fdb_audit.specs.declared.refusal.LogsRefused.{LogsRefused}

-- the second line on standard error: which file it is, and where it could not be locked, who has it
abbrev pub file_line : Access → Text → List ℕ
file_line access.Reading name = codes "fdb_audit: kept in " ++ shown_text name
file_line access.Writing name = codes "fdb_audit: kept in " ++ shown_text name
file_line access.Locking name = codes "fdb_audit: another watch keeps in " ++ shown_text name

-- a file is the one in which lines are kept, if they are, and it is named
abbrev pub NamesFile : Option Text → FileFault → Type 0
NamesFile None fault = ⊥
NamesFile (Some name) fault = string_bytes fault.line ≡ file_line fault.access name

-- of the files of the program's own no other fails, and it is always named
abbrev pub KeepingFails : Option Text → Failure LogsRefused LogFault → Type 0
KeepingFails file (Refused error) = ⊥
KeepingFails file Arguments = ⊥
KeepingFails file Memory = ⊥
KeepingFails file (Found found) = ⊥
KeepingFails file Reading = ⊥
KeepingFails file Writing = ⊥
KeepingFails file (OwnFile fault) = NamesFile file fault
