-- How a log that is followed stops the program, and what is read of a text that keeps lines. (this product's own)
use Rattle.std.specs.Prelude.{◌≡◌, ◌⊎◌, Option, Some, is_some, true, ⊤}
use Rattle.clap.specs.Words.{Text}
use Rattle.fdb_log_reader.specs.ReadLine.{SaidLine}
use Rattle.fdb_audit.specs.declared.kept.KeptAs.{KeptAs}
use Rattle.fdb_audit.specs.Kept.{number_kept, says_many}
use Rattle.fdb_audit.specs.KeptFile.{KeepingFails, NamesFile}
use Rattle.fdb_command.specs.declared.failure.Failure.{Failure}
use Rattle.fdb_command.specs.declared.failure.Failure.TheVariants.{Refused, Arguments, Memory, Found, Reading, Writing, OwnFile}
use Rattle.fdb_audit.specs.declared.printer.LogFault.{LogFault}
use Rattle.fdb_audit.specs.declared.refusal.LogsRefused.{LogsRefused}
use Rattle.fdb_audit.specs.declared.refusal.LogsRefused.TheVariants.{Early, Kept, Log}

-- memory was refused, or the file in which lines are kept failed
abbrev pub MayFail : Option Text → Failure LogsRefused LogFault → Type 0
MayFail file fault = (fault ≡ Memory) ⊎ KeepingFails file fault

-- or the lines that it has are refused
abbrev pub MayStop : Option Text → Failure LogsRefused LogFault → Type 0
MayStop file (Refused (Log error)) = ⊥
MayStop file (Refused (Early line)) = ⊥
MayStop file (Refused (Kept refused)) = is_some file ≡ true
MayStop file Arguments = ⊥
MayStop file Memory = ⊤
MayStop file (Found found) = ⊥
MayStop file Reading = ⊥
MayStop file Writing = ⊥
MayStop file (OwnFile fault) = NamesFile file fault

-- a line says that it is kept as this
pub record IsKeptAs (kept : KeptAs) (said : SaidLine) : Type 0 where
  pub line : number_kept 0 said ≡ Some kept.line
  pub read : number_kept 1 said ≡ Some kept.read
  pub settled : number_kept 2 said ≡ kept.settled
  pub many : kept.are_many ≡ says_many said
