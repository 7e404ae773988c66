-- What a program says on standard error of why it ends with another status than 0. (this product's own)
use Rattle.std.specs.Prelude.{ℕ, ◌++◌, ◌∷◌, List, Option, Some, codes, option_map, string_bytes}
use Rattle.fdb_command.specs.declared.failure.Failure.{Failure}
use Rattle.fdb_command.specs.declared.failure.Failure.TheVariants.{Refused, Arguments, Memory, Found, Reading, Writing, OwnFile}
use Rattle.fdb_command.specs.declared.failure.Access.{Access}
use Rattle.fdb_command.specs.declared.failure.Access.TheVariants as access
use Rattle.fdb_command.specs.declared.failure.FileFault.{FileFault}

-- what failed of a file of the program's own, and behind it the line that names the file
abbrev pub access_text : Access → List ℕ
access_text access.Reading = codes "reading failed"
access_text access.Writing = codes "writing failed"
access_text access.Locking = codes "locking failed"

abbrev pub file_text : FileFault → List ℕ
file_text fault = access_text fault.access ++ 10 ∷ string_bytes fault.line

-- behind the program's name, where the texts of what it refuses and of what it finds are known
abbrev pub failure_text : {E F : Type 0} → (E → Option (List ℕ)) → (F → Option (List ℕ)) → Failure E F → Option (List ℕ)
failure_text of_error of_found (Refused error) = of_error error
failure_text of_error of_found Arguments = Some (codes "words refused")
failure_text of_error of_found Memory = Some (codes "want of memory")
failure_text of_error of_found (Found found) = option_map (λ text. codes "audit fault: " ++ text) (of_found found)
failure_text of_error of_found Reading = Some (codes "reading failed")
failure_text of_error of_found Writing = Some (codes "writing failed")
failure_text of_error of_found (OwnFile fault) = Some (file_text fault)
