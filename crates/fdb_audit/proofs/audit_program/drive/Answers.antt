use Rattle.std.proofs.Common.{◌≡◌, ◌++◌, ◌∙◌, ℕ, false, List, [], IfSome, MatchResult, None, Option, Some, Ok, Err, Result, ap, is_some, map, refl, string_bytes, subst, sym}
use Rattle.std.proofs.lemmas.Bool.{false≢true}
use Rattle.std.proofs.lemmas.Result.{IfOk-weaker}
use Rattle.clap.specs.Words.{Text}
use Rattle.fdb_command.specs.Driving.{MayAnswer, RefusesWhole, Stops, TellsNothing}
use Rattle.fdb_command.specs.declared.failure.Failure.{Failure}
use Rattle.fdb_command.specs.declared.program.Output.{Output}
use Rattle.fdb_audit.specs.Program.{HasTaken, AskFor, IsWhole, PrintsBy, RefusesBy, audit}
use Rattle.fdb_audit.specs.declared.arguments.AuditArguments.{AuditArguments}
use Rattle.fdb_audit.specs.declared.printer.LogFault.{LogFault}
use Rattle.fdb_audit.specs.declared.audit_program.AuditIntake.{AuditIntake}
use Rattle.fdb_audit.specs.declared.audit_program.AuditIntake.TheVariants.{Followed, Whole}
use Rattle.fdb_audit.specs.declared.refusal.LogsRefused.{LogsRefused}
use Rattle.fdb_audit.specs.declared.refusal.LogsRefused.TheVariants.{Early, Kept, Log}
use Rattle.fdb_audit.proofs.Refusing.{not_both, not_kept}
use Rattle.fdb_audit.proofs.audit_program.drive.Goals as goal

is_none : {X : Type 0} (it : Option X) → is_some it ≡ false → it ≡ None
is_none None is = refl
is_none (Some x) is = absurd (false≢true (sym is))

-- what is refused of what is printed so is refused so
part_refused : (follow : Option ℕ) (asked : AuditArguments) (bytes text : List ℕ) (found : Option LogFault) (refused : Option LogsRefused)
    → PrintsBy follow asked bytes text found refused → IfSome refused (RefusesBy follow asked bytes)
part_refused follow asked bytes text found None is = tt
part_refused None asked bytes text found (Some error) is = absurd (not_both error is.1)
part_refused (Some behind) asked bytes text found (Some (Log error)) printed = (text, found, printed)
part_refused (Some behind) asked bytes text found (Some (Early number)) printed = (text, found, printed)
part_refused (Some behind) asked bytes text found (Some (Kept error)) (kept, more, for, left, last, printed, is) = absurd (not_kept left last error is)

refused_so : (arguments : List Text) (asked : AuditArguments) (bytes : List ℕ) (refused : Option LogsRefused) → AskFor arguments asked
    → IfSome refused (RefusesBy asked.follow asked bytes) → IfSome refused (audit.refuses arguments bytes)
refused_so arguments asked bytes None is refuses = tt
refused_so arguments asked bytes (Some error) is refuses = (asked, is, refuses)

-- what was judged or told as the flags say is what the program promises to print
promised : (arguments : List Text) (asked : AuditArguments) (bytes told : List ℕ) (made : Result (Output LogsRefused LogFault) (Failure LogsRefused LogFault)) → AskFor arguments asked
    → MatchResult made (λ answer. PrintsBy asked.follow asked bytes (told ++ answer.text.items) answer.found answer.refused × (asked.follow ≡ None → answer.warnings.items ≡ [])) (Stops audit arguments bytes)
    → MatchResult made (MayAnswer audit arguments bytes told) (Stops audit arguments bytes)
promised arguments asked bytes told (Ok answer) is judged = (
  (asked, is, judged.0),
  refused_so arguments asked bytes answer.refused is (part_refused asked.follow asked bytes (told ++ answer.text.items) answer.found answer.refused judged.0),
  λ quiet. judged.1 (is_none asked.follow (ap is_some is.follow ∙ quiet)),
)
promised arguments asked bytes told (Err fault) is stops = stops

pub drive-requires-clause-promised : goal.drive-requires-clause-promised
drive-requires-clause-promised g c = λ arguments asked intake bytes told made is has answers. promised arguments asked bytes told made is (answers arguments bytes told is has)

-- of a log that is not followed nothing is told before its end, and it is refused whole
nothing_told : (asked : AuditArguments) (intake : AuditIntake) (bytes told : List ℕ) → asked.follow ≡ None → HasTaken asked intake bytes told → told ≡ []
nothing_told asked (Whole reader) bytes told whole taken = taken.2
nothing_told asked (Followed follower) bytes told whole taken = absurd (not_both taken.0 (sym taken.1 ∙ whole))

tells_nothing : (arguments : List Text) → IsWhole arguments → TellsNothing audit arguments
tells_nothing arguments whole = λ asked intake bytes told is taken. nothing_told asked intake bytes told (is.follow ∙ whole) taken

refuses_whole : (arguments : List Text) → IsWhole arguments → RefusesWhole audit arguments
refuses_whole arguments whole = λ bytes text found error prints.
    not_both error (subst (λ follow. PrintsBy follow prints.0 bytes text found (Some error)) (prints.1.follow ∙ whole) prints.2).1

pub returns-clause-unwritten : goal.returns-clause-unwritten
returns-clause-unwritten g c = λ plain.
    c.drive.ensures.unwritten (IfOk-weaker c.args.arguments _ _ (λ list whole. (tells_nothing (map string_bytes list.items) whole, refuses_whole (map string_bytes list.items) whole)) plain)

pub returns-clause-begun : goal.returns-clause-begun
returns-clause-begun g c = λ plain.
    c.drive.ensures.begun (IfOk-weaker c.args.arguments _ _ (λ list whole. tells_nothing (map string_bytes list.items) whole) plain)
