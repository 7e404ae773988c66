use Rattle.std.proofs.Common.{◌≡◌, ◌∙◌, ◌++◌, ℕ, List, [], MatchResult, None, Ok, Err, Option, Result, ap, is_some, not, subst, sym}
use Rattle.std.proofs.lemmas.Bool.{false≢true}
use Rattle.std.specs.Prelude.{IfErr, IfOk, option_map, string_bytes}
use Rattle.clap.specs.Words.{Text}
use Rattle.fdb_command.specs.Driving.{Stops}
use Rattle.fdb_command.specs.declared.failure.Failure.{Failure}
use Rattle.fdb_command.specs.declared.program.Output.{Output}
use Rattle.fdb_log_reader.specs.declared.error.ReadError.{ReadError}
use Rattle.fdb_audit.specs.Following.{Start}
use Rattle.fdb_audit.specs.Program.{HasTaken, AskFor, Prints, PrintsBy, audit, refusal_of, started}
use Rattle.fdb_audit.specs.Progress.{HasPrinted, IsPrinted}
use Rattle.fdb_audit.specs.private.Kept.{MayFail}
use Rattle.fdb_audit.specs.declared.arguments.AuditArguments.{AuditArguments}
use Rattle.fdb_audit.specs.declared.printer.LogFault.{LogFault}
use Rattle.fdb_audit.specs.declared.followed_log.FollowedLog.{FollowedLog}
use Rattle.fdb_audit.specs.declared.audit_program.AuditIntake.{AuditIntake}
use Rattle.fdb_audit.specs.declared.audit_program.AuditIntake.TheVariants.{Followed}
use Rattle.fdb_audit.specs.declared.refusal.LogsRefused.{LogsRefused}
use Rattle.fdb_audit.proofs.Refusing.{stops_failing}
use Rattle.fdb_audit.proofs.audit_program.fn.drive.body.Goals as goal

-- a log of which nothing was told is printed whole
whole_printed : (arguments : List Text) (asked : AuditArguments) (bytes told : List ℕ) (made : Result (Output LogsRefused LogFault) (Failure LogsRefused LogFault))
    → asked.follow ≡ None → told ≡ []
    → MatchResult made (λ answer. Prints asked bytes answer.text.items answer.found × (answer.refused ≡ None) × (answer.warnings.items ≡ [])) (Stops audit arguments bytes)
    → MatchResult made (λ answer. PrintsBy asked.follow asked bytes (told ++ answer.text.items) answer.found answer.refused × (asked.follow ≡ None → answer.warnings.items ≡ [])) (Stops audit arguments bytes)
whole_printed arguments asked bytes told (Ok answer) whole none judged = (
  subst (λ follow. PrintsBy follow asked bytes (told ++ answer.text.items) answer.found answer.refused) (sym whole)
      (subst (λ told. Prints asked bytes (told ++ answer.text.items) answer.found) (sym none) judged.0, judged.1),
  λ _. judged.2,
)
whole_printed arguments asked bytes told (Err fault) whole none stops = stops

-- of a log that is followed is printed what was told and what was left to be said
followed_printed : (arguments : List Text) (asked : AuditArguments) (log : FollowedLog) (bytes told : List ℕ) (made : Result (Output LogsRefused LogFault) (Failure LogsRefused LogFault))
    → AskFor arguments asked → HasTaken asked (Followed log) bytes told
    → IfOk made (λ it. (start : Start) (bytes told : List ℕ) → HasPrinted asked start log bytes told
    → (error : Option ReadError) × (last_early : Option ℕ) × IsPrinted asked start (not (is_some asked.keep)) bytes (told ++ it.text.items) it.found error last_early
    × (it.refused ≡ refusal_of error last_early))
    → IfErr made (MayFail (option_map string_bytes asked.keep))
    → MatchResult made (λ answer. PrintsBy asked.follow asked bytes (told ++ answer.text.items) answer.found answer.refused × (asked.follow ≡ None → answer.warnings.items ≡ [])) (Stops audit arguments bytes)
followed_printed arguments asked log bytes told (Ok answer) is (behind, follows, kept, more, for, has) says stops =
    let (left, last, printed, why) = says (started asked behind more kept) (kept ++ bytes) told has in (
      subst (λ follow. PrintsBy follow asked bytes (told ++ answer.text.items) answer.found answer.refused) (sym follows) (kept, more, for, left, last, printed, why),
      λ none. absurd (false≢true (sym (ap is_some none) ∙ ap is_some follows)),
    )
followed_printed arguments asked log bytes told (Err fault) is has says stops = stops_failing arguments asked bytes fault is stops

pub returns : goal.returns
returns g c = λ arguments bytes told is has.
    let asked = c.args.asked in
    followed_printed arguments asked c.in-Followed.log bytes told c.followed.result is (subst (λ (it : AuditIntake). HasTaken asked it bytes told) c.in-Followed.is has) c.followed.ensures.told c.followed.ensures.stops

pub returns-in-Whole : goal.returns-in-Whole
returns-in-Whole g c = λ arguments bytes told is has.
    let asked = c.args.asked in
    let whole = subst (λ (it : AuditIntake). HasTaken asked it bytes told) c.in-Whole.is has in
    whole_printed arguments asked bytes told c.judged.result whole.0 whole.2 (c.judged.ensures arguments bytes is whole.0 whole.1)
