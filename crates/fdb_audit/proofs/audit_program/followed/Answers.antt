use Rattle.std.proofs.Common.{◌≡◌, ◌∙◌, ◌++◌, ℕ, Bool, List, Option, ap, false, is_some, not, string_bytes, subst, sym, true}
use Rattle.fdb_command.specs.declared.program.Output.{Output}
use Rattle.fdb_log_reader.specs.declared.error.ReadError.{ReadError}
use Rattle.fdb_audit.specs.Following.{Start}
use Rattle.fdb_audit.specs.Progress.{HasPrinted, IsPrinted}
use Rattle.fdb_audit.specs.declared.arguments.AuditArguments.{AuditArguments}
use Rattle.fdb_audit.specs.declared.printer.LogFault.{LogFault}
use Rattle.fdb_audit.specs.declared.teller.Followed.{Followed}
use Rattle.fdb_audit.specs.declared.followed_log.FollowedLog.{FollowedLog}
use Rattle.fdb_audit.specs.declared.refusal.LogsRefused.{LogsRefused}
use Rattle.fdb_audit.specs.Program.{refusal_of}
use Rattle.fdb_audit.proofs.audit_program.followed.Goals as goal

-- what is told and what is refused of what was followed
abbrev Ends : FollowedLog → AuditArguments → Bool → Followed → Type 0
Ends log asked ends it = (start : Start) (bytes told : List ℕ) → HasPrinted asked start log bytes told
    → IsPrinted asked start ends bytes (told ++ string_bytes it.said.text) it.found it.refused it.last_early

-- is what is answered
answered : (log : FollowedLog) (asked : AuditArguments) (ends : Bool) (it : Followed) (answer : Output LogsRefused LogFault) → Ends log asked ends it → not (is_some asked.keep) ≡ ends
    → answer.text.items ≡ string_bytes it.said.text → answer.found ≡ it.found → answer.refused ≡ refusal_of it.refused it.last_early
    → (start : Start) (bytes told : List ℕ) → HasPrinted asked start log bytes told
    → (error : Option ReadError) × (last_early : Option ℕ) × IsPrinted asked start (not (is_some asked.keep)) bytes (told ++ answer.text.items) answer.found error last_early
    × (answer.refused ≡ refusal_of error last_early)
answered log asked ends it answer says keeps text found refused start bytes told has = (
  it.refused,
  it.last_early,
  subst (λ ends. IsPrinted asked start ends bytes (told ++ answer.text.items) answer.found it.refused it.last_early) (sym keeps)
      (subst (λ text. IsPrinted asked start ends bytes (told ++ text) answer.found it.refused it.last_early) (sym text)
      (subst (λ found. IsPrinted asked start ends bytes (told ++ string_bytes it.said.text) found it.refused it.last_early) (sym found) (says start bytes told has))),
  refused,
)

pub returns-in_ok-it-in-Some-clause-told : goal.returns-in_ok-it-in-Some-clause-told
returns-in_ok-it-in-Some-clause-told g c =
    let asked = c.args.asked.now in
    let it = c.in_ok-it-in-Some.it in
    let answer = c.answered in
    answered c.args.log asked false it answer.result
    (c.in_ok-it-in-Some.ensures.told asked)
    (ap not (sym c.as_deref.ensures.variant ∙ ap is_some c.in-Some.is)) answer.ensures.text answer.ensures.found answer.ensures.refused

pub returns-in_ok-it-in-None-clause-told : goal.returns-in_ok-it-in-None-clause-told
returns-in_ok-it-in-None-clause-told g c =
    let asked = c.args.asked.now in
    let it = c.in_ok-it-in-None.it in
    let answer = c.answered-in-None in
    answered c.args.log asked true it answer.result
    (c.in_ok-it-in-None.ensures.told asked)
    (ap not (sym c.as_deref.ensures.variant ∙ ap is_some c.in-None.is)) answer.ensures.text answer.ensures.found answer.ensures.refused
