use Rattle.std.proofs.Common.{ℕ, List, [], append-nil, subst, sym}
use Rattle.clap.specs.Words.{Text}
use Rattle.fdb_command.specs.Driving.{Stops}
use Rattle.fdb_audit.specs.Program.{AskFor, audit, started}
use Rattle.fdb_audit.specs.Progress.{HasPrinted}
use Rattle.fdb_audit.proofs.Refusing.{passed_on, stops_following}
use Rattle.fdb_audit.proofs.audit_program.AuditProgram.begin.Goals as goal

pub returns-in_ok-log-in-Some-clause-taken : goal.returns-in_ok-log-in-Some-clause-taken
returns-in_ok-log-in-Some-clause-taken g c =
    let (kept, more, for, has) = c.in_ok-log-in-Some.ensures.begun in
    (c.in-Some.behind, c.in-Some.is, kept, more, for, subst (λ bytes. HasPrinted c.args.asked.now (started c.args.asked.now c.in-Some.behind more kept) c.in_ok-log-in-Some.log bytes []) (sym (append-nil kept)) has)

pub returns-in_err-log-in-Some-clause-stops : goal.returns-in_err-log-in-Some-clause-stops
returns-in_err-log-in-Some-clause-stops g c =
    let asked = c.args.asked.now in
    let fault = c.in_err-log-in-Some.field-0.0 in
    passed_on c.from_residual.result fault (λ fault. (arguments : List Text) (bytes : List ℕ) → AskFor arguments asked → Stops audit arguments bytes fault) c.from_residual.ensures.1
    (λ arguments bytes is. stops_following arguments asked bytes c.in-Some.behind fault is c.in-Some.is c.in_err-log-in-Some.ensures.stops)
