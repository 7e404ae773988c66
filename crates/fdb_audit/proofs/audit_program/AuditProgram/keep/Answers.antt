use Rattle.std.proofs.Common.{◌≡◌, ◌∙◌, ◌++◌, ap, string_bytes, subst, sym}
use Rattle.std.specs.Prelude.{option_map}
use Rattle.fdb_command.specs.Driving.{StopsAnyhow}
use Rattle.fdb_audit.specs.Program.{HasTaken, audit, started}
use Rattle.fdb_audit.specs.private.Kept.{MayFail}
use Rattle.fdb_audit.specs.Progress.{ArePieces, PrintedSoFar}
use Rattle.fdb_audit.specs.Watched.{AskForTheSame}
use Rattle.fdb_audit.specs.declared.follower.Follower.{Follower}
use Rattle.fdb_audit.specs.declared.progress.Reporter.{Reporter}
use Rattle.fdb_audit.specs.declared.audit_program.AuditIntake.{AuditIntake}
use Rattle.fdb_audit.proofs.Refusing.{passed_on, stops_anyhow}
use Rattle.fdb_audit.proofs.audit_program.AuditProgram.keep.Goals as goal

pub returns-in_ok-next-in-Followed-clause-taken : goal.returns-in_ok-next-in-Followed-clause-taken
returns-in_ok-next-in-Followed-clause-taken g c = λ before told has.
    let asked = c.args.asked.now in
    let (behind, follows, kept, more, for, is) = subst (λ (it : AuditIntake). HasTaken asked it before told) c.in-Followed.is has in
    let (objects, asks, times, pieces) = is in
    let same = c.in_ok-next-in-Followed.ensures.same in (
      behind,
      follows,
      kept,
      more,
      for,
      (
        ap (λ (reporter : Reporter). reporter.objects) same.1 ∙ objects,
        subst (AskForTheSame asked) (sym same.2) asks,
        times,
        subst (λ (follower : Follower). ArePieces asked (PrintedSoFar asked follower) times (started asked behind more kept) (kept ++ before) told) (sym same.0) pieces,
      ),
    )

pub returns-in_err-next-in-Followed-clause-stops : goal.returns-in_err-next-in-Followed-clause-stops
returns-in_err-next-in-Followed-clause-stops g c =
    let asked = c.args.asked.now in
    let fault = c.in_err-next-in-Followed.field-0.0 in
    let file : option_map (λ file. file.now) c.as_deref.result ≡ option_map string_bytes asked.keep = c.as_deref.ensures.value in
    passed_on c.from_residual.result fault (StopsAnyhow audit asked) c.from_residual.ensures.1
    (stops_anyhow asked fault (subst (λ file. MayFail file fault) file c.in_err-next-in-Followed.ensures.stops))
