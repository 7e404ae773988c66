use Rattle.std.proofs.Common.{◌∙◌, ◌++◌, ap, append_assoc, inl, inr, subst, sym}
use Rattle.fdb_audit.specs.Program.{HasTaken, reading_asked, started}
use Rattle.fdb_audit.specs.declared.audit_program.AuditIntake.{AuditIntake}
use Rattle.fdb_audit.specs.Progress.{HasPrinted}
use Rattle.fdb_audit.proofs.Refusing.{stops}
use Rattle.fdb_audit.proofs.audit_program.AuditProgram.take.Goals as goal

pub returns-in-Ok-clause-taken : goal.returns-in-Ok-clause-taken
returns-in-Ok-clause-taken c = λ options before told has.
    let whole = subst (λ (it : AuditIntake). HasTaken options it before told) c.in-Whole.is has in
    let bytes = c.args.bytes.now in
    (whole.0, λ text. c.in-Ok.ensures text ∙ (whole.1 (bytes ++ text) ∙ ap (reading_asked options) (sym (append_assoc before bytes text))), whole.2)

pub returns-in-Err-clause-stops : goal.returns-in-Err-clause-stops
returns-in-Err-clause-stops c = λ arguments options before told after is has.
    let whole = subst (λ (it : AuditIntake). HasTaken options it before told) c.in-Whole.is has in
    let bytes = c.args.bytes.now in
    stops arguments options (before ++ (bytes ++ after)) c.in-Err.error c.refusal.result is whole.0
    (elim (c.in-Err.ensures) [ inl m ↦ inl m | inr h ↦ inr (sym (whole.1 (bytes ++ after)) ∙ h after) ])
    c.refusal.ensures.memory c.refusal.ensures.refused

pub returns-in_ok-feed-in-Followed-clause-taken : goal.returns-in_ok-feed-in-Followed-clause-taken
returns-in_ok-feed-in-Followed-clause-taken c = λ options before told has.
    let (behind, follows, kept, more, for, is) = subst (λ (it : AuditIntake). HasTaken options it before told) c.in-Followed.is has in
    let bytes = c.args.bytes.now in (
      behind,
      follows,
      kept,
      more,
      for,
      subst (λ text. HasPrinted options (started options behind more kept) c.feed-in-Followed.new.self text told) (append_assoc kept before bytes)
          (c.in_ok-feed-in-Followed.ensures options (started options behind more kept) (kept ++ before) told is),
    )
