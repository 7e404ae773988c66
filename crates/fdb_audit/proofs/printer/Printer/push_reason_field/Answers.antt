use Rattle.std.proofs.Common.{◌∙◌, append_assoc}
use Rattle.std.proofs.lemmas.Result.{on_ok_weaker}
use Rattle.fdb_audit.proofs.printer.Printer.push_reason_field.Goals as goal

pub returns-in_ok-write-in-Reported-2 : goal.returns-in_ok-write-in-Reported-2
returns-in_ok-write-in-Reported-2 c =
    rw c.in-Reported.is
    (on_ok_weaker c.push_by_field-in-Reported.result
    (λ e. e ∙ rw (c.in_ok-write-in-Reported-2.ensures.bytes, c.in_ok-push_line_object-in-Reported.ensures, c.in_ok-write-in-Reported.ensures.bytes) (simp append_assoc))
    c.push_by_field-in-Reported.ensures)
