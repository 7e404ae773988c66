use Rattle.std.proofs.Common.{◌∙◌, append_assoc}
use Rattle.std.proofs.lemmas.Result.{on_ok_weaker}
use Rattle.fdb_audit.proofs.groups.By.push_name.Goals as goal

pub returns-in_ok-push_or_null-in-Member-true : goal.returns-in_ok-push_or_null-in-Member-true
returns-in_ok-push_or_null-in-Member-true c =
    rw (c.in-Member-true.is-0, c.in-Member-true.is-1)
    (on_ok_weaker c.write-in-Member-true.result
    (λ e. e ∙ rw (c.in_ok-push_or_null-in-Member-true.ensures, c.value.ensures, c.in_ok-write-in-Member-true.ensures.bytes) (simp append_assoc))
    c.write-in-Member-true.ensures.bytes)
