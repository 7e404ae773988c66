use Rattle.std.proofs.Common.{◌∙◌, refl}
use Rattle.std.proofs.lemmas.Result.{on_ok_weaker}
use Rattle.fdb_audit.proofs.teller.Teller.push_head.Goals as goal

pub returns-then-self-clause-text : goal.returns-then-self-clause-text
returns-then-self-clause-text c =
    rw (c.if-self.true) (on_ok_weaker c.push_total_object.result
    (λ e. e ∙ rw (c.deref.ensures.value, c.in_ok-figures.ensures, c.is_some-by_key.ensures) refl)
    c.push_total_object.ensures)
