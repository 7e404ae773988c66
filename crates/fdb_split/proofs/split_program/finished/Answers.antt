use Rattle.std.proofs.Common.{◌∙◌, ℕ, Vec, ap, inl, inr, refl}
use Rattle.std.specs.declared.alloc.Global.{Global}
use Rattle.fdb_split.proofs.Cutting.{not_ended, printed}
use Rattle.fdb_split.proofs.Stopping.{stops}
use Rattle.fdb_split.proofs.split_program.finished.Goals as goal

pub returns-in-Err : goal.returns-in-Err
returns-in-Err g c = λ arguments bytes is has.
    let asked = c.args.asked.now in
    let error = c.in-Err.error in
    stops arguments asked bytes error c.refusal.result is
    (elim (c.in-Err.ensures) [ inl m ↦ inl m | inr h ↦ inr (not_ended asked c.args.cut.splitter bytes error has h) ])
    c.refusal.ensures.memory c.refusal.ensures.refused

pub returns : goal.returns
returns g c = λ arguments bytes is has.
    let (placed, all) = c.in-Ok.ensures in (
      printed c.args.asked.now c.args.cut.splitter c.in-Ok.splitter c.finish-2.new.cut.splitter bytes c.into_bytes.result.items placed has all c.finish-2.ensures.released
          (ap (λ (text : Vec ℕ Global). text.items) c.into_bytes.ensures.value ∙ c.in_ok-text.ensures),
      refl,
      refl,
      c.new.ensures.items,
    )
