use Rattle.std.proofs.Common.{◌∷◌, ◌+◌, ◌∙◌, ap, arith, drop, sym}
use Rattle.std.proofs.lemmas.Grind.{common_steps}
use Rattle.std.proofs.lemmas.List.{at_drop_more}
use Rattle.fdb_lines.specs.private.Slots.{steps_from}
use Rattle.fdb_lines.proofs.order.steps_in.Goals as goal

pub loop-slot-preserved : goal.loop-slot-preserved
loop-slot-preserved c =
    let from = steps_from c.loop-slot.above in
    let i = c.loop-slot.slot-index in
    let slots = c.args.slots.now in
    let here = at_drop_more from slots i c.slot-item.result c.loop-slot-test.true ∙ ap (λ s. from (s ∷ drop (i + 1) slots)) (sym c.slot-item.is) in
    grind (arith, common_steps, c.eq-shared.ensures, c.in_ok-push.ensures.items)
