use Rattle.std.specs.declared.alloc.Global.{Global}
use Rattle.std.proofs.Common.{◌≡◌, ◌≢◌, ◌++◌, None, Vec, length, map, ap, sym, subst, ◌∙◌, arith, length-append}
use Rattle.std.proofs.lemmas.Grind.{common_steps}
use Rattle.std.proofs.lemmas.List.{length-map, take_all}
use Rattle.std.proofs.lemmas.List.Sorted.{length_permutation}
use Rattle.std.proofs.lemmas.Result.{IfErr-at_err, IfOk-at_ok}
use Rattle.fdb_lines.specs.declared.order.KeyOrder.{KeyOrder}
use Rattle.fdb_lines.specs.declared.log.Part.{Part}
use Rattle.fdb_lines.specs.declared.fault.Finding.{Finding}
use Rattle.fdb_lines.specs.declared.slot.OrderStep.{OrderStep}
use Rattle.fdb_lines.specs.Audit.{case_of}
use Rattle.fdb_lines.specs.Keys.{key_at, keys_of, placed_finding}
use Rattle.fdb_lines.specs.Judged.{AreAll}
use Rattle.fdb_lines.specs.Log.{lines_of}
use Rattle.fdb_lines.specs.OrderSteps.{effects_of, IsOrderOf}
use Rattle.fdb_lines.specs.private.KeyOrders.{AreOrdersOf}
use Rattle.fdb_lines.proofs.Gathered.{gathered_all, gathered_more, gathered_same}
use Rattle.fdb_lines.proofs.Keyed.{of_key}
use Rattle.fdb_lines.proofs.Parted.{part_at}
use Rattle.fdb_lines.proofs.Placed.{all_explained, order_of, orders_more}
use Rattle.fdb_lines.proofs.order.orders_by_key.Goals as goal
use Rattle.fdb_lines.proofs.order.orders_by_key.Goals.{in-Ok+in_ok-steps-in-Ok+in_ok-push-in-Ok, in-Err+in_ok-add_placed-in-Err}

pub part-requires-clause-within : goal.part-requires-clause-within
part-requires-clause-within c = λ j lt.
    let keys = c.args.keys.now in
    let n = c.loop-part.part in
    let parts = c.in_ok-parts.ensures in
    let part = part_at keys c.in_ok-parts.parts.items n c.index.result.now parts.keys parts.places (omega arith) c.index.ensures in
    let as_many = c.requires.as_many in
    let inside = (of_key keys (key_at (keys_of keys) n) c.deref.result.now (c.deref.ensures.value ∙ part.1) j lt).0 in
    omega arith

pub loop-part-preserved : goal.loop-part-preserved
loop-part-preserved c =
    let log = lines_of c.args.log.now in
    let keys = c.args.keys.now in
    let opts = c.args.opts.now in
    let n = c.loop-part.part in
    let parts = c.in_ok-parts.ensures in
    let part = part_at keys c.in_ok-parts.parts.items n c.index.result.now parts.keys parts.places (omega arith) c.index.ensures in
    let lines = lines_of c.in_ok-lines.lines in
    let own = rw c.deref.ensures.value at c.in_ok-lines.ensures in
    let places = c.index.result.now.places.items in
    let inv = c.loop-part.invariant in
    elim c.match-branch-5.branch [
      | in-Ok+in_ok-steps-in-Ok+in_ok-push-in-Ok w ↦
          let again = part_at keys c.in_ok-parts.parts.items n w.index-in-Ok.result.now parts.keys parts.places (omega arith) w.index-in-Ok.ensures in
          let steps = w.in-Ok.steps.items in
          let explains : IsOrderOf (case_of lines opts) steps = IfOk-at_ok (λ (steps : Vec OrderStep Global). IsOrderOf (case_of lines opts) steps.items) w.in-Ok.is c.in_ok-steps.ensures.explains in
          let order : KeyOrder = record { key = w.index-in-Ok.result.now.key; steps = w.in_ok-steps-in-Ok.steps } in
          let placed = rw (w.deref-in-Ok.ensures.value, w.deref-in-Ok-2.ensures.value) at w.in_ok-steps-in-Ok.ensures in
          let one = order_of log opts keys lines (key_at (keys_of keys) n) places steps order part.1 own again.2 explains placed in
          let same = gathered_same log opts keys n c.loop-part.found.items lines places part.0 part.1 own (effects_of steps, explains.explains) inv.gathered in
          rw (w.orders-is, w.found-is) (record {
            gathered = same;
            orders = λ none. orders_more log opts keys n c.loop-part.orders.items w.push.new.self.items order part.0 w.in_ok-push-in-Ok.ensures.items again.2 one (inv.orders none);
          })
      | in-Err+in_ok-add_placed-in-Err w ↦
          let here = w.in-Err.here.items in
          let its = c.in_ok-steps.ensures in
          let all = IfErr-at_err (λ (found : Vec Finding Global). AreAll lines None opts found.items) w.in-Err.is its.all in
          let some = IfErr-at_err (λ (found : Vec Finding Global). length found.items ≢ 0) w.in-Err.is its.some in
          let old = c.loop-part.found.items in
          let new = w.add_placed.new.found.items in
          let added : new ≡ old ++ map (placed_finding places) here = rw (w.deref-in-Err.ensures.value, w.deref-in-Err-2.ensures.value) at w.in_ok-add_placed-in-Err.ensures in
          let more = ap length added in
          let size = length-append old (map (placed_finding places) here) in
          let long = length-map here (placed_finding places) in
          rw (w.orders-is, w.found-is) (record {
            gathered = gathered_more log opts keys n old here new lines places part.0 part.1 own added all.listed all.reasons all.late inv.gathered;
            orders = λ none. absurd (some (omega arith));
          })
    ]

pub returns-then-is_empty-clause-explained : goal.returns-then-is_empty-clause-explained
returns-then-is_empty-clause-explained c =
    let log = lines_of c.args.log.now in
    let keys = c.args.keys.now in
    let opts = c.args.opts.now in
    let size = ap length (sym c.in_ok-parts.ensures.keys) ∙ length-map c.in_ok-parts.parts.items (λ (part : Part). part.key) in
    let test = c.loop-part-test.false in
    let orders = c.loop-part.orders.items in
    let none : length c.loop-part.found.items ≡ 0 = grind (arith, common_steps) in
    all_explained log keys opts orders (subst (λ names. AreOrdersOf log keys opts names orders) (take_all c.loop-part.part (keys_of keys) (omega arith)) (c.loop-part.invariant.orders none))

pub returns : goal.returns
returns c =
    let log = lines_of c.args.log.now in
    let keys = c.args.keys.now in
    let size = ap length (sym c.in_ok-parts.ensures.keys) ∙ length-map c.in_ok-parts.parts.items (λ (part : Part). part.key) in
    let test = c.loop-part-test.false in
    let old = c.loop-part.found.items in
    let new = c.sort_by_line.new.found.items in
    let all = gathered_all log c.args.opts.now keys c.loop-part.part old new (omega arith) c.requires.as_many c.in_ok-sort_by_line.ensures c.loop-part.invariant.gathered in
    let long = length_permutation old new c.in_ok-sort_by_line.ensures.same in
    let some : length new ≢ 0 = λ none. grind (arith, common_steps) in
    record { orders = tt; explained = tt; unexplained = λ explained. some (all.1.1 explained); all = record { listed = all.0; reasons = all.2; late = all.3 }; some = some }
