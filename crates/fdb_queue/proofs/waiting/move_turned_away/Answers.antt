use Rattle.std.proofs.Common.{◌<◌, ◌++◌, length, sym, ap, ◌∙◌, arith, length-append, length-drop}
use Rattle.std.specs.Prelude.{option_to_list}
use Rattle.fdb_queue.proofs.Rerating.{sifted-stays, sifted-leaves, left-stays, left-leaves}
use Rattle.fdb_queue.proofs.waiting.move_turned_away.Goals.{in-Some+in-Some-refusal_of, in-Some+in-None, in_default}
use Rattle.fdb_queue.proofs.waiting.move_turned_away.Goals as goal

pub loop-preserved : goal.loop-preserved
loop-preserved g c =
    let within : c.loop.counter < length c.args.list.now.items = omega (arith, c.loop-test.true, c.len-end.ensures, c.args.list.now.ok.0) in
    elim c.match-pop_front.branch [
      | in-Some+in-Some-refusal_of w ↦ (
          let popped = c.pop_front.ensures.items ∙ ap (λ out. option_to_list out ++ c.pop_front.new.self.items) w.in-Some.is in
          let why = sym w.refusal_of.ensures ∙ w.in-Some-refusal_of.is in
          let left = left-leaves c.args.config.now c.args.list.now.items c.loop.list.items c.pop_front.new.self.items c.args.out.now.items c.loop.out.items c.loop.counter w.in-Some.next w.in-Some-refusal_of.cause c.loop.invariant.0 within popped why in
          let sifted = sifted-leaves c.args.config.now c.args.list.now.items c.loop.list.items c.pop_front.new.self.items c.args.out.now.items c.loop.out.items c.loop.counter w.in-Some.next w.in-Some-refusal_of.cause c.loop.invariant.0 within popped why in
          rw (w.list-is, w.out-is, w.push_reserved.ensures.items) (sifted, omega (arith, left, c.loop.invariant.1, w.push_reserved.ensures.len, w.push_reserved.ensures.capacity)))
      | in-Some+in-None w ↦ (
          let popped = c.pop_front.ensures.items ∙ ap (λ out. option_to_list out ++ c.pop_front.new.self.items) w.in-Some.is in
          let why = sym w.refusal_of.ensures ∙ w.in-None.is in
          let left = left-stays c.args.config.now c.args.list.now.items c.loop.list.items c.pop_front.new.self.items c.args.out.now.items c.loop.out.items c.loop.counter w.in-Some.next c.loop.invariant.0 within popped why in
          let sifted = sifted-stays c.args.config.now c.args.list.now.items c.loop.list.items c.pop_front.new.self.items c.args.out.now.items c.loop.out.items c.loop.counter w.in-Some.next c.loop.invariant.0 within popped why in
          rw (w.list-is, w.out-is, w.push_back_reserved.ensures.items) (sifted, omega (arith, left, c.loop.invariant.1)))
      | in_default w ↦ (
          let long = simp (length-append, length-drop) at (ap length c.loop.invariant.0.list_is) in
          let none = w.in_default.ensures.cases in
          absurd (omega (arith, within, long, none.0, c.loop.list.ok.0)))
    ]
