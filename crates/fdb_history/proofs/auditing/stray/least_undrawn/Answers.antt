use Rattle.std.proofs.Common.{◌≡◌, length, take, get_or, false, arith, ◌∙◌, ap}
use Rattle.std.proofs.lemmas.List.{take_all, take_more, length-take}
use Rattle.fdb_history.proofs.chains.Marks.{no_entry, least-marked, least-first, least-more}
use Rattle.fdb_history.proofs.auditing.stray.least_undrawn.Goals as goal
use Rattle.fdb_history.proofs.auditing.stray.least_undrawn.Goals.{then-not-drawn-place+in-Some, then-not-drawn-place+in-None, else-not-drawn-place}

pub loop-place-preserved : goal.loop-place-preserved
loop-place-preserved c =
    let place = c.loop-place.place in
    let marks = c.args.drawn.now in
    let entry = get_or c.args.chain.now place no_entry in
    let before = take place c.args.chain.now in
    let more = take_more c.args.chain.now place no_entry c.loop-place-test.true in
    let end' : length before ≡ place = omega (arith, length-take place c.args.chain.now, c.loop-place-test.true) in
    let mark = ap (λ k. get_or marks k false) end' in
    elim c.if-not-drawn-place.branch [
      | then-not-drawn-place+in-Some w ↦
          let first = rw w.in-Some.is at c.loop-place.invariant in
          rw (w.least-is, w.min.ensures, more) (least-more before entry marks w.in-Some.client (mark ∙ w.if-not-drawn-place.true) first)
      | then-not-drawn-place+in-None w ↦
          let none = rw w.in-None.is at c.loop-place.invariant in
          rw (w.least-is, more) (least-first before entry marks (mark ∙ w.if-not-drawn-place.true) none)
      | else-not-drawn-place w ↦ rw (w.least-is, more) (least-marked before entry marks c.loop-place.least (mark ∙ w.if-not-drawn-place.false) c.loop-place.invariant)
    ]

pub returns : goal.returns
returns c = rw (← take_all c.loop-place.place c.args.chain.now c.loop-place-test.false) c.loop-place.invariant
