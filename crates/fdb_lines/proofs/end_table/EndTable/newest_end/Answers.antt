use Rattle.std.proofs.Common.{◌-◌, ◌<◌, length, get_or, ◌∙◌, inl, inr, arith}
use Rattle.std.proofs.lemmas.List.{get_or_default, get_or_read}
use Rattle.fdb_lines.specs.private.EndTable.{no_end}
use Rattle.fdb_lines.proofs.Newest.{found, not_found}
use Rattle.fdb_lines.proofs.end_table.EndTable.newest_end.Goals as goal
use Rattle.fdb_lines.proofs.end_table.EndTable.newest_end.Goals.{else-front-gt0-via-then-front-gt0+else-index-group, else-front-gt0-via-else-front-gt0}

pub returns-then-index-group : goal.returns-then-index-group
returns-then-index-group c =
    let newest = c.args.self.now.newest.items in
    let front = c.front_near-front.result in
    let bound = rw c.deref.ensures.value at c.front_near-front.ensures.bound in
    let parts = rw (c.deref.ensures.value, c.new.ensures.group, c.new.ensures.time, c.new.ensures.place) at c.front_near-front.ensures.parts in
    let some = c.if-front-gt0.true in
    let len = c.args.self.now.are_newest.0 in
    let inside : front - 1 < length newest = omega arith in
    rw (get_or_read newest (front - 1) c.index-then-index-group.result.now inside c.index-then-index-group.ensures 0)
    (found c.args.self.now.ends.items c.args.group c.args.time c.args.place front (get_or newest (front - 1) 0) c.ranges.place.fits bound parts some
    (rw (c.index.ensures ∙ get_or_default c.args.self.now.ends.items (front - 1) c.index.result.now no_end (omega arith)) at c.if-index-group.true)
    (c.args.self.now.are_newest.1 (front - 1) inside))

pub returns-else-front-gt0 : goal.returns-else-front-gt0
returns-else-front-gt0 c =
    let ends = c.args.self.now.ends.items in
    let front = c.front_near-front.result in
    let bound = rw c.deref.ensures.value at c.front_near-front.ensures.bound in
    let parts = rw (c.deref.ensures.value, c.new.ensures.group, c.new.ensures.time, c.new.ensures.place) at c.front_near-front.ensures.parts in
    not_found ends c.args.self.now.in_order c.args.group c.args.time c.args.place front c.ranges.time.fits c.ranges.place.fits bound parts
    (elim c.else-front-gt0.branch [
      | else-front-gt0-via-then-front-gt0+else-index-group w ↦
          inr (rw (w.index.ensures ∙ get_or_default ends (front - 1) w.index.result.now no_end (omega arith)) at w.if-index-group.false)
      | else-front-gt0-via-else-front-gt0 w ↦ let none = w.if-front-gt0.false in inl (omega arith)
    ])
