use Rattle.fdb_lines.proofs.Paired.{front_counts, none_counted}
use Rattle.fdb_lines.proofs.pairs.Ended.before.Goals as goal

pub returns-in_default : goal.returns-in_default
returns-in_default c = none_counted c.args.self.now.ends.items c.args.group c.args.time c.args.place c.in_default.is

pub returns : goal.returns
returns c =
    let is = c.new.ensures in
    rw c.in-Some.is
    (front_counts c.args.self.now.ends.items c.new.result c.in-Some.group c.args.time c.args.place c.front_near.result (is.group, is.time, is.place)
    (rw c.deref.ensures.value at c.front_near.ensures.bound) (rw c.deref.ensures.value at c.front_near.ensures.parts))
