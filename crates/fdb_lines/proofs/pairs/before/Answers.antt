use Rattle.std.proofs.Common.{length, arith}
use Rattle.fdb_lines.proofs.Paired.{by_two}
use Rattle.fdb_lines.proofs.pairs.before.Goals as goal

pub overflow_sub-result : goal.overflow_sub-result
overflow_sub-result c =
    let lines = c.args.lines.now in
    let line = c.index-lines-place.result in
    let two = by_two c.args.margin lines c.args.place (length lines) c.args.all.now.times.items c.args.own.now.ends.items line c.began-began.result c.saturating_sub-bound.result
    c.requires.all c.requires.own c.requires.place c.index-lines-place.is c.began-began.ensures c.saturating_sub-bound.ensures in
    omega arith

pub returns : goal.returns
returns c =
    let lines = c.args.lines.now in
    let line = c.index-lines-place.result in
    let two = by_two c.args.margin lines c.args.place (length lines) c.args.all.now.times.items c.args.own.now.ends.items line c.began-began.result c.saturating_sub-bound.result
    c.requires.all c.requires.own c.requires.place c.index-lines-place.is c.began-began.ensures c.saturating_sub-bound.ensures in
    omega arith
