use Rattle.std.proofs.Common.{◌<◌, length, rules}
use Rattle.std.proofs.lemmas.List.{get_or_default}
use Rattle.fdb_audit.specs.Taken.{kept_by}
use Rattle.fdb_audit.proofs.Following.{taken_lines_more}
use Rattle.fdb_audit.proofs.members.Numbering.lines_at.Goals as goal

pub loop-taken-preserved : goal.loop-taken-preserved
loop-taken-preserved c =
    let above = c.args.self.now.above.items in
    let places = c.args.places.now in
    let i = c.loop-taken.taken-index in
    let within : i < length places = search rules in
    let item = get_or_default places i 0 _ within in
    taken_lines_more (kept_by c.args.self.now) above places c.loop-taken.lines.items c.push.new.self.items i _ c.line.result within item c.line.ensures (search rules) c.loop-taken.invariant
