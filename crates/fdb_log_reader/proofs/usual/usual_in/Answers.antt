use Rattle.std.proofs.Common.{option_map}
use Rattle.fdb_log_reader.proofs.UsualForm.{ended}
use Rattle.fdb_log_reader.proofs.usual.usual_in.Goals as goal

pub returns-in-End : goal.returns-in-End
returns-in-End c =
    ended c.args.bytes.now c.members.rest.now c.in-Some.after.now c.in-Some.name.now (option_map (λ kept. kept.now) c.args.further) c.in-Some.told c.members.line c.add_told.new.line c.members.invariant
    c.in-Some.ensures.text c.in-Some.ensures.small c.in_ok-add_told.ensures c.in-End.ensures
