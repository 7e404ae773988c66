use Rattle.std.proofs.Common.{rules, ◌⊎◌}
use mathlib.Core.List.{IsPrefix}
use Rattle.fdb_live.proofs.Above.{unique}
use Rattle.fdb_live.proofs.live_record.LiveRecord.meet.Goals as goal

pub returns-clause-unique : goal.returns-clause-unique
returns-clause-unique g c =
    let one : IsPrefix c.args.first.now.answers c.args.second.now.answers ⊎ IsPrefix c.args.second.now.answers c.args.first.now.answers = search rules in
    unique c.versions_rise.ensures g.S.Service.epoch_end g.S.Service.recovery c.args.first.now.answers c.args.second.now.answers (search rules) (search rules) one
