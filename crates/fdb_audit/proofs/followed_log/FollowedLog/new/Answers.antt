use Rattle.std.proofs.Common.{◌∙◌, ap}
use Rattle.fdb_audit.specs.declared.judgement.Wanted.{Wanted}
use Rattle.fdb_audit.proofs.PrintedOn.{none_printed}
use Rattle.fdb_audit.proofs.followed_log.FollowedLog.new.Goals as goal

pub returns : goal.returns
returns c = λ start bytes has. (
  c.new.ensures ∙ ap (λ (wanted : Wanted). wanted.json) c.in_ok-asked.ensures.wanted,
  c.in_ok-asked.ensures,
  0,
  none_printed c.args.asked.now c.args.follower start bytes has,
)
