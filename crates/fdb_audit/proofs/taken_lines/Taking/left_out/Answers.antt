use Rattle.std.proofs.Common.{◌∙◌, ap}
use Rattle.std.specs.Option.{option_or}
use Rattle.fdb_audit.proofs.Following.{left_is}
use Rattle.fdb_audit.proofs.taken_lines.Taking.left_out.Goals as goal

pub returns : goal.returns
returns c = λ start read told are carried.
    c.or.ensures ∙ (ap (λ first. option_or first c.no_line.result) c.or-refused.ensures
    ∙ left_is start read c.args.self.now.refused c.args.before.now.last_refused c.no_line.result are.refused carried.refused (c.no_line.ensures start read told are carried))
