use Rattle.std.proofs.Common.{[], refl, string_bytes}
use Rattle.fdb_audit.specs.Following.{start_with}
use Rattle.fdb_audit.specs.Taken.{kept_by}
use Rattle.fdb_audit.proofs.Warned.{none_said}
use Rattle.fdb_audit.proofs.taken_lines.Taking.new.Goals as goal

pub returns-clause-warned : goal.returns-clause-warned
returns-clause-warned c =
    none_said (start_with c.args.behind (kept_by c.args.numbering)) [] c.none.result.at (string_bytes c.new-6.result) refl c.new-6.ensures.bytes
