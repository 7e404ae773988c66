use Rattle.std.proofs.Common.{rules}
use Rattle.fdb_live.proofs.InWords.{settles_in_words, tells_in_words}
use Rattle.fdb_live.proofs.passes.join.Goals as goal

pub join_pass-requires : goal.join_pass-requires
join_pass-requires c = (search rules, (search rules, (search rules, tells_in_words _ _ _ _)))

pub returns-clause-may_settle : goal.returns-clause-may_settle
returns-clause-may_settle c = settles_in_words _ _
