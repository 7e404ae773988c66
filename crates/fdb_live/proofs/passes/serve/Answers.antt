use Rattle.std.proofs.Common.{rules}
use Rattle.fdb_live.proofs.InWords.{serves_in_words, settles_in_words}
use Rattle.fdb_live.proofs.passes.serve.Goals as goal

pub join_pass-requires : goal.join_pass-requires
join_pass-requires c = (search rules, (search rules, (search rules, serves_in_words _ _ _ _ c.requires.right)))

pub returns-clause-may_settle : goal.returns-clause-may_settle
returns-clause-may_settle c = settles_in_words _ _
