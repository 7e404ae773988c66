use Rattle.std.proofs.Common.{rules}
use Rattle.fdb_live.proofs.InWords.{takes_in_words}
use Rattle.fdb_live.proofs.passes.take.Goals as goal

pub join_pass-requires : goal.join_pass-requires
join_pass-requires c = (search rules, (search rules, (search rules, takes_in_words _ _ _ _ c.requires.right c.requires.opened)))
