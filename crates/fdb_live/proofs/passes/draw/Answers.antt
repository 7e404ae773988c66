use Rattle.std.proofs.Common.{rules}
use Rattle.fdb_live.proofs.InWords.{draws_in_words}
use Rattle.fdb_live.proofs.passes.draw.Goals as goal

pub load_as-requires : goal.load_as-requires
load_as-requires g c = (search rules, (search rules, (search rules, draws_in_words _ _ _ _ _ c.requires.named c.requires.right c.requires.numbered c.requires.numbers c.requires.epoch c.requires.legal)))
