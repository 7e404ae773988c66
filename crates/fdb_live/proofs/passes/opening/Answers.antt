use Rattle.std.proofs.Common.{refl}
use Rattle.fdb_live.proofs.InWords.{opens_in_words}
use Rattle.fdb_live.proofs.passes.opening.Goals as goal

pub returns-clause-may_open : goal.returns-clause-may_open
returns-clause-may_open g c = opens_in_words g.K.Kind.epoch g.S.Service.reporters _ _ _ _ c.of.ensures.back c.requires.first refl c.requires.taken
