use Rattle.fdb_live.proofs.InWords.{adds_in_words}
use Rattle.fdb_live.proofs.passes.adding.Goals as goal

pub returns : goal.returns
returns g c = adds_in_words _ _ _ _ _ _ c.of.ensures.back c.requires.named c.requires.right c.requires.numbered c.requires.next c.requires.changes c.requires.becomes c.requires.taken c.requires.issued
