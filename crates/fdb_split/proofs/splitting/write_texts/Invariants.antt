use Rattle.fdb_split.specs.private.{HasReleased}
use Rattle.fdb_split.proofs.splitting.write_texts.Given as goal

-- some texts were released so far, and nothing else was changed
abbrev pub invariant-loop-part : goal.invariant-loop-part
invariant-loop-part g l = HasReleased l.fn.splitter l.splitter
