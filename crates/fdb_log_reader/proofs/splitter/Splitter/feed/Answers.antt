use Rattle.std.proofs.Common.{[], ◌∷◌, ◌++◌}
use Rattle.fdb_log_reader.proofs.Placed.{goes_on}
use Rattle.fdb_log_reader.proofs.splitter.Splitter.feed.Goals as goal

pub loop-line-preserved : goal.loop-line-preserved
loop-line-preserved c =
    let (placed, so) = c.loop-line.invariant in
    let read = c.in_ok-self.ensures in (
      placed ++ read.0 ∷ [],
      goes_on c.args.self c.loop-line.self c.in_ok-self.self c.args.bytes.now c.loop-line.rest.now c.in-Some.line.now c.in-Some.after.now placed so c.in-Some.ensures.0 read,
    )
