use Rattle.std.proofs.lemmas.Result.{IfOk-weaker}
use Rattle.fdb_lines.specs.Log.{lines_of}
use Rattle.fdb_lines.specs.private.Tables.{AreKnownIn}
use Rattle.fdb_lines.proofs.tables_of.known.Goals as goal

pub returns-else-is_timed : goal.returns-else-is_timed
returns-else-is_timed c =
    let log = lines_of c.args.log.now in
    IfOk-weaker c.known_by_telling.result _ (λ known. AreKnownIn log c.args.opts.now c.args.seen known.items)
    (λ known are. rw (← c.if-is_timed.ensures) (rw c.lines.ensures at (are c.args.opts.now.margin))) c.known_by_telling.ensures
