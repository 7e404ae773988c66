use Rattle.fdb_lines.specs.private.Standing.{counts_past}
use Rattle.std.proofs.Common.{◌+◌, refl, subst, sym}
use Rattle.fdb_lines.specs.private.Entries.{IsNewest}
use Rattle.fdb_lines.specs.private.Known.{version_in}
use Rattle.fdb_lines.proofs.Staying.{newest_more}
use Rattle.fdb_lines.proofs.standing_lines.newest_past.Goals as goal

pub loop-place-preserved : goal.loop-place-preserved
loop-place-preserved c =
    let lines = c.args.lines.now in
    let counts = counts_past c.args.margin c.args.at c.args.drawn lines in
    subst (IsNewest counts (version_in lines) (c.loop-place.place + 1)) (sym c.newer_past-newest.ensures) (newest_more counts lines c.loop-place.place c.loop-place.newest _ refl c.loop-place.invariant)
