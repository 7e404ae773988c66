use Rattle.std.proofs.Common.{◌≡◌, length, ap, arith, add-one}
use Rattle.std.proofs.lemmas.List.{length-map}
use Rattle.fdb_lines.specs.Log.{lines_of}
use Rattle.fdb_lines.proofs.Listed.{explained_by_length}
use Rattle.fdb_lines.proofs.finding.findings_in.Goals as goal

pub loop-place-preserved : goal.loop-place-preserved
loop-place-preserved c =
    let more = c.in_ok-add_findings.ensures in
    record {
      listed = rw add-one (rw c.loop-place.invariant.listed at more.0);
      reasons = more.1 c.loop-place.invariant.reasons;
      late = more.2 c.loop-place.invariant.late;
    }

pub returns-clause-explained : goal.returns-clause-explained
returns-clause-explained c =
    let log = lines_of c.args.tables.now.log in
    let lines = ap length c.lines-place-end.ensures in
    let most = c.loop-place.auto.place-end in
    let least = c.loop-place-test.false in
    let all : c.loop-place.place ≡ length log.lines = omega arith in
    rw length-map at (explained_by_length log c.args.tables.now.opts _ (rw all at c.loop-place.invariant.listed))
