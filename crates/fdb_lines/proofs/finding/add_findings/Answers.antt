use Rattle.std.proofs.Common.{append_assoc}
use Rattle.std.proofs.lemmas.Result.{IfOk-weaker}
use Rattle.fdb_lines.specs.Audit.{case_of}
use Rattle.fdb_lines.specs.Listing.{faults_at}
use Rattle.fdb_lines.specs.private.Tables.{ListsMore}
use Rattle.fdb_lines.specs.Log.{lines_of}
use Rattle.fdb_lines.proofs.finding.add_findings.Goals as goal

pub returns : goal.returns
returns c =
    let log = lines_of c.args.tables.now.log in
    let opts = c.args.tables.now.opts in
    let one = c.in_ok-add_finding.ensures in
    let two = c.in_ok-add_finding-2.ensures in
    let three = c.in_ok-add_finding-3.ensures in
    let four = c.in_ok-add_finding-4.ensures in
    IfOk-weaker c.add_finding-5.result _ (λ _. ListsMore log opts c.args.findings.now.items c.add_finding-5.new.findings.items (faults_at (case_of log opts) c.args.place))
    (λ _ five. (rw (five.0, four.0, three.0, two.0, one.0) (simp append_assoc), λ are. five.1 (four.1 (three.1 (two.1 (one.1 are)))), λ are. five.2 (four.2 (three.2 (two.2 (one.2 are)))))) c.add_finding-5.ensures
