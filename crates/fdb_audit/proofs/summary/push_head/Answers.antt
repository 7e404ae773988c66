use Rattle.std.proofs.Common.{◌≡◌, ◌++◌, [], List, string_bytes, true}
use Rattle.std.proofs.lemmas.Result.{on_ok_weaker}
use Rattle.fdb_lines.specs.declared.fault.Fault.{Fault}
use Rattle.fdb_audit.specs.Tallied.{HasKinds}
use Rattle.fdb_audit.specs.Text.{line}
use Rattle.fdb_audit.specs.Totals.{faults_line}
use Rattle.fdb_audit.proofs.Texts.{two_written}
use Rattle.fdb_audit.proofs.summary.push_head.Goals as goal

pub returns-in_ok-push_total_line : goal.returns-in_ok-push_total_line
returns-in_ok-push_total_line c =
    rw c.if-json.true (on_ok_weaker c.push_line.result
    (λ (written : (faults : List Fault) → HasKinds c.new.result faults
    → string_bytes c.push_line.new.out ≡ string_bytes c.push_total_line.new.out ++ line (faults_line true faults)).
    two_written _ _ _ _ _ c.in_ok-push_total_line.ensures (written [] c.new.ensures.counted)) c.push_line.ensures)
