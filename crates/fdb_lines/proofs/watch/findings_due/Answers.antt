use Rattle.std.proofs.Common.{◌≡◌, true, false, length, ap, sym, ◌∙◌, arith, add-one, append-nil, append_assoc}
use Rattle.fdb_lines.specs.private.Due.{due_at, is_due_by}
use Rattle.fdb_lines.proofs.Tallies.{item_at}
use Rattle.fdb_lines.proofs.watch.findings_due.Goals as goal
use Rattle.fdb_lines.proofs.watch.findings_due.Goals.{then-has+in_ok-add_finding+in_ok-add_finding-2, else-has}

pub loop-place-preserved : goal.loop-place-preserved
loop-place-preserved c =
    let lines = c.args.log.now.lines.items in
    let n = c.loop-place.place in
    let within = c.loop-place-test.true in
    let many = c.requires in
    let line = item_at c.lines.result.now lines n c.index-lines-place.result c.lines.ensures (omega (arith, ap length c.lines.ensures)) c.index-lines-place.is in
    let before = c.loop-place.invariant in
    let due = c.has.ensures ∙ ap (is_due_by c.args.due.now _) line in
    elim c.if-has.branch [
      | then-has+in_ok-add_finding+in_ok-add_finding-2 w ↦
          let here : due_at (is_due_by c.args.due.now) c.args.numbers.now lines n ≡ true = sym due ∙ w.if-has.true in
          let one = rw c.new-tables.ensures at w.in_ok-add_finding.ensures in
          let two = rw c.new-tables.ensures at w.in_ok-add_finding-2.ensures in
          record {
            told = rw (add-one n, here, w.found-is, two.0, one.0, before.told) (simp append_assoc);
            reasons = rw w.found-is (two.1 (one.1 before.reasons));
            late = rw w.found-is (two.2 (one.2 before.late));
          }
      | else-has w ↦
          let here : due_at (is_due_by c.args.due.now) c.args.numbers.now lines n ≡ false = sym due ∙ w.if-has.false in
          record {
            told = rw (add-one n, here, w.found-is, append-nil) before.told;
            reasons = rw w.found-is before.reasons;
            late = rw w.found-is before.late;
          }
    ]
