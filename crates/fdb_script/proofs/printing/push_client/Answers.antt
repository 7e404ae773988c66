use Rattle.std.proofs.Common.{sym, ◌∙◌}
use Rattle.fdb_script.specs.Text.{replies_of}
use Rattle.fdb_script.proofs.Texts.{part_written, passed_over, replied}
use Rattle.fdb_script.proofs.printing.push_client.Goals as goal

pub loop-number-preserved-then-from-client : goal.loop-number-preserved-then-from-client
loop-number-preserved-then-from-client c =
    let command = c.index-commands-number in
    let step = passed_over c.args.round c.args.client c.loop-number.number c.args.commands.now (replies_of c.loop-number.left.now) command.result c.loop-number-test.true command.is (λ own. c.if-from-client.true (c.from.ensures ∙ own)) in
    rw (sym step.0, sym step.1) c.loop-number.invariant

pub loop-number-preserved : goal.loop-number-preserved
loop-number-preserved c =
    let command = c.index-commands-number in
    let step = replied c.args.round c.args.client c.loop-number.number c.args.commands.now c.in-Some.call.now (replies_of c.in-Some.others.now) command.result c.loop-number-test.true command.is (sym c.from.ensures ∙ c.if-from-client.false) in
    let before = rw c.in-Some.ensures at c.loop-number.invariant in
    (part_written _ _ _ _ _ _ c.in_ok-writeln.ensures.bytes step.0 before.0, sym step.1 ∙ before.1)
