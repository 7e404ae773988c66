use Rattle.std.proofs.Common.{sym, ◌∙◌, ◌<◌, length, arith}
use Rattle.fdb_script.proofs.Texts.{client_replied, part_written}
use Rattle.fdb_script.proofs.printing.push_round.Goals as goal

pub loop-client-preserved : goal.loop-client-preserved
loop-client-preserved c =
    let within : c.loop-client.client < length c.loop-client.left = omega (arith, c.loop-client-test.true, c.loop-client.auto.left) in
    let step = client_replied c.args.round c.loop-client.client c.args.commands.now c.loop-client.left c.index-left-client.result c.in_ok-left.field-0 within c.index-left-client.is c.in_ok-left.ensures.left in
    (part_written _ _ _ _ _ _ c.in_ok-left.ensures.lines step.0 c.loop-client.invariant.0, sym step.1 ∙ c.loop-client.invariant.1)
