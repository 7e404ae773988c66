use Rattle.std.proofs.Common.{ap, ◌∙◌, take_all}
use Rattle.fdb_client.specs.Merging.{all_placed, answers_of_logs}
use Rattle.fdb_client.proofs.settled_run.chain_of.Goals as goal

pub returns : goal.returns
returns c =
    c.loop-log.invariant
    ∙ ap (λ l. all_placed c.in_ok-chain.chain.items (answers_of_logs l)) (take_all c.loop-log.log-index c.args.logs.now c.loop-log-test.false)
    ∙ ap (λ start. all_placed start (answers_of_logs c.args.logs.now)) (c.in_ok-chain.ensures.items_if_clones_equal (λ y same. same))
