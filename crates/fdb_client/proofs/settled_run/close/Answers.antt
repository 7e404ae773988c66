use Rattle.std.proofs.Common.{◌≡◌, ap, sym, subst, ◌∙◌}
use Rattle.fdb_history.specs.Chain.{IsChain}
use Rattle.fdb_history.specs.Faults.{Nowhere}
use Rattle.fdb_history.specs.Strays.{IsStray}
use Rattle.fdb_live.specs.Holding.{answers_among}
use Rattle.fdb_live.specs.Seen.{Sight}
use Rattle.fdb_client.specs.Merging.{chain_in}
use Rattle.fdb_client.proofs.Chains.{prefix_trans}
use Rattle.fdb_client.proofs.Placing.{told_is_chain}
use Rattle.fdb_client.proofs.Strays.{no_stray}
use Rattle.fdb_client.proofs.settled_run.close.Goals as goal

pub returns : goal.returns
returns g c =
    let epoch_end = g.S.Service.epoch_end in
    let recovery = g.S.Service.recovery in
    let logs = c.args.logs.now in
    let drawn = c.close-drawn.result in
    let chain = c.close-drawn.ensures.closed.0 in
    let closed = c.close-drawn.ensures.closed.1 in
    let settled = c.settle-changes.ensures in
    let seen : Sight = c.settle-changes.new.first in
    let none = no_stray c.each_is_next.ensures epoch_end recovery g.S.Service.reporters logs c.args.tokens.now chain c.requires.logs c.requires.count c.requires.chained closed.one_chain closed.asked
    (λ k token at. (let all = settled.each k token at in prefix_trans token.answers seen.answers chain all.seen.answers (closed.each k (record seen { reporter = token.reporter }) all.at).seen.answers))
    (λ k token at.
    let all = settled.each k token at in
    let whose = c.requires.numbered k token at in
    ap (λ who. answers_among who chain) (sym whose) ∙ ((closed.each k (record seen { reporter = token.reporter }) all.at).own.answers ∙ (all.own.answers ∙ ap (λ who. answers_among who token.answers) whose))) in
    let told : chain_in drawn logs ≡ chain = told_is_chain c.same_are_equal.ensures c.each_is_next.ensures epoch_end recovery logs chain closed.one_chain none drawn c.close-drawn.ensures.closed.2 in
    record {
      changes = settled.changes;
      faultless = settled.settled.faultless;
      minima = settled.settled.minima;
      above = settled.settled.above;
      justified = subst (λ l. Nowhere (IsStray l logs)) (sym told) none;
      one_chain = subst (IsChain epoch_end recovery) (sym told) closed.one_chain;
    }
