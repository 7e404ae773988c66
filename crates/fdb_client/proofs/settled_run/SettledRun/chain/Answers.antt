use Rattle.std.proofs.Common.{◌≡◌, List, IfOk, sym, subst}
use Rattle.std.proofs.lemmas.Result.{IfOk-weaker}
use Rattle.fdb_history.specs.Chain.{IsChain}
use Rattle.fdb_history.specs.Faults.{Nowhere}
use Rattle.fdb_history.specs.Strays.{IsStray}
use Rattle.fdb_history.specs.declared.log.ClientLog.{ClientLog}
use Rattle.fdb_client.specs.Merging.{chain_in}
use Rattle.fdb_client.proofs.settled_run.SettledRun.chain.Goals as goal

pub returns : goal.returns
returns c =
    let run = c.args.self.now in
    let value : IfOk c.chain_of.result (λ chain. chain.items ≡ chain_in run.drawn run.logs.items) = subst (λ (logs : List ClientLog). IfOk c.chain_of.result (λ chain. chain.items ≡ chain_in run.drawn logs)) c.deref.ensures.value c.chain_of.ensures in
    let one_chain = IfOk-weaker c.chain_of.result _ (λ chain. IsChain run.epoch_end run.start.version chain.items) (λ chain is. subst (λ l. IsChain run.epoch_end run.start.version l) (sym is) run.one_chain) value in
    record {
      value = value;
      one_chain = one_chain;
      rises = IfOk-weaker c.chain_of.result _ _ (λ chain is. c.versions_rise.ensures run.epoch_end run.start.version chain.items is) one_chain;
      justified = IfOk-weaker c.chain_of.result _ (λ chain. Nowhere (IsStray chain.items run.logs.items)) (λ chain is. subst (λ l. Nowhere (IsStray l run.logs.items)) (sym is) run.justified) value;
    }
