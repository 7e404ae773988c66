use Rattle.std.proofs.Common.{◌≡◌, ◌≤◌, ◌∷◌, ap, arith, sym, subst, ◌∙◌}
use Rattle.std.proofs.lemmas.List.Elements.{All-from_recursion, recursion_from_All}
use Rattle.fdb_history.specs.Chain.{IsChain}
use Rattle.fdb_history.specs.Event.{reports_of}
use Rattle.fdb_history.specs.Linear.{IsLinear}
use Rattle.fdb_client.specs.declared.cluster.ClusterConfig.{ClusterConfig}
use Rattle.fdb_history.specs.declared.register.Record.{Record}
use Rattle.fdb_script.specs.Answering.{Answers}
use Rattle.fdb_replay.specs.Outcome.{opening}
use Rattle.fdb_replay.proofs.running.run_named.Goals as goal

abbrev IsWithin : Record → Type 0
IsWithin rec = rec.min_known ≤ rec.version

pub returns : goal.returns
returns g c =
    let plan = c.args.script.now in
    let run = c.settle-run.result in
    let settled = c.settle-run.ensures in
    let events = c.in_ok-history.history.events in
    let start : run.start ≡ opening plan.setup.recovery = cc (settled.start, c.in_ok-cluster.cluster.start, c.in_ok-cluster.ensures.config, c.in_ok-cluster.cluster-is, c.requires.config.start) in
    let epoch_end : g.S.Service.epoch_end ≡ plan.setup.epoch_end = cc (c.in_ok-cluster.cluster.epoch_end, c.in_ok-cluster.ensures.config, c.in_ok-cluster.cluster-is, c.requires.config.epoch_end) in
    let version : c.args.opened.config.start.version ≡ plan.setup.recovery = ap (λ (rec : Record). rec.version) c.requires.config.start in
    let config : c.in_ok-cluster.cluster.config ≡ c.args.opened.config = cc (c.in_ok-cluster.ensures.config, c.in_ok-cluster.cluster-is) in
    let recovery : g.S.Service.recovery ≡ plan.setup.recovery = sym c.in_ok-cluster.cluster.recovery ∙ (ap (λ (own : ClusterConfig). own.start.version) config ∙ version) in
    let chain = c.in_ok-chain.chain.items in
    let linear = subst (λ start. IsLinear start run.logs.items events) start c.in_ok-history.ensures.linear in
    record {
      answers = subst (Answers plan) (sym settled.logs) c.in_ok-finished.ensures.answers;
      one_chain = subst (λ recovery. IsChain plan.setup.epoch_end recovery chain) recovery (subst (λ epoch_end. IsChain epoch_end g.S.Service.recovery chain) epoch_end (subst (IsChain g.S.Service.epoch_end g.S.Service.recovery) (sym c.in_ok-chain.ensures.value) settled.one_chain));
      linear = linear;
      minima = All-from_recursion IsWithin (opening plan.setup.recovery ∷ reports_of events) (omega arith, recursion_from_All IsWithin (reports_of events) (c.minima_stay_within.ensures run.start run.logs.items events c.in_ok-history.ensures.linear settled.minima));
      in_order = c.in_ok-history.ensures.in_order;
      none_stray = c.in_ok-chain.ensures.justified;
      none_low = rw start at run.above;
    }
