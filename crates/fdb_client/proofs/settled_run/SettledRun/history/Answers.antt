use Rattle.std.proofs.Common.{◌≡◌, List, IfOk, subst}
use Rattle.std.proofs.lemmas.Result.{IfOk-weaker}
use Rattle.fdb_history.specs.Explained.{explained}
use Rattle.fdb_history.specs.Faults.{IsFaultless}
use Rattle.fdb_history.specs.Linear.{IsLinear}
use Rattle.fdb_history.specs.declared.log.ClientLog.{ClientLog}
use Rattle.fdb_history.specs.declared.register.Record.{Record}
use Rattle.fdb_client.proofs.settled_run.SettledRun.history.Goals as goal

pub returns-clause-linear : goal.returns-clause-linear
returns-clause-linear c =
    let run = c.args.self.now in
    IfOk-weaker c.history_of.result _ (λ history. IsLinear run.start run.logs.items history.events) (λ history linear. linear run.start run.faultless)
    (subst (λ (logs : List ClientLog). IfOk c.history_of.result (λ history. (start : Record) → IsFaultless start logs → IsLinear start logs history.events)) c.deref.ensures.value c.history_of.ensures.linear)

pub returns-clause-in_order : goal.returns-clause-in_order
returns-clause-in_order c =
    let run = c.args.self.now in
    IfOk-weaker c.history_of.result _ (λ history. history.events ≡ explained run.logs.items) (λ history in_order. in_order run.start run.faultless)
    (subst (λ (logs : List ClientLog). IfOk c.history_of.result (λ history. (start : Record) → IsFaultless start logs → history.events ≡ explained logs)) c.deref.ensures.value c.history_of.ensures.in_order)
