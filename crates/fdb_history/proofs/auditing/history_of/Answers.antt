use Rattle.std.proofs.Common.{◌≡◌, ◌∙◌, subst, sym}
use Rattle.std.proofs.lemmas.Result.{IfOk-weaker}
use Rattle.fdb_history.specs.Explained.{explained}
use Rattle.fdb_history.specs.Faults.{IsFaultless}
use Rattle.fdb_history.specs.Linear.{IsLinear}
use Rattle.fdb_history.specs.declared.register.Record.{Record}
use Rattle.fdb_history.proofs.faultless.Explained.{all_events_within, linear}
use Rattle.fdb_history.proofs.auditing.history_of.Goals as goal

pub returns-clause-in_order : goal.returns-clause-in_order
returns-clause-in_order c =
    let logs = c.args.logs.now in
    IfOk-weaker c.explain.result _ (λ history. (start : Record) → IsFaultless start logs → history.events ≡ explained logs)
    (λ history made start faultless. made ∙ c.in_ok-events.ensures.history (all_events_within start logs faultless)) c.explain.ensures

pub returns-clause-linear : goal.returns-clause-linear
returns-clause-linear c =
    let logs = c.args.logs.now in
    IfOk-weaker c.explain.result _ (λ history. (start : Record) → IsFaultless start logs → IsLinear start logs history.events)
    (λ history made start faultless. subst (IsLinear start logs) (sym (made ∙ c.in_ok-events.ensures.history (all_events_within start logs faultless))) (linear start logs faultless)) c.explain.ensures
