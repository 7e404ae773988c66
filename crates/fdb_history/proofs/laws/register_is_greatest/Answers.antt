use Rattle.std.proofs.Common.{◌≤◌, ◌∷◌}
use Rattle.std.proofs.lemmas.List.Elements.{All-from_recursion}
use Rattle.fdb_history.specs.Event.{register_after, reports_of}
use Rattle.fdb_history.proofs.histories.HistoryLaws.{register_after-greatest, register_after-greatest_known, register_after-known, register_after-first}
use Rattle.fdb_history.proofs.laws.register_is_greatest.Goals as goal

pub returns-clause-greatest : goal.returns-clause-greatest
returns-clause-greatest c = λ start events. All-from_recursion (λ r. r.version ≤ (register_after start events).version) (start ∷ reports_of events) (register_after-greatest start events)

pub returns-clause-first : goal.returns-clause-first
returns-clause-first c = register_after-first

pub returns-clause-greatest_known : goal.returns-clause-greatest_known
returns-clause-greatest_known c =
    λ start events. All-from_recursion (λ r. r.min_known ≤ (register_after start events).min_known) (start ∷ reports_of events) (register_after-greatest_known start events)

pub returns-clause-known : goal.returns-clause-known
returns-clause-known c = register_after-known
