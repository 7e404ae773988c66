-- The minima that a history's reports tell of, by those in the logs that it explains.
use Rattle.std.proofs.Common.{ℕ, ◌+◌, ◌==◌, Bool, List, [], ◌∷◌, ◌++◌, filter, map, option_to_list, refl, sym, subst, inl, inr}
use Rattle.std.specs.List.{All, AllByRecursion}
use Rattle.std.proofs.lemmas.Bool.{cases_Bool, eq-eqb}
use Rattle.std.proofs.lemmas.List.Elements.{All-from_recursion}
use Rattle.fdb_history.specs.Event.{reports_of}
use Rattle.fdb_history.specs.Laws.{HasMinimumWithin, HaveMinimaWithin}
use Rattle.fdb_history.specs.Linear.{IsLinear, client_of}
use Rattle.fdb_history.specs.Log.{calls_of, event_of_answer, placed_from}
use Rattle.fdb_history.specs.declared.register.Event.{Event}
use Rattle.fdb_history.specs.declared.register.Event.TheVariants.{Report, Read}
use Rattle.fdb_history.specs.declared.register.Placed.{Placed}
use Rattle.fdb_history.specs.declared.log.Call.{Call}
use Rattle.fdb_history.specs.declared.log.CallAnswer.{CallAnswer}
use Rattle.fdb_history.specs.declared.log.CallAnswer.TheVariants.{Version, Acked}
use Rattle.fdb_history.specs.declared.log.ClientLog.{ClientLog}
use Rattle.fdb_history.specs.declared.register.Record.{Record}
use Rattle.fdb_history.proofs.Lists.{kept, left_out}
use Rattle.fdb_history.proofs.histories.HistoryLaws.{IsWithin}

-- an event that is no report of a minimum above its version
abbrev IsEventWithin : Event → Type 0
IsEventWithin (Report client call rec raised changed) = IsWithin rec
IsEventWithin (Read client call rec) = Unit {0}

-- such are the events of a call
one_within : (client place position : ℕ) (answer : CallAnswer) (rest : List Placed) → HasMinimumWithin answer → AllByRecursion IsEventWithin (map (λ p. p.event) rest)
    → AllByRecursion IsEventWithin (map (λ p. p.event) (map (λ event. record { event = event; position = position }) (option_to_list (event_of_answer client place answer)) ++ rest))
one_within client place position (Version rec limits locked_out) rest within all = (tt, all)
one_within client place position (Acked rec raised changed) rest within all = (within, all)
one_within client place position _ rest within all = all

-- and those of all calls of a log
calls_within : (client place : ℕ) (calls : List Call) → AllByRecursion (λ call. HasMinimumWithin call.answer) calls
    → AllByRecursion IsEventWithin (map (λ p. p.event) (placed_from client place calls))
calls_within client place [] within = tt
calls_within client place (call ∷ calls) within =
    one_within client place call.position call.answer (placed_from client (place + 1) calls) within.0 (calls_within client (place + 1) calls within.1)

-- what holds of each client's events holds of all
each_client : (P : Event → Type 0) (events : List Event) → ((client : ℕ) → AllByRecursion P (filter (λ event. client_of event == client) events)) → AllByRecursion P events
each_client P [] each = tt
each_client P (event ∷ events) each = (
  (subst (AllByRecursion P) (kept (by (client_of event)) event events (eq-eqb (client_of event) (client_of event) refl)) (each (client_of event))).0,
  each_client P events (λ client. elim (cases_Bool (by client event)) [
    | inl is ↦ (subst (AllByRecursion P) (kept (by client) event events is) (each client)).1
    | inr is_not ↦ subst (AllByRecursion P) (left_out (by client) event events is_not) (each client)
  ]),
)
  where
    by : ℕ → Event → Bool
    by client event = client_of event == client

reports_within : (events : List Event) → AllByRecursion IsEventWithin events → AllByRecursion IsWithin (reports_of events)
reports_within [] all = tt
reports_within (Report client call rec raised changed ∷ events) all = (all.0, reports_within events all.1)
reports_within (Read client call rec ∷ events) all = reports_within events all.1

pub minima_within : (start : Record) (logs : List ClientLog) (history : List Event) → IsLinear start logs history → HaveMinimaWithin logs
    → All (λ rec. IsWithin rec) (reports_of history)
minima_within start logs history linear within =
    All-from_recursion IsWithin (reports_of history) (reports_within history (each_client IsEventWithin history (λ client.
    subst (AllByRecursion IsEventWithin) (sym (linear.complete client)) (calls_within client 0 (calls_of logs client) (within client)))))
