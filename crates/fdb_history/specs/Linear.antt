-- A history that explains the logs of a run: the replies are those of one register that takes
-- reports and reads one at a time.
use Rattle.std.specs.Prelude.{◌≡◌, ℕ, ◌<◌, ◌≤◌, ◌==◌, List, [], ◌∷◌, map, filter, IsTrue}
use Rattle.std.specs.List.{AllByRecursion}
use Rattle.fdb_history.specs.Event.{stamped, IsLegal, change_count}
use Rattle.fdb_history.specs.Log.{placed_from, calls_of, answer_changes}
use Rattle.fdb_history.specs.declared.register.Record.{Record}
use Rattle.fdb_history.specs.declared.register.Event.{Event}
use Rattle.fdb_history.specs.declared.register.Event.TheVariants.{Report, Read}
use Rattle.fdb_history.specs.declared.log.Call.{Call}
use Rattle.fdb_history.specs.declared.log.ClientLog.{ClientLog}

-- The client whose call an event was, by its number.
abbrev pub client_of : Event → ℕ
client_of (Report client call rec raised changed) = client
client_of (Read client call rec) = client

-- A call does not go back behind what its client had seen, which is a position: it begins at least
-- there, ends at least where it began, and beyond that where it changed the register.
abbrev pub GoesForward : ℕ → Call → Type 0
GoesForward before call =
    (before ≤ call.asked) × (call.asked ≤ call.position)
    × (IsTrue (answer_changes call.answer) → call.asked < call.position)

-- Nor does any call of a client's, each from where the one before it ended.
abbrev pub NeverGoesBack : ℕ → List Call → Type 0
NeverGoesBack before [] = Unit {0}
NeverGoesBack before (call ∷ calls) =
    GoesForward before call × NeverGoesBack call.position calls

-- The history explains the logs from the start record. (linearizability of Herlihy and Wing, 1990,
-- with 'none before what its asker had seen' in the place of real time; this product's own)
pub record IsLinear (start : Record) (logs : List ClientLog) (history : List Event) : Type 0 where
  -- each read and each report's answer is what the register before it gives, from the start record
  -- on
  pub legal : IsLegal start history
  -- each client's register calls stand in it once and in the log's order, with their places and
  -- records, and for a report whether it raised and changed the register; nothing else stands in it
  pub complete : (client : ℕ) → filter (λ event. client_of event == client) history
      ≡ map (λ p. p.event) (placed_from client 0 (calls_of logs client))
  -- each client's events have the positions of its calls
  pub placed : (client : ℕ)
      → map (λ p. p.position) (filter (λ p. client_of p.event == client) (stamped 0 history))
      ≡ map (λ p. p.position) (placed_from client 0 (calls_of logs client))
  -- no call goes back behind what its own client had seen
  pub ordered : AllByRecursion (λ log. NeverGoesBack 0 log.calls) logs
  -- no call's position is above the number of changes in the history
  pub bounded :
      AllByRecursion
      (λ log. AllByRecursion (λ call. call.position ≤ change_count history) log.calls) logs
