-- The history of some logs, in a fixed order.
use Rattle.std.specs.Prelude.{ℕ, ◌+◌, ◌==◌, ◌&&◌, not, zero, suc, List, [], ◌∷◌, ◌++◌, map, filter, count_by}
use Rattle.fdb_history.specs.Event.{is_change}
use Rattle.fdb_history.specs.declared.register.Placed.{Placed}
use Rattle.fdb_history.specs.Log.{placed_from}
use Rattle.fdb_history.specs.declared.register.Event.{Event}
use Rattle.fdb_history.specs.declared.log.ClientLog.{ClientLog}

-- The register's events in the logs, by client and then by call. They are those of the clients from
-- this one on.
abbrev pub placed_in : ℕ → List ClientLog → List Placed
placed_in client [] = []
placed_in client (log ∷ logs) = placed_from client 0 log.calls ++ placed_in (client + 1) logs

-- The events at a position, the change that made it first. Then come the others in their order.
abbrev pub events_at : ℕ → List Placed → List Event
events_at position all =
    map (λ p. p.event) (filter (λ p. p.position == position && is_change p.event) all)
    ++ map (λ p. p.event) (filter (λ p. p.position == position && not (is_change p.event)) all)

-- the events at the positions from 0 up to this one
abbrev pub events_up_to : ℕ → List Placed → List Event
events_up_to zero all = events_at 0 all
events_up_to (suc position) all = events_up_to position all ++ events_at (suc position) all

-- The history of the logs, position by position. It goes up to the number of changes. (this
-- product's own order)
abbrev pub explained : List ClientLog → List Event
explained logs =
    events_up_to (count_by (λ p. is_change p.event) (placed_in 0 logs)) (placed_in 0 logs)
