-- What C is told of new rates, and of throttles that are forgotten.
use Rattle.std.specs.Prelude.{◌≡◌, ◌↔◌, ℕ, ◌<◌, ◌≤◌, ◌++◌, List, drop, length, map, All, Some}
use Rattle.fdb_queue.specs.Config.{IsConfig}
use Rattle.fdb_queue.specs.NewRates.{turned_away, under_rates, with_rates}
use Rattle.fdb_queue.specs.Queue.{Queue}
use Rattle.fdb_queue.specs.Throttles.{IsLeftAt, SameFrom}
use Rattle.fdb_queue.specs.Waiting.{row}
use Rattle.fdb_queue.specs.declared.waiting.TurnedAway.{TurnedAway}
use Rattle.fdb_c.specs.Queue.{request_of, status_of}
use Rattle.fdb_c.specs.declared.queue_limits.FdbTurnedAway.{FdbTurnedAway}
use Rattle.fdb_c.specs.declared.status.TheConstants.{FDB_OK, FDB_MEMORY, FDB_ROOM, FDB_BAD_CONFIG}

-- A request that was turned away, as C is told of it.
abbrev pub turned_away_of : TurnedAway ℕ → FdbTurnedAway
turned_away_of gone = record {
  request = request_of gone.request;
  cause = status_of (Some gone.cause);
}

-- Those whom new rates turn away, in order.
abbrev pub turned_away_by : ℕ → ℕ → Queue ℕ → List FdbTurnedAway
turned_away_by normal batch queue =
    map turned_away_of (turned_away (with_rates normal batch queue.config) (row queue.waiting))

-- New rates were set, and those whom they turn away were written to the start of what C gave, with
-- how many they are.
pub record AreNewRates (normal batch : ℕ) (before after : Queue ℕ) (old new : List FdbTurnedAway) (count : ℕ) : Type 0 where
  pub set : after ≡ under_rates normal batch before
  pub written : new ≡ turned_away_by normal batch before ++ drop (length (turned_away_by normal batch before)) old
  pub size : count ≡ length (turned_away_by normal batch before)

-- When they are refused: there is no room for all batch requests that wait, and how many they are is
-- told; or their numbers are wrong, or memory is missing. All else is as it was.
pub record AreRefused (normal batch : ℕ) (before after : Queue ℕ) (old new : List FdbTurnedAway) (size_old size_new status : ℕ)
    : Type 0 where
  pub room : (status ≡ FDB_ROOM) ↔ (length old < length before.waiting.batch)
  pub needed : status ≡ FDB_ROOM → size_new ≡ length before.waiting.batch
  pub bad_config : (status ≡ FDB_BAD_CONFIG)
      ↔ ((length before.waiting.batch ≤ length old) × ¬ IsConfig (with_rates normal batch before.config))
  pub else_memory : status ≡ FDB_MEMORY → 0 < length (turned_away_by normal batch before)
  pub unchanged : (status ≡ FDB_OK → ⊥) → (after ≡ before) × (new ≡ old)
  pub size_stays : (status ≡ FDB_OK → ⊥) → (status ≡ FDB_ROOM → ⊥) → size_new ≡ size_old

-- The throttles that expire at a moment or before were forgotten, and no others: at that moment and
-- later each answer is as it was, and so is all else.
abbrev pub IsForgotten : ℕ → Queue ℕ → Queue ℕ → Type 0
IsForgotten at before after =
    IsLeftAt at after.throttles before.throttles
    × All (λ throttle. at < throttle.expires) after.throttles
    × SameFrom at after.throttles before.throttles
    × (after ≡ record before { throttles = after.throttles })
