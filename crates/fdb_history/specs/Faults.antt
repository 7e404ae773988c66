-- What can be wrong with the logs of a run, and where. A call is named by its client, which is the
-- place of its log, and by its place in the log. (all of this is this product's own)
use Rattle.std.specs.Prelude.{◌≡◌, ◌≢◌, ◌⊎◌, ℕ, Bool, zero, suc, ◌-◌, ◌<◌, ◌≤◌, ◌==◌, true, false, List, [], ◌∷◌, map, length, take, filter, Some, slice_get}
use Rattle.std.specs.List.{flat_map}
use Rattle.fdb_history.specs.Linear.{GoesForward}
use Rattle.fdb_history.specs.Log.{calls_of, position_after_calls}
use Rattle.fdb_history.specs.Register.{raises, changes, after_reports}
use Rattle.fdb_history.specs.declared.auditing.registers.PlacedChange.{PlacedChange}
use Rattle.fdb_history.specs.declared.log.Call.{Call}
use Rattle.fdb_history.specs.declared.log.CallAnswer.{CallAnswer}
use Rattle.fdb_history.specs.declared.log.CallAnswer.TheVariants.{Version, Answered, Acked, Told, Refused}
use Rattle.fdb_history.specs.declared.log.ClientLog.{ClientLog}
use Rattle.fdb_history.specs.declared.register.Record.{Record}

-- ---- the changes in the logs, and the register that comes of them

-- The change in an answer, if it says one.
abbrev pub change_in : ℕ → CallAnswer → List PlacedChange
change_in position (Version rec limits locked_out) = []
change_in position (Acked rec raised true) = record { position = position; rec = rec } ∷ []
change_in position (Acked rec raised false) = []
change_in position (Answered issued) = []
change_in position Told = []
change_in position (Refused cause) = []

-- The changes in all logs, by client and then by call.
abbrev pub changes_in : List ClientLog → List PlacedChange
changes_in logs =
    flat_map (λ log. flat_map (λ call. change_in call.position call.answer) log.calls) logs

-- The changes of a list that have this position.
abbrev pub at_position : ℕ → List PlacedChange → List PlacedChange
at_position position changes = filter (λ change. change.position == position) changes

-- The changes in all logs at a position: one at each from 1 on that is reached, and none at 0,
-- where no fault stands.
abbrev pub changes_at : List ClientLog → ℕ → List PlacedChange
changes_at logs position = at_position position (changes_in logs)

-- The register at a position: the start, and each change up to there.
abbrev pub register_at : Record → List ClientLog → ℕ → Record
register_at start logs zero = start
register_at start logs (suc position) =
    after_reports (register_at start logs position)
    (map (λ change. change.rec) (changes_at logs (suc position)))

-- ---- faults of the history: of calls, of positions and of answers

-- Two or more changes have this position, which only one can have.
abbrev pub IsClash : List ClientLog → ℕ → Type 0
IsClash logs position = 1 < length (changes_at logs position)

-- Some client's call has come to this position or beyond it.
abbrev pub IsReached : List ClientLog → ℕ → Type 0
IsReached logs position =
    (client place : ℕ) × (call : Call)
    × (slice_get (calls_of logs client) place ≡ Some call) × (position ≤ call.position)

-- a position that some call has reached has no change
abbrev pub IsGap : List ClientLog → ℕ → Type 0
IsGap logs position = (1 ≤ position) × (changes_at logs position ≡ []) × IsReached logs position

-- This register would have answered a report otherwise. It would have changed it or not, or raised
-- it or not.
abbrev pub IsMisanswered : Record → Record → Bool → Bool → Type 0
IsMisanswered current rec raised changed =
    (raised ≢ raises current rec) ⊎ (changed ≢ changes current rec)

-- The register at a call's position would not have answered so. It is given at each position. A
-- report that changed the register met the one of the position before its own.
abbrev pub IsWrongBy : (ℕ → Record) → ℕ → CallAnswer → Type 0
IsWrongBy register position (Version rec limits locked_out) = rec ≢ register position
IsWrongBy register position (Acked rec raised true) =
    IsMisanswered (register (position - 1)) rec raised true
IsWrongBy register position (Acked rec raised false) =
    IsMisanswered (register position) rec raised false
IsWrongBy register position (Answered issued) = ⊥
IsWrongBy register position Told = ⊥
IsWrongBy register position (Refused cause) = ⊥

-- The register of the logs would not have answered so at this position.
abbrev pub IsWrongAnswer : Record → List ClientLog → ℕ → CallAnswer → Type 0
IsWrongAnswer start logs = IsWrongBy (register_at start logs)

-- ---- where a fault stands, and which of several is the first

-- A fault stands at a call, after those before it.
abbrev pub StandsAt : (List Call → Call → Type 0) → List ClientLog → ℕ → ℕ → Type 0
StandsAt Fault logs client place =
    (call : Call) × (slice_get (calls_of logs client) place ≡ Some call)
    × Fault (take place (calls_of logs client)) call

-- a place comes before another: by client, and then by call
abbrev pub ComesBefore : ℕ → ℕ → ℕ → ℕ → Type 0
ComesBefore client place other_client other_place =
    (client < other_client) ⊎ ((client ≡ other_client) × (place < other_place))

-- The first at which it stands, by client and then by place.
pub record IsFirst (Stands : ℕ → ℕ → Type 0) (client place : ℕ) : Type 0 where
  pub stands : Stands client place
  pub none_before : (c p : ℕ) → ComesBefore c p client place → Stands c p → ⊥

-- the least position at which something stands
pub record IsLeast (Stands : ℕ → Type 0) (position : ℕ) : Type 0 where
  pub stands : Stands position
  pub none_below : (p : ℕ) → p < position → Stands p → ⊥

-- There is no client and no place at which it stands.
abbrev pub Nowhere : (ℕ → ℕ → Type 0) → Type 0
Nowhere Stands = (client place : ℕ) → Stands client place → ⊥

-- It stands at no position, however great and whether reached or not.
abbrev pub AtNoPosition : (ℕ → Type 0) → Type 0
AtNoPosition Stands = (position : ℕ) → Stands position → ⊥

-- The calls that go back behind what their clients had seen.
abbrev pub OutOfOrder : List ClientLog → ℕ → ℕ → Type 0
OutOfOrder logs =
    StandsAt (λ before call. GoesForward (position_after_calls 0 before) call → ⊥) logs

-- The calls that the register at their positions would have answered otherwise.
abbrev pub WronglyAnswered : Record → List ClientLog → ℕ → ℕ → Type 0
WronglyAnswered start logs =
    StandsAt (λ before call. IsWrongAnswer start logs call.position call.answer) logs

-- No fault of the history stands anywhere in the logs.
pub record IsFaultless (start : Record) (logs : List ClientLog) : Type 0 where
  pub order : Nowhere (OutOfOrder logs)
  pub clash : AtNoPosition (IsClash logs)
  pub gap : AtNoPosition (IsGap logs)
  pub wrong : Nowhere (WronglyAnswered start logs)
