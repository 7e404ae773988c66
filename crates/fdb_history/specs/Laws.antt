-- Words of the laws about events: what an event shows its client, and minima that stay within.
use Rattle.std.specs.Prelude.{ℕ, ◌≤◌, if◌then◌else◌, List, Option, None, Some, slice_get}
use Rattle.std.specs.List.{AllByRecursion}
use Rattle.std.specs.Option.{option_and_then}
use Rattle.fdb_history.specs.Log.{calls_of}
use Rattle.fdb_history.specs.declared.log.CallAnswer.{CallAnswer}
use Rattle.fdb_history.specs.declared.log.CallAnswer.TheVariants.{Version, Answered, Acked, Told, Refused}
use Rattle.fdb_history.specs.declared.log.ClientLog.{ClientLog}
use Rattle.fdb_history.specs.declared.register.Event.{Event}
use Rattle.fdb_history.specs.declared.register.Event.TheVariants.{Report, Read}

-- The version that an event shows its client: a read shows what was read, and a raise what it
-- reported.
-- (this product's own)
abbrev pub seen_version : Event → Option ℕ
seen_version (Report client call rec raised changed) = if raised then Some rec.version else None
seen_version (Read client call rec) = Some rec.version

-- the version that the event at a place shows, if it shows one
abbrev pub seen_at : List Event → ℕ → Option ℕ
seen_at events place = option_and_then seen_version (slice_get events place)

-- A report that was acknowledged told of no minimum known committed version above its version.
-- (this product's own)
abbrev pub HasMinimumWithin : CallAnswer → Type 0
HasMinimumWithin (Acked rec raised changed) = rec.min_known ≤ rec.version
HasMinimumWithin (Version rec limits locked_out) = Unit {0}
HasMinimumWithin (Answered issued) = Unit {0}
HasMinimumWithin Told = Unit {0}
HasMinimumWithin (Refused cause) = Unit {0}

-- No log has an acknowledged report with a minimum above its version.
abbrev pub HaveMinimaWithin : List ClientLog → Type 0
HaveMinimaWithin logs =
    (client : ℕ) → AllByRecursion (λ call. HasMinimumWithin call.answer) (calls_of logs client)
