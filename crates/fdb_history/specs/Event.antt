-- Events of the register, one after another. (where no source is named, this product's own)
use Rattle.std.specs.Prelude.{◌≡◌, ℕ, ◌+◌, Bool, false, if◌then◌else◌, List, [], ◌∷◌, Option, None, Some, map, filter_map, fold, count_by}
use Rattle.fdb_history.specs.Register.{raises, changes, after_report}
use Rattle.fdb_history.specs.declared.register.Record.{Record}
use Rattle.fdb_history.specs.declared.register.Event.{Event}
use Rattle.fdb_history.specs.declared.register.Placed.{Placed}
use Rattle.fdb_history.specs.declared.register.Event.TheVariants.{Report, Read}

-- The register after one event. A read changes nothing. (updateLiveCommittedVersion of
-- masterserver, FoundationDB 7.1)
abbrev pub after_event : Record → Event → Record
after_event current (Report client call rec raised changed) = after_report current rec
after_event current (Read client call rec) = current

-- What an event reports, whether or not it raised the register.
abbrev pub reported : Event → Option Record
reported (Report client call rec raised changed) = Some rec
reported (Read client call rec) = None

-- the records that were reported, in order
abbrev pub reports_of : List Event → List Record
reports_of events = filter_map reported events

-- The register after some events: a fold over them, from the start record.
-- (liveCommittedVersion of masterserver, FoundationDB 7.1, as one register)
abbrev pub register_after : Record → List Event → Record
register_after start events = fold after_event start events

-- What an event says is so of the register before it. A read has the register's record, and a
-- report says that it raised the register, and that it changed it, exactly where it did.
abbrev pub IsTrueOf : Record → Event → Type 0
IsTrueOf current (Report client call rec raised changed) =
    (raised ≡ raises current rec) × (changed ≡ changes current rec)
IsTrueOf current (Read client call rec) = rec ≡ current

-- Each event is true of the register before it, from a start. (the sequential specification of
-- Herlihy and Wing, Linearizability, 1990, at this register)
abbrev pub IsLegal : Record → List Event → Type 0
IsLegal start [] = Unit {0}
IsLegal start (event ∷ events) = IsTrueOf start event × IsLegal (after_event start event) events

-- whether an event is a report that changed the register
abbrev pub is_change : Event → Bool
is_change (Report client call rec raised changed) = changed
is_change (Read client call rec) = false

-- whether an event is a report that raised the register
abbrev pub is_raise : Event → Bool
is_raise (Report client call rec raised changed) = raised
is_raise (Read client call rec) = false

-- The position counts the changes up to an event. (this product's own)
abbrev pub position_after : ℕ → Event → ℕ
position_after before event = if is_change event then before + 1 else before

-- Each event with its position. That is the number of changes up to and including it, over a
-- position before them all.
abbrev pub stamped : ℕ → List Event → List Placed
stamped before [] = []
stamped before (event ∷ events) =
    record { event = event; position = position_after before event }
    ∷ stamped (position_after before event) events

-- The positions of some events, each counted on from the one given.
abbrev pub positions_from : ℕ → List Event → List ℕ
positions_from before events = map (λ p. p.position) (stamped before events)

-- How many of some events are reports that changed the register.
abbrev pub change_count : List Event → ℕ
change_count events = count_by is_change events

-- How many of some events are reports that raised the register.
abbrev pub raise_count : List Event → ℕ
raise_count events = count_by is_raise events
