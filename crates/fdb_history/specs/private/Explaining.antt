-- The order of the program's events, and the changes among them. (this product's own)
use Rattle.std.specs.Prelude.{ℕ, true, false, List, [], ◌∷◌}
use Rattle.std.specs.List.{flat_map}
use Rattle.fdb_history.specs.private.Auditing.{Rises}
use Rattle.fdb_history.specs.declared.register.Placed.{Placed}
use Rattle.fdb_history.specs.declared.auditing.registers.PlacedChange.{PlacedChange}
use Rattle.fdb_history.specs.declared.register.Event.{Event}
use Rattle.fdb_history.specs.declared.register.Event.TheVariants.{Report, Read}

-- the events stand in the order of their positions
abbrev pub AreEventsByPosition : List Placed → Type 0
AreEventsByPosition events = Rises (λ (p : Placed). p.position) 0 events

-- the change of an event at a position, if it is one
abbrev pub change_of_event : ℕ → Event → List PlacedChange
change_of_event position (Report client call rec raised true) =
    record { position = position; rec = rec } ∷ []
change_of_event position (Report client call rec raised false) = []
change_of_event position (Read client call rec) = []

-- the changes among some events, each with the position of its event
abbrev pub changes_of : List Placed → List PlacedChange
changes_of events = flat_map (λ p. change_of_event p.position p.event) events
