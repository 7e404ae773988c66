use Rattle.std.proofs.Common.{◌∷◌}
use Rattle.std.proofs.lemmas.List.Elements.{recursion_from_All}
use Rattle.fdb_history.specs.Event.{reports_of}
use Rattle.fdb_history.proofs.histories.HistoryLaws.{positions_from-counts, change_count-below, positions_from-below, positions_from-twice, IsWithin}
use Rattle.fdb_history.proofs.laws.positions_below_versions.Goals as goal

pub returns-clause-counts : goal.returns-clause-counts
returns-clause-counts c = positions_from-counts

pub returns-clause-below : goal.returns-clause-below
returns-clause-below c = change_count-below

pub returns-clause-at_each_event : goal.returns-clause-at_each_event
returns-clause-at_each_event c = positions_from-below

pub returns-clause-twice : goal.returns-clause-twice
returns-clause-twice c = λ start events place position legal all at.
    positions_from-twice start events place position legal (recursion_from_All IsWithin (start ∷ reports_of events) all) at
