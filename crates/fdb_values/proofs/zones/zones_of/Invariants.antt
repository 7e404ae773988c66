use Rattle.fdb_values.specs.Standings.{HasZones}
use Rattle.fdb_values.proofs.zones.zones_of.Given as goal

abbrev pub invariant-loop-line : goal.invariant-loop-line
invariant-loop-line l = HasZones l.lines l.line-index l.zones
