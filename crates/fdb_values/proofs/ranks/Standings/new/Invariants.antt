use Rattle.fdb_values.specs.Standings.{HasStandings}
use Rattle.fdb_values.proofs.ranks.Standings.new.Given as goal

abbrev pub invariant-loop-line : goal.invariant-loop-line
invariant-loop-line l = HasStandings l.margin l.lines l.line-index l.all.items
