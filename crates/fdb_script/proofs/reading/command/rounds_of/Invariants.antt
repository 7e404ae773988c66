use Rattle.std.proofs.Common.{◌≡◌, map, drop}
use Rattle.serde_json.specs.View.{view}
use Rattle.fdb_script.specs.Reading.{rounds_from}
use Rattle.fdb_script.proofs.Arrays.{prefixed}
use Rattle.fdb_script.proofs.reading.command.rounds_of.Given as goal

-- the rounds so far, and those of what is left, are all rounds
abbrev pub invariant-loop-number : goal.invariant-loop-number
invariant-loop-number l =
    prefixed l.all (rounds_from l.clients l.number (map (λ round. map view round.now) (drop l.number l.rounds))) ≡ rounds_from l.clients 0 (map (λ round. map view round.now) l.rounds)
