use Rattle.std.proofs.Common.{◌≡◌, map, drop}
use Rattle.serde_json.specs.View.{view}
use Rattle.fdb_script.specs.Reading.{commands_from}
use Rattle.fdb_script.proofs.Arrays.{prefixed}
use Rattle.fdb_script.proofs.reading.command.commands_of.Given as goal

-- the commands so far, and those of what is left, are those of all
abbrev pub invariant-loop-place : goal.invariant-loop-place
invariant-loop-place l =
    prefixed l.commands (commands_from l.clients l.round l.place (map view (drop l.place l.values))) ≡ commands_from l.clients l.round 0 (map view l.values)
