use Rattle.std.proofs.Common.{◌≡◌, ◌+◌, ◌≤◌, drop, length, sum_by}
use Rattle.fdb_script.specs.declared.script.TheConstants.{MAX_COMMANDS}
use Rattle.fdb_script.proofs.reading.has_few_commands.Given as goal

abbrev pub invariant-loop-round : goal.invariant-loop-round
invariant-loop-round l =
    (l.count ≤ MAX_COMMANDS) × (l.count + sum_by (λ round. length round.now) (drop l.round-index l.rounds) ≡ sum_by (λ round. length round.now) l.rounds)
