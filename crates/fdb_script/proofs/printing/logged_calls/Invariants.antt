use Rattle.std.proofs.Common.{◌≡◌, map, take}
use Rattle.fdb_script.specs.Text.{replies_of}
use Rattle.fdb_script.proofs.printing.logged_calls.Given as goal

-- the calls of the logs so far
abbrev pub invariant-loop-log : goal.invariant-loop-log
invariant-loop-log l = map (λ calls. replies_of calls.now) l.all.items ≡ map (λ log. replies_of log.calls) (take l.log-index l.logs)
