use Rattle.std.proofs.Common.{◌≡◌, take}
use Rattle.fdb_client.specs.Merging.{all_placed, answers_of_logs}
use Rattle.fdb_client.proofs.settled_run.chain_of.Given as goal

-- the answers of the logs so far have been placed
abbrev pub invariant-loop-log : goal.invariant-loop-log
invariant-loop-log l = l.chain.items ≡ all_placed l.initial.chain.items (answers_of_logs (take l.log-index l.logs))
