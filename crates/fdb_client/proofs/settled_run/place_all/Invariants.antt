use Rattle.std.proofs.Common.{◌≡◌, take}
use Rattle.fdb_history.specs.Log.{answers_in}
use Rattle.fdb_client.specs.Merging.{all_placed}
use Rattle.fdb_client.proofs.settled_run.place_all.Given as goal

-- the answers of the calls so far have been placed
abbrev pub invariant-loop-call : goal.invariant-loop-call
invariant-loop-call l = l.chain.items ≡ all_placed l.initial.chain.items (answers_in (take l.call-index l.calls))
