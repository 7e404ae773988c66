use Rattle.std.proofs.Common.{◌≡◌, length}
use Rattle.fdb_proxy.specs.private.Sent.{AreClosed}
use Rattle.fdb_proxy.specs.private.Turn.{emptied}
use Rattle.fdb_queue.specs.Waiting.{row}
use Rattle.fdb_proxy.proofs.proxy.close.Given as goal

abbrev pub decreases-loop-request : goal.decreases-loop-request
decreases-loop-request g l = length (row l.line.queue.waiting)

-- whatever the refusals that are left come to from here, all refusals come to
abbrev pub invariant-loop-request : goal.invariant-loop-request
invariant-loop-request g l = record {
  elapsed : l.line.elapsed ≡ l.fn.line.elapsed;
  left : emptied l.line.queue ≡ emptied l.fn.line.queue;
  forwards : (last : g.row.O.Denot) → AreClosed g.O.Outbox.sends l.out (row l.line.queue.waiting) last → AreClosed g.O.Outbox.sends l.fn.out (row l.fn.line.queue.waiting) last;
}
