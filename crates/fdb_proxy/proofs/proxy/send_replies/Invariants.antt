use Rattle.fdb_proxy.specs.private.Sent.{AreReplied}
use Rattle.fdb_proxy.proofs.proxy.send_replies.Given as goal

-- whatever the replies that are left come to from here, all replies come to
abbrev pub invariant-loop-to : goal.invariant-loop-to
invariant-loop-to g l = (last : g.row.O.Denot) → AreReplied g.O.Outbox.sends l.out l.to-iterator.rest.items last → AreReplied g.O.Outbox.sends l.fn.out l.fn.replies.items last
