use Rattle.std.proofs.Common.{rules}
use Rattle.fdb_queue.proofs.Keeping.{set_system, set_default, set_batch}
use Rattle.fdb_queue.proofs.throttles.Throttles.set.Goals as goal

pub returns-in_ok-insert-in-System-clause-ok : goal.returns-in_ok-insert-in-System-clause-ok
returns-in_ok-insert-in-System-clause-ok c =
    rw (c.in-System.is, ← c.self.view_is, ← c.into_vec-tag.ensures) (set_system c.self.inside.system.entries _ c.self.inside.default_.entries c.self.inside.batch.entries c.into_vec-tag.result (record { rate = c.args.throttle.rate; expires = c.args.throttle.expires }) c.in_ok-insert-in-System.ensures.entries)

pub returns-in_ok-insert-in-Default-clause-ok : goal.returns-in_ok-insert-in-Default-clause-ok
returns-in_ok-insert-in-Default-clause-ok c =
    rw (c.in-Default.is, ← c.self.view_is, ← c.into_vec-tag.ensures) (set_default c.self.inside.system.entries c.self.inside.default_.entries _ c.self.inside.batch.entries c.into_vec-tag.result (record { rate = c.args.throttle.rate; expires = c.args.throttle.expires }) c.in_ok-insert-in-Default.ensures.entries)

pub returns-in_ok-insert-in-Batch-clause-ok : goal.returns-in_ok-insert-in-Batch-clause-ok
returns-in_ok-insert-in-Batch-clause-ok c =
    rw (c.in-Batch.is, ← c.self.view_is, ← c.into_vec-tag.ensures) (set_batch c.self.inside.system.entries c.self.inside.default_.entries c.self.inside.batch.entries _ c.into_vec-tag.result (record { rate = c.args.throttle.rate; expires = c.args.throttle.expires }) c.in_ok-insert-in-Batch.ensures.entries)
