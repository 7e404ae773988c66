use Rattle.std.proofs.Common.{sym, ◌∙◌}
use Rattle.fdb_history.specs.declared.log.Priority.TheVariants.{System, Default, Batch}
use Rattle.fdb_queue.proofs.Keeping.{looked_up, last_set-all}
use Rattle.fdb_queue.proofs.throttles.Throttles.get.Goals as goal

pub returns-in-System : goal.returns-in-System
returns-in-System c =
    rw (c.in-System.is, ← c.self.view_is, c.copied.ensures, c.get.ensures.value, c.as_slice.ensures)
    (looked_up System c.self.inside.system.entries c.args.tag.now ∙ sym (last_set-all c.self.inside.system.entries c.self.inside.default_.entries c.self.inside.batch.entries System c.args.tag.now))

pub returns-in-Default : goal.returns-in-Default
returns-in-Default c =
    rw (c.in-Default.is, ← c.self.view_is, c.copied-in-Default.ensures, c.get-in-Default.ensures.value, c.as_slice-in-Default.ensures)
    (looked_up Default c.self.inside.default_.entries c.args.tag.now ∙ sym (last_set-all c.self.inside.system.entries c.self.inside.default_.entries c.self.inside.batch.entries Default c.args.tag.now))

pub returns-in-Batch : goal.returns-in-Batch
returns-in-Batch c =
    rw (c.in-Batch.is, ← c.self.view_is, c.copied-in-Batch.ensures, c.get-in-Batch.ensures.value, c.as_slice-in-Batch.ensures)
    (looked_up Batch c.self.inside.batch.entries c.args.tag.now ∙ sym (last_set-all c.self.inside.system.entries c.self.inside.default_.entries c.self.inside.batch.entries Batch c.args.tag.now))
