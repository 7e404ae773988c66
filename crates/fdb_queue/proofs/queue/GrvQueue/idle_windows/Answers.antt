use Rattle.std.proofs.Common.{sym, ◌∙◌, ap}
use Rattle.std.specs.Option.{option_copied}
use Rattle.fdb_queue.proofs.Skipping.{batch_grants, system_goes, batch_held}
use Rattle.fdb_queue.proofs.Turning.{count_of, default_held}
use Rattle.fdb_queue.proofs.queue.GrvQueue.idle_windows.Goals as goal

pub windows_held-normal-requires-clause-transactions : goal.windows_held-normal-requires-clause-transactions
windows_held-normal-requires-clause-transactions g c = count_of _ c.in-Some.head.now c.self.invariant (sym c.head.ensures ∙ ap option_copied c.in-Some.is)

pub windows_held-batch-requires-clause-grants : goal.windows_held-batch-requires-clause-grants
windows_held-batch-requires-clause-grants g c = batch_grants _ c.in-Some.head.now c.self.invariant (sym c.head.ensures ∙ ap option_copied c.in-Some.is) c.in-Batch.is

pub windows_held-batch-requires-clause-transactions : goal.windows_held-batch-requires-clause-transactions
windows_held-batch-requires-clause-transactions g c = count_of _ c.in-Some.head.now c.self.invariant (sym c.head.ensures ∙ ap option_copied c.in-Some.is)

pub returns-in-System-clause-exact : goal.returns-in-System-clause-exact
returns-in-System-clause-exact g c =
    let head = sym c.head.ensures ∙ ap option_copied c.in-Some.is in
    rw (← c.self.view_is) (rw head (system_goes _ c.in-Some.head.now c.args.elapsed head c.in-System.is))

pub returns-in-Default-clause-exact : goal.returns-in-Default-clause-exact
returns-in-Default-clause-exact g c =
    let head = sym c.head.ensures ∙ ap option_copied c.in-Some.is in
    rw (← c.self.view_is) (rw head (default_held _ c.in-Some.head.now c.args.elapsed c.windows_held-normal.result c.self.invariant c.requires.some head c.in-Default.is c.windows_held-normal.ensures))

pub returns-in-Batch-clause-exact : goal.returns-in-Batch-clause-exact
returns-in-Batch-clause-exact g c =
    let head = sym c.head.ensures ∙ ap option_copied c.in-Some.is in
    rw (← c.self.view_is) (rw head (batch_held _ c.in-Some.head.now c.args.elapsed c.windows_held-normal.result c.windows_held-batch.result c.max.result c.self.invariant c.requires.some head c.in-Batch.is
    c.windows_held-normal.ensures c.windows_held-batch.ensures c.max.ensures))
