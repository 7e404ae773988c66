use Rattle.fdb_queue.proofs.Skipping.{idle_by, skipped_by}
use Rattle.fdb_queue.proofs.queue.GrvQueue.skip_idle.Goals as goal

pub returns-clause-after : goal.returns-clause-after
returns-clause-after g c =
    let lengths = c.lengths-lengths.ensures in
    let normal = rw (lengths.system, lengths.default_) at c.after_idle.ensures.value in
    let batch = rw (lengths.system, lengths.default_, lengths.batch) at c.after_idle-2.ensures.value in
    let exact = rw (← c.self.view_is) at c.idle_windows-windows.ensures.exact in
    let empty = rw (← c.self.view_is) at c.idle_windows-windows.ensures.empty in
    let idle = idle_by _ c.args.elapsed c.idle_windows-windows.result exact empty in
    rw (← c.self.view_is) (skipped_by c.args.elapsed c.idle_windows-windows.result _ c.after_idle.result c.after_idle-2.result idle normal batch)
