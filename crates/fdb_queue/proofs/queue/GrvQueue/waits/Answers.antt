use Rattle.std.proofs.Common.{sym, ◌∙◌, ap, rules}
use Rattle.fdb_queue.specs.Config.{IsElapsed}
use Rattle.std.specs.Option.{option_copied}
use Rattle.fdb_queue.proofs.Turning.{within, count_of}
use Rattle.fdb_queue.proofs.queue.GrvQueue.waits.Goals as goal

pub is_sure-requires : goal.is_sure-requires
is_sure-requires g c = count_of _ c.in_ok-head.head.now c.self.invariant (sym c.head.ensures ∙ ap option_copied c.in_ok-head.was)

pub returns-clause-bounded : goal.returns-clause-bounded
returns-clause-bounded g c =
    let time : IsElapsed c.args.elapsed = search rules in
    let head = sym c.head.ensures ∙ ap option_copied c.in_ok-head.was in
    let sure = rw (← c.self.view_is) at c.is_sure.ensures in
    let exact = rw (← c.self.view_is, head) at c.idle_windows.ensures.exact in
    rw (← c.self.view_is) (rw head (within _ c.in_ok-head.head.now c.args.elapsed c.idle_windows.result c.self.invariant time.some head (sure.0 c.if-not-is_sure.false) exact))
