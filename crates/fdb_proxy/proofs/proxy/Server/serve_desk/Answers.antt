use Rattle.std.proofs.Common.{◌∙◌}
use Rattle.fdb_proxy.proofs.Batches.{prefix_trans}
use Rattle.fdb_proxy.proofs.proxy.Server.serve_desk.Goals as goal

pub loop-preserved : goal.loop-preserved
loop-preserved g c =
    let inv = c.loop.invariant in
    let served = c.serve_taken.ensures in
    record {
      can_next = tt;
      is_finite = tt;
      reporter = served.reporter ∙ inv.reporter;
      elapsed = c.in_ok-last.ensures.elapsed ∙ inv.elapsed;
      extends = prefix_trans c.args.self.now.seen.changes c.loop.self.seen.changes c.serve_taken.new.self.seen.changes inv.extends served.extends;
    }

pub returns-then-last-clause-extends : goal.returns-then-last-clause-extends
returns-then-last-clause-extends g c = prefix_trans c.args.self.now.seen.changes c.loop.self.seen.changes c.serve_taken.new.self.seen.changes c.loop.invariant.extends c.serve_taken.ensures.extends

pub returns-in_err-last-clause-extends : goal.returns-in_err-last-clause-extends
returns-in_err-last-clause-extends g c = prefix_trans c.args.self.now.seen.changes c.loop.self.seen.changes c.serve_taken.new.self.seen.changes c.loop.invariant.extends c.serve_taken.ensures.extends
