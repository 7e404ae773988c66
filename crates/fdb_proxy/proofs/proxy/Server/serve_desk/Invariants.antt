use Rattle.std.proofs.Common.{◌≡◌}
use mathlib.Core.List.{IsPrefix}
use Rattle.fdb_proxy.proofs.proxy.Server.serve_desk.Given as goal

abbrev pub invariant-loop : goal.invariant-loop
invariant-loop g l = record {
  can_next : (goal.iterator-loop g).can_next l.iterator';
  is_finite : (goal.iterator-loop g).is_finite l.iterator';
  reporter : l.self.seen.reporter ≡ l.fn.self.seen.reporter;
  elapsed : l.self.line.elapsed ≡ l.fn.self.line.elapsed;
  extends : IsPrefix l.fn.self.seen.changes l.self.seen.changes;
}
