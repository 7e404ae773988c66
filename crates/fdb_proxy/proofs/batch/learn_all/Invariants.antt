use Rattle.std.proofs.Common.{◌≡◌, All, take}
use mathlib.Core.List.{IsPrefix}
use Rattle.fdb_live.specs.Seen.{own_positions}
use Rattle.fdb_proxy.proofs.batch.learn_all.Given as goal

abbrev pub invariant-loop-request : goal.invariant-loop-request
invariant-loop-request g l = record {
  same : l.requests ≡ l.fn.requests;
  reporter : l.seen.reporter ≡ l.fn.seen.reporter;
  own : own_positions l.seen ≡ own_positions l.fn.seen;
  extends : IsPrefix l.fn.seen.changes l.seen.changes;
  told : All (λ request. IsPrefix request.payload.seen.changes l.seen.changes) (take l.request-index l.fn.requests);
}
