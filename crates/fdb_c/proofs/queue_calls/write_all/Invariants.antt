use Rattle.std.proofs.Common.{◌≡◌, ◌++◌, take, drop, length, map}
use Rattle.fdb_c.specs.Queue.{request_of}
use Rattle.fdb_c.proofs.queue_calls.write_all.Given as goal

-- the requests so far, those that are left, and what stands behind them
abbrev pub invariant-loop-place : goal.invariant-loop-place
invariant-loop-place l = record {
  written : take l.place l.started ++ map request_of (drop l.place l.requests) ≡ map request_of l.fn.requests;
  behind : drop l.place l.started ≡ drop l.place l.fn.started;
  room : length l.started ≡ length l.fn.started;
}
