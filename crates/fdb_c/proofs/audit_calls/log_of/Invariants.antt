use Rattle.std.proofs.Common.{◌≡◌, drop, length}
use Rattle.fdb_lines.specs.Log.{lines_of}
use Rattle.fdb_c.specs.Audit.{AreClients, log_in, with_calls}
use Rattle.fdb_c.proofs.audit_calls.log_of.Given as goal

-- what the calls stand for is the log so far, with those that are left; its clients are known
abbrev pub invariant-loop-place : goal.invariant-loop-place
invariant-loop-place l = record {
  read : with_calls (lines_of l.log) (drop l.place l.calls) ≡ log_in l.calls;
  known : AreClients (lines_of l.log) l.clients;
  count : length (lines_of l.log).lines ≡ l.place;
}
