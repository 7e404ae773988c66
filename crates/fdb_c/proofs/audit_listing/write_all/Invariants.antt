use Rattle.std.proofs.Common.{◌≡◌, ◌++◌, take, drop, length, map}
use Rattle.fdb_c.specs.Audit.{told}
use Rattle.fdb_c.proofs.audit_listing.write_all.Given as goal

-- the faults so far, those that are left, and what stands behind them
abbrev pub invariant-loop-place : goal.invariant-loop-place
invariant-loop-place l = record {
  written : take l.place l.faults ++ map told (drop l.place l.found) ≡ map told l.fn.found;
  behind : drop l.place l.faults ≡ drop l.place l.fn.faults;
  room : length l.faults ≡ length l.fn.faults;
}
