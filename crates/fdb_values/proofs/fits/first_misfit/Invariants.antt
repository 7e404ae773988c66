use Rattle.std.proofs.Common.{◌≡◌, ℕ, ◌<◌, true}
use Rattle.std.specs.BTreeSet.{contains}
use Rattle.std.specs.Ordering.{nat_cmp}
use Rattle.fdb_lines.specs.Faults.{some_below}
use Rattle.fdb_values.specs.Fits.{commits_it, fits}
use Rattle.fdb_values.proofs.fits.first_misfit.Given as goal

abbrev pub invariant-loop-place : goal.invariant-loop-place
invariant-loop-place l = record {
  committed : (q : ℕ) → contains nat_cmp l.committed q ≡ some_below (commits_it l.lines q) l.place;
  fit : (k : ℕ) → k < l.place → fits l.lines k ≡ true;
}
