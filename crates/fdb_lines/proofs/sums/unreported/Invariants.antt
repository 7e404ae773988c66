use Rattle.std.proofs.Common.{◌≡◌, ◌+◌, ◌==◌, ◌||◌, ℕ}
use Rattle.std.specs.Ordering.{nat_cmp}
use Rattle.std.specs.BTreeSet.{contains, btree_set_len}
use Rattle.fdb_lines.specs.Audit.{case_of}
use Rattle.fdb_lines.specs.Faults.{is_reported, some_below, reports_it}
use Rattle.fdb_lines.specs.Log.{lines_of}
use Rattle.fdb_lines.specs.Summary.{is_first_of_others, reads_it, tally}
use Rattle.fdb_lines.proofs.sums.unreported.Given as goal

abbrev pub invariant-loop-line : goal.invariant-loop-line
invariant-loop-line l =
    let it = case_of (lines_of l.log) l.opts in
    (v : ℕ) → contains nat_cmp l.known v ≡ (v == it.start || some_below (reports_it it v) l.line-index)

abbrev pub invariant-loop-line-2 : goal.invariant-loop-line-2
invariant-loop-line-2 l =
    let it = case_of (lines_of l.log) l.opts in
    record {
      known : (v : ℕ) → contains nat_cmp l.known v ≡ ((v == it.start || is_reported it v) || some_below (reads_it it v) l.line-index);
      counted : btree_set_len l.known ≡ l.reported + tally (is_first_of_others it) l.line-index;
    }
