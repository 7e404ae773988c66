use Rattle.std.proofs.Common.{rules}
use Rattle.std.proofs.lemmas.List.Sorted.{IsNonDecreasingBy-from_sort_by}
use Rattle.fdb_lines.specs.private.EndTable.{end_key}
use Rattle.fdb_lines.proofs.end_table.EndTable.new.Goals as goal

pub newest_of-requires-clause-sorted : goal.newest_of-requires-clause-sorted
newest_of-requires-clause-sorted c =
    rw c.deref.ensures.value (IsNonDecreasingBy-from_sort_by end_key _ c.sort_unstable_by.ensures.sorted (λ a r f k. search rules))

pub invariant_of-result : goal.invariant_of-result
invariant_of-result c = record {
  in_order = IsNonDecreasingBy-from_sort_by end_key _ c.sort_unstable_by.ensures.sorted (λ a r f k. search rules);
  are_newest = rw c.deref.ensures.value at c.in_ok-newest.ensures;
}
