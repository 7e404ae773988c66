use Rattle.std.proofs.Common.{ℕ, arith, nat_le, rules}
use Rattle.std.proofs.lemmas.List.Sorted.{IsPartitionPoint-from_clause, IsPartitionedBy-leb}
use Rattle.fdb_audit.proofs.Following.{counted_by_search}
use Rattle.fdb_audit.proofs.members.Numbering.line_behind.Goals as goal

pub returns : goal.returns
returns c = λ few.
    let above = c.args.self.now.above.items in
    let taken = c.args.taken in
    let found = rw c.deref.ensures.value at c.partition_point-refused.ensures.partitioned in
    let bound = rw c.deref.ensures.value at c.partition_point-refused.ensures.bound in
    let refused = counted_by_search above taken c.partition_point-refused.result bound
    (IsPartitionPoint-from_clause (λ (one : ℕ). nat_le one taken) _ _ found (IsPartitionedBy-leb (λ (one : ℕ). one) above taken c.args.self.now.in_order) (λ a r q k. search rules)) in
    omega (arith, few, bound, refused, c.saturating_add.ensures, c.saturating_add-2.ensures, c.saturating_add-3.ensures)
