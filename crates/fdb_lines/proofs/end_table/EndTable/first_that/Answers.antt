use Rattle.std.proofs.Common.{arith, rules}
use Rattle.std.proofs.lemmas.List.Sorted.{IsPartitionPoint-from_clause}
use Rattle.fdb_lines.proofs.First.{found_first, found_none, is_behind, one_group, parted, IsPoint}
use Rattle.fdb_lines.proofs.end_table.EndTable.first_that.Goals as goal

pub returns-then-front-len : goal.returns-then-front-len
returns-then-front-len c = λ seen lines are.
    let ends = c.args.self.now.ends.items in
    let newest = c.args.self.now.newest.items in
    let fault = c.args.fault in
    let v = c.args.version in
    let front = c.partition_point-front.result in
    let point : IsPoint ends newest fault v front = rw c.deref.ensures.value at (IsPartitionPoint-from_clause (is_behind ends fault v) _ _ c.partition_point-front.ensures.partitioned
    (rw c.deref.ensures.value (parted ends newest fault v c.args.self.now.are_newest (one_group seen lines ends are)))
    (λ a r q k. search rules)) in
    found_first fault seen lines ends newest v front c.index.result.now c.args.self.now.in_order c.args.self.now.are_newest are point (omega arith) c.index.ensures

pub returns-else-front-len : goal.returns-else-front-len
returns-else-front-len c = λ seen lines are.
    let ends = c.args.self.now.ends.items in
    let newest = c.args.self.now.newest.items in
    let fault = c.args.fault in
    let v = c.args.version in
    let front = c.partition_point-front.result in
    let point : IsPoint ends newest fault v front = rw c.deref.ensures.value at (IsPartitionPoint-from_clause (is_behind ends fault v) _ _ c.partition_point-front.ensures.partitioned
    (rw c.deref.ensures.value (parted ends newest fault v c.args.self.now.are_newest (one_group seen lines ends are)))
    (λ a r q k. search rules)) in
    found_none fault seen lines ends newest v front c.args.self.now.are_newest are point (omega arith)
