use Rattle.std.proofs.Common.{ℕ, nat_lt, rules}
use Rattle.std.proofs.lemmas.List.Sorted.{IsPartitionPoint-from_clause, IsPartitionedBy-ltb}
use Rattle.fdb_lines.proofs.Entries.{front_is}
use Rattle.fdb_lines.proofs.Paired.{front_times}
use Rattle.fdb_lines.proofs.pairs.EndTimes.before.Goals as goal

pub returns : goal.returns
returns c =
    let times = c.args.self.now.times.items in
    let time = c.args.time in
    let of_times = rw c.deref.ensures.value at c.partition_point.ensures.partitioned in
    front_times times time c.partition_point.result (rw c.deref.ensures.value at c.partition_point.ensures.bound)
    (front_is (λ (end : ℕ). end) 0 times time c.partition_point.result
    (IsPartitionPoint-from_clause (λ (end : ℕ). nat_lt end time) _ _ of_times (IsPartitionedBy-ltb (λ (end : ℕ). end) times time c.args.self.now.in_order) (λ a r q k. search rules)))
