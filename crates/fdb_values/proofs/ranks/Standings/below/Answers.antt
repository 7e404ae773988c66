use Rattle.std.proofs.Common.{nat_lt, rules}
use Rattle.std.proofs.lemmas.List.Sorted.{IsPartitionPoint-from_clause, IsPartitionedBy-ltb}
use Rattle.fdb_values.specs.declared.standing.Standing.{Standing}
use Rattle.fdb_values.specs.Standings.{standing_number}
use Rattle.fdb_values.proofs.Counted.{front_counts, front_is, no_standing}
use Rattle.fdb_values.proofs.ranks.Standings.below.Goals as goal

pub returns-clause-count : goal.returns-clause-count
returns-clause-count c =
    let all = c.args.self.now.all.items in
    let mark = c.args.standing.now in
    let of_all = rw c.deref.ensures.value at c.partition_point.ensures.partitioned in
    front_counts all mark c.partition_point.result (rw c.deref.ensures.value at c.partition_point.ensures.bound)
    (front_is standing_number no_standing all (standing_number mark) c.partition_point.result
    (IsPartitionPoint-from_clause (λ (one : Standing). nat_lt (standing_number one) (standing_number mark)) _ _ of_all
    (IsPartitionedBy-ltb standing_number all (standing_number mark) c.args.self.now.in_order) (λ a r q k. search rules)))
