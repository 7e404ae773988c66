use Rattle.std.proofs.Common.{nat_lt, rules}
use Rattle.std.proofs.lemmas.List.Sorted.{IsPartitionPoint-from_clause, IsPartitionedBy-ltb}
use Rattle.fdb_lines.specs.declared.line.End.{End}
use Rattle.fdb_lines.specs.private.EndTable.{no_end, end_key}
use Rattle.fdb_lines.proofs.Entries.{front_is}
use Rattle.fdb_lines.proofs.end_table.front_of.Goals as goal

pub returns-clause-parts : goal.returns-clause-parts
returns-clause-parts c =
    let ends = c.args.ends.now in
    let moment = end_key c.args.moment.now in
    front_is end_key no_end ends moment c.partition_point.result
    (IsPartitionPoint-from_clause (λ (end : End). nat_lt (end_key end) moment) _ _ c.partition_point.ensures.partitioned
    (IsPartitionedBy-ltb end_key ends moment c.requires) (λ a r q k. search rules))
