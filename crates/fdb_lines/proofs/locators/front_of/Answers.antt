use Rattle.std.proofs.Common.{nat_lt, rules}
use Rattle.std.proofs.lemmas.List.Sorted.{IsPartitionPoint-from_clause, IsPartitionedBy-ltb}
use Rattle.fdb_lines.specs.declared.line.Locator.{Locator}
use Rattle.fdb_lines.specs.private.Locators.{no_locator, locator_key}
use Rattle.fdb_lines.proofs.Entries.{front_is}
use Rattle.fdb_lines.proofs.locators.front_of.Goals as goal

pub returns-clause-parts : goal.returns-clause-parts
returns-clause-parts c =
    let locators = c.args.locators.now in
    let key = locator_key c.args.locator.now in
    front_is locator_key no_locator locators key c.partition_point.result
    (IsPartitionPoint-from_clause (λ (m : Locator). nat_lt (locator_key m) key) _ _ c.partition_point.ensures.partitioned
    (IsPartitionedBy-ltb locator_key locators key c.requires) (λ a r q k. search rules))
