use Rattle.fdb_values.proofs.Law.{law}
use Rattle.fdb_values.proofs.ByZones.{zones_order}
use Rattle.fdb_values.specs.Zones.{rank_by_zone}
use Rattle.fdb_values.proofs.laws.no_fault_by_zones_exactly_where_explained_by_value.Goals as goal

pub returns : goal.returns
returns c = λ margin lines by. law margin lines (rank_by_zone margin lines) by (zones_order margin lines)
