use Rattle.fdb_values.proofs.ByZones.{zones_order}
use Rattle.fdb_values.proofs.laws.zones_order_values.Goals as goal

pub returns : goal.returns
returns c = zones_order
