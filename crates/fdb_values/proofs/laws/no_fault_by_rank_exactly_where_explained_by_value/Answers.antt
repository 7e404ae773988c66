use Rattle.fdb_values.proofs.Law.{law}
use Rattle.fdb_values.proofs.laws.no_fault_by_rank_exactly_where_explained_by_value.Goals as goal

pub returns : goal.returns
returns c = law
