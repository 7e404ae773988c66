use Rattle.fdb_values.proofs.ValuesByKey.{judged_in}
use Rattle.fdb_values.proofs.laws.ranked_logs_are_explained_exactly_where_lines_are_by_value.Goals as goal

pub returns : goal.returns
returns c = judged_in c.no_fault_exactly_where_explained.ensures
