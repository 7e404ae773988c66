use Rattle.std.proofs.Common.{map, string_bytes, subst, sym}
use Rattle.fdb_log_reader.specs.private.{HaveCells}
use Rattle.fdb_log_reader.proofs.ShownTexts.{no_cells}
use Rattle.fdb_log_reader.proofs.reader.LogReader.with_columns.Goals as goal

pub beginning-requires-clause-shown : goal.beginning-requires-clause-shown
beginning-requires-clause-shown c = subst (HaveCells 0) (sym c.in_ok-shown.ensures) (no_cells (map string_bytes c.args.shown.now))
