use Rattle.fdb_log_reader.proofs.InParts.{each_bytes, each_line, in_parts, of_keys}
use Rattle.fdb_log_reader.proofs.laws.each_line_is_of_one_part.Goals as goal

pub returns : goal.returns
returns c = record { bytes = each_bytes; lines = each_line; parts = in_parts; keys = of_keys }
