-- What was read of a text that keeps lines. (this product's own)
use Rattle.std.specs.Prelude.{ℕ}
use Rattle.fdb_lines.specs.declared.key_part.KeptLine.{KeptLine}
use Rattle.fdb_audit.specs.declared.kept.KeptText.{KeptText}
use Rattle.fdb_log_reader.specs.ReadLine.{LineNames}
use Rattle.fdb_audit.specs.Kept.{KeptSaid, Named, named}

abbrev pub said_of : KeptText → KeptSaid
said_of kept = record { front = record { lines = kept.lines.items; more = kept.more }; told = kept.told; settled = kept.settled; many = kept.are_many }

-- the place of a line that is kept among all that were taken
abbrev pub number_of : KeptLine → ℕ
number_of kept = kept.number

-- what it says
abbrev pub named_kept : LineNames → KeptLine → Named
named_kept names kept = named names kept.line kept.key
