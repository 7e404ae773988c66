-- What a reader has read of a text, and reads on. (this product's own)
use Rattle.std.specs.Prelude.{ℕ, List, ◌++◌, Result}
use Rattle.fdb_log_reader.specs.declared.error.ReadError.{ReadError}
use Rattle.fdb_log_reader.specs.declared.reader.LogReader.{LogReader}
use Rattle.fdb_log_reader.specs.Reading.{Reading, lines_in, reading_of, with_lines}

-- what a reader has read once the rest of the text is read too, whatever it is
abbrev pub reads_on : LogReader → List ℕ → Result Reading ReadError
reads_on reader rest = with_lines (reading_of reader.named) (lines_in (reader.front.items ++ rest))
