-- What comes of a reader that is given some bytes. (this product's own)
use Rattle.std.specs.Prelude.{◌≡◌, ◌⊎◌, ℕ, List, ◌∷◌, ◌++◌, Result, Ok, Err}
use Rattle.fdb_log_reader.specs.declared.error.ReadError.{ReadError}
use Rattle.fdb_log_reader.specs.declared.error.Why.TheVariants.{Memory}
use Rattle.fdb_log_reader.specs.declared.reader.LogReader.{LogReader}
use Rattle.fdb_log_reader.specs.Reader.{reads_on}

-- It reads on behind them, or they are refused whatever stands there, or memory was refused.
abbrev pub Feeds : LogReader → List ℕ → Result LogReader ReadError → Type 0
Feeds reader bytes (Ok fed) = (text : List ℕ) → reads_on fed text ≡ reads_on reader (bytes ++ text)
Feeds reader bytes (Err error) = (error.why ≡ Memory) ⊎ ((text : List ℕ) → reads_on reader (bytes ++ text) ≡ Err error)

-- The same of a line with its feed.
abbrev pub FeedsLine : LogReader → List ℕ → Result LogReader ReadError → Type 0
FeedsLine reader line (Ok fed) = (text : List ℕ) → reads_on fed text ≡ reads_on reader (line ++ 10 ∷ text)
FeedsLine reader line (Err error) = (error.why ≡ Memory) ⊎ ((text : List ℕ) → reads_on reader (line ++ 10 ∷ text) ≡ Err error)
