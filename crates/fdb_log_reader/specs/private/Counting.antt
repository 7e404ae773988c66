-- How many lines the parts of a log have at most. (this product's own)
use Rattle.std.specs.Prelude.{ℕ, ◌<◌, List, All}
use Rattle.fdb_log_reader.specs.declared.part_text.PartText.{PartText}

abbrev pub AreBelow : ℕ → List PartText → Type 0
AreBelow line parts = All (λ (part : PartText). part.lines < line) parts
