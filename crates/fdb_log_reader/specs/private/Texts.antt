-- The texts of values. (this product's own)
use Rattle.std.specs.Prelude.{◌≡◌, ℕ, true, List, IfSome, is_some}
use Rattle.std.specs.List.{All}
use Rattle.serde_json.specs.Read.{read}
use Rattle.fdb_log_reader.specs.Printed.{IsWritten}

-- each is a JSON text, as it is written
abbrev pub AreJson : List (List ℕ) → Type 0
AreJson texts = All (λ text. (is_some (read text) ≡ true) × IfSome (read text) (IsWritten text)) texts
