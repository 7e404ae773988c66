-- The tokens that are made for the reporters, one after another.
use Rattle.std.proofs.Common.{◌≡◌, ℕ, ◌<◌, List, [], Some, slice_get}
use Rattle.fdb_live.specs.Seen.{Sight}

abbrev pub token_of : ℕ → Sight
token_of number = record { reporter = Some number; changes = []; answers = [] }

abbrev pub AreTokens : List Sight → ℕ → Type 0
AreTokens items n = (k : ℕ) → k < n → slice_get items k ≡ Some (token_of k)
