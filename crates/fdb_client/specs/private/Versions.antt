-- The version under each request number, as a client keeps it. (this product's own)
use Rattle.std.specs.Prelude.{◌≡◌, ℕ, ◌+◌, ◌-◌, ◌<◌, ◌==◌, List, Option, None, Some, slice_get}
use Rattle.std.specs.Prelude.{if◌then◌else◌, vec_len, vec_capacity}
use Rattle.std.specs.List.{find}
use Rattle.std.specs.Option.{option_map, option_or}
use Rattle.fdb_history.specs.declared.chain.Issued.{Issued}
use Rattle.fdb_client.specs.declared.journal.Versions.{Versions}

-- the version of the first answer with a number
abbrev pub version_among : List Issued → ℕ → Option ℕ
version_among answers num =
    option_map (λ issued. issued.version) (find (λ issued. issued.num == num) answers)

-- the version that stands in turn: those of the numbers from 1 on
abbrev pub version_in_turn : List ℕ → ℕ → Option ℕ
version_in_turn in_turn num = if num == 0 then None else slice_get in_turn (num - 1)

-- what is kept under a number: in turn, or among the answers out of turn
abbrev pub version_under : List ℕ → List Issued → ℕ → Option ℕ
version_under in_turn others num =
    option_or (version_in_turn in_turn num) (version_among others num)

-- the version that one answer has under a number
abbrev pub version_of : Issued → ℕ → Option ℕ
version_of issued num = if issued.num == num then Some issued.version else None

-- There is capacity for one more answer with this number.
pub record HasCapacityUnder (num : ℕ) (versions : Versions) : Type 0 where
  pub in_turn : num ≡ vec_len versions.in_turn + 1
      → vec_len versions.in_turn < vec_capacity versions.in_turn
  pub others : (num ≡ vec_len versions.in_turn + 1 → ⊥)
      → version_under versions.in_turn.items versions.others.items num ≡ None
      → vec_len versions.others < vec_capacity versions.others
