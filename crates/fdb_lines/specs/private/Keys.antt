-- The parts of a log, one for each key, and what was found at their lines.
use Rattle.std.specs.Prelude.{◌≡◌, ◌≢◌, ◌⊎◌, ◌==◌, ℕ, suc, zero, ◌<◌, Bool, List, [], ◌∷◌, ◌++◌, Option, None, Some, cond, length, map, nat_lt, set, slice_index_or}
use Rattle.std.specs.BTreeMap.{get}
use Rattle.std.specs.Ordering.{nat_cmp}
use Rattle.std.specs.List.{filter, flat_map}
use Rattle.std.specs.List.Sorted.{IsNonDecreasingBy, IsPermutation}
use Rattle.fdb_lines.specs.declared.fault.Found.{Found}
use Rattle.fdb_lines.specs.declared.log.AuditOpts.{AuditOpts}
use Rattle.fdb_lines.specs.declared.log.Part.{Part}
use Rattle.fdb_lines.specs.declared.log.PartNumbers.{PartNumbers}
use Rattle.fdb_lines.specs.declared.fault.Finding.{Finding}
use Rattle.fdb_lines.specs.Keys.{case_of_key, key_at, placed_found, places_of}
use Rattle.fdb_lines.specs.Lines.{Lines}
use Rattle.fdb_lines.specs.Listing.{faults_of}
use Rattle.fdb_lines.specs.Reasons.{found_of}

-- ---- a number for each key, and the parts of a log

abbrev pub number_of : Option ℕ → ℕ
number_of None = 0
number_of (Some key) = suc key

abbrev pub key_of : ℕ → Option ℕ
key_of zero = None
key_of (suc key) = Some key

-- the part of a key, by its number: the lowest are in a list, the others in a table
abbrev pub part_number : PartNumbers → ℕ → Option ℕ
part_number numbers q = cond (nat_lt q (length numbers.near.items)) (slice_index_or numbers.near.items q None) (get nat_cmp numbers.far q)

abbrev pub keys_in : List Part → List (Option ℕ)
keys_in parts = map (λ (part : Part). part.key) parts

-- a table has where each of some keys stands, by its number, and no other
pub record AreNumbered (at : ℕ → Option ℕ) (keys : List (Option ℕ)) : Type 0 where
  pub there : (key : Option ℕ) (number : ℕ) → at (number_of key) ≡ Some number → (number < length keys) × (key_at keys number ≡ key)
  pub absent : (key : Option ℕ) → at (number_of key) ≡ None → (i : ℕ) → i < length keys → key_at keys i ≢ key

-- a key has a part: it was there, or has come in at the end without places
abbrev pub IsPartMore : Option ℕ → List Part → List Part → Type 0
IsPartMore key old new =
    (new ≡ old)
    ⊎ (((i : ℕ) → i < length old → key_at (keys_in old) i ≢ key) × (part : Part) × (part.key ≡ key) × (part.places.items ≡ []) × (new ≡ old ++ part ∷ []))

-- a part has a place more
abbrev pub IsPlaceMore : List Part → List Part → ℕ → ℕ → Type 0
IsPlaceMore old new number place =
    (part : Part) × (part.key ≡ key_at (keys_in old) number)
    × (part.places.items ≡ (slice_index_or old number part).places.items ++ place ∷ []) × (new ≡ set old number part)

-- ---- what was found at the lines of some keys, key by key

abbrev pub faults_of_key : Lines → List (Option ℕ) → AuditOpts → Option ℕ → List Found
faults_of_key log keys opts key = map (placed_found (places_of keys key)) (faults_of (case_of_key log keys opts key))

abbrev pub faults_of_keys : Lines → List (Option ℕ) → AuditOpts → List (Option ℕ) → List Found
faults_of_keys log keys opts names = flat_map (faults_of_key log keys opts) names

abbrev pub stands_at : ℕ → Found → Bool
stands_at k found = found.place == k

-- the same findings, line by line, and at each line in the order that they had
pub record AreByLine (old new : List Finding) : Type 0 where
  pub same : IsPermutation old new
  pub rise : IsNonDecreasingBy (λ (found : Found). found.place) (map found_of new)
  pub stay : (k : ℕ) → filter (stands_at k) (map found_of new) ≡ filter (stands_at k) (map found_of old)
