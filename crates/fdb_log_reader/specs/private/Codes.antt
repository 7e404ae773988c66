-- The codes of names, by which they are looked up, and the numbers that they have so. (this product's own)
use Rattle.std.specs.Prelude.{ℕ, zero, suc, ◌+◌, ◌*◌, ◌<◌, List, Option, cond, length, nat_lt, slice_index}
use Rattle.std.specs.BTreeMap.{get, get_by_text}
use Rattle.std.specs.Ordering.{nat_cmp}
use Rattle.fdb_log_reader.specs.declared.names.NameNumbers.{NameNumbers}

abbrev pub AreBytes : List ℕ → Type 0
AreBytes bytes = (k : ℕ) → slice_index bytes k < 256

-- 1, and behind it so many of the bytes
abbrev pub code_below : List ℕ → ℕ → ℕ
code_below bytes zero = 1
code_below bytes (suc n) = code_below bytes n * 256 + slice_index bytes n

abbrev pub name_code : List ℕ → ℕ
name_code bytes = code_below bytes (length bytes)

-- the number of a name, by a table of the codes of short names, and one of the others
abbrev pub number_by : (ℕ → Option ℕ) → (List ℕ → Option ℕ) → List ℕ → Option ℕ
number_by short long name = cond (nat_lt (length name) 16) (short (name_code name)) (long name)

unfoldable pub number_at : NameNumbers → List ℕ → Option ℕ
number_at numbers = number_by (λ code. get nat_cmp numbers.short code) (λ name. get_by_text numbers.long name)
