-- What a writer that failed has taken. (this product's own)
use Rattle.std.specs.Prelude.{◌≡◌, ◌⊎◌, ℕ, ◌<◌, ◌++◌, List, Option, length}
use Rattle.std.specs.Io.KnownBytes.{Appends}

-- A writer took the first of these bytes, and not all.
pub record TakesSome (bytes : List ℕ) (before after : Option (List ℕ)) : Type 0 where
  pub taken : List ℕ
  pub left : List ℕ
  pub split : bytes ≡ taken ++ left
  pub some_left : 0 < length left
  pub appended : Appends before after taken

-- a writer took all of these bytes, or the first of them
abbrev pub TakesAny : List ℕ → Option (List ℕ) → Option (List ℕ) → Type 0
TakesAny bytes before after = Appends before after bytes ⊎ TakesSome bytes before after
