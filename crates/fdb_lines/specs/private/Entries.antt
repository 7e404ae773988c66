-- Tables of lines: an entry for each line that answers some question.
use Rattle.std.specs.Prelude.{◌≡◌, ℕ, ◌<◌, ◌≤◌, ◌==◌, ◌&&◌, not, Bool, true, false, List, Option, None, Some, length, slice_index_or}
use Rattle.std.specs.List.{list_any, All}

-- These are the entries of those of the first n lines that answer any question: an entry has its line's place and number,
-- and answers what the line answers.
pub record AreEntries {X Q : Type 0} (place : X → ℕ) (number : X → ℕ) (answers : Q → X → Bool) (f : ℕ → ℕ) (test : Q → ℕ → Bool) (n : ℕ) (xs : List X) : Type 0 where
  pub of : All (λ x. (place x < n) × (number x ≡ f (place x)) × ((q : Q) → answers q x ≡ test q (place x))) xs
  pub all : (q : Q) (j : ℕ) → j < n → test q j ≡ true → list_any (λ x. place x == j) xs ≡ true

-- The entry of a line at a place, by its number and what it answers, if it answers any question.
abbrev pub IsEntry : {X Q : Type 0} → (X → ℕ) → (X → ℕ) → (Q → X → Bool) → ℕ → ℕ → (Q → Bool) → Option X → Type 0
IsEntry {Q = Q} place number answers j v test None = (q : Q) → test q ≡ false
IsEntry {Q = Q} place number answers j v test (Some x) = (place x ≡ j) × (number x ≡ v) × ((q : Q) → answers q x ≡ test q)

-- the keys in front are below one, and no other
abbrev pub IsFrontBy : {X : Type 0} → (X → ℕ) → X → List X → ℕ → ℕ → Type 0
IsFrontBy key d xs moment front =
    ((i : ℕ) → i < front → key (slice_index_or xs i d) < moment)
    × ((i : ℕ) → front ≤ i → i < length xs → moment ≤ key (slice_index_or xs i d))

-- ---- what is looked for

-- of the places below n that pass a test one whose number is greatest; none where none passes
abbrev pub IsNewest : (ℕ → Bool) → (ℕ → ℕ) → ℕ → Option ℕ → Type 0
IsNewest test f n None = (j : ℕ) → j < n → test j ≡ false
IsNewest test f n (Some k) = (k < n) × (test k ≡ true) × ((j : ℕ) → j < n → test j ≡ true → f j ≤ f k)

-- the first place from one on and below n that passes a test; none where none passes
abbrev pub IsFirstFrom : (ℕ → Bool) → ℕ → ℕ → Option ℕ → Type 0
IsFirstFrom test from n None = (j : ℕ) → from ≤ j → j < n → test j ≡ false
IsFirstFrom test from n (Some j) = (from ≤ j) × (j < n) × (test j ≡ true) × ((i : ℕ) → from ≤ i → i < j → test i ≡ false)

-- a test that one place does not pass
abbrev pub other : (ℕ → Bool) → ℕ → ℕ → Bool
other test k j = not (j == k) && test j
