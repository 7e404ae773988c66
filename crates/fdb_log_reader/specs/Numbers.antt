-- The numbers of clients, by their names in the order in which they came. (this product's own)
use Rattle.std.specs.Prelude.{◌≡◌, ℕ, ◌<◌, List, [], ◌∷◌, ◌++◌, All, Option, None, Some, IfSome, option_and_then, is_some, length, if◌then◌else◌, position}
use Rattle.std.specs.Str.{bytes_eq}

-- the number of a client: the place of its name
abbrev pub number_in : List (List ℕ) → List ℕ → Option ℕ
number_in names name = position (bytes_eq name) names

-- the names with one more: a new one goes last
abbrev pub with_name : List (List ℕ) → List ℕ → List (List ℕ)
with_name names name = if is_some (number_in names name) then names else names ++ name ∷ []

abbrev pub with_client : List (List ℕ) → Option (List ℕ) → List (List ℕ)
with_client names None = names
with_client names (Some name) = with_name names name

-- the number of the client of a line, once its name is among the names
abbrev pub client_in : List (List ℕ) → Option (List ℕ) → Option ℕ
client_in names client = option_and_then (number_in names) client

-- each line that has a number has a text
abbrev pub AreWithin : List (List ℕ) → List (Option ℕ) → Type 0
AreWithin texts numbers = All (λ number. IfSome number (λ n. n < length texts)) numbers

-- names of which the first are these
abbrev pub IsMore : List (List ℕ) → List (List ℕ) → Type 0
IsMore names more = (new : List (List ℕ)) × (more ≡ names ++ new)
