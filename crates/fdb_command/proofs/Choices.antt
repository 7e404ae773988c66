-- The one element of a list that passes a test.
use Rattle.std.proofs.Common.{◌≡◌, ◌∙◌, ◌<◌, ℕ, zero, suc, Bool, true, false, cond, List, [], ◌∷◌, get_or, length, ap, refl, sym, arith}
use Rattle.std.specs.Prelude.{filter}

-- what is chosen of a list, by what the test says of its first element
chosen : {X : Type 0} (p : X → Bool) (x : X) (xs ys : List X) (b : Bool) → p x ≡ b → filter p (x ∷ xs) ≡ ys → cond b (x ∷ filter p xs) (filter p xs) ≡ ys
chosen p x xs ys b e is = sym (ap (λ (c : Bool). cond c (x ∷ filter p xs) (filter p xs)) e) ∙ is

-- where none is chosen, none passes at any place
nothing_passes : {X : Type 0} (p : X → Bool) (xs : List X) → filter p xs ≡ [] → (j : ℕ) (d : X) → j < length xs → p (get_or xs j d) ≡ true → ⊥
nothing_passes p [] none j d low passes = omega arith
nothing_passes p (x ∷ xs) none zero d low passes =
    let bad : x ∷ filter p xs ≡ [] = chosen p x xs [] true passes none in
    cc
nothing_passes {X} p (x ∷ xs) none (suc k) d low passes = go (p x) refl (λ rest. nothing_passes p xs rest k d (omega arith) passes)
  where
    go : (b : Bool) → p x ≡ b → (filter p xs ≡ [] → ⊥) → ⊥
    go true e later =
        let bad : x ∷ filter p xs ≡ [] = chosen p x xs [] true e none in
        cc
    go false e later = later (chosen p x xs [] false e none)

-- x stands at a place of the list, and what passes stands at no other
abbrev pub IsOnlyOne : {X : Type 0} → (X → Bool) → List X → X → Type 0
IsOnlyOne p xs x = (place : ℕ) × (place < length xs) × (get_or xs place x ≡ x) × ((j : ℕ) → j < length xs → p (get_or xs j x) ≡ true → j ≡ place)

at_first : {X : Type 0} (p : X → Bool) (y : X) (xs : List X) (x : X) → filter p xs ≡ [] → (j : ℕ) → j < length (y ∷ xs) → p (get_or (y ∷ xs) j x) ≡ true → j ≡ 0
at_first p y xs x none zero low passes = refl
at_first p y xs x none (suc k) low passes = absurd (nothing_passes p xs none k x (omega arith) passes)

at_next : {X : Type 0} (p : X → Bool) (y : X) (xs : List X) (x : X) (place : ℕ) → p y ≡ false → ((j : ℕ) → j < length xs → p (get_or xs j x) ≡ true → j ≡ place)
    → (j : ℕ) → j < length (y ∷ xs) → p (get_or (y ∷ xs) j x) ≡ true → j ≡ suc place
at_next p y xs x place fails alone zero low passes = absurd (let bad : false ≡ true = sym fails ∙ passes in cc)
at_next p y xs x place fails alone (suc k) low passes = ap suc (alone k (omega arith) passes)

-- the place of the one that is chosen
pub one_place : {X : Type 0} (p : X → Bool) (xs : List X) (x : X) → filter p xs ≡ x ∷ [] → IsOnlyOne p xs x
one_place p [] x one = cc
one_place {X} p (y ∷ ys) x one = go (p y) refl (one_place p ys x)
  where
    go : (b : Bool) → p y ≡ b → (filter p ys ≡ x ∷ [] → IsOnlyOne p ys x) → IsOnlyOne p (y ∷ ys) x
    go true e later =
        let all : y ∷ filter p ys ≡ x ∷ [] = chosen p y ys (x ∷ []) true e one in
        let first : y ≡ x = cc in
        let none : filter p ys ≡ [] = cc in
        (0, omega arith, first, at_first p y ys x none)
    go false e later =
        let (place, within, here, alone) = later (chosen p y ys (x ∷ []) false e one) in
        (suc place, omega arith, here, at_next p y ys x place e alone)
