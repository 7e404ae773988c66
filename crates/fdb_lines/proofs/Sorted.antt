-- A list of items that rises by its keys.
use Rattle.std.proofs.Common.{◌≡◌, ◌⊎◌, ℕ, zero, suc, ◌<◌, ◌==◌, Bool, true, cond, ◌&&◌, List, [], ◌∷◌, map, option_map, Some, slice_get, refl, ap, sym, subst, ◌∙◌, inl, inr, arith}
use Rattle.std.proofs.lemmas.Bool.{cond_both}
use Rattle.std.proofs.lemmas.Bool.Decides.{nat_tests}
use Rattle.std.proofs.lemmas.Option.{same_Some, none-some, slice_get-map}
use Rattle.fdb_lines.specs.declared.slot.Effect.{Effect}
use Rattle.fdb_lines.specs.Order.{Item, key_lt, put, put_if}

abbrev pub In : Item → List Item → Type 0
In x [] = ⊥
In x (y ∷ ys) = (x ≡ y) ⊎ In x ys

abbrev pub KeyLess : Item → Item → Type 0
KeyLess x y = (x.stage < y.stage) ⊎ ((x.stage ≡ y.stage) × (x.rank < y.rank))

abbrev pub SameKey : Item → Item → Type 0
SameKey x y = (x.stage ≡ y.stage) × (x.rank ≡ y.rank)

abbrev pub Rises : List Item → Type 0
Rises [] = Unit {0}
Rises (x ∷ xs) = ((y : Item) → In y xs → KeyLess x y) × Rises xs

-- an item with this key
abbrev pub Keyed : Item → List Item → Type 0
Keyed x xs = (y : Item) × In y xs × SameKey y x

-- ---- an item put in its place

put_old : (x z : Item) (ys : List Item) → In z ys → In z (put x ys)
put_old x z [] h = absurd h
put_old x z (y ∷ ys) h = let rest = put_old x z ys in grind arith

put_from : (x z : Item) (ys : List Item) → In z (put x ys) → (z ≡ x) ⊎ In z ys
put_from x z [] h = h
put_from x z (y ∷ ys) h = let rest = put_from x z ys in grind arith

put_new : (x : Item) (ys : List Item) → Keyed x (put x ys)
put_new x [] = (x, inl refl, (refl, refl))
put_new x (y ∷ ys) =
    let rest = put_new x ys in
    cond_both (key_lt x y) _ _ (Keyed x) (λ l. (x, inl refl, (refl, refl)))
    (λ p. cond_both (key_lt y x) _ _ (Keyed x) (λ l. (rest.0, inr rest.1, rest.2)) (λ q. (y, inl refl, grind (arith, nat_tests))))

put_rises : (x : Item) (ys : List Item) → Rises ys → Rises (put x ys)
put_rises x [] h = (λ y i. absurd i, tt)
put_rises x (y ∷ ys) h =
    let rest = put_rises x ys h.1 in
    cond_both (key_lt x y) _ _ Rises (λ l. (λ z i. let more = h.0 z in grind (arith, nat_tests), h))
    (λ p. cond_both (key_lt y x) _ _ Rises (λ l. (λ z i. let from = put_from x z ys i in let more = h.0 z in grind (arith, nat_tests), rest)) (λ q. h))

-- a list that rises, with items of these alone, and with one of each of their keys
pub record IsSortedOf (Q : Item → Type 0) (xs : List Item) : Type 0 where
  pub rises : Rises xs
  pub from : (z : Item) → In z xs → Q z
  pub keyed : (z : Item) → Q z → Keyed z xs

pub put_if_sorted : (Q : Item → Type 0) (b : Bool) (x : Item) (ys : List Item) → IsSortedOf Q ys → IsSortedOf (λ z. ((b ≡ true) × (z ≡ x)) ⊎ Q z) (put_if b x ys)
put_if_sorted Q b x ys s = record {
  rises = cond_both b _ _ Rises (λ e. put_rises x ys s.rises) (λ e. s.rises);
  from = λ z i. let new = put_from x z ys in let old = s.from z in grind arith;
  keyed = λ z q. let new = put_new x ys in let old = s.keyed z in let kept = λ (y : Item). put_old x y ys in grind arith;
}

-- ---- places

abbrev pub index_of : Item → List Item → ℕ
index_of x [] = 0
index_of x (y ∷ ys) = cond (x.stage == y.stage && x.rank == y.rank) 0 (suc (index_of x ys))

pub in_at : (xs : List Item) (i : ℕ) (x : Item) → slice_get xs i ≡ Some x → In x xs
in_at [] i x h = absurd (none-some x h)
in_at (y ∷ ys) zero x h = inl (sym (same_Some y x h))
in_at (y ∷ ys) (suc i) x h = inr (in_at ys i x h)

pub rises_at : (xs : List Item) (i j : ℕ) (x y : Item) → Rises xs → slice_get xs i ≡ Some x → slice_get xs j ≡ Some y → i < j → KeyLess x y
rises_at [] i j x y r h g l = absurd (none-some x h)
rises_at (z ∷ zs) i zero x y r h g l = absurd (omega arith)
rises_at (z ∷ zs) zero (suc j) x y r h g l = subst (λ w. KeyLess w y) (same_Some z x h) (r.0 y (in_at zs j y g))
rises_at (z ∷ zs) (suc i) (suc j) x y r h g l = rises_at zs i j x y r.1 h g (omega arith)

-- an item with a lower key stands before, and one item at one place
pub places : (xs : List Item) (i j : ℕ) (x y : Item) → Rises xs → slice_get xs i ≡ Some x → slice_get xs j ≡ Some y → (KeyLess x y → i < j) × (x ≡ y → i ≡ j)
places xs i j x y r h g =
    let on = rises_at xs i j x y r h g in
    let back = rises_at xs j i y x r g h in
    let same : i ≡ j → x ≡ y = λ e. same_Some x y (sym h ∙ (ap (slice_get xs) e ∙ g)) in
    (λ less. grind arith, λ one. grind arith)

pub index_at : (xs : List Item) (x : Item) → ((y : Item) → In y xs → SameKey x y → x ≡ y) → In x xs → slice_get xs (index_of x xs) ≡ Some x
index_at [] x f i = absurd i
index_at (y ∷ ys) x f i =
    let rest = index_at ys x (λ z j. f z (inr j)) in
    let here = f y (inl refl) in
    grind (arith, nat_tests)

-- the effects of the items
pub effect_at : (xs : List Item) (i : ℕ) (x : Item) → slice_get xs i ≡ Some x → slice_get (map (λ z. z.effect) xs) i ≡ Some x.effect
effect_at xs i x h = slice_get-map (λ z. z.effect) xs i ∙ ap (option_map (λ z. z.effect)) h

pub item_at : (xs : List Item) (i : ℕ) (a : Effect) → slice_get (map (λ z. z.effect) xs) i ≡ Some a → (x : Item) × (slice_get xs i ≡ Some x) × (x.effect ≡ a)
item_at [] i a h = absurd (none-some a h)
item_at (y ∷ ys) zero a h = (y, refl, same_Some y.effect a h)
item_at (y ∷ ys) (suc i) a h = item_at ys i a h
