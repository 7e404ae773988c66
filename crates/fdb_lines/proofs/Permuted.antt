-- Lists that have the same elements, and the elements that pass a test.
use Rattle.std.proofs.Common.{◌≡◌, ℕ, zero, suc, ◌≤◌, ◌==◌, Bool, true, false, cond, ◌&&◌, not, List, [], ◌∷◌, ◌++◌, Option, None, Some, length, map, refl, ap, sym, subst, ◌∙◌, arith}
use Rattle.std.specs.Prelude.{IsPermutation}
use Rattle.std.specs.Option.{option_eq}
use Rattle.std.specs.List.{All, filter}
use Rattle.std.proofs.lemmas.Bool.{and_right}
use Rattle.std.proofs.lemmas.Bool.Decides.{nat_tests}
use Rattle.std.proofs.lemmas.List.Elements.{All-head, All-tail, filter_agree}
use Rattle.std.proofs.lemmas.List.Sorted.{IsPermutation-append, IsPermutation-cons, IsPermutation-middle, IsPermutation-refl, IsPermutation-sym, IsPermutation-trans, length_permutation}
use Rattle.fdb_lines.proofs.Keyed.{same_self}

-- ---- of a list, what passes a test and what does not

module _ {X : Type 0} where
  two_parts : (x : X) (passing others all : List X) (b : Bool) → IsPermutation (passing ++ others) all
      → IsPermutation (cond b (x ∷ passing) passing ++ cond (not b) (x ∷ others) others) (x ∷ all)
  two_parts x passing others all true are = IsPermutation-cons x (passing ++ others) all are
  two_parts x passing others all false are =
      IsPermutation-trans (passing ++ x ∷ others) (x ∷ (passing ++ others)) (x ∷ all) (IsPermutation-middle passing x others) (IsPermutation-cons x (passing ++ others) all are)

  pub both_parts : (p : X → Bool) (xs : List X) → IsPermutation (filter p xs ++ filter (λ x. not (p x)) xs) xs
  both_parts p [] = IsPermutation-refl []
  both_parts p (x ∷ xs) = two_parts x (filter p xs) (filter (λ x. not (p x)) xs) xs (p x) (both_parts p xs)

  pub all_pass : (p : X → Bool) (xs : List X) → All (λ x. p x ≡ true) xs → filter p xs ≡ xs
  all_pass p [] all = refl
  all_pass p (x ∷ xs) all =
      ap (λ b. cond b (x ∷ filter p xs) (filter p xs)) (All-head (λ x. p x ≡ true) x xs all) ∙ ap (λ (l : List X). x ∷ l) (all_pass p xs (All-tail (λ x. p x ≡ true) x xs all))

  pub none_pass : (p : X → Bool) (xs : List X) → All (λ x. p x ≡ false) xs → filter p xs ≡ []
  none_pass p [] none = refl
  none_pass p (x ∷ xs) none =
      ap (λ b. cond b (x ∷ filter p xs) (filter p xs)) (All-head (λ x. p x ≡ false) x xs none) ∙ none_pass p xs (All-tail (λ x. p x ≡ false) x xs none)

  both_more : (p : X → Bool) (x : X) (some both : List X) (b : Bool) → filter p some ≡ both → filter p (cond b (x ∷ some) some) ≡ cond (b && p x) (x ∷ both) both
  both_more p x some both true is = ap (λ (l : List X). cond (p x) (x ∷ l) l) is
  both_more p x some both false is = is

  pub filter_both : (p q : X → Bool) (xs : List X) → filter p (filter q xs) ≡ filter (λ x. q x && p x) xs
  filter_both p q [] = refl
  filter_both p q (x ∷ xs) = both_more p x (filter q xs) (filter (λ x. q x && p x) xs) (q x) (filter_both p q xs)

  fewer_more : (x : X) (some xs : List X) (b : Bool) → length some ≤ length xs → length (cond b (x ∷ some) some) ≤ length (x ∷ xs)
  fewer_more x some xs true le = omega (arith, le)
  fewer_more x some xs false le = omega (arith, le)

  pub fewer : (p : X → Bool) (xs : List X) → length (filter p xs) ≤ length xs
  fewer p [] = omega arith
  fewer p (x ∷ xs) = fewer_more x (filter p xs) xs (p x) (fewer p xs)

filter_mapped_more : {X Y : Type 0} (f : X → Y) (x : X) (some : List X) (mapped : List Y) (b : Bool) → mapped ≡ map f some
    → cond b (f x ∷ mapped) mapped ≡ map f (cond b (x ∷ some) some)
filter_mapped_more {X} {Y} f x some mapped true is = ap (λ (l : List Y). f x ∷ l) is
filter_mapped_more f x some mapped false is = is

pub filter_mapped : {X Y : Type 0} (p : Y → Bool) (f : X → Y) (xs : List X) → filter p (map f xs) ≡ map f (filter (λ x. p (f x)) xs)
filter_mapped p f [] = refl
filter_mapped p f (x ∷ xs) = filter_mapped_more f x (filter (λ x. p (f x)) xs) (filter p (map f xs)) (p (f x)) (filter_mapped p f xs)

-- ---- lists that have the same elements of each key have the same elements

not_both : (a q r : Option ℕ) → (not (option_eq ◌==◌ a q) && option_eq ◌==◌ a r) ≡ (not (option_eq ◌==◌ q r) && option_eq ◌==◌ a r)
not_both None None None = refl
not_both None None (Some r) = refl
not_both None (Some q) None = refl
not_both None (Some q) (Some r) = sym (and_right (not (q == r)) false refl)
not_both (Some a) None None = refl
not_both (Some a) None (Some r) = refl
not_both (Some a) (Some q) None = and_right (not (a == q)) false refl
not_both (Some a) (Some q) (Some r) = grind (arith, nat_tests)

module _ {X : Type 0} (key : X → Option ℕ) where
  abbrev Of : Option ℕ → X → Bool
  Of q x = option_eq ◌==◌ (key x) q

  abbrev Others : Option ℕ → X → Bool
  Others q x = not (option_eq ◌==◌ (key x) q)

  none_there : (ys : List X) → ((q : Option ℕ) → IsPermutation {X = X} [] (filter (Of q) ys)) → IsPermutation [] ys
  none_there [] same = IsPermutation-refl []
  none_there (y ∷ ys) same =
      let rest = filter (Of (key y)) ys in
      let many = length_permutation [] (cond (Of (key y) y) (y ∷ rest) rest) (same (key y)) in
      let here : length (cond (Of (key y) y) (y ∷ rest) rest) ≡ length (y ∷ rest) = ap (λ b. length (cond b (y ∷ rest) rest)) (same_self (key y)) in
      absurd (omega (arith, many, here))

  if_other : (b : Bool) (r : Option ℕ) (xs ys : List X) → IsPermutation (filter (Of r) xs) (filter (Of r) ys)
      → IsPermutation (filter (λ x. not b && Of r x) xs) (filter (λ x. not b && Of r x) ys)
  if_other true r xs ys same =
      let none = λ (zs : List X). none_pass (λ x. false) zs (λ k d lt. refl) in
      subst (λ l. IsPermutation l (filter (λ x. false) ys)) (sym (none xs)) (subst (IsPermutation []) (sym (none ys)) (IsPermutation-refl []))
  if_other false r xs ys same = same

  of_others : (q r : Option ℕ) (xs : List X) → filter (Of r) (filter (Others q) xs) ≡ filter (λ x. not (option_eq ◌==◌ q r) && Of r x) xs
  of_others q r xs =
      filter_both (Of r) (Others q) xs
      ∙ filter_agree (λ x. Others q x && Of r x) (λ x. not (option_eq ◌==◌ q r) && Of r x) (λ x. not_both (key x) q r) xs

  same_others : (q r : Option ℕ) (xs ys : List X) → IsPermutation (filter (Of r) xs) (filter (Of r) ys)
      → IsPermutation (filter (Of r) (filter (Others q) xs)) (filter (Of r) (filter (Others q) ys))
  same_others q r xs ys same =
      subst (λ l. IsPermutation l (filter (Of r) (filter (Others q) ys))) (sym (of_others q r xs))
      (subst (IsPermutation (filter (λ x. not (option_eq ◌==◌ q r) && Of r x) xs)) (sym (of_others q r ys)) (if_other (option_eq ◌==◌ q r) r xs ys same))

  pub permuted_by_key : (n : ℕ) (xs ys : List X) → length xs ≤ n → ((q : Option ℕ) → IsPermutation (filter (Of q) xs) (filter (Of q) ys)) → IsPermutation xs ys
  permuted_by_key n [] ys le same = none_there ys same
  permuted_by_key zero (x ∷ xs) ys le same = absurd (omega (arith, le))
  permuted_by_key (suc n) (x ∷ xs) ys le same =
      let q = key x in
      let all = x ∷ xs in
      let others = filter (Others q) xs in
      let few = fewer (Others q) xs in
      let gone : length (cond (not (option_eq ◌==◌ q q)) (x ∷ others) others) ≡ length others = ap (λ b. length (cond (not b) (x ∷ others) others)) (same_self q) in
      let rest = permuted_by_key n (filter (Others q) all) (filter (Others q) ys) (omega (arith, le, few, gone)) (λ r. same_others q r all ys (same r)) in
      IsPermutation-trans all (filter (Of q) all ++ filter (Others q) all) ys
      (IsPermutation-sym (filter (Of q) all ++ filter (Others q) all) all (both_parts (Of q) all))
      (IsPermutation-trans (filter (Of q) all ++ filter (Others q) all) (filter (Of q) ys ++ filter (Others q) ys) ys
      (IsPermutation-append (filter (Of q) all) (filter (Of q) ys) (filter (Others q) all) (filter (Others q) ys) (same q) rest)
      (both_parts (Of q) ys))
