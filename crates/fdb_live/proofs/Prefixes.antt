-- Lists that begin one list.
use Rattle.std.proofs.Common.{◌≡◌, ◌≤◌, Bool, true, false, List, [], ◌∷◌, ◌++◌, length, if◌then◌else◌, refl, sym, ap, ◌∙◌, arith, append_assoc, length-append}
use Rattle.std.specs.Prelude.{nat_lt}
use Rattle.std.proofs.lemmas.Bool.Decides.{nat_tests}
use mathlib.Core.List.{IsPrefix}
use Rattle.fdb_live.specs.Seen.{longer}

module _ {A : Type 0} where
  pub prefix_same : (xs : List A) → IsPrefix xs xs
  prefix_same [] = ([], refl)
  prefix_same (x ∷ xs) = ((prefix_same xs).0, ap (λ ys. x ∷ ys) (prefix_same xs).1)

  pub prefix_trans : (xs ys zs : List A) → IsPrefix xs ys → IsPrefix ys zs → IsPrefix xs zs
  prefix_trans xs ys zs p q = (p.0 ++ q.0, sym (append_assoc xs p.0 q.0) ∙ (ap (λ w. w ++ q.0) p.1 ∙ q.1))

  pub prefix_length : (xs ys : List A) → IsPrefix xs ys → length xs ≤ length ys
  prefix_length xs ys p = omega (arith, sym (ap length p.1) ∙ length-append xs p.0)

  -- of two that begin one list the shorter begins the longer
  pub prefix_shorter : (xs ys zs : List A) → IsPrefix xs zs → IsPrefix ys zs → length xs ≤ length ys → IsPrefix xs ys
  prefix_shorter [] ys zs p q short = (ys, refl)
  prefix_shorter (x ∷ xs) [] zs p q short = absurd (omega arith)
  prefix_shorter (x ∷ xs) (y ∷ ys) [] p q short = absurd (cc (p.1))
  prefix_shorter (x ∷ xs) (y ∷ ys) (z ∷ zs) p q short =
      let heads : x ≡ y = cc (p.1, q.1) in
      let rest = prefix_shorter xs ys zs (p.0, cc (p.1)) (q.0, cc (q.1)) (omega arith) in
      (rest.0, cc (heads, rest.1))

  -- one that is as long as the list is the list
  pub prefix_whole : (xs ys : List A) → IsPrefix xs ys → length ys ≤ length xs → xs ≡ ys
  prefix_whole [] [] p long = refl
  prefix_whole [] (y ∷ ys) p long = absurd (omega arith)
  prefix_whole (x ∷ xs) [] p long = absurd (cc (p.1))
  prefix_whole (x ∷ xs) (y ∷ ys) p long =
      let rest = prefix_whole xs ys (p.0, cc (p.1)) (omega arith) in cc (p.1, rest)

  -- the longer of two that begin one list
  pub record IsLonger (xs ys zs long : List A) : Type 0 where
    pub these : IsPrefix xs long
    pub those : IsPrefix ys long
    pub all : IsPrefix long zs

  pub prefix_longer : (xs ys zs : List A) → IsPrefix xs zs → IsPrefix ys zs → IsLonger xs ys zs (longer xs ys)
  prefix_longer xs ys zs p q = go (nat_lt (length xs) (length ys)) refl
    where
      go : (b : Bool) → nat_lt (length xs) (length ys) ≡ b → IsLonger xs ys zs (if b then ys else xs)
      go true e = record { these = prefix_shorter xs ys zs p q (grind (arith, nat_tests)); those = prefix_same ys; all = q }
      go false e = record { these = prefix_same xs; those = prefix_shorter ys xs zs q p (grind (arith, nat_tests)); all = p }

  -- where one of two is the whole, so is the longer
  pub longer_whole : (xs ys log : List A) → xs ≡ log → IsPrefix ys log → IsPrefix xs log → longer xs ys ≡ log
  longer_whole xs ys log whole q p =
      let l = prefix_longer xs ys log p q in
      let long = prefix_length xs (longer xs ys) l.these in
      prefix_whole (longer xs ys) log l.all (omega (arith, long, ap length whole))

  pub prefix_nil : (xs : List A) → IsPrefix [] xs
  prefix_nil xs = (xs, refl)

  pub prefix_of_none : (xs ys : List A) → IsPrefix xs ys → ys ≡ [] → xs ≡ []
  prefix_of_none xs ys p none = prefix_whole xs ys p (omega (arith, ap length none)) ∙ none
