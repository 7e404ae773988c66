-- The place of a text among others, with one more.
use Rattle.std.proofs.Common.{◌≡◌, ◌∙◌, ◌+◌, ℕ, Bool, true, false, cond, List, [], ◌∷◌, ◌++◌, Option, None, Some, ap, arith, get_or, is_some, length, ltb-true, nat_lt, refl, sym, unwrap_or}
use Rattle.std.proofs.lemmas.Bool.{false≢true}
use Rattle.std.proofs.lemmas.Iterator.Adapters.{position_from-zero}
use Rattle.std.proofs.lemmas.List.Sums.{passes_at_first}
use Rattle.std.proofs.lemmas.Option.{slice_get-get_or}
use Rattle.std.proofs.lemmas.Slice.Eq.{bytes_eq-Decides}
use Rattle.std.specs.List.{position_from, position_or_len}
use Rattle.std.specs.Prelude.{slice_get}
use Rattle.std.specs.Option.{option_or}
use Rattle.std.specs.Str.{bytes_eq}
use Rattle.fdb_log_reader.specs.Numbers.{number_in}

-- whether an element with one more at the end is found
from_more : {X : Type 0} (p : X → Bool) (i : ℕ) (xs : List X) (x : X)
    → position_from p i (xs ++ x ∷ []) ≡ option_or (position_from p i xs) (cond (p x) (Some (i + length xs)) None)
from_more p i [] x = ap (λ k. cond (p x) (Some k) None) (omega arith)
from_more p i (y ∷ xs) x =
    elim (p y) as (λ b. cond b (Some i) (position_from p (i + 1) (xs ++ x ∷ [])) ≡ option_or (cond b (Some i) (position_from p (i + 1) xs)) (cond (p x) (Some (i + length (y ∷ xs))) None)) [
      | true ↦ refl
      | false ↦ from_more p (i + 1) xs x ∙ ap (λ k. option_or (position_from p (i + 1) xs) (cond (p x) (Some k) None)) (omega arith)
    ]

more_from_0 : {X : Type 0} (p : X → Bool) (xs : List X) (x : X)
    → position_from p 0 (xs ++ x ∷ []) ≡ option_or (position_from p 0 xs) (cond (p x) (Some (length xs)) None)
more_from_0 p xs x = from_more p 0 xs x ∙ ap (λ k. option_or (position_from p 0 xs) (cond (p x) (Some k) None)) (omega arith)

bytes_eq_same : (bs : List ℕ) → bytes_eq bs bs ≡ true
bytes_eq_same bs = (bytes_eq-Decides bs bs).1 refl

or_none : {X : Type 0} (o : Option X) → option_or o None ≡ o
or_none None = refl
or_none (Some x) = refl

-- the number of any name once a new one is added, as a table has it that it is put into
pub number_added : (names : List (List ℕ)) (name q : List ℕ) → number_in names name ≡ None
    → number_in (names ++ name ∷ []) q ≡ cond (bytes_eq name q) (Some (length names)) (number_in names q)
number_added names name q new =
    let more : number_in (names ++ name ∷ []) q ≡ option_or (number_in names q) (cond (bytes_eq q name) (Some (length names)) None) =
    position_from-zero (bytes_eq q) (names ++ name ∷ []) ∙ (more_from_0 (bytes_eq q) names name
    ∙ ap (λ o. option_or o (cond (bytes_eq q name) (Some (length names)) None)) (sym (position_from-zero (bytes_eq q) names))) in
    more ∙ elim (bytes_eq name q) as (λ b. bytes_eq name q ≡ b → option_or (number_in names q) (cond (bytes_eq q name) (Some (length names)) None) ≡ cond b (Some (length names)) (number_in names q)) [
      | true ↦ λ e. let same : name ≡ q = (bytes_eq-Decides name q).0 e in
          ap (λ n. option_or (number_in names n) (cond (bytes_eq n name) (Some (length names)) None)) (sym same)
          ∙ (ap (λ o. option_or o (cond (bytes_eq name name) (Some (length names)) None)) new ∙ ap (λ b. cond b (Some (length names)) None) (bytes_eq_same name))
      | false ↦ λ e. ap (λ b. option_or (number_in names q) (cond b (Some (length names)) None)) (differ q name e) ∙ or_none (number_in names q)
    ] refl
  where
    differ : (q name : List ℕ) → bytes_eq name q ≡ false → bytes_eq q name ≡ false
    differ q name e = elim (bytes_eq q name) as (λ b. bytes_eq q name ≡ b → b ≡ false) [
      | true ↦ λ is. sym (bytes_eq_same name) ∙ (ap (bytes_eq name) (sym ((bytes_eq-Decides q name).0 is)) ∙ e)
      | false ↦ λ _. refl
    ] refl

-- a new name's own number
pub number_there : (names : List (List ℕ)) (name : List ℕ) → number_in names name ≡ None
    → number_in (names ++ name ∷ []) name ≡ Some (length names)
number_there names name new = number_added names name name new ∙ ap (λ b. cond b (Some (length names)) (number_in names name)) (bytes_eq_same name)

-- a text stands where its number says
pub text_there : (names : List (List ℕ)) (name : List ℕ) (number : ℕ) → number_in names name ≡ Some number → slice_get names number ≡ Some name
text_there names name number is = by (nat_lt place (length names)) refl is
  where
    place : ℕ
    place = position_or_len (bytes_eq name) names

    by : (b : Bool) → nat_lt place (length names) ≡ b → cond b (Some place) None ≡ Some number → slice_get names number ≡ Some name
    by true lt is =
        let within = ltb-true place (length names) lt in
        let same : name ≡ get_or names place name = (bytes_eq-Decides name (get_or names place name)).0 (passes_at_first (bytes_eq name) names name within) in
        ap (slice_get names) (sym (ap (λ n. unwrap_or n 0) is)) ∙ (slice_get-get_or names place name within ∙ ap (λ (one : List ℕ). Some one) (sym same))
    by false ge is = absurd (false≢true (ap is_some is))
