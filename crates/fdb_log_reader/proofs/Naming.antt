-- The places of names, and the table of their numbers.
use Rattle.std.proofs.Common.{◌≡◌, ◌≢◌, ℕ, ◌+◌, ◌<◌, ◌≤◌, Bool, true, false, cond, nat_lt, List, [], ◌∷◌, ◌++◌, length, map, slice_index_or, Option, None, Some, IfSome, is_some, refl, ap, sym, subst, ◌∙◌, arith, ltb-true, ltb-false}
use Rattle.std.proofs.lemmas.Bool.{false≢true}
use Rattle.std.proofs.lemmas.List.{length-map, map-append}
use Rattle.std.proofs.lemmas.List.Quantifiers.{all_pairs_push}
use Rattle.std.proofs.lemmas.List.Sums.{fails_before_first}
use Rattle.std.specs.Prelude.{String}
use Rattle.std.specs.String.{string_bytes}
use Rattle.std.specs.declared.alloc.Global.{Global}
use Rattle.std.proofs.lemmas.Iterator.Adapters.{position_from-zero}
use Rattle.std.proofs.lemmas.Slice.Eq.{bytes_eq-Decides}
use Rattle.std.specs.List.{position_from, position_or_len}
use Rattle.std.specs.Option.{option_or}
use Rattle.std.specs.Str.{bytes_eq}
use Rattle.json.specs.Strict.{AreDistinct}
use Rattle.fdb_log_reader.specs.declared.names.NameNumbers.{NameNumbers}
use Rattle.fdb_log_reader.specs.Numbers.{number_in}
use Rattle.fdb_log_reader.specs.private.Codes.{number_at, AreBytes}

-- whether an element with one more at the end is found
from_more : {X : Type 0} (p : X → Bool) (i : ℕ) (xs : List X) (x : X)
    → position_from p i (xs ++ x ∷ []) ≡ option_or (position_from p i xs) (cond (p x) (Some (i + length xs)) None)
from_more p i [] x = ap (λ k. cond (p x) (Some k) None) (omega arith)
from_more p i (y ∷ xs) x =
    elim (p y) as (λ b. cond b (Some i) (position_from p (i + 1) (xs ++ x ∷ [])) ≡ option_or (cond b (Some i) (position_from p (i + 1) xs)) (cond (p x) (Some (i + length (y ∷ xs))) None)) [
      | true ↦ refl
      | false ↦ from_more p (i + 1) xs x ∙ ap (λ k. option_or (position_from p (i + 1) xs) (cond (p x) (Some k) None)) (omega arith)
    ]

more_from_0 : {X : Type 0} (p : X → Bool) (xs : List X) (x : X)
    → position_from p 0 (xs ++ x ∷ []) ≡ option_or (position_from p 0 xs) (cond (p x) (Some (length xs)) None)
more_from_0 p xs x = from_more p 0 xs x ∙ ap (λ k. option_or (position_from p 0 xs) (cond (p x) (Some k) None)) (omega arith)

bytes_eq_same : (bs : List ℕ) → bytes_eq bs bs ≡ true
bytes_eq_same bs = (bytes_eq-Decides bs bs).1 refl

pub map_twice : {A B C : Type 0} (f : B → C) (g : A → B) (xs : List A) → map (λ x. f (g x)) xs ≡ map f (map g xs)
map_twice f g [] = refl
map_twice f g (x ∷ xs) = ap (λ ys. f (g x) ∷ ys) (map_twice f g xs)

or_none : {X : Type 0} (o : Option X) → option_or o None ≡ o
or_none None = refl
or_none (Some x) = refl

-- the number of any name once a new one is added, as a table has it that it is put into
pub number_added : (names : List (List ℕ)) (name q : List ℕ) → number_in names name ≡ None
    → number_in (names ++ name ∷ []) q ≡ cond (bytes_eq name q) (Some (length names)) (number_in names q)
number_added names name q new =
    let more : number_in (names ++ name ∷ []) q ≡ option_or (number_in names q) (cond (bytes_eq q name) (Some (length names)) None) =
    position_from-zero (bytes_eq q) (names ++ name ∷ []) ∙ (more_from_0 (bytes_eq q) names name
    ∙ ap (λ o. option_or o (cond (bytes_eq q name) (Some (length names)) None)) (sym (position_from-zero (bytes_eq q) names))) in
    more ∙ elim (bytes_eq name q) as (λ b. bytes_eq name q ≡ b → option_or (number_in names q) (cond (bytes_eq q name) (Some (length names)) None) ≡ cond b (Some (length names)) (number_in names q)) [
      | true ↦ λ e. let same : name ≡ q = (bytes_eq-Decides name q).0 e in
          ap (λ n. option_or (number_in names n) (cond (bytes_eq n name) (Some (length names)) None)) (sym same)
          ∙ (ap (λ o. option_or o (cond (bytes_eq name name) (Some (length names)) None)) new ∙ ap (λ b. cond b (Some (length names)) None) (bytes_eq_same name))
      | false ↦ λ e. ap (λ b. option_or (number_in names q) (cond b (Some (length names)) None)) (differ q name e) ∙ or_none (number_in names q)
    ] refl
  where
    differ : (q name : List ℕ) → bytes_eq name q ≡ false → bytes_eq q name ≡ false
    differ q name e = elim (bytes_eq q name) as (λ b. bytes_eq q name ≡ b → b ≡ false) [
      | true ↦ λ is. sym (bytes_eq_same name) ∙ (ap (bytes_eq name) (sym ((bytes_eq-Decides q name).0 is)) ∙ e)
      | false ↦ λ _. refl
    ] refl

-- a new name's own number
pub number_there : (names : List (List ℕ)) (name : List ℕ) → number_in names name ≡ None
    → number_in (names ++ name ∷ []) name ≡ Some (length names)
number_there names name new = number_added names name name new ∙ ap (λ b. cond b (Some (length names)) (number_in names name)) (bytes_eq_same name)

pub number_within : (names : List (List ℕ)) (name : List ℕ) → IfSome (number_in names name) (λ number. number < length names)
number_within names name = below (position_or_len (bytes_eq name) names) (length names)
  where
    below : (k count : ℕ) → IfSome (cond (nat_lt k count) (Some k) None) (λ number. number < count)
    below k count = elim (nat_lt k count) as (λ b. nat_lt k count ≡ b → IfSome (cond b (Some k) None) (λ number. number < count)) [
      | true ↦ λ e. ltb-true k count e
      | false ↦ λ _. tt
    ] refl

-- numbers that are those of the texts are so still once a new text comes to both
pub numbered_more : (old new : NameNumbers) (texts : List (String Global)) (text : String Global) (name : List ℕ)
    → ((q : List ℕ) → AreBytes q → number_at old q ≡ number_in (map string_bytes texts) q)
    → number_in (map string_bytes texts) name ≡ None → string_bytes text ≡ name
    → ((q : List ℕ) → AreBytes q → number_at new q ≡ cond (bytes_eq name q) (Some (length texts)) (number_at old q))
    → (q : List ℕ) → AreBytes q → number_at new q ≡ number_in (map string_bytes (texts ++ text ∷ [])) q
numbered_more old new texts text name numbered none is set q bytes =
    set q bytes
    ∙ (ap (λ o. cond (bytes_eq name q) (Some (length texts)) o) (numbered q bytes)
    ∙ (ap (λ n. cond (bytes_eq name q) (Some n) (number_in (map string_bytes texts) q)) (sym (length-map texts string_bytes))
    ∙ (sym (number_added (map string_bytes texts) name q none)
    ∙ (ap (λ n. number_in (map string_bytes texts ++ n ∷ []) q) (sym is)
    ∙ ap (λ names. number_in names q) (sym (map-append string_bytes texts (text ∷ [])))))))

none_behind : (k count : ℕ) → cond (nat_lt k count) (Some k) None ≡ None → count ≤ k
none_behind k count = elim (nat_lt k count) as (λ b. nat_lt k count ≡ b → cond b (Some k) None ≡ None → count ≤ k) [
  | true ↦ λ _ none. absurd (false≢true (sym (ap is_some none)))
  | false ↦ λ e _. ltb-false k count e
] refl

-- a name that has no number is none of the names
pub differs : (names : List (List ℕ)) (name : List ℕ) (k : ℕ) (d : List ℕ) → number_in names name ≡ None → k < length names
    → slice_index_or names k d ≡ name → ⊥
differs names name k d none within same =
    let behind = none_behind (position_or_len (bytes_eq name) names) (length names) none in
    let fails = fails_before_first (bytes_eq name) names k d (omega arith) in
    false≢true (sym fails ∙ (ap (bytes_eq name) same ∙ bytes_eq_same name))

-- texts of which each stands once are so still once a new one is added
pub distinct_more : (texts : List (String Global)) (text : String Global) → number_in (map string_bytes texts) (string_bytes text) ≡ None
    → AreDistinct (map string_bytes texts) → AreDistinct (map string_bytes (texts ++ text ∷ []))
distinct_more texts text none distinct =
    subst AreDistinct (sym (map-append string_bytes texts (text ∷ [])))
    (all_pairs_push (λ a b. a ≢ b) (map string_bytes texts) (string_bytes text) distinct (λ k d within. differs (map string_bytes texts) (string_bytes text) k d none within))
