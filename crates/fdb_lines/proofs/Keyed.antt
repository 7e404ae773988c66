-- The keys of lines, and the places of the lines of a key.
use Rattle.std.specs.Option.{option_eq}
use Rattle.std.proofs.Common.{◌≡◌, ◌≢◌, ◌==◌, ℕ, zero, suc, ◌<◌, ◌≤◌, Bool, true, false, cond, List, [], ◌∷◌, ◌++◌, ◌+◌, Option, None, Some, length, slice_index, refl, ap, sym, subst, ◌∙◌, inl, inr, arith, append-nil, length-append, zero-le}
use Rattle.std.proofs.lemmas.Bool.{both_ways, cases_lt, eqb-true}
use Rattle.std.proofs.lemmas.Bool.Decides.{nat_tests}
use Rattle.std.proofs.lemmas.List.{get_or_append_left, get_or_push}
use Rattle.fdb_lines.specs.Keys.{key_at, keys_below, place_among, places_below, places_of}
use Rattle.fdb_lines.specs.private.Keys.{key_of, number_of}

-- ---- keys and their numbers

pub same_is : (a b : Option ℕ) → option_eq ◌==◌ a b ≡ true → a ≡ b
same_is None None h = refl
same_is None (Some b) h = absurd (both_ways false refl h)
same_is (Some a) None h = absurd (both_ways false refl h)
same_is (Some a) (Some b) h = ap (λ (k : ℕ). Some k) (eqb-true a b h)

pub same_self : (a : Option ℕ) → option_eq ◌==◌ a a ≡ true
same_self None = refl
same_self (Some a) = grind (arith, nat_tests)

pub key_back : (key : Option ℕ) → key_of (number_of key) ≡ key
key_back None = refl
key_back (Some key) = refl

-- ---- where the lines of a key stand

-- a place has a line of the key, of which so many stand above
abbrev pub IsPlaceOf : List (Option ℕ) → Option ℕ → ℕ → ℕ → ℕ → Type 0
IsPlaceOf keys key n j k = (k < n) × (option_eq ◌==◌ (key_at keys k) key ≡ true) × (length (places_below keys key k) ≡ j)

further : (keys : List (Option ℕ)) (key : Option ℕ) (n j k : ℕ) → IsPlaceOf keys key n j k → IsPlaceOf keys key (suc n) j k
further keys key n j k is = let lt = is.0 in (omega arith, is.1, is.2)

-- one place more, where a line of the key stands
place_more : (keys : List (Option ℕ)) (key : Option ℕ) (n : ℕ) (b : Bool) → option_eq ◌==◌ (key_at keys n) key ≡ b
    → ((j : ℕ) → j < length (places_below keys key n) → IsPlaceOf keys key n j (slice_index (places_below keys key n) j))
    → (j : ℕ) → j < length (places_below keys key n ++ cond b (n ∷ []) [])
    → IsPlaceOf keys key (suc n) j (slice_index (places_below keys key n ++ cond b (n ∷ []) []) j)
place_more keys key n true same are j lt =
    let before = places_below keys key n in
    let len = length-append before (n ∷ []) in
    elim (cases_lt j (length before)) [
      | inl old ↦ rw (get_or_append_left before (n ∷ []) 0 j old) (further keys key n j _ (are j old))
      | inr ge ↦
          let at : length before ≡ j = omega arith in
          rw (get_or_push before n 0 j at) (omega arith, same, at)
    ]
place_more keys key n false other are j lt =
    let before = places_below keys key n in
    let old : j < length before = rw append-nil at lt in
    rw append-nil (further keys key n j _ (are j old))

pub place_is : (keys : List (Option ℕ)) (key : Option ℕ) (n j : ℕ) → j < length (places_below keys key n)
    → IsPlaceOf keys key n j (slice_index (places_below keys key n) j)
place_is keys key zero j lt = absurd (omega arith)
place_is keys key (suc n) j lt = place_more keys key n (option_eq ◌==◌ (key_at keys n) key) refl (place_is keys key n) j lt

-- each line of the key has a place
abbrev pub HasPlace : List (Option ℕ) → Option ℕ → ℕ → List ℕ → Type 0
HasPlace keys key k places = (length (places_below keys key k) < length places) × (slice_index places (length (places_below keys key k)) ≡ k)

has_more : (keys : List (Option ℕ)) (key : Option ℕ) (n k : ℕ) (b : Bool) → option_eq ◌==◌ (key_at keys n) key ≡ b → option_eq ◌==◌ (key_at keys k) key ≡ true → k < suc n
    → (k < n → HasPlace keys key k (places_below keys key n)) → HasPlace keys key k (places_below keys key n ++ cond b (n ∷ []) [])
has_more keys key n k true here same lt has =
    let before = places_below keys key n in
    let len = length-append before (n ∷ []) in
    elim (cases_lt k n) [
      | inl old ↦ let is = has old in let within = is.0 in (omega arith, get_or_append_left before (n ∷ []) 0 _ within ∙ is.1)
      | inr ge ↦
          let at : k ≡ n = omega arith in
          let size : length (places_below keys key k) ≡ length before = ap (λ m. length (places_below keys key m)) at in
          (omega arith, get_or_push before n 0 _ (sym size) ∙ sym at)
    ]
has_more keys key n k false other same lt has =
    let old : k < n = elim (cases_lt k n) [
      | inl old ↦ old
      | inr ge ↦ let at : k ≡ n = omega arith in absurd (both_ways _ other (sym (ap (λ m. option_eq ◌==◌ (key_at keys m) key) at) ∙ same))
    ] in
    rw append-nil (has old)

pub has_place : (keys : List (Option ℕ)) (key : Option ℕ) (n k : ℕ) → option_eq ◌==◌ (key_at keys k) key ≡ true → k < n → HasPlace keys key k (places_below keys key n)
has_place keys key zero k same lt = absurd (omega arith)
has_place keys key (suc n) k same lt = has_more keys key n k (option_eq ◌==◌ (key_at keys n) key) refl same lt (λ old. has_place keys key n k same old)

-- no two of them are one
pub apart : (keys : List (Option ℕ)) (key : Option ℕ) (n i j : ℕ) → i < length (places_below keys key n) → j < length (places_below keys key n)
    → slice_index (places_below keys key n) i ≡ slice_index (places_below keys key n) j → i ≡ j
apart keys key n i j li lj same =
    sym (place_is keys key n i li).2 ∙ (ap (λ k. length (places_below keys key k)) same ∙ (place_is keys key n j lj).2)

-- some places are those of a key
pub of_key : (keys : List (Option ℕ)) (key : Option ℕ) (places : List ℕ) → places ≡ places_of keys key → (j : ℕ) → j < length places
    → (slice_index places j < length keys) × (key_at keys (slice_index places j) ≡ key)
of_key keys key places is j lt =
    subst (λ (ps : List ℕ). (j : ℕ) → j < length ps → (slice_index ps j < length keys) × (key_at keys (slice_index ps j) ≡ key)) (sym is)
    (λ i less. let it = place_is keys key (length keys) i less in (it.0, same_is _ _ it.1)) j lt

-- ---- the keys, each once

more_lines : (keys : List (Option ℕ)) (key : Option ℕ) (n : ℕ) → length (places_below keys key n) ≤ length (places_below keys key (suc n))
more_lines keys key n = let sum = length-append (places_below keys key n) (cond (option_eq ◌==◌ (key_at keys n) key) (n ∷ []) []) in omega arith

line_here : (keys : List (Option ℕ)) (n : ℕ) → 0 < length (places_below keys (key_at keys n) (suc n))
line_here keys n = let sum = length-append (places_below keys (key_at keys n) n) (n ∷ []) in rw (same_self (key_at keys n)) (omega arith)

-- each of them has a line
lines_more : (keys : List (Option ℕ)) (n i : ℕ) (b : Bool) → (i < length (keys_below keys n) → 0 < length (places_below keys (key_at (keys_below keys n) i) n))
    → i < length (keys_below keys n ++ cond b (key_at keys n ∷ []) []) → 0 < length (places_below keys (key_at (keys_below keys n ++ cond b (key_at keys n ∷ []) []) i) (suc n))
lines_more keys n i true has lt =
    let before = keys_below keys n in
    let len = length-append before (key_at keys n ∷ []) in
    elim (cases_lt i (length before)) [
      | inl old ↦
          let more = more_lines keys (key_at before i) n in
          let had = has old in
          subst (λ key. 0 < length (places_below keys key (suc n))) (sym (get_or_append_left before (key_at keys n ∷ []) None i old)) (omega arith)
      | inr ge ↦
          let at : length before ≡ i = omega arith in
          subst (λ key. 0 < length (places_below keys key (suc n))) (sym (get_or_push before (key_at keys n) None i at)) (line_here keys n)
    ]
lines_more keys n i false has lt =
    let before = keys_below keys n in
    let old : i < length before = rw append-nil at lt in
    let more = more_lines keys (key_at before i) n in
    let had = has old in
    subst (λ (ks : List (Option ℕ)). 0 < length (places_below keys (key_at ks i) (suc n))) (sym (append-nil before)) (omega arith)

pub has_lines : (keys : List (Option ℕ)) (n i : ℕ) → i < length (keys_below keys n) → 0 < length (places_below keys (key_at (keys_below keys n) i) n)
has_lines keys zero i lt = absurd (omega arith)
has_lines keys (suc n) i lt = lines_more keys n i (place_among keys n == 0) (has_lines keys n i) lt

-- the key of each line is one of them
abbrev pub HasKey : List (Option ℕ) → Option ℕ → Type 0
HasKey names key = (i : ℕ) × (i < length names) × (key_at names i ≡ key)

key_kept : (names more : List (Option ℕ)) (key : Option ℕ) → HasKey names key → HasKey (names ++ more) key
key_kept names more key has = let lt = has.1 in (has.0, (let sum = length-append names more in omega arith), get_or_append_left names more None has.0 has.1 ∙ has.2)

key_here : (keys : List (Option ℕ)) (n : ℕ) (b : Bool) → (place_among keys n == 0) ≡ b → (0 < place_among keys n → HasKey (keys_below keys n) (key_at keys n))
    → HasKey (keys_below keys n ++ cond b (key_at keys n ∷ []) []) (key_at keys n)
key_here keys n true first has =
    let before = keys_below keys n in
    let sum = length-append before (key_at keys n ∷ []) in
    (length before, omega arith, get_or_push before (key_at keys n) None (length before) refl)
key_here keys n false other has = rw append-nil (has (grind (arith, nat_tests)))

pub has_key : (keys : List (Option ℕ)) (n k : ℕ) → k < n → HasKey (keys_below keys n) (key_at keys k)
has_key keys zero k lt = absurd (omega arith)
has_key keys (suc n) k lt = elim (cases_lt k n) [
  | inl old ↦ key_kept (keys_below keys n) _ (key_at keys k) (has_key keys n k old)
  | inr ge ↦
      let at : n ≡ k = omega arith in
      subst (λ m. HasKey (keys_below keys (suc n)) (key_at keys m)) at (key_here keys n (place_among keys n == 0) refl (λ some.
      let is = place_is keys (key_at keys n) n 0 some in
      subst (HasKey (keys_below keys n)) (same_is _ _ is.1) (has_key keys n (slice_index (places_below keys (key_at keys n) n) 0) is.0)))
]

-- a key that is none of them has no line
pub has_none : (keys : List (Option ℕ)) (n : ℕ) (key : Option ℕ) → ((i : ℕ) → i < length (keys_below keys n) → key_at (keys_below keys n) i ≢ key)
    → length (places_below keys key n) ≡ 0
has_none keys n key none = elim (cases_lt 0 (length (places_below keys key n))) [
  | inl some ↦
      let is = place_is keys key n 0 some in
      let has = has_key keys n (slice_index (places_below keys key n) 0) is.0 in
      absurd (none has.0 has.1 (has.2 ∙ same_is _ _ is.1))
  | inr ge ↦ omega arith
]

-- there are no more than lines
pub few_keys : (keys : List (Option ℕ)) (n : ℕ) → length (keys_below keys n) ≤ n
few_keys keys zero = zero-le
few_keys keys (suc n) =
    let few = few_keys keys n in
    let sum = length-append (keys_below keys n) (cond (place_among keys n == 0) (key_at keys n ∷ []) []) in
    one_more (place_among keys n == 0) few sum
  where
    one_more : (b : Bool) → length (keys_below keys n) ≤ n
        → length (keys_below keys n ++ cond b (key_at keys n ∷ []) []) ≡ length (keys_below keys n) + length (cond b (key_at keys n ∷ []) [])
        → length (keys_below keys n ++ cond b (key_at keys n ∷ []) []) ≤ suc n
    one_more true few sum = omega arith
    one_more false few sum = omega arith

-- no two of them are one
new_key : (keys : List (Option ℕ)) (n i : ℕ) → (place_among keys n == 0) ≡ true → i < length (keys_below keys n) → key_at (keys_below keys n) i ≢ key_at keys n
new_key keys n i first lt same =
    let none : place_among keys n ≡ 0 = eqb-true _ _ first in
    let some = subst (λ key. 0 < length (places_below keys key n)) same (has_lines keys n i lt) in
    absurd (omega arith)

each_once_more : (keys : List (Option ℕ)) (n i j : ℕ) (b : Bool) → (place_among keys n == 0) ≡ b
    → (i < length (keys_below keys n) → j < length (keys_below keys n) → key_at (keys_below keys n) i ≡ key_at (keys_below keys n) j → i ≡ j)
    → i < length (keys_below keys n ++ cond b (key_at keys n ∷ []) []) → j < length (keys_below keys n ++ cond b (key_at keys n ∷ []) [])
    → key_at (keys_below keys n ++ cond b (key_at keys n ∷ []) []) i ≡ key_at (keys_below keys n ++ cond b (key_at keys n ∷ []) []) j → i ≡ j
each_once_more keys n i j true first once li lj same =
    let before = keys_below keys n in
    let key = key_at keys n in
    let len = length-append before (key ∷ []) in
    let left = λ (m : ℕ) (lt : m < length before). get_or_append_left before (key ∷ []) None m lt in
    let last = λ (m : ℕ) (at : length before ≡ m). get_or_push before key None m at in
    elim (cases_lt i (length before)) [
      | inl oi ↦ elim (cases_lt j (length before)) [
        | inl oj ↦ once oi oj (sym (left i oi) ∙ (same ∙ left j oj))
        | inr gj ↦ absurd (new_key keys n i first oi (sym (left i oi) ∙ (same ∙ last j (omega arith))))
      ]
      | inr gi ↦ elim (cases_lt j (length before)) [
        | inl oj ↦ absurd (new_key keys n j first oj (sym (left j oj) ∙ (sym same ∙ last i (omega arith))))
        | inr gj ↦ omega arith
      ]
    ]
each_once_more keys n i j false other once li lj same = once (rw append-nil at li) (rw append-nil at lj) (rw append-nil at same)

pub each_once : (keys : List (Option ℕ)) (n i j : ℕ) → i < length (keys_below keys n) → j < length (keys_below keys n)
    → key_at (keys_below keys n) i ≡ key_at (keys_below keys n) j → i ≡ j
each_once keys zero i j li lj same = absurd (omega arith)
each_once keys (suc n) i j li lj same = each_once_more keys n i j (place_among keys n == 0) refl (each_once keys n i j) li lj same
