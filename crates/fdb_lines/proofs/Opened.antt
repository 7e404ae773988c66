-- The parts that are open are listed, each once.
use Rattle.std.proofs.Common.{◌≡◌, ◌≢◌, ◌⊎◌, ◌==◌, ◌||◌, ℕ, zero, suc, ◌<◌, Bool, true, false, cond, List, [], ◌∷◌, ◌++◌, length, set, get_or, refl, ap, sym, subst, ◌∙◌, inl, inr, arith, length-append}
use Rattle.std.specs.List.{All, AllPairs, Contains, filter, list_any}
use Rattle.std.proofs.lemmas.Bool.{both_ways, cases_eq, cases_lt, eqb-true}
use Rattle.std.proofs.lemmas.Bool.Decides.{nat_tests}
use Rattle.std.proofs.lemmas.List.{get_or_append_left, get_or_past, get_or_push, get_or-set_other, get_or-set_same, length-map, set-get_or}
use Rattle.std.proofs.lemmas.List.Elements.{All-contains, Contains-append_left, Contains-get_or, Contains-push, Contains-push_cases, filter_passes}
use Rattle.std.proofs.lemmas.List.Kept.{AllPairs-filter}
use Rattle.std.proofs.lemmas.List.Quantifiers.{all_pairs_push}
use Rattle.fdb_lines.specs.declared.key_part.KeyPart.{KeyPart}
use Rattle.fdb_lines.specs.private.KeyParts.{flag_at, flags_of, AreOpen}

-- what passes a test is among those that do
in_cons : (b : Bool) (y x : ℕ) (zs : List ℕ) → ((b ≡ true) × (y ≡ x)) ⊎ Contains zs x → Contains (cond b (y ∷ zs) zs) x
in_cons true y x zs (inl both) = (0, omega arith, both.1)
in_cons true y x zs (inr (k, lt, is)) = (suc k, omega arith, is)
in_cons false y x zs (inl both) = absurd (both_ways false refl both.0)
in_cons false y x zs (inr has) = has

pub in_filter : (p : ℕ → Bool) (xs : List ℕ) (x : ℕ) → p x ≡ true → Contains xs x → Contains (filter p xs) x
in_filter p [] x is (k, lt, at) = absurd (omega arith)
in_filter p (y ∷ ys) x is (zero, lt, at) = in_cons (p y) y x (filter p ys) (inl (ap p at ∙ is, at))
in_filter p (y ∷ ys) x is (suc k, lt, at) = in_cons (p y) y x (filter p ys) (inr (in_filter p ys x is (k, omega arith, at)))

-- They are listed, each once.
record AreListed (flags : List Bool) (places : List ℕ) : Type 0 where
  once : AllPairs (λ i j. i ≢ j) places
  listed : (i : ℕ) → flag_at flags i ≡ true → Contains places i
  are : (i : ℕ) → Contains places i → flag_at flags i ≡ true

any_from : (places : List ℕ) (i : ℕ) → Contains places i → list_any (λ j. j == i) places ≡ true
any_from [] i (k, lt, at) = absurd (omega arith)
any_from (p ∷ ps) i (zero, lt, at) = rw at (let self : (i == i) ≡ true = grind (arith, nat_tests) in rw self refl)
any_from (p ∷ ps) i (suc k, lt, at) = or_right (p == i) (any_from ps i (k, omega arith, at))
  where
    or_right : (b : Bool) {c : Bool} → c ≡ true → (b || c) ≡ true
    or_right true is = refl
    or_right false is = is

any_to_by : (p i : ℕ) (ps : List ℕ) (b : Bool) → (p == i) ≡ b → (list_any (λ j. j == i) ps ≡ true → Contains ps i) → (b || list_any (λ j. j == i) ps) ≡ true
    → Contains (p ∷ ps) i
any_to_by p i ps true e rest h = (0, omega arith, eqb-true p i e)
any_to_by p i ps false e rest h = let has = rest h in let lt = has.1 in (suc has.0, omega arith, has.2)

any_to : (places : List ℕ) (i : ℕ) → list_any (λ j. j == i) places ≡ true → Contains places i
any_to [] i is = absurd (both_ways false refl is)
any_to (p ∷ ps) i is = any_to_by p i ps (p == i) refl (any_to ps i) is

to_list : (flags : List Bool) (places : List ℕ) → AreOpen flags places → AreListed flags places
to_list flags places are = record {
  once = are.once;
  listed = λ i is. any_to places i (are.listed i ∙ is);
  are = λ i has. sym (are.listed i) ∙ any_from places i has;
}

from_list : (flags : List Bool) (places : List ℕ) → AreListed flags places → AreOpen flags places
from_list flags places are = record { once = are.once; listed = λ i. by i (flag_at flags i) (list_any (λ j. j == i) places) refl refl }
  where
    by : (i : ℕ) (a b : Bool) → flag_at flags i ≡ a → list_any (λ j. j == i) places ≡ b → b ≡ a
    by i true true f l = refl
    by i false false f l = refl
    by i true false f l = absurd (both_ways _ l (any_from places i (are.listed i f)))
    by i false true f l = absurd (both_ways _ f (are.are i (any_to places i l)))

pub place_listed : (flags : List Bool) (places : List ℕ) (i : ℕ) → AreOpen flags places → flag_at flags i ≡ true → Contains places i
place_listed flags places i are = (to_list flags places are).listed i

pub listed_open : (flags : List Bool) (places : List ℕ) (i : ℕ) → AreOpen flags places → Contains places i → flag_at flags i ≡ true
listed_open flags places i are = (to_list flags places are).are i

pub flag_within : (flags : List Bool) (i : ℕ) → flag_at flags i ≡ true → i < length flags
flag_within flags i is = elim (cases_lt i (length flags)) [
  | inl lt ↦ lt
  | inr ge ↦ absurd (both_ways _ (get_or_past flags i false ge) is)
]

pub open_within : (parts : List KeyPart) (places : List ℕ) → AreOpen (flags_of parts) places → All (λ i. i < length parts) places
open_within parts places are = λ k d lt.
    let size = length-map parts (λ (part : KeyPart). part.is_open) in
    let inside = flag_within (flags_of parts) (get_or places k d) (listed_open (flags_of parts) places (get_or places k d) are (Contains-get_or places k d lt)) in
    omega arith

-- a part is opened, or stays open
pub opened_still : (flags : List Bool) (places : List ℕ) (i : ℕ) → AreOpen flags places → flag_at flags i ≡ true → AreOpen (set flags i true) places
opened_still flags places i are is = subst (λ (fs : List Bool). AreOpen fs places) (sym (ap (set flags i) (sym is) ∙ set-get_or flags i false)) are

list_more : (flags : List Bool) (places : List ℕ) (i : ℕ) → AreListed flags places → i < length flags → flag_at flags i ≡ false
    → AreListed (set flags i true) (places ++ i ∷ [])
list_more flags places i are lt closed = record {
  once = all_pairs_push (λ a b. a ≢ b) places i are.once (λ k d less same.
      both_ways _ closed (are.are i (subst (Contains places) same (Contains-get_or places k d less))));
  listed = λ j is. elim (cases_eq j i) [
    | inl same ↦ subst (Contains (places ++ i ∷ [])) (sym same) (Contains-push places i)
    | inr other ↦ Contains-append_left places (i ∷ []) j (are.listed j (sym (get_or-set_other flags i j true false other) ∙ is))
  ];
  are = λ j has. elim (Contains-push_cases places i j has) [
    | inl old ↦ elim (cases_eq j i) [
      | inl same ↦ there j same
      | inr other ↦ get_or-set_other flags i j true false other ∙ are.are j old
    ]
    | inr same ↦ there j (sym same)
  ];
}
  where
    there : (j : ℕ) → j ≡ i → flag_at (set flags i true) j ≡ true
    there j same = ap (flag_at (set flags i true)) same ∙ get_or-set_same flags i true false lt

list_first : (flags : List Bool) (places : List ℕ) → AreListed flags places → AreListed (flags ++ true ∷ []) (places ++ length flags ∷ [])
list_first flags places are = record {
  once = all_pairs_push (λ a b. a ≢ b) places (length flags) are.once (λ k d less same.
      let inside = flag_within flags (length flags) (are.are (length flags) (subst (Contains places) same (Contains-get_or places k d less))) in omega arith);
  listed = λ j is. elim (cases_lt j (length flags)) [
    | inl lt ↦ Contains-append_left places (length flags ∷ []) j (are.listed j (sym (get_or_append_left flags (true ∷ []) false j lt) ∙ is))
    | inr ge ↦
        let inside = flag_within (flags ++ true ∷ []) j is in
        let size = length-append flags (true ∷ []) in
        let at : length flags ≡ j = omega arith in
        subst (Contains (places ++ length flags ∷ [])) at (Contains-push places (length flags))
  ];
  are = λ j has. elim (Contains-push_cases places (length flags) j has) [
    | inl old ↦ let is = are.are j old in get_or_append_left flags (true ∷ []) false j (flag_within flags j is) ∙ is
    | inr same ↦ get_or_push flags true false j same
  ];
}

-- of those that were open, some still are
list_kept : (flags new : List Bool) (places : List ℕ) → AreListed flags places → ((i : ℕ) → flag_at new i ≡ true → flag_at flags i ≡ true)
    → AreListed new (filter (flag_at new) places)
list_kept flags new places are fewer = record {
  once = AllPairs-filter (λ a b. a ≢ b) (flag_at new) places are.once;
  listed = λ i is. in_filter (flag_at new) places i is (are.listed i (fewer i is));
  are = λ i has. All-contains (λ j. flag_at new j ≡ true) (filter (flag_at new) places) i (filter_passes (flag_at new) places) has;
}

pub opened_more : (flags : List Bool) (places : List ℕ) (i : ℕ) → AreOpen flags places → i < length flags → flag_at flags i ≡ false
    → AreOpen (set flags i true) (places ++ i ∷ [])
opened_more flags places i are lt closed = from_list (set flags i true) (places ++ i ∷ []) (list_more flags places i (to_list flags places are) lt closed)

pub opened_first : (flags : List Bool) (places : List ℕ) → AreOpen flags places → AreOpen (flags ++ true ∷ []) (places ++ length flags ∷ [])
opened_first flags places are = from_list (flags ++ true ∷ []) (places ++ length flags ∷ []) (list_first flags places (to_list flags places are))

pub opened_kept : (flags new : List Bool) (places : List ℕ) → AreOpen flags places → ((i : ℕ) → flag_at new i ≡ true → flag_at flags i ≡ true)
    → AreOpen new (filter (flag_at new) places)
opened_kept flags new places are fewer = from_list new (filter (flag_at new) places) (list_kept flags new places (to_list flags places are) fewer)
