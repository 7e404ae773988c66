-- The parts of a log: one line more, and a key that comes in.
use Rattle.std.specs.Option.{option_eq}
use Rattle.std.proofs.Common.{◌≡◌, ◌≢◌, ◌==◌, ℕ, zero, suc, ◌+◌, ◌<◌, Bool, true, false, cond, List, [], ◌∷◌, ◌++◌, Option, None, Some, length, set, get_or, refl, ap, sym, subst, ◌∙◌, inl, inr, arith, append-nil, length-append}
use Rattle.std.specs.List.{All}
use Rattle.std.proofs.lemmas.Bool.{cases_eq, cases_lt, eqb-true, false_from_ne_true}
use Rattle.std.proofs.lemmas.Bool.Decides.{nat_tests}
use Rattle.std.proofs.lemmas.List.{get_or_append_left, get_or_push, get_or-map, get_or-set_other, get_or-set_same, length-map, length-set, map-set, map_push, set-get_or}
use Rattle.std.proofs.lemmas.List.Elements.{All-append, All-cons, All-from_get_or, All-get_or, All-nil}
use Rattle.std.proofs.lemmas.List.Sums.{sum_by_push, sum_by-set}
use Rattle.fdb_lines.specs.declared.log.Part.{Part}
use Rattle.fdb_lines.specs.Keys.{key_at, keys_below, keys_of, place_among, places_below, places_of}
use Rattle.fdb_lines.specs.private.Keys.{key_of, keys_in, number_of, AreNumbered, IsPartMore, IsPlaceMore}
use Rattle.fdb_lines.specs.private.KeySums.{lines_in_all}
use Rattle.fdb_lines.proofs.Keyed.{each_once, has_lines, has_none, key_back, same_is, same_self}

-- ---- the numbers of keys

-- what stands past a list is as good as in it
pub nothing_more : {X : Type 0} (xs : List X) (none : X) (k : ℕ) → get_or (xs ++ none ∷ []) k none ≡ get_or xs k none
nothing_more [] none zero = refl
nothing_more [] none (suc k) = refl
nothing_more (x ∷ xs) none zero = refl
nothing_more (x ∷ xs) none (suc k) = nothing_more xs none k

pub numbered_more : (old new : ℕ → Option ℕ) (names : List (Option ℕ)) (key : Option ℕ) → AreNumbered old names → old (number_of key) ≡ None
    → ((q : ℕ) → new q ≡ cond (q == number_of key) (Some (length names)) (old q)) → AreNumbered new (names ++ key ∷ [])
numbered_more old new names key are none is = record {
  there = λ q number has. there q number (number_of q == number_of key) refl (sym (is (number_of q)) ∙ has);
  absent = λ q lacks i lt. absent q (number_of q == number_of key) refl (sym (is (number_of q)) ∙ lacks) i lt;
}
  where
    same : (q : Option ℕ) → (number_of q == number_of key) ≡ true → key ≡ q
    same q e = sym (key_back key) ∙ (ap key_of (sym (eqb-true _ _ e)) ∙ key_back q)

    there : (q : Option ℕ) (number : ℕ) (b : Bool) → (number_of q == number_of key) ≡ b → cond b (Some (length names)) (old (number_of q)) ≡ Some number
        → (number < length (names ++ key ∷ [])) × (key_at (names ++ key ∷ []) number ≡ q)
    there q number true e has =
        let size = length-append names (key ∷ []) in
        let at : length names ≡ number = grind (arith, has) in
        (omega arith, get_or_push names key None number at ∙ same q e)
    there q number false e has =
        let size = length-append names (key ∷ []) in
        let was = are.there q number has in
        let lt = was.0 in
        (omega arith, get_or_append_left names (key ∷ []) None number lt ∙ was.1)

    absent : (q : Option ℕ) (b : Bool) → (number_of q == number_of key) ≡ b → cond b (Some (length names)) (old (number_of q)) ≡ None
        → (i : ℕ) → i < length (names ++ key ∷ []) → key_at (names ++ key ∷ []) i ≢ q
    absent q true e lacks i lt is_q = absurd (grind (arith, lacks))
    absent q false e lacks i lt is_q =
        let size = length-append names (key ∷ []) in
        elim (cases_lt i (length names)) [
          | inl inside ↦ are.absent q lacks i inside (sym (get_or_append_left names (key ∷ []) None i inside) ∙ is_q)
          | inr ge ↦
              let at : length names ≡ i = omega arith in
              let key_is : key ≡ q = sym (get_or_push names key None i at) ∙ is_q in
              let number : number_of q ≡ number_of key = ap number_of (sym key_is) in
              absurd (grind (arith, nat_tests, e, number))
        ]

-- ---- one line more

abbrev pub IsPart : List (Option ℕ) → ℕ → Part → Type 0
IsPart keys n part = part.places.items ≡ places_below keys part.key n

no_places : (places : List ℕ) → length places ≡ 0 → [] ≡ places
no_places [] none = refl
no_places (p ∷ ps) none = absurd (omega (arith, none))

-- the key of the line has come in, or was there
keys_here : (keys : List (Option ℕ)) (n number : ℕ) (old mid : List Part) → keys_in old ≡ keys_below keys n → IsPartMore (key_at keys n) old mid
    → number < length mid → key_at (keys_in mid) number ≡ key_at keys n → keys_in mid ≡ keys_below keys (suc n)
keys_here keys n number old mid are (inl same) lt at =
    let names : keys_in mid ≡ keys_below keys n = ap keys_in same ∙ are in
    let size : length (keys_below keys n) ≡ length mid = ap length (sym names) ∙ length-map mid (λ (part : Part). part.key) in
    let key : key_at (keys_below keys n) number ≡ key_at keys n = ap (λ ks. key_at ks number) (sym names) ∙ at in
    let some = subst (λ q. 0 < length (places_below keys q n)) key (has_lines keys n number (omega arith)) in
    let other : (place_among keys n == 0) ≡ false = grind (arith, nat_tests, some) in
    rw (other, append-nil) names
keys_here keys n number old mid are (inr (absent, part, key, none, is)) lt at =
    let size : length (keys_below keys n) ≡ length old = ap length (sym are) ∙ length-map old (λ (part : Part). part.key) in
    let gone : place_among keys n ≡ 0 = has_none keys n (key_at keys n) (λ i less. subst (λ ks. key_at ks i ≢ key_at keys n) are (absent i (omega arith))) in
    let first : (place_among keys n == 0) ≡ true = grind (arith, nat_tests, gone) in
    rw (first, is, map_push (λ (part : Part). part.key) old part, are, key) refl

parts_here : (keys : List (Option ℕ)) (n : ℕ) (old mid : List Part) → keys_in old ≡ keys_below keys n → All (IsPart keys n) old → IsPartMore (key_at keys n) old mid
    → All (IsPart keys n) mid
parts_here keys n old mid are all (inl same) = subst (All (IsPart keys n)) (sym same) all
parts_here keys n old mid are all (inr (absent, part, key, none, is)) =
    let size : length (keys_below keys n) ≡ length old = ap length (sym are) ∙ length-map old (λ (part : Part). part.key) in
    let gone : place_among keys n ≡ 0 = has_none keys n (key_at keys n) (λ i less. subst (λ ks. key_at ks i ≢ key_at keys n) are (absent i (omega arith))) in
    let here : IsPart keys n part = none ∙ (no_places _ gone ∙ ap (λ q. places_below keys q n) (sym key)) in
    subst (All (IsPart keys n)) (sym is) (All-append (IsPart keys n) old (part ∷ []) all (All-cons (IsPart keys n) part [] here (All-nil (IsPart keys n))))

pub same_keys : (mid new : List Part) (number n : ℕ) → IsPlaceMore mid new number n → keys_in new ≡ keys_in mid
same_keys mid new number n (part, key, places, is) =
    let of = λ (part : Part). part.key in
    ap keys_in is ∙ (map-set of mid number part ∙ (ap (set (keys_in mid) number) key ∙ set-get_or (keys_in mid) number None))

-- its place comes to its part, and to no other
place_here : (keys : List (Option ℕ)) (n number : ℕ) (mid new : List Part) → keys_in mid ≡ keys_below keys (suc n) → All (IsPart keys n) mid
    → number < length mid → key_at (keys_in mid) number ≡ key_at keys n → IsPlaceMore mid new number n
    → (keys_in new ≡ keys_below keys (suc n)) × All (IsPart keys (suc n)) new
place_here keys n number mid new are all lt at (part, key, places, is) = (
  same_keys mid new number n (part, key, places, is) ∙ are,
  subst (All (IsPart keys (suc n))) (sym is) (All-from_get_or (IsPart keys (suc n)) (set mid number part) part each),
)
  where
    of : Part → Option ℕ
    of part = part.key

    written : IsPart keys (suc n) part
    written =
        let mine : part.key ≡ key_at keys n = key ∙ at in
        let was : (get_or mid number part).key ≡ key_at keys n = sym (get_or-map of mid number part None lt) ∙ at in
        let had = All-get_or (IsPart keys n) mid number part lt all in
        subst (λ q. part.places.items ≡ places_below keys q (suc n)) (sym mine) (rw (same_self (key_at keys n)) (places ∙ ap (λ (ps : List ℕ). ps ++ n ∷ []) (had ∙ ap (λ q. places_below keys q n) was)))

    other : (i : ℕ) → i < length mid → i ≢ number → IsPart keys (suc n) (get_or mid i part)
    other i less away =
        let size : length (keys_below keys (suc n)) ≡ length mid = ap length (sym are) ∙ length-map mid of in
        let had = All-get_or (IsPart keys n) mid i part less all in
        let differs : option_eq ◌==◌ (key_at keys n) (get_or mid i part).key ≡ false = false_from_ne_true _ (λ same.
        away (each_once keys (suc n) i number (omega arith) (omega arith)
        (ap (λ ks. key_at ks i) (sym are) ∙ (get_or-map of mid i part None less ∙ (sym (same_is _ _ same) ∙ (sym at ∙ ap (λ ks. key_at ks number) are)))))) in
        rw (differs, append-nil) had

    each : (i : ℕ) → i < length (set mid number part) → IsPart keys (suc n) (get_or (set mid number part) i part)
    each i less =
        let size = length-set mid number part in
        let inside : i < length mid = omega arith in
        elim (cases_eq i number) [
          | inl same ↦ subst (IsPart keys (suc n)) (sym (ap (λ m. get_or (set mid number part) m part) same ∙ get_or-set_same mid number part part lt)) written
          | inr away ↦ subst (IsPart keys (suc n)) (sym (get_or-set_other mid number i part part away)) (other i inside away)
        ]

pub parts_more : (keys : List (Option ℕ)) (n number : ℕ) (old mid new : List Part) → keys_in old ≡ keys_below keys n → All (IsPart keys n) old
    → IsPartMore (key_at keys n) old mid → number < length mid → key_at (keys_in mid) number ≡ key_at keys n → IsPlaceMore mid new number n
    → (keys_in new ≡ keys_below keys (suc n)) × All (IsPart keys (suc n)) new
parts_more keys n number old mid new are all more lt at place =
    place_here keys n number mid new (keys_here keys n number old mid are more lt at) (parts_here keys n old mid are all more) lt at place

pub line_more : (key : Option ℕ) (n number : ℕ) (old mid new : List Part) → IsPartMore key old mid → number < length mid → IsPlaceMore mid new number n
    → lines_in_all new ≡ lines_in_all old + 1
line_more key n number old mid new more lt (part, of_key, places, is) =
    let size = λ (part : Part). length part.places.items in
    let written = sum_by-set size mid number part part lt in
    let one = length-append (get_or mid number part).places.items (n ∷ []) in
    let longer = ap length places in
    let came : lines_in_all mid ≡ lines_in_all old = come more in
    rw is (omega arith)
  where
    come : IsPartMore key old mid → lines_in_all mid ≡ lines_in_all old
    come (inl same) = ap lines_in_all same
    come (inr (absent, one, its, none, grown)) =
        let added = sum_by_push (λ (part : Part). length part.places.items) old one in
        let nothing = ap length none in
        rw grown (omega arith)

-- a part of a log is that of its key
pub part_at : (keys : List (Option ℕ)) (parts : List Part) (n : ℕ) (part : Part) → keys_in parts ≡ keys_of keys → All (λ (part : Part). part.places.items ≡ places_of keys part.key) parts
    → n < length parts → part ≡ get_or parts n part
    → (n < length (keys_of keys)) × (part.places.items ≡ places_of keys (key_at (keys_of keys) n)) × (part.key ≡ key_at (keys_of keys) n)
part_at keys parts n part are all lt is =
    let of = λ (part : Part). part.key in
    let size : length (keys_of keys) ≡ length parts = ap length (sym are) ∙ length-map parts of in
    let key : part.key ≡ key_at (keys_of keys) n = ap of is ∙ (sym (get_or-map of parts n part None lt) ∙ ap (λ ks. key_at ks n) are) in
    let places : part.places.items ≡ places_of keys part.key = subst (IsPart keys (length keys)) (sym is) (All-get_or (IsPart keys (length keys)) parts n part lt all) in
    (omega arith, places ∙ ap (places_of keys) key, key)
