-- The lines that a watch keeps stand for all that came, each key by itself.
use Rattle.std.proofs.Common.{◌≡◌, ◌≢◌, ◌∙◌, ℕ, zero, suc, ◌-◌, ◌<◌, ◌≤◌, Bool, true, cond, List, [], ◌∷◌, ◌++◌, Option, None, length, map, get_or, slice_index, refl, ap, sym, subst, inl, inr, arith, length-append}
use Rattle.std.specs.Prelude.{◌==◌, IsPermutation}
use Rattle.std.specs.Option.{option_eq}
use Rattle.std.specs.List.{AllPairs, Contains, filter, flat_map, range_with_len}
use Rattle.std.proofs.lemmas.Bool.{cases_lt}
use Rattle.std.proofs.lemmas.List.{get_or_default, get_or-map, length-map, map-id}
use Rattle.std.proofs.lemmas.List.Elements.{All-contains, All-contains_itself, All-filter, All-map, Contains-append_cases, Contains-append_left, Contains-append_right, Contains-get_or, filter_passes}
use Rattle.std.proofs.lemmas.List.Kept.{AllPairs-filter}
use Rattle.std.proofs.lemmas.List.Sorted.{Contains-permutation, IsPermutation-append, IsPermutation-map, IsPermutation-sym, IsPermutation-trans}
use Rattle.std.proofs.lemmas.Simd.{map-map}
use Rattle.fdb_lines.specs.declared.fault.Found.{Found}
use Rattle.fdb_lines.specs.declared.key_part.KeyPart.{KeyPart}
use Rattle.fdb_lines.specs.declared.key_watch.KeyWatch.{KeyWatch}
use Rattle.fdb_lines.specs.declared.line.Line.{Line}
use Rattle.fdb_lines.specs.Before.{began}
use Rattle.fdb_lines.specs.Carried.{StandFor}
use Rattle.fdb_lines.specs.KeyParts.{lines_of_one, names_of}
use Rattle.fdb_lines.specs.KeyWatch.{HasSeenByKey}
use Rattle.fdb_lines.specs.Keys.{key_at, keys_of, place_among, placed_found, places_below, places_of}
use Rattle.fdb_lines.specs.Lines.{line_at, lines_in}
use Rattle.fdb_lines.specs.Renumbered.{AreSameButForNumbers}
use Rattle.fdb_lines.specs.StandByKey.{StandForByKey, audited_from, keys_in, kept_of}
use Rattle.fdb_lines.specs.ToldByKey.{HasTold, audited, audited_to}
use Rattle.fdb_lines.proofs.Carried.{later, Rising}
use Rattle.fdb_lines.proofs.GoneOnByKey.{told_then, whole_by_key}
use Rattle.fdb_lines.proofs.Keyed.{has_none, of_key, place_is, same_is, same_self}
use Rattle.fdb_lines.proofs.EntriesTell.{apart, maps_same, same_part}
use Rattle.fdb_lines.proofs.OnceTold.{is_there, told_is}
use Rattle.fdb_lines.proofs.Opened.{in_filter}
use Rattle.fdb_lines.proofs.Permuted.{none_pass}

-- ---- lists of places that rise, and have the same places

first_least : (x : ℕ) (xs : List ℕ) → Rising (x ∷ xs) → (z : ℕ) → Contains (x ∷ xs) z → x ≤ z
first_least x xs rising z (zero, lt, is) = omega arith
first_least x xs rising z (suc k, lt, is) =
    let rise = rising 0 (suc k) (omega arith) lt in
    let same = get_or_default xs k 0 z (omega (arith, lt)) in
    omega arith

above_first : (x : ℕ) (xs : List ℕ) → Rising (x ∷ xs) → (z : ℕ) → Contains xs z → x < z
above_first x xs rising z (k, lt, is) =
    let rise = rising 0 (suc k) (omega arith) (omega (arith, lt)) in
    let same = get_or_default xs k 0 z lt in
    omega arith

in_rest : (x : ℕ) (xs : List ℕ) (z : ℕ) → x < z → Contains (x ∷ xs) z → Contains xs z
in_rest x xs z less (zero, lt, is) = absurd (omega arith)
in_rest x xs z less (suc k, lt, is) = (k, omega (arith, lt), is)

in_more : (x : ℕ) (xs : List ℕ) (z : ℕ) → Contains xs z → Contains (x ∷ xs) z
in_more x xs z (k, lt, is) = (suc k, omega (arith, lt), is)

rest_rises : (x : ℕ) (xs : List ℕ) → Rising (x ∷ xs) → Rising xs
rest_rises x xs rising i j less lt = rising (suc i) (suc j) (omega (arith, less)) (omega (arith, lt))

same_places : (xs ys : List ℕ) → Rising xs → Rising ys → ((z : ℕ) → Contains xs z → Contains ys z) → ((z : ℕ) → Contains ys z → Contains xs z) → xs ≡ ys
same_places [] [] rise too to back = refl
same_places [] (y ∷ ys) rise too to back = absurd (let has = back y (0, omega arith, refl) in let lt = has.1 in omega arith)
same_places (x ∷ xs) [] rise too to back = absurd (let has = to x (0, omega arith, refl) in let lt = has.1 in omega arith)
same_places (x ∷ xs) (y ∷ ys) rise too to back =
    let one = first_least y ys too x (to x (0, omega arith, refl)) in
    let other = first_least x xs rise y (back y (0, omega arith, refl)) in
    let same : x ≡ y = omega arith in
    let rest = same_places xs ys (rest_rises x xs rise) (rest_rises y ys too)
    (λ z has. in_rest y ys z (let up = above_first x xs rise z has in omega arith) (to z (in_more x xs z has)))
    (λ z has. in_rest x xs z (let up = above_first y ys too z has in omega arith) (back z (in_more y ys z has))) in
    λ i. same i ∷ rest i

filter_rises : (p : ℕ → Bool) (xs : List ℕ) → Rising xs → Rising (filter p xs)
filter_rises p xs rising i j less lt = AllPairs-filter (λ a b. a < b) p xs pairs i j 0 less lt
  where
    pairs : AllPairs (λ (a b : ℕ). a < b) xs
    pairs i j d less lt =
        let one = get_or_default xs i 0 d (omega (arith, less, lt)) in
        let other = get_or_default xs j 0 d lt in
        let rise = rising i j less lt in
        omega arith

from_filter : (p : ℕ → Bool) (xs : List ℕ) (z : ℕ) → Contains (filter p xs) z → Contains xs z × (p z ≡ true)
from_filter p xs z has = (
  All-contains (Contains xs) (filter p xs) z (All-filter p (Contains xs) xs (All-contains_itself xs)) has,
  All-contains (λ k. p k ≡ true) (filter p xs) z (filter_passes p xs) has,
)

-- ---- the places of a key rise

lines_rise : (keys : List (Option ℕ)) (key : Option ℕ) (n m : ℕ) → n ≤ m → length (places_below keys key n) ≤ length (places_below keys key m)
lines_rise keys key n zero le = let is : n ≡ 0 = omega arith in let same = ap (λ k. length (places_below keys key k)) is in omega arith
lines_rise keys key n (suc m) le = elim (cases_lt m n) [
  | inl more ↦ let is : n ≡ suc m = omega arith in let same = ap (λ k. length (places_below keys key k)) is in omega arith
  | inr less ↦
      let before = lines_rise keys key n m less in
      let one = length-append (places_below keys key m) (cond (option_eq ◌==◌ (key_at keys m) key) (m ∷ []) []) in
      omega arith
]

places_rise : (keys : List (Option ℕ)) (key : Option ℕ) → Rising (places_of keys key)
places_rise keys key i j less lt =
    let one = place_is keys key (length keys) i (omega (arith, less, lt)) in
    let other = place_is keys key (length keys) j lt in
    let a = one.2 in
    let b = other.2 in
    elim (cases_lt (slice_index (places_of keys key) i) (slice_index (places_of keys key) j)) [
      | inl up ↦ up
      | inr down ↦ let back = lines_rise keys key (slice_index (places_of keys key) j) (slice_index (places_of keys key) i) down in absurd (omega arith)
    ]

-- ---- the numbers of all parts

abbrev numbers_of : KeyPart → List ℕ
numbers_of part = part.numbers.items

in_parts : (parts : List KeyPart) (z : ℕ) → Contains (flat_map numbers_of parts) z → (i : ℕ) × (i < length parts) × ((d : KeyPart) → Contains (numbers_of (get_or parts i d)) z)
in_parts [] z (k, lt, is) = absurd (omega (arith, lt))
in_parts (part ∷ parts) z has = elim (Contains-append_cases (numbers_of part) (flat_map numbers_of parts) z has) [
  | inl here ↦ (0, omega arith, λ d. here)
  | inr rest ↦ let it = in_parts parts z rest in let lt = it.1 in (suc it.0, omega (arith, lt), λ d. it.2 d)
]

from_part : (parts : List KeyPart) (i : ℕ) (d : KeyPart) (z : ℕ) → i < length parts → Contains (numbers_of (get_or parts i d)) z → Contains (flat_map numbers_of parts) z
from_part [] i d z lt has = absurd (omega (arith, lt))
from_part (part ∷ parts) zero d z lt has = Contains-append_left (numbers_of part) (flat_map numbers_of parts) z has
from_part (part ∷ parts) (suc i) d z lt has = Contains-append_right (numbers_of part) (flat_map numbers_of parts) z (from_part parts i d z (omega (arith, lt)) has)

some_part : (parts : List KeyPart) (i : ℕ) → i < length parts → KeyPart
some_part [] i lt = absurd (omega (arith, lt))
some_part (part ∷ parts) i lt = part

module _ (watch : KeyWatch) (lines : List Line) (keys : List (Option ℕ)) (seen : HasSeenByKey watch lines keys) (places : List ℕ)
    (are : IsPermutation (flat_map numbers_of watch.parts.items) places) (rising : Rising places) where
  abbrev parts : List KeyPart
  parts = watch.parts.items

  abbrev its : Option ℕ → ℕ → Bool
  its q k = option_eq ◌==◌ (key_at keys k) q

  -- what a part keeps is of its key, and rises
  abbrev IsOf : KeyPart → ℕ → Type 0
  IsOf part k = (k < length keys) × (key_at keys k ≡ part.key)

  its_line : (i : ℕ) (d : KeyPart) → i < length parts → (k : ℕ) (e : ℕ) → k < length (get_or parts i d).watch.numbers.items
      → get_or (get_or parts i d).watch.numbers.items k e < length (places_of keys (get_or parts i d).key)
  its_line i d lt k e less =
      let part = get_or parts i d in
      let low = (seen.each i d lt).seen.stand.within k less in
      let same = get_or_default part.watch.numbers.items k 0 e less in
      omega (arith, length-map (places_of keys part.key) (line_at lines))

  its_key : (i : ℕ) (d : KeyPart) → i < length parts → (z : ℕ) → Contains (numbers_of (get_or parts i d)) z → IsOf (get_or parts i d) z
  its_key i d lt z has =
      let part = get_or parts i d in
      let mine = places_of keys part.key in
      let numbers = part.watch.numbers.items in
      All-contains (IsOf part) (map (slice_index mine) numbers) z
      (All-map (IsOf part) (slice_index mine) numbers (λ k e less. of_key keys part.key mine refl (get_or numbers k e) (its_line i d lt k e less)))
      (subst (λ (ns : List ℕ). Contains ns z) (seen.each i d lt).numbers has)

  its_rise : (i : ℕ) (d : KeyPart) → i < length parts → Rising (numbers_of (get_or parts i d))
  its_rise i d lt = subst Rising (sym (seen.each i d lt).numbers) (λ a b less low.
      let part = get_or parts i d in
      let mine = places_of keys part.key in
      let numbers = part.watch.numbers.items in
      let size = length-map numbers (slice_index mine) in
      let lb : b < length numbers = omega (arith, low, size) in
      let la : a < length numbers = omega (arith, less, lb) in
      let one = get_or-map (slice_index mine) numbers a 0 0 la in
      let other = get_or-map (slice_index mine) numbers b 0 0 lb in
      let up = places_rise keys part.key (slice_index numbers a) (slice_index numbers b) ((seen.each i d lt).seen.stand.rising a b less lb) (its_line i d lt b 0 lb) in
      omega arith)

  -- each place is kept by a part
  kept_by : (z : ℕ) → Contains places z → (i : ℕ) × (i < length parts) × ((d : KeyPart) → Contains (numbers_of (get_or parts i d)) z)
  kept_by z has = in_parts parts z (Contains-permutation places (flat_map numbers_of parts) z (IsPermutation-sym (flat_map numbers_of parts) places are) has)

  -- those of a key are what its part keeps
  of_part : (q : Option ℕ) (i : ℕ) (d : KeyPart) → i < length parts → (get_or parts i d).key ≡ q → filter (its q) places ≡ numbers_of (get_or parts i d)
  of_part q i d lt key =
      same_places (filter (its q) places) (numbers_of (get_or parts i d)) (filter_rises (its q) places rising) (its_rise i d lt)
      (λ z has.
      let both = from_filter (its q) places z has in
      let by = kept_by z both.0 in
      let of = its_key by.0 d by.1 z (by.2 d) in
      let at : by.0 ≡ i = same_part lines keys seen.as_many parts seen.names seen.each by.0 i d by.1 lt (sym of.1 ∙ (same_is (key_at keys z) q both.1 ∙ sym key)) in
      subst (λ m. Contains (numbers_of (get_or parts m d)) z) at (by.2 d))
      (λ z has.
      let of = its_key i d lt z has in
      in_filter (its q) places z (ap (λ k. option_eq ◌==◌ k q) (of.1 ∙ key) ∙ same_self q)
      (Contains-permutation (flat_map numbers_of parts) places z are (from_part parts i d z lt has)))

  of_none : (q : Option ℕ) → ((i : ℕ) → i < length (names_of parts) → key_at (names_of parts) i ≢ q) → filter (its q) places ≡ []
  of_none q none = none_pass (its q) places (λ k e lt.
      let z = get_or places k e in
      let by = kept_by z (Contains-get_or places k e lt) in
      let d = some_part parts by.0 by.1 in
      let of = its_key by.0 d by.1 z (by.2 d) in
      let size = length-map parts (λ (part : KeyPart). part.key) in
      apart (key_at keys z) q (λ is. none by.0 (let lt = by.1 in omega arith) (get_or-map (λ (part : KeyPart). part.key) parts by.0 d None by.1 ∙ (sym of.1 ∙ is))))

  -- each at its place among the lines of the key
  kept_is : (i : ℕ) (d : KeyPart) → i < length parts → kept_of keys places (get_or parts i d).key ≡ (get_or parts i d).watch.numbers.items
  kept_is i d lt =
      let part = get_or parts i d in
      let mine = places_of keys part.key in
      let numbers = part.watch.numbers.items in
      ap (map (place_among keys)) (of_part part.key i d lt refl ∙ (seen.each i d lt).numbers)
      ∙ (map-map (place_among keys) (slice_index mine) numbers
      ∙ (maps_same (λ k. place_among keys (slice_index mine k)) (λ (k : ℕ). k) numbers (λ k e less.
      let is = place_is keys part.key (length keys) (get_or numbers k e) (its_line i d lt k e less) in
      ap (λ key. length (places_below keys key (slice_index mine (get_or numbers k e)))) (same_is _ part.key is.1) ∙ is.2)
      ∙ map-id numbers))

  abbrev at : ℕ
  at = watch.from - watch.horizon

  part_stands : (i : ℕ) (d : KeyPart) → i < length parts → StandFor watch.margin at (lines_of_one lines keys (get_or parts i d).key) (kept_of keys places (get_or parts i d).key)
  part_stands i d lt =
      let part = get_or parts i d in
      let alike = watch.alike i d lt in
      let horizon = alike.its_horizon in
      let from = alike.its_from in
      let mine = lines_of_one lines keys part.key in
      subst (StandFor watch.margin at mine) (sym (kept_is i d lt))
      (subst (λ margin. StandFor margin at mine part.watch.numbers.items) alike.its_margin
      (later part.watch.margin (part.watch.from - part.watch.horizon) at mine part.watch.numbers.items (omega arith) (seen.each i d lt).seen.stand))

  none_stands : (q : Option ℕ) → ((i : ℕ) → i < length (names_of parts) → key_at (names_of parts) i ≢ q) → StandFor watch.margin at (lines_of_one lines keys q) (kept_of keys places q)
  none_stands q none =
      let here : (i : ℕ) → i < length (keys_of keys) → key_at (keys_of keys) i ≢ q =
      subst (λ (ns : List (Option ℕ)). (i : ℕ) → i < length ns → key_at ns i ≢ q) seen.names none in
      let empty = has_none keys (length keys) q here in
      let size = length-map (places_of keys q) (line_at lines) in
      let nothing : StandFor watch.margin at (lines_of_one lines keys q) [] = record {
        within = λ i li. absurd (omega (arith, li));
        rising = λ i j less lj. absurd (omega (arith, lj));
        rest = λ j lj. absurd (omega (arith, lj, size, empty));
      } in
      subst (StandFor watch.margin at (lines_of_one lines keys q)) (sym (ap (map (place_among keys)) (of_none q none))) nothing

  stands_each : (q : Option ℕ) → StandFor watch.margin at (lines_of_one lines keys q) (kept_of keys places q)
  stands_each q = elim (is_there (names_of parts) q) [
    | inl (i, lt, is) ↦
        let inside : i < length parts = (let size = length-map parts (λ (part : KeyPart). part.key) in omega (arith, lt, size)) in
        let d = some_part parts i inside in
        let key : (get_or parts i d).key ≡ q = sym (get_or-map (λ (part : KeyPart). part.key) parts i d None inside) ∙ is in
        subst (λ k. StandFor watch.margin at (lines_of_one lines keys k) (kept_of keys places k)) key (part_stands i d inside)
    | inr none ↦ none_stands q none
  ]

  pub watch_stands : StandForByKey watch.margin at lines keys places
  watch_stands = record {
    as_many = seen.as_many;
    within = λ i lt.
        let by = kept_by (get_or places i 0) (Contains-get_or places i 0 lt) in
        let of = (its_key by.0 (some_part parts by.0 by.1) by.1 (get_or places i 0) (by.2 (some_part parts by.0 by.1))).0 in
        let many = seen.as_many in
        omega arith;
    each = stands_each;
  }

-- ---- who goes on from what a watch kept tells the rest

pub gone_on_from : (watch : KeyWatch) (lines more first rest : List Line) (keys more_keys first_keys rest_keys : List (Option ℕ)) (places : List ℕ) (told was now : List Found)
    → HasSeenByKey watch lines keys → HasTold watch lines keys told → IsPermutation (flat_map numbers_of watch.parts.items) places → Rising places
    → length more_keys ≡ length more → length first_keys ≡ length first → length rest_keys ≡ length rest
    → ((j : ℕ) → j < length more → watch.from ≤ began (line_at more j)) → ((j : ℕ) → j < length rest → watch.from ≤ began (line_at rest j))
    → AreSameButForNumbers (lines_in lines places ++ more) (keys_in keys places ++ more_keys) (first ++ rest) (first_keys ++ rest_keys)
    → IsPermutation was (audited_to watch.margin watch.from first first_keys)
    → IsPermutation (was ++ now) (audited watch.margin (first ++ rest) (first_keys ++ rest_keys))
    → IsPermutation (told ++ map (placed_found (places ++ range_with_len (length lines) (length more))) now) (audited watch.margin (lines ++ more) (keys ++ more_keys))
gone_on_from watch lines more first rest keys more_keys first_keys rest_keys places told was now seen has are rising same first_same rest_same later rest_later alike had all =
    let place = placed_found (places ++ range_with_len (length lines) (length more)) in
    let before = audited_to watch.margin watch.from lines keys in
    let after = audited_from watch.margin watch.from (first ++ rest) (first_keys ++ rest_keys) in
    let then_told = told_then watch.margin watch.from first first_keys first_same rest rest_keys rest_same rest_later was now had all in
    IsPermutation-trans (told ++ map place now) (before ++ map place after) (audited watch.margin (lines ++ more) (keys ++ more_keys))
    (IsPermutation-append told before (map place now) (map place after) (told_is watch lines keys told seen has) (IsPermutation-map place now after then_told))
    (whole_by_key watch.margin watch.from lines keys seen.as_many more more_keys same (watch.from - watch.horizon) places (first ++ rest) (first_keys ++ rest_keys) (omega arith)
    (watch_stands watch lines keys seen places are rising) later alike)
