-- What some lines of a log tell is true of all.
use Rattle.std.proofs.Common.{◌≡◌, ◌∙◌, ℕ, zero, suc, ◌+◌, ◌-◌, ◌<◌, ◌==◌, ◌&&◌, Bool, true, false, cond, List, [], ◌∷◌, ◌++◌, Option, None, length, map, slice_index, slice_index_or, refl, ap, sym, subst, inl, inr, arith, length-append}
use Rattle.std.specs.Option.{option_eq}
use Rattle.std.specs.List.{All, AllPairs, Contains, filter, range_with_len}
use Rattle.std.proofs.lemmas.Bool.{cases_lt}
use Rattle.std.proofs.lemmas.List.{ext_get_or, get_or-append-add, get_or-map, get_or_append_left, get_or_default, length-map}
use Rattle.std.proofs.lemmas.List.FromFn.{get_or-map-range_with_len, get_or-range_with_len, length-map-range_with_len, length-range_with_len}
use Rattle.std.proofs.lemmas.List.Kept.{AllPairs-filter}
use Rattle.std.proofs.lemmas.List.Elements.{All-append, All-contains_itself, All-filter, All-from_get_or, All-map, All-nil, All-weaker, filter_passes}
use Rattle.fdb_lines.specs.declared.fault.Fault.{Fault}
use Rattle.fdb_lines.specs.declared.fault.Fault.TheVariants.{Order, Wrong, NotAbove, Twice, Stray}
use Rattle.fdb_lines.specs.declared.fault.Found.{Found}
use Rattle.fdb_lines.specs.declared.line.Line.{Line}
use Rattle.fdb_lines.specs.Faults.{stands}
use Rattle.fdb_lines.specs.KeyParts.{lines_of_one}
use Rattle.fdb_lines.specs.Keys.{key_at, place_among, placed_found, places_below, places_of}
use Rattle.fdb_lines.specs.Lines.{Case, line_at, lines_in, nobody}
use Rattle.fdb_lines.specs.Listing.{faults_at, faults_below, faults_of, found_if}
use Rattle.fdb_lines.specs.Renumbered.{AreSameButForNumbers}
use Rattle.fdb_lines.specs.StandByKey.{kept_of, keys_in}
use Rattle.fdb_lines.specs.ToldByKey.{at_key, audited}
use Rattle.fdb_lines.specs.Watching.{is_due, is_watched, opts_of, told_of, watched}
use Rattle.fdb_lines.proofs.Above.{not_above_true, order_true}
use Rattle.fdb_lines.proofs.Carried.{Rising, fewer_are}
use Rattle.fdb_lines.proofs.Gathered.{all_below}
use Rattle.fdb_lines.proofs.GoneOnByKey.{in_both}
use Rattle.fdb_lines.proofs.Keyed.{has_place, same_is, same_self}
use Rattle.fdb_lines.proofs.EntriesTell.{all_due, placed_twice, told_there}
use Rattle.fdb_lines.proofs.OnceTold.{audited_of}
use Rattle.fdb_lines.proofs.Renumbered.{audited_alike}
use Rattle.fdb_lines.proofs.StandByKey.{audited_there, is_its, its, kept_are, many, there, there_are, there_within}

-- ---- what a list contains

holds : {X : Type 0} (P : X → Type 0) (xs : List X) (x : X) → All P xs → Contains xs x → P x
holds P xs x all (k, lt, is) = subst P is (all k x lt)

behind : {X : Type 0} (x y : X) (xs : List X) → Contains xs y → Contains (x ∷ xs) y
behind x y xs (k, lt, is) = (suc k, omega (arith, lt), is)

in_first : {X : Type 0} (xs ys : List X) (x : X) → Contains xs x → Contains (xs ++ ys) x
in_first xs ys x (k, lt, is) = (k, (let sum = length-append xs ys in omega (arith, lt, sum)), get_or_append_left xs ys x k lt ∙ is)

in_second : {X : Type 0} (xs ys : List X) (x : X) → Contains ys x → Contains (xs ++ ys) x
in_second xs ys x (k, lt, is) = (length xs + k, (let sum = length-append xs ys in omega (arith, lt, sum)), get_or-append-add xs ys k x ∙ is)

mapped : {X Y : Type 0} (f : X → Y) (xs : List X) (x : X) → Contains xs x → Contains (map f xs) (f x)
mapped f xs x (k, lt, is) = (k, (let size = length-map xs f in omega (arith, lt, size)), get_or-map f xs k x (f x) lt ∙ ap f is)

passing : {X : Type 0} (p : X → Bool) (xs : List X) (x : X) → Contains xs x → p x ≡ true → Contains (filter p xs) x
passing p [] x (k, lt, is) passes = absurd (omega (arith, lt))
passing p (y ∷ xs) x (zero, lt, is) passes =
    subst (λ b. Contains (cond b (y ∷ filter p xs) (filter p xs)) x) (sym (ap p is ∙ passes)) (0, omega arith, is)
passing {X} p (y ∷ xs) x (suc k, lt, is) passes = by (p y) (passing p xs x (k, omega (arith, lt), is) passes)
  where
    by : (b : Bool) → Contains (filter p xs) x → Contains (cond b (y ∷ filter p xs) (filter p xs)) x
    by true there = behind y x (filter p xs) there
    by false there = there

passed : {X : Type 0} (p : X → Bool) (xs : List X) (x : X) → Contains (filter p xs) x → Contains xs x
passed p xs x there = holds (Contains xs) (filter p xs) x (All-filter p (Contains xs) xs (All-contains_itself xs)) there

-- ---- a fault is found exactly where it stands

abbrev StandsAt : Case → Found → Type 0
StandsAt c found = stands c found.fault found.place ≡ true

found_stands : (c : Case) (fault : Fault) (k : ℕ) (b : Bool) → stands c fault k ≡ b → All (StandsAt c) (cond b (record { place = k; fault = fault } ∷ []) [])
found_stands c fault k true is = λ j d lt. subst (StandsAt c) (one j d lt) is
  where
    one : (j : ℕ) (d : Found) → j < 1 → record { place = k; fault = fault } ≡ slice_index_or (record { place = k; fault = fault } ∷ []) j d
    one zero d lt = refl
    one (suc j) d lt = absurd (omega (arith, lt))
found_stands c fault k false is = All-nil (StandsAt c)

all_stand : (c : Case) (n : ℕ) → All (StandsAt c) (faults_below c n)
all_stand c zero = All-nil (StandsAt c)
all_stand c (suc n) =
    let S = StandsAt c in
    let its = λ (fault : Fault). found_stands c fault n (stands c fault n) refl in
    All-append S (faults_below c n) (faults_at c n) (all_stand c n)
    (All-append S (found_if c Order n ++ found_if c Wrong n ++ found_if c NotAbove n ++ found_if c Twice n) (found_if c Stray n)
    (All-append S (found_if c Order n ++ found_if c Wrong n ++ found_if c NotAbove n) (found_if c Twice n)
    (All-append S (found_if c Order n ++ found_if c Wrong n) (found_if c NotAbove n)
    (All-append S (found_if c Order n) (found_if c Wrong n) (its Order) (its Wrong)) (its NotAbove)) (its Twice)) (its Stray))

abbrev at : ℕ → Fault → Found
at k fault = record { place = k; fault = fault }

here_if : (k : ℕ) (fault : Fault) (b : Bool) → b ≡ true → Contains (cond b (at k fault ∷ []) []) (at k fault)
here_if k fault true is = (0, omega arith, refl)
here_if k fault false is = absurd cc

found_there : (c : Case) (k : ℕ) (fault : Fault) → is_watched fault ≡ true → stands c fault k ≡ true → Contains (faults_at c k) (at k fault)
found_there c k Order is stand =
    in_first (found_if c Order k ++ found_if c Wrong k ++ found_if c NotAbove k ++ found_if c Twice k) (found_if c Stray k) (at k Order)
    (in_first (found_if c Order k ++ found_if c Wrong k ++ found_if c NotAbove k) (found_if c Twice k) (at k Order)
    (in_first (found_if c Order k ++ found_if c Wrong k) (found_if c NotAbove k) (at k Order)
    (in_first (found_if c Order k) (found_if c Wrong k) (at k Order) (here_if k Order (stands c Order k) stand))))
found_there c k NotAbove is stand =
    in_first (found_if c Order k ++ found_if c Wrong k ++ found_if c NotAbove k ++ found_if c Twice k) (found_if c Stray k) (at k NotAbove)
    (in_first (found_if c Order k ++ found_if c Wrong k ++ found_if c NotAbove k) (found_if c Twice k) (at k NotAbove)
    (in_second (found_if c Order k ++ found_if c Wrong k) (found_if c NotAbove k) (at k NotAbove) (here_if k NotAbove (stands c NotAbove k) stand)))
found_there c k Wrong is stand = absurd cc
found_there c k Twice is stand = absurd cc
found_there c k Stray is stand = absurd cc

found_below : (c : Case) (n k : ℕ) (fault : Fault) → k < n → is_watched fault ≡ true → stands c fault k ≡ true → Contains (faults_below c n) (at k fault)
found_below c zero k fault lt is stand = absurd (omega (arith, lt))
found_below c (suc n) k fault lt is stand = elim (cases_lt k n) [
  | inl less ↦ in_first (faults_below c n) (faults_at c n) (at k fault) (found_below c n k fault less is stand)
  | inr ge ↦
      let same : n ≡ k = omega (arith, lt, ge) in
      in_second (faults_below c n) (faults_at c n) (at k fault) (subst (λ m. Contains (faults_at c m) (at k fault)) (sym same) (found_there c k fault is stand))
]

-- ---- lines of one key

-- all that there is to tell of them
abbrev told_all : ℕ → List Line → List Found
told_all margin lines = told_of margin (is_due 0 0 0 None) lines

abbrev its_watched : Found → Bool
its_watched found = is_watched found.fault

-- what some of them tell is true of all
module _ (margin : ℕ) (lines : List Line) (places : List ℕ) (within : (i : ℕ) → i < length places → slice_index places i < length lines) (rising : Rising places) where
  abbrev part : List Line
  part = lines_in lines places

  abbrev IsThere : Found → Type 0
  IsThere found = Contains (told_all margin lines) (placed_found places found)

  one_true : (fault : Fault) (i : ℕ) → i < length places → is_watched fault ≡ true → stands (watched margin part) fault i ≡ true
      → stands (watched margin lines) fault (slice_index places i) ≡ true
  one_true Order i lt is stand = order_true lines places within rising (opts_of margin) i lt stand
  one_true NotAbove i lt is stand = not_above_true lines places within rising (opts_of margin) i lt stand
  one_true Wrong i lt is stand = absurd cc
  one_true Twice i lt is stand = absurd cc
  one_true Stray i lt is stand = absurd cc

  pub part_true : All IsThere (told_all margin part)
  part_true =
      subst (All IsThere) (all_due margin part) (λ k d lt.
      let c = watched margin part in
      let found = slice_index_or (filter its_watched (faults_of c)) k d in
      let low = All-filter its_watched (λ (found : Found). found.place < length part) (faults_of c) (all_below c (length part)) k d lt in
      let stand = All-filter its_watched (StandsAt c) (faults_of c) (all_stand c (length part)) k d lt in
      let is = filter_passes its_watched (faults_of c) k d lt in
      let near : found.place < length places = (let size = length-map places (line_at lines) in omega (arith, low, size)) in
      subst (λ (all : List Found). Contains all (placed_found places found)) (all_due margin lines)
      (passing its_watched (faults_of (watched margin lines)) (placed_found places found)
      (found_below (watched margin lines) (length lines) (slice_index places found.place) found.fault (within found.place near) is (one_true found.fault found.place near is stand)) is))

-- what is told of some of them is among all that there is to tell
some_told : (margin : ℕ) (due : ℕ → Line → Bool) (lines : List Line) → All (Contains (told_all margin lines)) (told_of margin due lines)
some_told margin due lines =
    let c = watched margin lines in
    let test = λ (found : Found). is_watched found.fault && due found.place (line_at lines found.place) in
    λ k d lt.
    let found = slice_index_or (told_of margin due lines) k d in
    let there = All-filter test (Contains (faults_of c)) (faults_of c) (All-contains_itself (faults_of c)) k d lt in
    let is = filter_passes test (faults_of c) k d lt in
    subst (λ (all : List Found). Contains all found) (all_due margin lines)
    (passing its_watched (faults_of c) found there (first_of (is_watched found.fault) (due found.place (line_at lines found.place)) is))
  where
    first_of : (a b : Bool) → (a && b) ≡ true → a ≡ true
    first_of true b is = refl
    first_of false b is = is

-- ---- lines with keys

module _ (margin : ℕ) (lines : List Line) (keys : List (Option ℕ)) (as_many : length keys ≡ length lines) where
  abbrev all : List Found
  all = audited margin lines keys

  -- all that there is to tell of a key's lines is found
  key_there : (q : Option ℕ) (found : Found) → Contains (told_all margin (lines_of_one lines keys q)) found → Contains all (placed_found (places_of keys q) found)
  key_there q found told =
      passed (λ (one : Found). option_eq ◌==◌ (key_at keys one.place) q) all (placed_found (places_of keys q) found)
      (subst (λ (list : List Found). Contains list (placed_found (places_of keys q) found)) (sym (audited_of margin lines keys q as_many))
      (mapped (placed_found (places_of keys q)) (told_all margin (lines_of_one lines keys q)) found told))

  pub told_of_key : (due : ℕ → Line → Bool) (q : Option ℕ) → All (λ (found : Found). Contains all (placed_found (places_of keys q) found)) (told_of margin due (lines_of_one lines keys q))
  told_of_key due q =
      All-weaker (Contains (told_all margin (lines_of_one lines keys q))) (λ (found : Found). Contains all (placed_found (places_of keys q) found)) (key_there q)
      (told_of margin due (lines_of_one lines keys q)) (some_told margin due (lines_of_one lines keys q))

  module _ (places : List ℕ) (within : (i : ℕ) → i < length places → slice_index places i < length lines) (rising : Rising places) where
    abbrev some : List Line
    some = lines_in lines places

    abbrev some_keys : List (Option ℕ)
    some_keys = keys_in keys places

    abbrev IsTrue : Found → Type 0
    IsTrue found = Contains all (placed_found places found)

    -- the lines of a key among them, by their places among all lines of the key
    module _ (q : Option ℕ) where
      abbrev mine : List Line
      mine = lines_of_one lines keys q

      abbrev kept : List ℕ
      kept = kept_of keys places q

      abbrev here : List ℕ
      here = its keys places q

      low : All (λ k. k < length keys) places
      low = All-from_get_or (λ k. k < length keys) places 0 (λ i lt. let is = within i lt in omega (arith, is, as_many))

      its_low : All (λ k. k < length keys) here
      its_low = All-filter (is_its keys places q) (λ k. k < length keys) places low

      its_key : All (λ k. is_its keys places q k ≡ true) here
      its_key = filter_passes (is_its keys places q) places

      its_rise : AllPairs (λ j k. j < k) here
      its_rise = AllPairs-filter (λ j k. j < k) (is_its keys places q) places (λ i j d lt within. rising_at i j d lt within)
        where
          rising_at : (i j d : ℕ) → i < j → j < length places → slice_index_or places i d < slice_index_or places j d
          rising_at i j d lt within =
              let one = get_or_default places i 0 d (omega (arith, lt, within)) in
              let other = get_or_default places j 0 d within in
              let up = rising i j lt within in
              omega (arith, one, other, up)

      many_kept : length kept ≡ length here
      many_kept = length-map here (place_among keys)

      kept_at : (i : ℕ) → i < length here → slice_index kept i ≡ length (places_below keys q (slice_index here i))
      kept_at i lt =
          get_or-map (place_among keys) here i 0 0 lt
          ∙ ap (λ key. length (places_below keys key (slice_index here i))) (same_is (key_at keys (slice_index here i)) q (its_key i 0 lt))

      kept_within : (i : ℕ) → i < length kept → slice_index kept i < length mine
      kept_within i lt =
          let near : i < length here = omega (arith, lt, many_kept) in
          let is = (has_place keys q (length keys) (slice_index here i) (its_key i 0 near) (its_low i 0 near)).0 in
          let at = kept_at i near in
          let size = length-map (places_of keys q) (line_at lines) in
          omega (arith, is, at, size)

      kept_rises : Rising kept
      kept_rises i j lt less =
          let near : j < length here = omega (arith, less, many_kept) in
          let before : i < length here = omega (arith, lt, near) in
          let up = its_rise i j 0 lt near in
          let is = (has_place keys q (slice_index here j) (slice_index here i) (its_key i 0 before) up).0 in
          let one = kept_at i before in
          let other = kept_at j near in
          omega (arith, is, one, other)

      same_lines : lines_of_one some some_keys q ≡ lines_in mine kept
      same_lines =
          fewer_are lines places (there keys places q) (λ i lt. let is = there_within keys places q i lt in omega (arith, is, length-map places (line_at lines)))
          ∙ (ap (lines_in lines) (there_are keys places q ∙ sym (kept_are keys places q low))
          ∙ sym (fewer_are lines (places_of keys q) kept kept_within))

      -- each is told where it stands in the whole log
      same_place : (found : Found) → found.place < length kept → placed_found (places_of keys q) (placed_found kept found) ≡ placed_found places (placed_found (there keys places q) found)
      same_place found lt =
          let are = kept_are keys places q low in
          let size = ap length (there_are keys places q) in
          let long = length-map (there keys places q) (slice_index places) in
          sym (placed_twice (places_of keys q) kept found lt)
          ∙ (ap (λ (ps : List ℕ). placed_found ps found) (are ∙ sym (there_are keys places q))
          ∙ placed_twice places (there keys places q) found (omega (arith, lt, size, long, many_kept)))

      of_key_true : All IsTrue (at_key some_keys q (audited margin some some_keys))
      of_key_true =
          let told = told_all margin (lines_of_one some some_keys q) in
          subst (All IsTrue) (sym (audited_of margin some some_keys q (many keys places q ∙ sym (length-map places (line_at lines)))))
          (All-map IsTrue (placed_found (there keys places q)) told (subst (λ (part : List Line). All (λ (found : Found). IsTrue (placed_found (there keys places q) found)) (told_all margin part)) (sym same_lines)
          (λ k d lt.
          let found = slice_index_or (told_all margin (lines_in mine kept)) k d in
          let near = told_there margin (is_due 0 0 0 None) (lines_in mine kept) k d lt in
          let less : found.place < length kept = (let size = length-map kept (line_at mine) in omega (arith, near, size)) in
          subst (Contains all) (same_place found less) (key_there q (placed_found kept found) (part_true margin mine kept kept_within kept_rises k d lt)))))

    pub some_true : All IsTrue (audited margin some some_keys)
    some_true = λ k d lt.
        let found = slice_index_or (audited margin some some_keys) k d in
        let q = key_at some_keys found.place in
        let is_its = λ (one : Found). option_eq ◌==◌ (key_at some_keys one.place) q in
        holds IsTrue (at_key some_keys q (audited margin some some_keys)) found (of_key_true q)
        (passing is_its (audited margin some some_keys) found (All-contains_itself (audited margin some some_keys) k d lt) (same_self q))

-- ---- some lines, and all that come behind them

module _ (margin : ℕ) (lines : List Line) (keys : List (Option ℕ)) (as_many : length keys ≡ length lines) (more : List Line) (more_keys : List (Option ℕ)) (same : length more_keys ≡ length more) (places : List ℕ)
    (within : (i : ℕ) → i < length places → slice_index places i < length lines) (rising : Rising places) where
  abbrev beyond : List ℕ
  beyond = places ++ range_with_len (length lines) (length more)

  size : length beyond ≡ length places + length more
  size = length-append places (range_with_len (length lines) (length more)) ∙ ap (λ n. length places + n) (length-range_with_len (length lines) (length more))

  front : (i : ℕ) → i < length places → slice_index beyond i ≡ slice_index places i
  front i lt = get_or_append_left places (range_with_len (length lines) (length more)) 0 i lt

  back : (i j : ℕ) → length places + j ≡ i → j < length more → slice_index beyond i ≡ length lines + j
  back i j is lt =
      ap (slice_index beyond) (sym is)
      ∙ (get_or-append-add places (range_with_len (length lines) (length more)) j 0 ∙ get_or-range_with_len (length lines) (length more) j 0 lt)

  beyond_within : (i : ℕ) → i < length beyond → slice_index beyond i < length (lines ++ more)
  beyond_within i lt =
      let sum = length-append lines more in
      elim (cases_lt i (length places)) [
        | inl old ↦ let is = within i old in let at = front i old in omega (arith, is, at, sum)
        | inr ge ↦
            let j = i - length places in
            let less : j < length more = omega (arith, lt, ge, size) in
            let at = back i j (omega (arith, ge)) less in
            omega (arith, at, less, sum)
      ]

  beyond_rises : Rising beyond
  beyond_rises i j lt less = elim (cases_lt j (length places)) [
    | inl old ↦
        let up = rising i j lt old in
        let one = front i (omega (arith, lt, old)) in
        let other = front j old in
        omega (arith, up, one, other)
    | inr ge ↦
        let m = j - length places in
        let low : m < length more = omega (arith, less, ge, size) in
        let other = back j m (omega (arith, ge)) low in
        elim (cases_lt i (length places)) [
          | inl old ↦ let is = within i old in let one = front i old in omega (arith, is, one, other)
          | inr above ↦
              let n = i - length places in
              let one = back i n (omega (arith, above)) (omega (arith, lt, low, above)) in
              omega (arith, one, other, lt, ge, above)
        ]
  ]

  pub gone_on_true : (others : List Line) (other_keys : List (Option ℕ)) → AreSameButForNumbers (lines_in lines places ++ more) (keys_in keys places ++ more_keys) others other_keys
      → All (λ (found : Found). Contains (audited margin (lines ++ more) (keys ++ more_keys)) (placed_found beyond found)) (audited margin others other_keys)
  gone_on_true others other_keys alike =
      let there : All (λ k. k < length lines) places = All-from_get_or (λ k. k < length lines) places 0 within in
      let there_keys : All (λ k. k < length keys) places = All-from_get_or (λ k. k < length keys) places 0 (λ i lt. let is = within i lt in omega (arith, is, as_many)) in
      let part : lines_in (lines ++ more) beyond ≡ lines_in lines places ++ more = in_both lines more nobody places there in
      let part_keys : keys_in (keys ++ more_keys) beyond ≡ keys_in keys places ++ more_keys =
      ap (λ (ks : List ℕ). keys_in (keys ++ more_keys) (places ++ ks)) ((λ i. range_with_len (sym as_many i) (sym same i))) ∙ in_both keys more_keys None places there_keys in
      let many : length (keys ++ more_keys) ≡ length (lines ++ more) = (let one = length-append keys more_keys in let other = length-append lines more in omega (arith, one, other, as_many, same)) in
      subst (All (λ (found : Found). Contains (audited margin (lines ++ more) (keys ++ more_keys)) (placed_found beyond found)))
      ((λ i. audited margin (part i) (part_keys i)) ∙ audited_alike (lines_in lines places ++ more) others (keys_in keys places ++ more_keys) other_keys alike margin)
      (some_true margin (lines ++ more) (keys ++ more_keys) many beyond beyond_within beyond_rises)

-- ---- the first lines

module _ (margin : ℕ) (lines more : List Line) (keys more_keys : List (Option ℕ)) (as_many : length keys ≡ length lines) (same : length more_keys ≡ length more) where
  abbrev first : List ℕ
  first = range_with_len 0 (length lines)

  first_is : (i : ℕ) → i < length first → slice_index first i ≡ i
  first_is i lt =
      let less : i < length lines = subst (λ n. i < n) (length-range_with_len 0 (length lines)) lt in
      get_or-range_with_len 0 (length lines) i 0 less ∙ omega arith

  all_first : {X : Type 0} (xs ys : List X) (d : X) → map (λ k. slice_index_or (xs ++ ys) k d) (range_with_len 0 (length xs)) ≡ xs
  all_first xs ys d =
      let at = λ (k : ℕ). slice_index_or (xs ++ ys) k d in
      ext_get_or d (map at (range_with_len 0 (length xs))) xs (length-map-range_with_len at 0 (length xs))
      (λ i lt. let less : i < length xs = (let size = length-map-range_with_len at 0 (length xs) in omega (arith, lt, size)) in
      get_or-map-range_with_len at 0 (length xs) i i d less (omega arith) ∙ get_or_append_left xs ys d i less)

  pub first_true : All (Contains (audited margin (lines ++ more) (keys ++ more_keys))) (audited margin lines keys)
  first_true =
      let all = audited margin (lines ++ more) (keys ++ more_keys) in
      let size = length-range_with_len 0 (length lines) in
      let sum = length-append lines more in
      let keys_sum = length-append keys more_keys in
      let part : lines_in (lines ++ more) first ≡ lines = all_first lines more nobody in
      let part_keys : keys_in (keys ++ more_keys) first ≡ keys =
      ap (λ n. keys_in (keys ++ more_keys) (range_with_len 0 n)) (sym as_many) ∙ all_first keys more_keys None in
      let true : All (λ (found : Found). Contains all (placed_found first found)) (audited margin lines keys) =
      subst (All (λ (found : Found). Contains all (placed_found first found))) (λ i. audited margin (part i) (part_keys i))
      (some_true margin (lines ++ more) (keys ++ more_keys) (omega (arith, sum, keys_sum, as_many, same)) first
      (λ i lt. let is = first_is i lt in omega (arith, lt, is, size, sum))
      (λ i j lt less. let one = first_is i (omega (arith, lt, less)) in let other = first_is j less in omega (arith, lt, one, other))) in
      λ k d lt.
      let found = slice_index_or (audited margin lines keys) k d in
      let low = audited_there margin lines keys k d lt in
      subst (Contains all) (ap (λ line. record { place = line; fault = found.fault }) (first_is found.place (omega (arith, low, size)))) (true k d lt)
