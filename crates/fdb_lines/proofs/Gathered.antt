-- What was found at the lines of each key, key by key and then sorted, is what stands in the whole log line by line.
use Rattle.std.specs.Option.{option_eq}
use Rattle.std.proofs.Common.{◌≡◌, ◌≢◌, ◌↔◌, ◌==◌, ℕ, zero, suc, ◌+◌, ◌<◌, ◌≤◌, nat_lt, Bool, true, false, cond, List, [], ◌∷◌, ◌++◌, Option, None, length, map, take, slice_index, get_or, refl, ap, sym, subst, ◌∙◌, inl, inr, arith, append-nil, length-append}
use Rattle.std.specs.List.{All, filter, flat_map}
use Rattle.std.specs.List.Sorted.{ties, IsNonDecreasingBy, IsStableBy}
use Rattle.std.specs.Ordering.{is_lt, nat_cmp}
use Rattle.std.proofs.lemmas.Bool.{both_ways, cases_eq, eqb-true, false_from_ne_true}
use Rattle.std.proofs.lemmas.Bool.Decides.{nat_tests}
use Rattle.std.proofs.lemmas.Grind.{flat_map-append}
use Rattle.std.proofs.lemmas.List.{get_or-map, length-map, map-append, take_all, take_more}
use Rattle.std.proofs.lemmas.List.Sorted.{All-permutation}
use Rattle.std.proofs.lemmas.List.Elements.{All-append, All-head, All-map, All-nil, All-tail, filter-append}
use Rattle.std.proofs.lemmas.Map.Views.{All-map-IsPermutation}
use Rattle.fdb_lines.specs.declared.fault.Fault.TheVariants.{Order}
use Rattle.fdb_lines.specs.declared.fault.Found.{Found}
use Rattle.fdb_lines.specs.declared.log.AuditOpts.{AuditOpts}
use Rattle.fdb_lines.specs.declared.fault.Finding.{Finding}
use Rattle.fdb_lines.specs.declared.fault.Reason.TheVariants.{Unreported}
use Rattle.fdb_lines.specs.Audit.{case_of, AreExplained}
use Rattle.fdb_lines.specs.Keys.{case_of_key, faults_at_by_key, faults_below_by_key, faults_by_key, key_at, keys_below, keys_of, lines_of_key, place_among, placed_finding, placed_found, placed_late, placed_reason, places_below, places_of, told_at, AreExplainedByKey, HasLateByKey, HasReasonByKey}
use Rattle.fdb_lines.specs.Late.{HasLate, IsLateAt}
use Rattle.fdb_lines.specs.Lines.{Case, Lines, line_at, part_of}
use Rattle.fdb_lines.specs.Listing.{faults_at, faults_below, faults_of}
use Rattle.fdb_lines.specs.Reasons.{found_of, HasReason, IsReason}
use Rattle.fdb_lines.specs.private.Keys.{faults_of_key, faults_of_keys, stands_at, AreByLine}
use Rattle.fdb_lines.proofs.Keyed.{apart, has_place, of_key, place_is, same_is, same_self}
use Rattle.fdb_lines.proofs.Listed.{explained_by_length}
use Rattle.fdb_lines.proofs.Merged.{all_there, explained}

-- ---- the faults of a key at a line of the whole log: those at its place among the lines of the key

here : (places : List ℕ) (k n : ℕ) (b : Bool) → (slice_index places n == k) ≡ b → (xs : List Found) → All (λ (found : Found). found.place ≡ n) xs
    → filter (stands_at k) (map (placed_found places) xs) ≡ cond b (map (told_at k) xs) []
here places k n true is [] are = refl
here places k n false is [] are = refl
here places k n true is (x ∷ xs) are =
    let P : Found → Type 0 = λ found. found.place ≡ n in
    let at : slice_index places n ≡ k = eqb-true _ _ is in
    rw (All-head P x xs are, is, at, here places k n true is xs (All-tail P x xs are)) refl
here places k n false is (x ∷ xs) are =
    let P : Found → Type 0 = λ found. found.place ≡ n in
    rw (All-head P x xs are, is) (here places k n false is xs (All-tail P x xs are))

one_more : (c : Case) (places : List ℕ) (k n : ℕ)
    → filter (stands_at k) (map (placed_found places) (faults_below c (suc n)))
    ≡ filter (stands_at k) (map (placed_found places) (faults_below c n)) ++ filter (stands_at k) (map (placed_found places) (faults_at c n))
one_more c places k n =
    ap (filter (stands_at k)) (map-append (placed_found places) (faults_below c n) (faults_at c n))
    ∙ filter-append (stands_at k) (map (placed_found places) (faults_below c n)) (map (placed_found places) (faults_at c n))

not_here : (places : List ℕ) (k n : ℕ) → slice_index places n ≢ k → (slice_index places n == k) ≡ false
not_here places k n away = false_from_ne_true _ (λ e. away (eqb-true _ _ e))

elsewhere : (c : Case) (places : List ℕ) (k n : ℕ) → ((i : ℕ) → i < n → slice_index places i ≢ k) → filter (stands_at k) (map (placed_found places) (faults_below c n)) ≡ []
elsewhere c places k zero away = refl
elsewhere c places k (suc n) away =
    let before = elsewhere c places k n (λ i lt. away i (omega arith)) in
    let last = here places k n false (not_here places k n (away n (omega arith))) (faults_at c n) (all_there c n) in
    one_more c places k n ∙ (λ i. before i ++ last i)

at_line : (c : Case) (places : List ℕ) (k j n : ℕ) → j < n → slice_index places j ≡ k → ((i : ℕ) → i < n → i ≢ j → slice_index places i ≢ k)
    → filter (stands_at k) (map (placed_found places) (faults_below c n)) ≡ map (told_at k) (faults_at c j)
at_line c places k j zero lt at away = absurd (omega arith)
at_line c places k j (suc n) lt at away = elim (cases_eq n j) [
  | inl same ↦
      let before = elsewhere c places k n (λ i less. away i (omega arith) (λ e. omega arith)) in
      let there : (slice_index places n == k) ≡ true = rw (same, at) (grind (arith, nat_tests)) in
      let last = here places k n true there (faults_at c n) (all_there c n) in
      one_more c places k n ∙ ((λ i. before i ++ last i) ∙ ap (λ m. map (told_at k) (faults_at c m)) same)
  | inr other ↦
      let before = at_line c places k j n (omega arith) at (λ i less. away i (omega arith)) in
      let last = here places k n false (not_here places k n (away n (omega arith) other)) (faults_at c n) (all_there c n) in
      one_more c places k n ∙ ((λ i. before i ++ last i) ∙ append-nil (map (told_at k) (faults_at c j)))
]

module _ (log : Lines) (opts : AuditOpts) (keys : List (Option ℕ)) where
  size_of : (key : Option ℕ) → length (lines_of_key log keys key).lines ≡ length (places_of keys key)
  size_of key = length-map (places_of keys key) (line_at log.lines)

  of_one : (k : ℕ) → k < length keys → (key : Option ℕ) (b : Bool) → option_eq ◌==◌ key (key_at keys k) ≡ b
      → filter (stands_at k) (faults_of_key log keys opts key) ≡ cond b (faults_at_by_key log keys opts k) []
  of_one k lt key true is =
      let own = key_at keys k in
      let size = size_of own in
      let has = has_place keys own (length keys) k (same_self own) lt in
      let within = has.0 in
      let c = case_of_key log keys opts own in
      ap (λ q. filter (stands_at k) (faults_of_key log keys opts q)) (same_is key own is)
      ∙ at_line c (places_of keys own) k (place_among keys k) (length c.lines) (omega arith) has.1
      (λ i less other e. other (apart keys own (length keys) i (place_among keys k) (omega arith) within (e ∙ sym has.1)))
  of_one k lt key false is =
      let size = size_of key in
      let c = case_of_key log keys opts key in
      elsewhere c (places_of keys key) k (length c.lines) (λ i less e.
      let its = (of_key keys key (places_of keys key) refl i (omega arith)).1 in
      both_ways _ is (subst (λ q. option_eq ◌==◌ q (key_at keys k) ≡ true) (ap (key_at keys) (sym e) ∙ its) (same_self (key_at keys k))))

  -- each of some keys that is that of the line brings its faults
  abbrev own_faults : ℕ → Option ℕ → List Found
  own_faults k key = cond (option_eq ◌==◌ key (key_at keys k)) (faults_at_by_key log keys opts k) []

  of_all : (k : ℕ) → k < length keys → (names : List (Option ℕ)) → filter (stands_at k) (faults_of_keys log keys opts names) ≡ flat_map (own_faults k) names
  of_all k lt [] = refl
  of_all k lt (key ∷ names) =
      filter-append (stands_at k) (faults_of_key log keys opts key) (faults_of_keys log keys opts names)
      ∙ (λ i. of_one k lt key (option_eq ◌==◌ key (key_at keys k)) refl i ++ of_all k lt names i)

  -- and one of them is
  abbrev seen : ℕ → ℕ → List Found
  seen k n = cond (nat_lt 0 (length (places_below keys (key_at keys k) n))) (faults_at_by_key log keys opts k) []

  key_more : (k n : ℕ) (b first : Bool) → option_eq ◌==◌ (key_at keys n) (key_at keys k) ≡ b → (place_among keys n == 0) ≡ first
      → flat_map (own_faults k) (keys_below keys n) ≡ seen k n
      → flat_map (own_faults k) (keys_below keys n) ++ flat_map (own_faults k) (cond first (key_at keys n ∷ []) [])
      ≡ cond (nat_lt 0 (length (places_below keys (key_at keys k) n ++ cond b (n ∷ []) []))) (faults_at_by_key log keys opts k) []
  key_more k n false false other old before =
      append-nil _ ∙ (before ∙ ap (λ (ps : List ℕ). cond (nat_lt 0 (length ps)) (faults_at_by_key log keys opts k) []) (sym (append-nil (places_below keys (key_at keys k) n))))
  key_more k n false true other new before =
      rw other (append-nil _ ∙ (before ∙ ap (λ (ps : List ℕ). cond (nat_lt 0 (length ps)) (faults_at_by_key log keys opts k) []) (sym (append-nil (places_below keys (key_at keys k) n)))))
  key_more k n true first same new before =
      let places = places_below keys (key_at keys k) n in
      let size = length-append places (n ∷ []) in
      let some : nat_lt 0 (length (places ++ n ∷ [])) ≡ true = grind (arith, nat_tests) in
      let among : place_among keys n ≡ length places = ap (λ q. length (places_below keys q n)) (same_is _ _ same) in
      rw (some, before) (by first new among)
    where
      by : (first : Bool) → (place_among keys n == 0) ≡ first → place_among keys n ≡ length (places_below keys (key_at keys k) n)
          → seen k n ++ flat_map (λ (key : Option ℕ). cond (option_eq ◌==◌ key (key_at keys k)) (faults_at_by_key log keys opts k) []) (cond first (key_at keys n ∷ []) []) ≡ faults_at_by_key log keys opts k
      by true new among =
          let none : nat_lt 0 (length (places_below keys (key_at keys k) n)) ≡ false = grind (arith, nat_tests) in
          rw (none, same) (append-nil _)
      by false old among =
          let some : nat_lt 0 (length (places_below keys (key_at keys k) n)) ≡ true = grind (arith, nat_tests) in
          rw some (append-nil _)

  of_names : (k n : ℕ) → flat_map (own_faults k) (keys_below keys n) ≡ seen k n
  of_names k zero = refl
  of_names k (suc n) =
      flat_map-append (own_faults k) (keys_below keys n) (cond (place_among keys n == 0) (key_at keys n ∷ []) [])
      ∙ key_more k n (option_eq ◌==◌ (key_at keys n) (key_at keys k)) (place_among keys n == 0) refl refl (of_names k n)

  -- the faults of all keys at a line are its own
  at_each : (k : ℕ) → k < length keys → filter (stands_at k) (faults_of_keys log keys opts (keys_of keys)) ≡ faults_at_by_key log keys opts k
  at_each k lt =
      let own = key_at keys k in
      let within = (has_place keys own (length keys) k (same_self own) lt).0 in
      let some : nat_lt 0 (length (places_of keys own)) ≡ true = grind (arith, nat_tests) in
      of_all k lt (keys_of keys) ∙ (of_names k (length keys) ∙ ap (λ b. cond b (faults_at_by_key log keys opts k) []) some)

-- ---- what is in order, line by line

abbrev below : ℕ → Found → Bool
below n found = nat_lt found.place n

all_pass : {X : Type 0} (p : X → Bool) (xs : List X) → All (λ x. p x ≡ true) xs → filter p xs ≡ xs
all_pass p [] all = refl
all_pass p (x ∷ xs) all =
    ap (λ b. cond b (x ∷ filter p xs) (filter p xs)) (All-head (λ y. p y ≡ true) x xs all)
    ∙ ap (λ ys. x ∷ ys) (all_pass p xs (All-tail (λ y. p y ≡ true) x xs all))

none_pass : {X : Type 0} (p : X → Bool) (xs : List X) → All (λ x. p x ≡ false) xs → filter p xs ≡ []
none_pass p [] none = refl
none_pass p (x ∷ xs) none =
    ap (λ b. cond b (x ∷ filter p xs) (filter p xs)) (All-head (λ y. p y ≡ false) x xs none) ∙ none_pass p xs (All-tail (λ y. p y ≡ false) x xs none)

abbrev Rise : List Found → Type 0
Rise = IsNonDecreasingBy (λ (found : Found). found.place)

line_more : (n : ℕ) (xs : List Found) → Rise xs → filter (below (suc n)) xs ≡ filter (below n) xs ++ filter (stands_at n) xs
line_more n [] rise = refl
line_more n (x ∷ xs) rise = by (nat_lt x.place n) (x.place == n) refl refl (line_more n xs (λ i j d le lt. rise (suc i) (suc j) d (omega arith) (omega arith)))
  where
    by : (less at : Bool) → nat_lt x.place n ≡ less → (x.place == n) ≡ at → filter (below (suc n)) xs ≡ filter (below n) xs ++ filter (stands_at n) xs
        → filter (below (suc n)) (x ∷ xs) ≡ filter (below n) (x ∷ xs) ++ filter (stands_at n) (x ∷ xs)
    by true at lt is rest =
        let up : nat_lt x.place (suc n) ≡ true = grind (arith, nat_tests) in
        let not : (x.place == n) ≡ false = grind (arith, nat_tests) in
        rw (up, lt, not) (ap (λ (ys : List Found). x ∷ ys) rest)
    by false true lt is rest =
        let up : nat_lt x.place (suc n) ≡ true = grind (arith, nat_tests) in
        let none : filter (below n) xs ≡ [] = none_pass (below n) xs (λ j d inside.
        let le = rise 0 (suc j) d (omega arith) (omega arith) in grind (arith, nat_tests)) in
        rw (up, lt, is, none) (ap (λ (ys : List Found). x ∷ ys) (rest ∙ ap (λ (ys : List Found). ys ++ filter (stands_at n) xs) none))
    by false false lt is rest =
        let up : nat_lt x.place (suc n) ≡ false = grind (arith, nat_tests) in
        rw (up, lt, is) rest

pub all_below : (c : Case) (n : ℕ) → All (λ (found : Found). found.place < n) (faults_below c n)
all_below c zero = All-nil (λ (found : Found). found.place < 0)
all_below c (suc n) =
    All-append (λ (found : Found). found.place < suc n) (faults_below c n) (faults_at c n) (λ i d lt. let less = all_below c n i d lt in omega arith)
    (λ i d lt. let at = all_there c n i d lt in omega arith)

module _ (log : Lines) (opts : AuditOpts) (keys : List (Option ℕ)) where
  abbrev Inside : Found → Type 0
  Inside found = found.place < length keys

  all_inside : (names : List (Option ℕ)) → All Inside (faults_of_keys log keys opts names)
  all_inside [] = All-nil Inside
  all_inside (key ∷ names) =
      let c = case_of_key log keys opts key in
      let size = size_of log opts keys key in
      All-append Inside (faults_of_key log keys opts key) (faults_of_keys log keys opts names)
      (All-map Inside (placed_found (places_of keys key)) (faults_of c) (λ i d lt.
      let less = all_below c (length c.lines) i d lt in
      (of_key keys key (places_of keys key) refl (get_or (faults_of c) i d).place (omega arith)).0))
      (all_inside names)

  listed_below : (found : List Found) → Rise found → ((k : ℕ) → k < length keys → filter (stands_at k) found ≡ faults_at_by_key log keys opts k)
      → (n : ℕ) → n ≤ length keys → filter (below n) found ≡ faults_below_by_key log keys opts n
  listed_below found rise at zero le = none_pass (below 0) found (λ i d lt. grind (arith, nat_tests))
  listed_below found rise at (suc n) le =
      let before = listed_below found rise at n (omega arith) in
      let last = at n (omega arith) in
      line_more n found rise ∙ (λ i. before i ++ last i)

  pub listed : length keys ≡ length log.lines → (old new : List Finding) → AreByLine old new → map found_of old ≡ faults_of_keys log keys opts (keys_of keys)
      → map found_of new ≡ faults_by_key log keys opts
  listed as_many old new are is =
      let inside : All Inside (map found_of new) =
      All-map-IsPermutation found_of Inside old new are.same (subst (All Inside) (sym is) (all_inside (keys_of keys))) in
      sym (all_pass (below (length keys)) (map found_of new) (λ i d lt. let less = inside i d lt in grind (arith, nat_tests)))
      ∙ (listed_below (map found_of new) are.rise (λ k lt. are.stay k ∙ (ap (filter (stands_at k)) is ∙ at_each log opts keys k lt)) (length keys) (omega arith)
      ∙ ap (faults_below_by_key log keys opts) as_many)

-- what `sort_by_key` says, of what was found
pub rise_all : (findings : List Finding) → IsNonDecreasingBy (λ (finding : Finding). finding.found.place) findings → Rise (map found_of findings)
rise_all findings rise i j d le lt =
    let any : Finding = record { found = d; reason = Unreported; late = None } in
    let size = length-map findings found_of in
    rw (get_or-map found_of findings i any d (omega arith), get_or-map found_of findings j any d (omega arith)) (rise i j any le (omega arith))

abbrev lesser : Finding → Finding → Bool
lesser one other = is_lt (nat_cmp one.found.place other.found.place)

tied : (x : Finding) (findings : List Finding) → filter (stands_at x.found.place) (map found_of findings) ≡ map found_of (filter (ties lesser x) findings)
tied x [] = refl
tied x (y ∷ ys) = by (y.found.place == x.found.place) refl (tied x ys)
  where
    by : (b : Bool) → (y.found.place == x.found.place) ≡ b → filter (stands_at x.found.place) (map found_of ys) ≡ map found_of (filter (ties lesser x) ys)
        → filter (stands_at x.found.place) (map found_of (y ∷ ys)) ≡ map found_of (filter (ties lesser x) (y ∷ ys))
    by true is rest =
        let tie : ties lesser x y ≡ true = grind (arith, nat_tests) in
        rw (tie, is) (ap (λ (fs : List Found). y.found ∷ fs) rest)
    by false is rest =
        let tie : ties lesser x y ≡ false = grind (arith, nat_tests) in
        rw (tie, is) rest

pub stays : (old new : List Finding) → IsStableBy lesser old new → (k : ℕ) → filter (stands_at k) (map found_of new) ≡ filter (stands_at k) (map found_of old)
stays old new stable k =
    let x : Finding = record { found = record { place = k; fault = Order }; reason = Unreported; late = None } in
    tied x new ∙ (ap (map found_of) (stable x) ∙ sym (tied x old))

-- ---- key by key

-- what was found at the lines of the first keys
pub record AreGathered (log : Lines) (opts : AuditOpts) (keys : List (Option ℕ)) (n : ℕ) (found : List Finding) : Type 0 where
  pub all : map found_of found ≡ faults_of_keys log keys opts (take n (keys_of keys))
  pub reasons : All (HasReasonByKey log keys opts) found
  pub late : All (HasLateByKey log keys opts) found

module _ (log : Lines) (opts : AuditOpts) (keys : List (Option ℕ)) where
  placed_all : (places : List ℕ) (here : List Finding) → map found_of (map (placed_finding places) here) ≡ map (placed_found places) (map found_of here)
  placed_all places [] = refl
  placed_all places (x ∷ xs) = ap (λ (rest : List Found). placed_found places x.found ∷ rest) (placed_all places xs)

  -- what holds at a place among the lines of a key holds where that line stands
  whose : (key : Option ℕ) (j : ℕ) → j < length (places_of keys key) → key ≡ key_at keys (slice_index (places_of keys key) j)
  whose key j lt = sym (same_is _ _ (place_is keys key (length keys) j lt).1)

  at_its_place : (P : Option ℕ → ℕ → Type 0) (key : Option ℕ) (j : ℕ) → j < length (places_of keys key) → P key j
      → P (key_at keys (slice_index (places_of keys key) j)) (place_among keys (slice_index (places_of keys key) j))
  at_its_place P key j lt has =
      subst (λ q. P q (length (places_below keys q (slice_index (places_of keys key) j)))) (whose key j lt) (subst (P key) (sym (place_is keys key (length keys) j lt).2) has)

  reason_here : (key : Option ℕ) (finding : Finding) → finding.found.place < length (places_of keys key) → HasReason (lines_of_key log keys key) opts finding
      → HasReasonByKey log keys opts (placed_finding (places_of keys key) finding)
  reason_here key finding lt has = (
    finding.reason,
    at_its_place (λ q j. IsReason (lines_of_key log keys q) opts j finding.found.fault finding.reason) key finding.found.place lt has,
    ap (λ q. placed_reason (places_of keys q) finding.reason) (whose key finding.found.place lt),
  )

  late_here : (key : Option ℕ) (finding : Finding) → finding.found.place < length (places_of keys key) → HasLate (lines_of_key log keys key) opts finding
      → HasLateByKey log keys opts (placed_finding (places_of keys key) finding)
  late_here key finding lt has = (
    finding.late,
    at_its_place (λ q j. IsLateAt (lines_of_key log keys q) opts j finding.found.fault finding.late) key finding.found.place lt has,
    ap (λ q. placed_late (places_of keys q) finding.late) (whose key finding.found.place lt),
  )

  pub gathered_more : (n : ℕ) (found here new : List Finding) (part : Lines) (places : List ℕ) → n < length (keys_of keys)
      → places ≡ places_of keys (key_at (keys_of keys) n) → part ≡ part_of log places → new ≡ found ++ map (placed_finding places) here
      → map found_of here ≡ faults_of (case_of part opts) → All (HasReason part opts) here → All (HasLate part opts) here
      → AreGathered log opts keys n found → AreGathered log opts keys (n + 1) new
  gathered_more n found here new part places next is of_part added all reasons late are =
      let names = keys_of keys in
      let key = key_at names n in
      let mine = places_of keys key in
      let lines : part ≡ lines_of_key log keys key = of_part ∙ ap (part_of log) is in
      let size = size_of log opts keys key in
      let its : map found_of here ≡ faults_of (case_of_key log keys opts key) = all ∙ ap (λ (ls : Lines). faults_of (case_of ls opts)) lines in
      let now : new ≡ found ++ map (placed_finding mine) here = added ∙ ap (λ (ps : List ℕ). found ++ map (placed_finding ps) here) is in
      let within : (i : ℕ) (d : Finding) → i < length here → (get_or here i d).found.place < length mine =
      λ i d lt.
      let c = case_of_key log keys opts key in
      let many = length-map here found_of in
      let long = ap length its in
      let low = all_below c (length c.lines) i d.found (omega arith) in
      let same : (get_or here i d).found.place ≡ (get_or (faults_of c) i d.found).place =
      ap (λ (found : Found). found.place) (sym (get_or-map found_of here i d d.found lt) ∙ ap (λ (fs : List Found). get_or fs i d.found) its) in
      omega arith in
      let R = HasReasonByKey log keys opts in
      let L = HasLateByKey log keys opts in
      record {
        all =
            ap (map found_of) now
            ∙ (map-append found_of found (map (placed_finding mine) here)
            ∙ ((λ i. are.all i ++ (placed_all mine here ∙ ap (map (placed_found mine)) its) i)
            ∙ (ap (λ (fs : List Found). faults_of_keys log keys opts (take n names) ++ fs) (sym (append-nil (faults_of_key log keys opts key)))
            ∙ (sym (flat_map-append (faults_of_key log keys opts) (take n names) (key ∷ []))
            ∙ ap (faults_of_keys log keys opts) (sym (take_more names n None next))))));
        reasons = subst (All R) (sym now) (All-append R found _ are.reasons (All-map R (placed_finding mine) here (λ i d lt.
            reason_here key (get_or here i d) (within i d lt) (subst (λ (ls : Lines). HasReason ls opts (get_or here i d)) lines (reasons i d lt)))));
        late = subst (All L) (sym now) (All-append L found _ are.late (All-map L (placed_finding mine) here (λ i d lt.
            late_here key (get_or here i d) (within i d lt) (subst (λ (ls : Lines). HasLate ls opts (get_or here i d)) lines (late i d lt)))));
      }

  -- an explained part adds nothing
  nothing : (found : List Found) → length found ≡ 0 → [] ≡ found
  nothing [] none = refl
  nothing (x ∷ xs) none = absurd (omega (arith, none))

  pub gathered_same : (n : ℕ) (found : List Finding) (part : Lines) (places : List ℕ) → n < length (keys_of keys) → places ≡ places_of keys (key_at (keys_of keys) n)
      → part ≡ part_of log places → AreExplained (case_of part opts) → AreGathered log opts keys n found → AreGathered log opts keys (n + 1) found
  gathered_same n found part places next is of_part some are =
      gathered_more n found [] found part places next is of_part (sym (append-nil found)) (nothing (faults_of (case_of part opts)) ((explained_by_length part opts _ refl).1 some))
      (All-nil (HasReason part opts)) (All-nil (HasLate part opts)) are

  pub gathered_all : (n : ℕ) (old new : List Finding) → length (keys_of keys) ≤ n → length keys ≡ length log.lines → AreByLine old new → AreGathered log opts keys n old
      → (map found_of new ≡ faults_by_key log keys opts) × ((length new ≡ 0) ↔ AreExplainedByKey log keys opts)
      × All (HasReasonByKey log keys opts) new × All (HasLateByKey log keys opts) new
  gathered_all n old new all as_many are gathered =
      let its = listed log opts keys as_many old new are (gathered.all ∙ ap (faults_of_keys log keys opts) (take_all n (keys_of keys) all)) in
      let size : length new ≡ length (faults_by_key log keys opts) = sym (length-map new found_of) ∙ ap length its in
      let same = explained log keys opts as_many in (
        its,
        (λ none. same.0 (sym size ∙ none), λ some. size ∙ same.1 some),
        All-permutation (HasReasonByKey log keys opts) old new are.same gathered.reasons,
        All-permutation (HasLateByKey log keys opts) old new are.same gathered.late,
      )
