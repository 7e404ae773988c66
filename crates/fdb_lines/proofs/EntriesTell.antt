-- What the entries of a watch by key tell: of each key what there is to tell, when all settle.
use Rattle.std.proofs.Common.{◌≡◌, ◌≢◌, ◌⊎◌, ℕ, zero, suc, ◌==◌, ◌<◌, ◌≤◌, nat_le, Bool, true, false, cond, ◌&&◌, ◌||◌, List, [], ◌∷◌, ◌++◌, Option, None, Some, IfSome, length, map, get_or, slice_index, refl, ap, sym, subst, ◌∙◌, inl, inr, arith, append-nil}
use Rattle.std.specs.Prelude.{IsPermutation}
use Rattle.std.specs.Option.{option_eq}
use Rattle.std.specs.List.{All, AllPairs, filter}
use Rattle.std.proofs.lemmas.Bool.{both_ways, cases_lt, false_from_ne_true}
use Rattle.std.proofs.lemmas.Bool.Decides.{nat_tests}
use Rattle.std.proofs.lemmas.List.{get_or-map, length-map, map-append}
use Rattle.std.proofs.lemmas.List.Elements.{All-append, All-head, All-map, All-nil, All-tail, All-weaker, filter-append, filter_agree}
use Rattle.std.proofs.lemmas.List.Sorted.{IsPermutation-append, IsPermutation-map, IsPermutation-refl, IsPermutation-trans}
use Rattle.std.proofs.lemmas.Simd.{map-map}
use Rattle.fdb_lines.specs.declared.fault.Found.{Found}
use Rattle.fdb_lines.specs.declared.key_part.KeyPart.{KeyPart}
use Rattle.fdb_lines.specs.declared.key_part.SettledKey.{SettledKey}
use Rattle.fdb_lines.specs.declared.line.Line.{Line}
use Rattle.fdb_lines.specs.declared.fault.Finding.{Finding}
use Rattle.fdb_lines.specs.Before.{began}
use Rattle.fdb_lines.specs.KeyParts.{lines_of_one, names_of, HasSeenOne}
use Rattle.fdb_lines.specs.Keys.{key_at, keys_of, placed_found, places_of}
use Rattle.fdb_lines.specs.KeyWatch.{AreTold, SettlesOrStays, HasEntry, HasNothingToTell, IsToldOf}
use Rattle.fdb_lines.specs.Lines.{Case, line_at}
use Rattle.fdb_lines.specs.Listing.{faults_of}
use Rattle.fdb_lines.specs.Reasons.{found_of}
use Rattle.fdb_lines.specs.ToldByKey.{HasToldOne, at_key, to_tell, told_by, told_by_all}
use Rattle.fdb_lines.specs.Watch.{due}
use Rattle.fdb_lines.specs.Watching.{begins_before, is_due, is_watched, told_of, watched}
use Rattle.fdb_lines.specs.private.Due.{told_at, told_below}
use Rattle.fdb_lines.proofs.Keyed.{each_once, has_key, of_key, same_is, same_self}
use Rattle.fdb_lines.proofs.Permuted.{all_pass, both_parts, none_pass}
use Rattle.fdb_lines.proofs.Watched.{all_told, filtered, IsToldAt}
use Rattle.fdb_lines.proofs.Windows.{told_after, told_before}

-- ---- what there is to tell is of lines that are there

pub told_there : (margin : ℕ) (test : ℕ → Line → Bool) (lines : List Line) → All (λ (found : Found). found.place < length lines) (told_of margin test lines)
told_there margin test lines =
    let at = λ (k : ℕ). test k (line_at lines k) in
    let c = watched margin lines in
    subst (All (λ (found : Found). found.place < length lines)) (filtered at c (length lines))
    (All-weaker (IsToldAt at c (length lines)) (λ (found : Found). found.place < length lines) (λ found is. is.there) (told_below at c (length lines)) (all_told at c (length lines)))

pub none_of_none : (n : ℕ) (found : List Found) → n ≡ 0 → All (λ (one : Found). one.place < n) found → found ≡ []
none_of_none n [] is all = refl
none_of_none n (one ∷ found) is all = let lt = All-head (λ (one : Found). one.place < n) one found all in absurd (omega (arith, lt, is))

-- ---- in windows

pub below_same : (test other : ℕ → Bool) (c : Case) (n : ℕ) → ((k : ℕ) → k < n → test k ≡ other k) → told_below test c n ≡ told_below other c n
below_same test other c zero same = refl
below_same test other c (suc n) same =
    ap (λ (l : List Found). l ++ cond (test n) (told_at c n) []) (below_same test other c n (λ k lt. same k (omega (arith, lt))))
    ∙ ap (λ b. told_below other c n ++ cond {A = List Found} b (told_at c n) []) (same n (omega arith))

pub told_same : (margin : ℕ) (test other : ℕ → Line → Bool) (lines : List Line) → ((k : ℕ) → k < length lines → test k (line_at lines k) ≡ other k (line_at lines k))
    → told_of margin test lines ≡ told_of margin other lines
told_same margin test other lines same =
    let c = watched margin lines in
    sym (filtered (λ k. test k (line_at lines k)) c (length lines))
    ∙ (below_same (λ k. test k (line_at lines k)) (λ k. other k (line_at lines k)) c (length lines) same ∙ filtered (λ k. other k (line_at lines k)) c (length lines))

in_time_due : (any : Bool) (from early since many k began : ℕ) → k < many → (since ≤ k → from ≤ began)
    → (any && (nat_le from began || (nat_le since k && nat_le early began))) ≡ (any && (nat_le from began || (nat_le many k && nat_le early began)))
in_time_due false from early since many k began lt timely = refl
in_time_due true from early since many k began lt timely = elim (cases_lt k since) [
  | inl before ↦ grind (arith, nat_tests)
  | inr ge ↦ let late = timely ge in grind (arith, nat_tests)
]

-- what was told before a moment, and what is told then of lines that came in time, is all there is to tell
pub window_more : (margin from early since : ℕ) (to : Option ℕ) (lines : List Line) → IfSome to (λ last. from ≤ last)
    → ((j : ℕ) → since ≤ j → j < length lines → from ≤ began (line_at lines j))
    → IsPermutation (told_of margin (is_due 0 0 0 (Some from)) lines ++ told_of margin (is_due from early since to) lines) (told_of margin (is_due 0 0 0 to) lines)
window_more margin from early since to lines after timely =
    let all = told_of margin (is_due 0 0 0 to) lines in
    let before = λ (found : Found). begins_before (Some from) (line_at lines found.place) in
    let one = told_before margin 0 0 0 from to lines after in
    let same = told_same margin (is_due from early since to) (is_due from early (length lines) to) lines (λ k lt.
    in_time_due (begins_before to (line_at lines k)) from early since (length lines) k (began (line_at lines k)) lt (λ ge. timely k ge lt)) in
    let other = same ∙ told_after margin 0 0 0 from early to lines (omega arith) in
    subst (λ l. IsPermutation (l ++ told_of margin (is_due from early since to) lines) all) (sym one)
    (subst (λ l. IsPermutation (filter before all ++ l) all) (sym other) (both_parts before all))

-- none began before the first moment
never : (k : ℕ) (line : Line) → is_due 0 0 0 (Some 0) k line ≡ false
never k line = grind (arith, nat_tests)

pub none_yet : (margin : ℕ) (lines : List Line) → told_of margin (is_due 0 0 0 (Some 0)) lines ≡ []
none_yet margin lines =
    none_pass (λ (found : Found). is_watched found.fault && is_due 0 0 0 (Some 0) found.place (line_at lines found.place)) (faults_of (watched margin lines))
    (λ k d lt. let found = get_or (faults_of (watched margin lines)) k d in not_due (is_watched found.fault) (is_due 0 0 0 (Some 0) found.place (line_at lines found.place)) (never found.place (line_at lines found.place)))
  where
    not_due : (a b : Bool) → b ≡ false → (a && b) ≡ false
    not_due true b is = is
    not_due false b is = refl

-- and all are due in the end
at_last : (fault : Bool) (k : ℕ) (line : Line) → fault ≡ (fault && is_due 0 0 0 None k line)
at_last true k line = grind (arith, nat_tests)
at_last false k line = refl

pub all_due : (margin : ℕ) (lines : List Line) → filter (λ (found : Found). is_watched found.fault) (faults_of (watched margin lines)) ≡ told_of margin (is_due 0 0 0 None) lines
all_due margin lines =
    filter_agree (λ (found : Found). is_watched found.fault) (λ (found : Found). is_watched found.fault && is_due 0 0 0 None found.place (line_at lines found.place))
    (λ found. at_last (is_watched found.fault) found.place (line_at lines found.place)) (faults_of (watched margin lines))

-- ---- what an entry tells

pub maps_same : {X Y : Type 0} (f g : X → Y) (xs : List X) → All (λ x. f x ≡ g x) xs → map f xs ≡ map g xs
maps_same f g [] same = refl
maps_same {X} {Y} f g (x ∷ xs) same =
    ap (λ (y : Y). y ∷ map f xs) (All-head (λ x. f x ≡ g x) x xs same) ∙ ap (λ (ys : List Y). g x ∷ ys) (maps_same f g xs (All-tail (λ x. f x ≡ g x) x xs same))

pub placed_twice : (mine numbers : List ℕ) (found : Found) → found.place < length numbers → placed_found (map (slice_index mine) numbers) found ≡ placed_found mine (placed_found numbers found)
placed_twice mine numbers found lt =
    ap (λ (line : ℕ). let it : Found = record { place = line; fault = found.fault } in it) (get_or-map (slice_index mine) numbers found.place 0 0 lt)

-- of lines of its key what there is to tell of them
entry_told : (to : Option ℕ) (lines : List Line) (keys : List (Option ℕ)) (entry : SettledKey) (part : KeyPart) → IsToldOf to lines keys entry part
    → told_by entry ≡ map (placed_found (places_of keys part.key)) (told_of part.watch.margin (due part.watch to) (lines_of_one lines keys part.key))
entry_told to lines keys entry part is =
    let mine = places_of keys part.key in
    let numbers = part.watch.numbers.items in
    let found = entry.settled.found.items in
    ap (λ (ns : List ℕ). map (λ (finding : Finding). placed_found ns (found_of finding)) found) is.numbers
    ∙ (maps_same (λ (finding : Finding). placed_found (map (slice_index mine) numbers) (found_of finding)) (λ (finding : Finding). placed_found mine (placed_found numbers (found_of finding))) found
    (λ k d lt. placed_twice mine numbers (found_of (get_or found k d)) (is.told.tells.within k d lt))
    ∙ (sym (map-map (placed_found mine) (λ (finding : Finding). placed_found numbers (found_of finding)) found) ∙ ap (map (placed_found mine)) is.told.tells.told))

record IsOf (keys : List (Option ℕ)) (key : Option ℕ) (found : Found) : Type 0 where
  there : found.place < length keys
  its : key_at keys found.place ≡ key

placed_of : (keys : List (Option ℕ)) (key : Option ℕ) (found : List Found) → All (λ (one : Found). one.place < length (places_of keys key)) found
    → All (IsOf keys key) (map (placed_found (places_of keys key)) found)
placed_of keys key found within =
    All-map (IsOf keys key) (placed_found (places_of keys key)) found (λ k d lt.
    let is = of_key keys key (places_of keys key) refl (get_or found k d).place (within k d lt) in record { there = is.0; its = is.1 })

entry_of : (to : Option ℕ) (lines : List Line) (keys : List (Option ℕ)) (entry : SettledKey) (part : KeyPart) → IsToldOf to lines keys entry part
    → All (IsOf keys entry.key) (told_by entry)
entry_of to lines keys entry part is =
    let mine = lines_of_one lines keys part.key in
    let size = length-map (places_of keys part.key) (line_at lines) in
    let found = told_of part.watch.margin (due part.watch to) mine in
    subst (λ key. All (IsOf keys key) (told_by entry)) (sym is.key)
    (subst (All (IsOf keys part.key)) (sym (entry_told to lines keys entry part is))
    (placed_of keys part.key found (λ k d lt. let it = told_there part.watch.margin (due part.watch to) mine k d lt in omega (arith, size, it))))

-- ---- of a key, what entries tell

all_of_key : (keys : List (Option ℕ)) (key q : Option ℕ) (told : List Found) → All (IsOf keys key) told → option_eq ◌==◌ key q ≡ true → at_key keys q told ≡ told
all_of_key keys key q told are same = all_pass (λ (found : Found). option_eq ◌==◌ (key_at keys found.place) q) told (λ k d lt. ap (λ key. option_eq ◌==◌ key q) (are k d lt).its ∙ same)

none_of_key : (keys : List (Option ℕ)) (key q : Option ℕ) (told : List Found) → All (IsOf keys key) told → option_eq ◌==◌ key q ≡ false → at_key keys q told ≡ []
none_of_key keys key q told are other = none_pass (λ (found : Found). option_eq ◌==◌ (key_at keys found.place) q) told (λ k d lt. ap (λ key. option_eq ◌==◌ key q) (are k d lt).its ∙ other)

abbrev Is_told : List (Option ℕ) → SettledKey → Type 0
Is_told keys entry = All (IsOf keys entry.key) (told_by entry)

in_two : (keys : List (Option ℕ)) (q : Option ℕ) (one more : List Found) → at_key keys q (one ++ more) ≡ at_key keys q one ++ at_key keys q more
in_two keys q one more = filter-append (λ (found : Found). option_eq ◌==◌ (key_at keys found.place) q) one more

others_tell : (keys : List (Option ℕ)) (q : Option ℕ) (entries : List SettledKey) → All (Is_told keys) entries → All (λ (entry : SettledKey). option_eq ◌==◌ entry.key q ≡ false) entries
    → at_key keys q (told_by_all entries) ≡ []
others_tell keys q [] are others = refl
others_tell keys q (entry ∷ entries) are others =
    in_two keys q (told_by entry) (told_by_all entries)
    ∙ (ap (λ (l : List Found). l ++ at_key keys q (told_by_all entries))
    (none_of_key keys entry.key q (told_by entry) (All-head (Is_told keys) entry entries are) (All-head (λ (entry : SettledKey). option_eq ◌==◌ entry.key q ≡ false) entry entries others))
    ∙ others_tell keys q entries (All-tail (Is_told keys) entry entries are) (All-tail (λ (entry : SettledKey). option_eq ◌==◌ entry.key q ≡ false) entry entries others))

pub apart : (a q : Option ℕ) → (a ≡ q → ⊥) → option_eq ◌==◌ a q ≡ false
apart a q differ = false_from_ne_true (option_eq ◌==◌ a q) (λ is. differ (same_is a q is))

entries_tell : (keys : List (Option ℕ)) (q : Option ℕ) (told : List Found) (entries : List SettledKey) → All (Is_told keys) entries
    → AllPairs (λ (one other : SettledKey). one.key ≢ other.key) entries → All (λ (entry : SettledKey). entry.key ≡ q → told_by entry ≡ told) entries
    → HasEntry entries q ⊎ (told ≡ []) → at_key keys q (told_by_all entries) ≡ told
entries_tell keys q told [] are once tell (inl (k, lt, is)) = absurd (omega (arith, lt))
entries_tell keys q told [] are once tell (inr none) = sym none
entries_tell keys q told (entry ∷ entries) are once tell has = by (option_eq ◌==◌ entry.key q) refl (λ other.
    entries_tell keys q told entries rest (λ i j d less lt. once (suc i) (suc j) d (omega (arith, less)) (omega (arith, lt)))
    (All-tail (λ (entry : SettledKey). entry.key ≡ q → told_by entry ≡ told) entry entries tell) (left other has))
  where
    here : All (IsOf keys entry.key) (told_by entry)
    here = All-head (Is_told keys) entry entries are

    rest : All (Is_told keys) entries
    rest = All-tail (Is_told keys) entry entries are

    left : option_eq ◌==◌ entry.key q ≡ false → HasEntry (entry ∷ entries) q ⊎ (told ≡ []) → HasEntry entries q ⊎ (told ≡ [])
    left other (inl (zero, lt, is)) = absurd (both_ways (option_eq ◌==◌ entry.key q) other (ap (λ key. option_eq ◌==◌ key q) is ∙ same_self q))
    left other (inl (suc k, lt, is)) = inl (k, omega (arith, lt), is)
    left other (inr none) = inr none

    by : (b : Bool) → option_eq ◌==◌ entry.key q ≡ b → (option_eq ◌==◌ entry.key q ≡ false → at_key keys q (told_by_all entries) ≡ told) → at_key keys q (told_by entry ++ told_by_all entries) ≡ told
    by true same others =
        let key = same_is entry.key q same in
        in_two keys q (told_by entry) (told_by_all entries)
        ∙ (ap (λ (l : List Found). l ++ at_key keys q (told_by_all entries)) (all_of_key keys entry.key q (told_by entry) here same)
        ∙ (ap (λ (l : List Found). told_by entry ++ l) (others_tell keys q entries rest (λ k d lt.
        apart (get_or entries k d).key q (λ is. once 0 (suc k) d (omega arith) (omega (arith, lt)) (key ∙ sym is))))
        ∙ (append-nil (told_by entry) ∙ All-head (λ (entry : SettledKey). entry.key ≡ q → told_by entry ≡ told) entry entries tell key)))
    by false other others =
        in_two keys q (told_by entry) (told_by_all entries)
        ∙ (ap (λ (l : List Found). l ++ at_key keys q (told_by_all entries)) (none_of_key keys entry.key q (told_by entry) here other) ∙ others other)

abbrev pub key_is : KeyPart → Option ℕ
key_is part = part.key

-- ---- when all settle

module _ (lines : List Line) (keys : List (Option ℕ)) (as_many : length keys ≡ length lines) (parts : List KeyPart) (named : names_of parts ≡ keys_of keys)
    (each : All (HasSeenOne lines keys) parts) where
  name_at : (i : ℕ) (d : KeyPart) → i < length parts → key_at (keys_of keys) i ≡ (get_or parts i d).key
  name_at i d lt = ap (λ ks. key_at ks i) (sym named) ∙ get_or-map key_is parts i d None lt

  names_size : length (keys_of keys) ≡ length parts
  names_size = ap length (sym named) ∙ length-map parts key_is

  pub same_part : (i j : ℕ) (d : KeyPart) → i < length parts → j < length parts → (get_or parts i d).key ≡ (get_or parts j d).key → i ≡ j
  same_part i j d li lj same =
      let size = names_size in
      each_once keys (length keys) i j (omega (arith, size, li)) (omega (arith, size, lj)) (name_at i d li ∙ (same ∙ sym (name_at j d lj)))

  -- the key of each line has a part
  key_there : (found : Found) (d : KeyPart) → found.place < length lines → (i : ℕ) × (i < length parts) × ((get_or parts i d).key ≡ key_at keys found.place)
  key_there found d lt =
      let size = names_size in
      let has = has_key keys (length keys) found.place (omega (arith, lt, as_many)) in
      let within = has.1 in
      let inside : has.0 < length parts = omega (arith, size, within) in
      (has.0, inside, sym (name_at has.0 d inside) ∙ has.2)

  -- of a key without a part nothing is told
  pub nobody_tells : (q : Option ℕ) (d : KeyPart) (told : List Found) → ((i : ℕ) → i < length parts → (get_or parts i d).key ≢ q) → All (λ (found : Found). found.place < length lines) told
      → at_key keys q told ≡ []
  nobody_tells q d told none came =
      none_pass (λ (found : Found). option_eq ◌==◌ (key_at keys found.place) q) told (λ k e lt.
      let found = get_or told k e in
      let has = key_there found d (came k e lt) in
      apart (key_at keys found.place) q (λ is. none has.0 has.1 (has.2 ∙ is)))

  module _ (to : Option ℕ) (entries : List SettledKey) (tell : AreTold to lines keys parts entries) where
    are_of : All (Is_told keys) entries
    are_of k e lt =
        let it = tell.each k e lt in
        let d = part_of parts it.0 it.1 in
        entry_of to lines keys (get_or entries k e) (get_or parts it.0 d) (it.2 d)
      where
        part_of : (ps : List KeyPart) (i : ℕ) → i < length ps → KeyPart
        part_of [] i lt = absurd (omega (arith, lt))
        part_of (part ∷ ps) i lt = part

    came_now : All (λ (found : Found). found.place < length lines) (told_by_all entries)
    came_now = all_came entries are_of
      where
        all_came : (es : List SettledKey) → All (Is_told keys) es → All (λ (found : Found). found.place < length lines) (told_by_all es)
        all_came [] are = All-nil (λ (found : Found). found.place < length lines)
        all_came (e ∷ es) are =
            All-append (λ (found : Found). found.place < length lines) (told_by e) (told_by_all es)
            (λ k d lt. let there = (All-head (Is_told keys) e es are k d lt).there in omega (arith, there, as_many)) (all_came es (All-tail (Is_told keys) e es are))

    new_told : (i : ℕ) (d : KeyPart) → i < length parts → HasEntry entries (get_or parts i d).key ⊎ HasNothingToTell to lines keys (get_or parts i d)
        → at_key keys (get_or parts i d).key (told_by_all entries)
        ≡ map (placed_found (places_of keys (get_or parts i d).key)) (told_of (get_or parts i d).watch.margin (due (get_or parts i d).watch to) (lines_of_one lines keys (get_or parts i d).key))
    new_told i d lt has =
        let part = get_or parts i d in
        let mine = places_of keys part.key in
        let found = told_of part.watch.margin (due part.watch to) (lines_of_one lines keys part.key) in
        entries_tell keys part.key (map (placed_found mine) found) entries are_of tell.once (λ k e less same.
        let it = tell.each k e less in
        let at : it.0 ≡ i = same_part it.0 i d it.1 lt (sym (it.2 d).key ∙ same) in
        entry_told to lines keys (get_or entries k e) part (subst (λ m. IsToldOf to lines keys (get_or entries k e) (get_or parts m d)) at (it.2 d)))
        (either has)
      where
        either : HasEntry entries (get_or parts i d).key ⊎ HasNothingToTell to lines keys (get_or parts i d)
            → HasEntry entries (get_or parts i d).key
            ⊎ (map (placed_found (places_of keys (get_or parts i d).key)) (told_of (get_or parts i d).watch.margin (due (get_or parts i d).watch to) (lines_of_one lines keys (get_or parts i d).key)) ≡ [])
        either (inl entry) = inl entry
        either (inr nothing) = inr (ap (map (placed_found (places_of keys (get_or parts i d).key))) nothing)

    -- all there is to tell of a key has been told then
    pub told_to : (told : List Found) (i : ℕ) (d : KeyPart) → i < length parts → HasToldOne lines keys told (get_or parts i d)
        → HasEntry entries (get_or parts i d).key ⊎ HasNothingToTell to lines keys (get_or parts i d) → IfSome to (λ last. (get_or parts i d).watch.from ≤ last)
        → IsPermutation (at_key keys (get_or parts i d).key (told ++ told_by_all entries)) (to_tell (get_or parts i d).watch.margin to lines keys (get_or parts i d).key)
    told_to told i d lt has entry after =
        let part = get_or parts i d in
        let q = part.key in
        let mine = lines_of_one lines keys q in
        let place = placed_found (places_of keys q) in
        let margin = part.watch.margin in
        let was = told_of margin (is_due 0 0 0 (Some part.watch.from)) mine in
        let now = told_of margin (due part.watch to) mine in
        let all = told_of margin (is_due 0 0 0 to) mine in
        let more = new_told i d lt entry in
        subst (λ l. IsPermutation l (map place all)) (sym (in_two keys q told (told_by_all entries) ∙ ap (λ (l : List Found). at_key keys q told ++ l) more))
        (IsPermutation-trans (at_key keys q told ++ map place now) (map place was ++ map place now) (map place all)
        (IsPermutation-append (at_key keys q told) (map place was) (map place now) (map place now) has.once (IsPermutation-refl (map place now)))
        (subst (λ l. IsPermutation l (map place all)) (map-append place was now)
        (IsPermutation-map place (was ++ now) all (window_more margin part.watch.from _ part.watch.settled to mine after has.in_time))))

    pub told_came : (told : List Found) → All (λ (found : Found). found.place < length lines) told → All (λ (found : Found). found.place < length lines) (told ++ told_by_all entries)
    told_came told came = All-append (λ (found : Found). found.place < length lines) told (told_by_all entries) came came_now

-- how each key goes on
pub settled_on : (lines : List Line) (keys : List (Option ℕ)) → length keys ≡ length lines → (old new : List KeyPart) → names_of old ≡ keys_of keys → All (HasSeenOne lines keys) old
    → (at margin : ℕ) (entries : List SettledKey) (told : List Found) → AreTold (Some at) lines keys old entries → length new ≡ length old
    → ((i : ℕ) (d : KeyPart) → i < length old → SettlesOrStays at lines keys entries (get_or old i d) (get_or new i d))
    → All (λ (part : KeyPart). (part.watch.margin ≡ margin) × (part.watch.from ≤ at)) old → All (λ (part : KeyPart). part.watch.margin ≡ margin) new
    → All (HasToldOne lines keys told) old → All (HasToldOne lines keys (told ++ told_by_all entries)) new
settled_on lines keys as_many old new named each at margin entries told tell size goes low same has i d lt =
    let inside : i < length old = omega (arith, lt, size) in
    by inside (goes i d inside)
  where
    by : i < length old → SettlesOrStays at lines keys entries (get_or old i d) (get_or new i d) → HasToldOne lines keys (told ++ told_by_all entries) (get_or new i d)
    by inside (inl (entry, on)) =
        let it = told_to lines keys as_many old named each (Some at) entries tell told i d inside (has i d inside) (inl entry) (low i d inside).1 in
        let margins : (get_or old i d).watch.margin ≡ (get_or new i d).watch.margin = (low i d inside).0 ∙ sym (same i d lt) in
        let count = (each i d inside).seen.count in
        record {
          once = subst (λ from. IsPermutation (at_key keys (get_or new i d).key (told ++ told_by_all entries)) (to_tell (get_or new i d).watch.margin (Some from) lines keys (get_or new i d).key)) (sym on.from)
              (subst (λ m. IsPermutation (at_key keys (get_or new i d).key (told ++ told_by_all entries)) (to_tell m (Some at) lines keys (get_or new i d).key)) margins
              (subst (λ q. IsPermutation (at_key keys q (told ++ told_by_all entries)) (to_tell (get_or old i d).watch.margin (Some at) lines keys q)) (sym on.key) it));
          in_time = λ j ge less.
              let settled = on.settled in
              let mine = ap (λ q. length (lines_of_one lines keys q)) on.key in
              absurd (omega (arith, ge, less, settled, mine, count));
        }
    by inside (inr quiet) =
        let had = has i d inside in
        let none = new_told lines keys as_many old named each (Some at) entries tell i d inside (inr quiet.nothing)
        ∙ ap (map (placed_found (places_of keys (get_or old i d).key))) quiet.nothing in
        let still : at_key keys (get_or old i d).key (told ++ told_by_all entries) ≡ at_key keys (get_or old i d).key told =
        in_two keys (get_or old i d).key told (told_by_all entries) ∙ (ap (λ (l : List Found). at_key keys (get_or old i d).key told ++ l) none ∙ append-nil (at_key keys (get_or old i d).key told)) in
        subst (HasToldOne lines keys (told ++ told_by_all entries)) (sym quiet.same) (record {
          once = subst (λ l. IsPermutation l (to_tell (get_or old i d).watch.margin (Some (get_or old i d).watch.from) lines keys (get_or old i d).key)) (sym still) had.once;
          in_time = had.in_time;
        })
