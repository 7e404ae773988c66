-- Lines that stand for all, each key by itself, do so with the lines that come since.
use Rattle.std.proofs.Common.{◌≡◌, ◌∙◌, ℕ, suc, ◌<◌, ◌≤◌, Bool, true, false, cond, List, [], ◌∷◌, ◌++◌, Option, None, Some, length, map, get_or, refl, ap, sym, subst, inl, inr, arith, append-nil, append_assoc, length-append}
use Rattle.std.specs.Prelude.{◌==◌, IsPermutation}
use Rattle.std.specs.Option.{option_eq}
use Rattle.std.specs.List.{All, filter, range_with_len}
use Rattle.std.proofs.lemmas.Bool.{cases_lt}
use Rattle.std.proofs.lemmas.List.{ext_get_or, get_or-append-add, get_or_append_left, get_or_push, length_push, length-map, map-append}
use Rattle.std.proofs.lemmas.List.Elements.{All-filter, All-from_get_or, All-nil, filter-append}
use Rattle.std.proofs.lemmas.List.FromFn.{get_or-map-range_with_len, length-map-range_with_len}
use Rattle.std.proofs.lemmas.List.Sorted.{IsPermutation-append, IsPermutation-append_left, IsPermutation-refl, IsPermutation-sym, IsPermutation-trans}
use Rattle.fdb_lines.specs.declared.fault.Found.{Found}
use Rattle.fdb_lines.specs.declared.line.Line.{Line}
use Rattle.fdb_lines.specs.Before.{began}
use Rattle.fdb_lines.specs.Carried.{StandFor}
use Rattle.fdb_lines.specs.KeyParts.{lines_of_one}
use Rattle.fdb_lines.specs.Keys.{key_at, place_among, placed_found, places_below, places_of}
use Rattle.fdb_lines.specs.Lines.{line_at, lines_in, nobody}
use Rattle.fdb_lines.specs.Renumbered.{AreSameButForNumbers}
use Rattle.fdb_lines.specs.StandByKey.{StandForByKey, audited_from, kept_of, keys_in}
use Rattle.fdb_lines.specs.ToldByKey.{at_key, audited, audited_to, to_tell}
use Rattle.fdb_lines.specs.Watching.{begins_before}
use Rattle.fdb_lines.proofs.Carried.{and_one_more}
use Rattle.fdb_lines.proofs.GoneOn.{numbers_on}
use Rattle.fdb_lines.proofs.Keyed.{of_key, same_is, same_self}
use Rattle.fdb_lines.proofs.EntriesTell.{maps_same}
use Rattle.fdb_lines.proofs.OnceTold.{audited_there, audited_to_of, filter_same, to_tell_still}
use Rattle.fdb_lines.proofs.Permuted.{both_parts, permuted_by_key}
use Rattle.fdb_lines.proofs.Renumbered.{audited_from_alike, places_same}
use Rattle.fdb_lines.proofs.SeenByKey.{in_more, its_lines, other_places}
use Rattle.fdb_lines.proofs.StandByKey.{one_if, told_by_key}
use Rattle.fdb_lines.proofs.TakenAway.{the_rest}

-- ---- with one line more

module _ (margin at : ℕ) (lines : List Line) (keys : List (Option ℕ)) (places : List ℕ) (stand : StandForByKey margin at lines keys places) (line : Line) (key : Option ℕ) where
  abbrev all : List Line
  all = lines ++ line ∷ []

  abbrev names : List (Option ℕ)
  names = keys ++ key ∷ []

  abbrev there : List ℕ
  there = places ++ length lines ∷ []

  low : All (λ k. k < length keys) places
  low = All-from_get_or (λ k. k < length keys) places 0 (λ i lt. let is = stand.within i lt in let size = stand.as_many in omega arith)

  old_key : (k : ℕ) → k < length keys → key_at names k ≡ key_at keys k
  old_key k lt = get_or_append_left keys (key ∷ []) None k lt

  new_key : key_at names (length lines) ≡ key
  new_key = get_or_push keys key None (length lines) stand.as_many

  old_below : (q : Option ℕ) (n : ℕ) → n ≤ length keys → places_below names q n ≡ places_below keys q n
  old_below q n le = places_same names keys q q n (λ j lt. ap (λ k. option_eq ◌==◌ k q) (old_key j (omega arith)))

  old_among : (k : ℕ) → k < length keys → place_among names k ≡ place_among keys k
  old_among k lt = ap (λ q. length (places_below names q k)) (old_key k lt) ∙ ap length (old_below (key_at keys k) k (omega arith))

  new_among : place_among names (length lines) ≡ length (lines_of_one lines keys key)
  new_among =
      let many = stand.as_many in
      ap (λ q. length (places_below names q (length lines))) new_key
      ∙ (ap length (old_below key (length lines) (omega arith))
      ∙ (ap (λ n. length (places_below keys key n)) (sym many) ∙ sym (length-map (places_of keys key) (line_at lines))))

  kept_more : (q : Option ℕ) → kept_of names there q ≡ kept_of keys places q ++ cond (option_eq ◌==◌ key q) (length (lines_of_one lines keys key) ∷ []) []
  kept_more q =
      let its = λ (k : ℕ). option_eq ◌==◌ (key_at keys k) q in
      let now = λ (k : ℕ). option_eq ◌==◌ (key_at names k) q in
      let last = length lines in
      ap (map (place_among names)) (filter-append now places (last ∷ [])
      ∙ (λ i. filter_same now its places (λ k d lt. ap (λ key. option_eq ◌==◌ key q) (old_key (get_or places k d) (low k d lt))) i ++ cond (option_eq ◌==◌ (new_key i) q) (last ∷ []) []))
      ∙ (map-append (place_among names) (filter its places) (cond (option_eq ◌==◌ key q) (last ∷ []) [])
      ∙ (ap (λ (ps : List ℕ). ps ++ map (place_among names) (cond (option_eq ◌==◌ key q) (last ∷ []) []))
      (maps_same (place_among names) (place_among keys) (filter its places) (λ k d lt. old_among (get_or (filter its places) k d) (All-filter its (λ k. k < length keys) places low k d lt)))
      ∙ ap (λ (ps : List ℕ). kept_of keys places q ++ ps)
      (one_if (place_among names) (option_eq ◌==◌ key q) last ∙ ap (λ n. cond (option_eq ◌==◌ key q) (n ∷ []) []) new_among)))

  each_more : (q : Option ℕ) → StandFor margin at (lines_of_one all names q) (kept_of names there q)
  each_more q = by (option_eq ◌==◌ key q) refl
    where
      by : (b : Bool) → option_eq ◌==◌ key q ≡ b → StandFor margin at (lines_of_one all names q) (kept_of names there q)
      by true same =
          let mine = lines_of_one lines keys key in
          subst (λ k. StandFor margin at (lines_of_one all names k) (kept_of names there k)) (same_is key q same)
          (subst (λ (ls : List Line). StandFor margin at ls (kept_of names there key)) (sym (its_lines lines keys stand.as_many line key))
          (subst (StandFor margin at (mine ++ line ∷ [])) (sym (kept_more key ∙ ap (λ b. kept_of keys places key ++ cond {A = List ℕ} b (length mine ∷ []) []) (same_self key)))
          (and_one_more margin at mine (kept_of keys places key) (stand.each key) line)))
      by false other =
          let mine = lines_of_one lines keys key in
          let many = stand.as_many in
          let as_were : lines_of_one all names q ≡ lines_of_one lines keys q =
          ap (lines_in all) (other_places lines keys many line key q other)
          ∙ in_more lines line (places_of keys q) (λ i lt. let is = (of_key keys q (places_of keys q) refl i lt).0 in omega arith) in
          subst (λ (ls : List Line). StandFor margin at ls (kept_of names there q)) (sym as_were)
          (subst (StandFor margin at (lines_of_one lines keys q))
          (sym (kept_more q ∙ (ap (λ b. kept_of keys places q ++ cond {A = List ℕ} b (length mine ∷ []) []) other ∙ append-nil (kept_of keys places q)))) (stand.each q))

  pub one_more_by_key : StandForByKey margin at all names there
  one_more_by_key = record {
    as_many = let many = stand.as_many in let one = length_push keys key in let two = length_push lines line in omega arith;
    within = λ i li.
        let size = length_push lines line in
        let more = length-append places (length lines ∷ []) in
        elim (cases_lt i (length places)) [
          | inl old ↦ let is = stand.within i old in let same = get_or_append_left places (length lines ∷ []) 0 i old in omega arith
          | inr ge ↦ let last : length places ≡ i = omega arith in let same = get_or_push places (length lines) 0 i last in omega arith
        ];
    each = each_more;
  }

-- ---- with the lines that come since

on_by_key : (margin at : ℕ) (lines : List Line) (keys : List (Option ℕ)) (places : List ℕ) (more : List Line) (more_keys : List (Option ℕ)) → length more_keys ≡ length more
    → StandForByKey margin at lines keys places → StandForByKey margin at (lines ++ more) (keys ++ more_keys) (places ++ range_with_len (length lines) (length more))
on_by_key margin at lines keys places [] [] same stand =
    subst (StandForByKey margin at (lines ++ []) (keys ++ [])) (sym (append-nil places))
    (subst (λ (ls : List Line). StandForByKey margin at ls (keys ++ []) places) (sym (append-nil lines))
    (subst (λ (ks : List (Option ℕ)). StandForByKey margin at lines ks places) (sym (append-nil keys)) stand))
on_by_key margin at lines keys places [] (key ∷ more_keys) same stand = absurd (omega arith)
on_by_key margin at lines keys places (line ∷ more) [] same stand = absurd (omega arith)
on_by_key margin at lines keys places (line ∷ more) (key ∷ more_keys) same stand =
    let beyond = (places ++ length lines ∷ []) ++ range_with_len (length (lines ++ line ∷ [])) (length more) in
    subst (StandForByKey margin at (lines ++ line ∷ more) (keys ++ key ∷ more_keys)) (numbers_on places lines more line)
    (subst (λ (ls : List Line). StandForByKey margin at ls (keys ++ key ∷ more_keys) beyond) (append_assoc lines (line ∷ []) more)
    (subst (λ (ks : List (Option ℕ)). StandForByKey margin at ((lines ++ line ∷ []) ++ more) ks beyond) (append_assoc keys (key ∷ []) more_keys)
    (on_by_key margin at (lines ++ line ∷ []) (keys ++ key ∷ []) (places ++ length lines ∷ []) more more_keys (omega arith) (one_more_by_key margin at lines keys places stand line key))))

-- what stands at some places, and all that comes since
pub in_both : {X : Type 0} (xs more : List X) (d : X) (places : List ℕ) → All (λ k. k < length xs) places
    → map (λ k. get_or (xs ++ more) k d) (places ++ range_with_len (length xs) (length more)) ≡ map (λ k. get_or xs k d) places ++ more
in_both {X} xs more d places within =
    let at = λ (k : ℕ). get_or (xs ++ more) k d in
    let later = map at (range_with_len (length xs) (length more)) in
    let many : length later ≡ length more = length-map-range_with_len at (length xs) (length more) in
    map-append at places (range_with_len (length xs) (length more))
    ∙ (ap (λ (ys : List X). ys ++ later) (maps_same at (λ k. get_or xs k d) places (λ i e lt. get_or_append_left xs more d (get_or places i e) (within i e lt)))
    ∙ ap (λ (ys : List X). map (λ k. get_or xs k d) places ++ ys)
    (ext_get_or d later more many (λ i lt. get_or-map-range_with_len at (length xs) (length more) i _ d (omega arith) refl ∙ get_or-append-add xs more i d)))

-- ---- what there was to tell up to a moment, if none that comes since began before

to_tell_on : (margin from : ℕ) (q : Option ℕ) (lines : List Line) (keys : List (Option ℕ)) (more : List Line) (more_keys : List (Option ℕ)) → length keys ≡ length lines → length more_keys ≡ length more
    → ((j : ℕ) → j < length more → from ≤ began (line_at more j)) → to_tell margin (Some from) (lines ++ more) (keys ++ more_keys) q ≡ to_tell margin (Some from) lines keys q
to_tell_on margin from q lines keys [] [] as_many same later =
    ap (λ (ls : List Line). to_tell margin (Some from) ls (keys ++ []) q) (append-nil lines) ∙ ap (λ (ks : List (Option ℕ)). to_tell margin (Some from) lines ks q) (append-nil keys)
to_tell_on margin from q lines keys [] (key ∷ more_keys) as_many same later = absurd (omega arith)
to_tell_on margin from q lines keys (line ∷ more) [] as_many same later = absurd (omega arith)
to_tell_on margin from q lines keys (line ∷ more) (key ∷ more_keys) as_many same later =
    ap (λ (ls : List Line). to_tell margin (Some from) ls (keys ++ key ∷ more_keys) q) (sym (append_assoc lines (line ∷ []) more))
    ∙ (ap (λ (ks : List (Option ℕ)). to_tell margin (Some from) ((lines ++ line ∷ []) ++ more) ks q) (sym (append_assoc keys (key ∷ []) more_keys))
    ∙ (to_tell_on margin from q (lines ++ line ∷ []) (keys ++ key ∷ []) more more_keys (let one = length_push keys key in let two = length_push lines line in omega arith) (omega arith)
    (λ j lt. later (suc j) (omega arith))
    ∙ to_tell_still lines keys as_many line key [] (All-nil (λ (found : Found). found.place < length lines)) q margin from (later 0 (omega arith))))

module _ (margin from : ℕ) (lines : List Line) (keys : List (Option ℕ)) (as_many : length keys ≡ length lines) (more : List Line) (more_keys : List (Option ℕ)) (same : length more_keys ≡ length more) where
  abbrev both : List Line
  both = lines ++ more

  abbrev both_keys : List (Option ℕ)
  both_keys = keys ++ more_keys

  both_many : length both_keys ≡ length both
  both_many = let one = length-append keys more_keys in let two = length-append lines more in omega arith

  pub audited_to_on : ((j : ℕ) → j < length more → from ≤ began (line_at more j)) → IsPermutation (audited_to margin from lines keys) (audited_to margin from both both_keys)
  audited_to_on later =
      let was = audited_to margin from lines keys in
      let now = audited_to margin from both both_keys in
      permuted_by_key (λ (found : Found). key_at both_keys found.place) (length was) was now (omega arith) (λ q.
      let of_q : at_key both_keys q was ≡ at_key both_keys q now =
      filter_same (λ (found : Found). option_eq ◌==◌ (key_at both_keys found.place) q) (λ (found : Found). option_eq ◌==◌ (key_at keys found.place) q) was
      (λ k d lt.
      let is = audited_there margin from lines keys k d lt in
      ap (λ key. option_eq ◌==◌ key q) (get_or_append_left keys more_keys None _ (omega (arith, is))))
      ∙ (audited_to_of margin from lines keys q as_many
      ∙ (sym (to_tell_on margin from q lines keys more more_keys as_many same later) ∙ sym (audited_to_of margin from both both_keys q both_many))) in
      subst (IsPermutation (at_key both_keys q was)) of_q (IsPermutation-refl (at_key both_keys q was)))

  -- what was told up to a moment, and what is told then by lines that stand for all and those that come since, whatever the numbers
  pub whole_by_key : (at : ℕ) (places : List ℕ) (others : List Line) (other_keys : List (Option ℕ)) → at ≤ from → StandForByKey margin at lines keys places
      → ((j : ℕ) → j < length more → from ≤ began (line_at more j))
      → AreSameButForNumbers (lines_in lines places ++ more) (keys_in keys places ++ more_keys) others other_keys
      → IsPermutation (audited_to margin from lines keys ++ map (placed_found (places ++ range_with_len (length lines) (length more))) (audited_from margin from others other_keys))
      (audited margin both both_keys)
  whole_by_key at places others other_keys le stand later alike =
      let beyond = places ++ range_with_len (length lines) (length more) in
      let place = map (placed_found beyond) in
      let was = audited_to margin from lines keys in
      let before = audited_to margin from both both_keys in
      let after = audited_from margin from both both_keys in
      let there : All (λ k. k < length lines) places = All-from_get_or (λ k. k < length lines) places 0 (λ i lt. stand.within i lt) in
      let there_keys : All (λ k. k < length keys) places = All-from_get_or (λ k. k < length keys) places 0 (λ i lt. let is = stand.within i lt in omega arith) in
      let part : lines_in both beyond ≡ lines_in lines places ++ more = in_both lines more nobody places there in
      let part_keys : keys_in both_keys beyond ≡ keys_in keys places ++ more_keys =
      ap (λ (ks : List ℕ). keys_in both_keys (places ++ ks)) ((λ i. range_with_len (sym as_many i) (sym same i))) ∙ in_both keys more_keys None places there_keys in
      let told = told_by_key margin at from both both_keys beyond le (on_by_key margin at lines keys places more more_keys same stand) in
      let renamed : audited_from margin from (lines_in both beyond) (keys_in both_keys beyond) ≡ audited_from margin from others other_keys =
      (λ i. audited_from margin from (part i) (part_keys i)) ∙ audited_from_alike (lines_in lines places ++ more) others (keys_in keys places ++ more_keys) other_keys alike margin from in
      IsPermutation-trans (was ++ place (audited_from margin from others other_keys)) (before ++ after) (audited margin both both_keys)
      (IsPermutation-append was before (place (audited_from margin from others other_keys)) after (audited_to_on later)
      (subst (λ (found : List Found). IsPermutation (place found) after) renamed (IsPermutation-sym after (place (audited_from margin from (lines_in both beyond) (keys_in both_keys beyond))) told)))
      (both_parts (λ (found : Found). begins_before (Some from) (line_at both found.place)) (audited margin both both_keys))

  -- what is told once what there was to tell up to a moment has been told is what stands at lines that began from then on
  pub told_then : ((j : ℕ) → j < length more → from ≤ began (line_at more j)) → (told new : List Found) → IsPermutation told (audited_to margin from lines keys)
      → IsPermutation (told ++ new) (audited margin both both_keys) → IsPermutation new (audited_from margin from both both_keys)
  told_then later told new was all =
      let before = audited_to margin from both both_keys in
      let after = audited_from margin from both both_keys in
      let every = audited margin both both_keys in
      let old = IsPermutation-trans told (audited_to margin from lines keys) before was (audited_to_on later) in
      the_rest told new after
      (IsPermutation-trans (told ++ new) every (told ++ after) all
      (IsPermutation-trans every (before ++ after) (told ++ after)
      (IsPermutation-sym (before ++ after) every (both_parts (λ (found : Found). begins_before (Some from) (line_at both found.place)) every))
      (IsPermutation-append_left after before told (IsPermutation-sym told before old))))
