-- What the watch of each key has seen, as lines come.
use Rattle.std.specs.Option.{option_eq}
use Rattle.std.proofs.Common.{◌≡◌, ◌≢◌, ◌==◌, ℕ, zero, suc, ◌<◌, ◌≤◌, true, false, cond, List, [], ◌∷◌, ◌++◌, Option, None, length, map, set, get_or, slice_index, refl, ap, sym, subst, ◌∙◌, inl, inr, add-one, arith, append-nil, length-append}
use Rattle.std.specs.List.{All}
use Rattle.std.proofs.lemmas.Bool.{cases_eq, cases_lt, false_from_ne_true}
use Rattle.std.proofs.lemmas.Bool.Decides.{nat_tests}
use Rattle.std.proofs.lemmas.List.{get_or_append_left, get_or_default, get_or_push, get_or-map, get_or-set_other, get_or-set_same, length_push, length-map, length-set, map-append, map-set, map_push, set-get_or}
use Rattle.std.proofs.lemmas.List.Elements.{All-append, All-cons, All-from_get_or, All-get_or, All-nil, All-set}
use Rattle.std.proofs.lemmas.Simd.{map-map}
use Rattle.fdb_lines.specs.declared.key_part.KeyPart.{KeyPart}
use Rattle.fdb_lines.specs.declared.line.Line.{Line}
use Rattle.fdb_lines.specs.declared.fault.Finding.{Finding}
use Rattle.fdb_lines.specs.KeyParts.{lines_of_one, names_of, HasSeenOne, HasStayed, HaveStayed}
use Rattle.fdb_lines.specs.Keys.{key_at, keys_below, keys_of, place_among, places_below, places_of}
use Rattle.fdb_lines.specs.Lines.{line_at, lines_in, nobody}
use Rattle.fdb_lines.specs.Watch.{HasSeen}
use Rattle.fdb_lines.specs.private.Keys.{number_of, AreNumbered}
use Rattle.fdb_lines.specs.private.KeyParts.{HasNoMore, HasNoMoreAt, HasOneMore, HasOneMoreAt, IsAlike, BeginsWith, IsNext, StaysAt}
use Rattle.fdb_lines.proofs.Keyed.{each_once, has_lines, has_none, place_is, same_is, same_self}

abbrev key_is : KeyPart → Option ℕ
key_is part = part.key

-- ---- the places of a key, with one line more

below_same : (keys more : List (Option ℕ)) (q : Option ℕ) (n : ℕ) → n ≤ length keys → places_below (keys ++ more) q n ≡ places_below keys q n
below_same keys more q zero le = refl
below_same keys more q (suc n) le =
    ap (λ (ps : List ℕ). ps ++ cond (option_eq ◌==◌ (key_at (keys ++ more) n) q) (n ∷ []) []) (below_same keys more q n (omega arith))
    ∙ ap (λ k. places_below keys q n ++ cond (option_eq ◌==◌ k q) (n ∷ []) []) (get_or_append_left keys more None n (omega arith))

pub places_more : (keys : List (Option ℕ)) (key q : Option ℕ) → places_of (keys ++ key ∷ []) q ≡ places_of keys q ++ cond (option_eq ◌==◌ key q) (length keys ∷ []) []
places_more keys key q =
    let more = keys ++ key ∷ [] in
    let n = length keys in
    ap (places_below more q) (length_push keys key ∙ add-one n)
    ∙ (ap (λ (ps : List ℕ). ps ++ cond (option_eq ◌==◌ (key_at more n) q) (n ∷ []) []) (below_same keys (key ∷ []) q n (omega arith))
    ∙ ap (λ k. places_of keys q ++ cond (option_eq ◌==◌ k q) (n ∷ []) []) (get_or_push keys key None n refl))

names_same : (keys more : List (Option ℕ)) (n : ℕ) → n ≤ length keys → keys_below (keys ++ more) n ≡ keys_below keys n
names_same keys more zero le = refl
names_same keys more (suc n) le =
    ap (λ (ks : List (Option ℕ)). ks ++ cond (place_among (keys ++ more) n == 0) (key_at (keys ++ more) n ∷ []) []) (names_same keys more n (omega arith))
    ∙ (ap (λ k. keys_below keys n ++ cond (length (places_below (keys ++ more) k n) == 0) (k ∷ []) []) (get_or_append_left keys more None n (omega arith))
    ∙ ap (λ (ps : List ℕ). keys_below keys n ++ cond (length ps == 0) (key_at keys n ∷ []) []) (below_same keys more (key_at keys n) n (omega arith)))

pub names_more : (keys : List (Option ℕ)) (key : Option ℕ) → keys_of (keys ++ key ∷ []) ≡ keys_of keys ++ cond (length (places_of keys key) == 0) (key ∷ []) []
names_more keys key =
    let more = keys ++ key ∷ [] in
    let n = length keys in
    ap (keys_below more) (length_push keys key ∙ add-one n)
    ∙ (ap (λ (ks : List (Option ℕ)). ks ++ cond (place_among more n == 0) (key_at more n ∷ []) []) (names_same keys (key ∷ []) n (omega arith))
    ∙ (ap (λ k. keys_of keys ++ cond (length (places_below more k n) == 0) (k ∷ []) []) (get_or_push keys key None n refl)
    ∙ ap (λ (ps : List ℕ). keys_of keys ++ cond (length ps == 0) (key ∷ []) []) (below_same keys (key ∷ []) key n (omega arith))))

-- ---- the lines of a key, with one line more

pub in_more : (lines : List Line) (line : Line) (places : List ℕ) → ((i : ℕ) → i < length places → slice_index places i < length lines)
    → lines_in (lines ++ line ∷ []) places ≡ lines_in lines places
in_more lines line [] within = refl
in_more lines line (k ∷ places) within =
    ap (λ (l : Line). l ∷ lines_in (lines ++ line ∷ []) places) (get_or_append_left lines (line ∷ []) nobody k (within 0 (omega arith)))
    ∙ ap (λ (ls : List Line). line_at lines k ∷ ls) (in_more lines line places (λ i li. within (suc i) (omega arith)))

in_push : (lines : List Line) (line : Line) (places : List ℕ) → ((i : ℕ) → i < length places → slice_index places i < length lines)
    → lines_in (lines ++ line ∷ []) (places ++ length lines ∷ []) ≡ lines_in lines places ++ line ∷ []
in_push lines line places within =
    map-append (line_at (lines ++ line ∷ [])) places (length lines ∷ [])
    ∙ (ap (λ (part : List Line). part ++ line_at (lines ++ line ∷ []) (length lines) ∷ []) (in_more lines line places within)
    ∙ ap (λ (last : Line). lines_in lines places ++ last ∷ []) (get_or_push lines line nobody (length lines) refl))

maps_same : (f g : ℕ → ℕ) (xs : List ℕ) → ((i : ℕ) → i < length xs → f (slice_index xs i) ≡ g (slice_index xs i)) → map f xs ≡ map g xs
maps_same f g [] same = refl
maps_same f g (k ∷ xs) same = ap (λ n. n ∷ map f xs) (same 0 (omega arith)) ∙ ap (λ (ns : List ℕ). g k ∷ ns) (maps_same f g xs (λ i li. same (suc i) (omega arith)))

module _ (lines : List Line) (keys : List (Option ℕ)) (as_many : length keys ≡ length lines) (line : Line) (key : Option ℕ) where
  abbrev all : List Line
  all = lines ++ line ∷ []

  abbrev names : List (Option ℕ)
  names = keys ++ key ∷ []

  inside : (q : Option ℕ) (i : ℕ) → i < length (places_of keys q) → slice_index (places_of keys q) i < length lines
  inside q i lt = let is = (place_is keys q (length keys) i lt).0 in omega arith

  -- of another key there are none
  pub other_places : (q : Option ℕ) → option_eq ◌==◌ key q ≡ false → places_of names q ≡ places_of keys q
  other_places q other = places_more keys key q ∙ (ap (λ b. places_of keys q ++ cond {A = List ℕ} b (length keys ∷ []) []) other ∙ append-nil (places_of keys q))

  pub seen_other : (part : KeyPart) → option_eq ◌==◌ key part.key ≡ false → HasSeenOne lines keys part → HasSeenOne all names part
  seen_other part other has = record {
    seen = subst (HasSeen part.watch) (sym (ap (lines_in all) (other_places part.key other) ∙ in_more lines line (places_of keys part.key) (inside part.key))) has.seen;
    numbers = has.numbers ∙ ap (λ (ps : List ℕ). map (slice_index ps) part.watch.numbers.items) (sym (other_places part.key other));
  }

  -- of this key there is one
  its_places : places_of names key ≡ places_of keys key ++ length lines ∷ []
  its_places =
      places_more keys key key
      ∙ (ap (λ b. places_of keys key ++ cond {A = List ℕ} b (length keys ∷ []) []) (same_self key) ∙ ap (λ n. places_of keys key ++ n ∷ []) as_many)

  pub its_lines : lines_of_one all names key ≡ lines_of_one lines keys key ++ line ∷ []
  its_lines = ap (lines_in all) its_places ∙ in_push lines line (places_of keys key) (inside key)

  its_numbers : (old new : KeyPart) → HasSeen old.watch (lines_of_one lines keys key) → old.numbers.items ≡ map (slice_index (places_of keys key)) old.watch.numbers.items
      → HasOneMore line (length lines) old new → new.numbers.items ≡ map (slice_index (places_of names key)) new.watch.numbers.items
  its_numbers old new seen numbers more =
      let places = places_of keys key in
      let had = old.watch.numbers.items in
      let last = old.watch.count in
      let size = length-map places (line_at lines) in
      let count : length places ≡ last = (let is = seen.count in omega arith) in
      let longer = places ++ length lines ∷ [] in
      let same : map (slice_index longer) had ≡ map (slice_index places) had = maps_same (slice_index longer) (slice_index places) had (λ i li.
      let low = seen.stand.within i li in get_or_append_left places (length lines ∷ []) 0 (slice_index had i) (omega arith)) in
      more.numbers
      ∙ (ap (λ (ns : List ℕ). ns ++ length lines ∷ []) (numbers ∙ sym same)
      ∙ (ap (λ n. map (slice_index longer) had ++ n ∷ []) (sym (get_or_push places (length lines) 0 last count))
      ∙ (sym (map-append (slice_index longer) had (last ∷ []))
      ∙ (ap (map (slice_index longer)) (sym more.kept) ∙ ap (λ (ps : List ℕ). map (slice_index ps) new.watch.numbers.items) (sym its_places)))))

  pub seen_one_more : (old new : KeyPart) → old.key ≡ key → HasSeenOne lines keys old → HasOneMore line (length lines) old new → HasSeenOne all names new
  seen_one_more old new is has more =
      let seen : HasSeen old.watch (lines_of_one lines keys key) = subst (λ q. HasSeen old.watch (lines_of_one lines keys q)) is has.seen in
      let numbers : old.numbers.items ≡ map (slice_index (places_of keys key)) old.watch.numbers.items =
      subst (λ q. old.numbers.items ≡ map (slice_index (places_of keys q)) old.watch.numbers.items) is has.numbers in
      let key_now : key ≡ new.key = sym (more.key ∙ is) in
      record {
        seen = subst (λ q. HasSeen new.watch (lines_of_one all names q)) key_now (subst (HasSeen new.watch) (sym its_lines) (more.seen (lines_of_one lines keys key) seen));
        numbers = subst (λ q. new.numbers.items ≡ map (slice_index (places_of names q)) new.watch.numbers.items) key_now (its_numbers old new seen numbers more);
      }

-- ---- a part is as it was, or has settled

pub seen_no_more : (lines : List Line) (keys : List (Option ℕ)) (old new : KeyPart) → HasSeenOne lines keys old → HasNoMore old new → HasSeenOne lines keys new
seen_no_more lines keys old new has same = record {
  seen = subst (λ q. HasSeen new.watch (lines_of_one lines keys q)) (sym same.key) (same.seen (lines_of_one lines keys old.key) has.seen);
  numbers = same.numbers
      ∙ (has.numbers
      ∙ (ap (map (slice_index (places_of keys old.key))) (sym same.kept) ∙ ap (λ q. map (slice_index (places_of keys q)) new.watch.numbers.items) (sym same.key)));
}

pub seen_next : (lines : List Line) (keys : List (Option ℕ)) (at : ℕ) (old new : KeyPart) (found : List Finding) (places : List ℕ)
    → HasSeenOne lines keys old → IsNext at old new found places → HasSeenOne lines keys new
seen_next lines keys at old new found places has next =
    let mine = places_of keys old.key in
    let had = old.watch.numbers.items in
    let each : map (slice_index (map (slice_index mine) had)) places ≡ map (λ k. slice_index mine (slice_index had k)) places =
    maps_same (slice_index (map (slice_index mine) had)) (λ k. slice_index mine (slice_index had k)) places
    (λ i li. get_or-map (slice_index mine) had (slice_index places i) 0 0 (next.within i 0 li)) in
    record {
      seen = subst (λ q. HasSeen new.watch (lines_of_one lines keys q)) (sym next.key) (next.seen (lines_of_one lines keys old.key) has.seen);
      numbers = next.numbers
          ∙ (ap (λ (ns : List ℕ). map (slice_index ns) places) has.numbers
          ∙ (each
          ∙ (sym (map-map (slice_index mine) (slice_index had) places)
          ∙ (ap (map (slice_index mine)) (sym next.kept) ∙ ap (λ q. map (slice_index (places_of keys q)) new.watch.numbers.items) (sym next.key)))));
    }

none_there : (xs : List ℕ) → length xs ≡ 0 → xs ≡ []
none_there [] none = refl
none_there (x ∷ xs) none = absurd (omega (arith, none))

pub seen_empty : (lines : List Line) (keys : List (Option ℕ)) (part : KeyPart) → HasSeen part.watch [] → part.numbers.items ≡ [] → length (places_of keys part.key) ≡ 0
    → HasSeenOne lines keys part
seen_empty lines keys part seen numbers none =
    let places : places_of keys part.key ≡ [] = none_there (places_of keys part.key) none in
    let kept : part.watch.numbers.items ≡ [] = none_there part.watch.numbers.items (let many = part.as_many in omega (arith, ap length numbers)) in
    record {
      seen = subst (λ (ps : List ℕ). HasSeen part.watch (lines_in lines ps)) (sym places) seen;
      numbers = numbers ∙ ap (map (slice_index (places_of keys part.key))) (sym kept);
    }

-- ---- of all keys

pub same_names : (place : ℕ) (old new : List KeyPart) (part : KeyPart) → part.key ≡ (get_or old place part).key → new ≡ set old place part → place < length old → names_of new ≡ names_of old
same_names place old new part key is lt =
    ap names_of is
    ∙ (map-set key_is old place part
    ∙ (ap (set (names_of old) place) (key ∙ sym (get_or-map key_is old place part None lt)) ∙ set-get_or (names_of old) place None))

module _ (lines : List Line) (keys : List (Option ℕ)) (as_many : length keys ≡ length lines) (line : Line) (key : Option ℕ)
    (parts : List KeyPart) (are : names_of parts ≡ keys_of keys) (each : All (HasSeenOne lines keys) parts) where
  size : length (keys_of keys) ≡ length parts
  size = ap length (sym are) ∙ length-map parts key_is

  pub seen_there : (place : ℕ) (new : List KeyPart) → place < length parts → key_at (names_of parts) place ≡ key → HasOneMoreAt place line (length lines) parts new
      → (names_of new ≡ keys_of (keys ++ key ∷ [])) × All (HasSeenOne (lines ++ line ∷ []) (keys ++ key ∷ [])) new
  seen_there place new lt at (part, more, is) = (
    same_names place parts new part more.key is lt ∙ (are ∙ sym no_name),
    subst (All (HasSeenOne (lines ++ line ∷ []) (keys ++ key ∷ []))) (sym is) (All-from_get_or (HasSeenOne (lines ++ line ∷ []) (keys ++ key ∷ [])) (set parts place part) part written),
  )
    where
      its : (get_or parts place part).key ≡ key
      its = sym (get_or-map key_is parts place part None lt) ∙ at

      no_name : keys_of (keys ++ key ∷ []) ≡ keys_of keys
      no_name =
          let named : key_at (keys_of keys) place ≡ key = ap (λ ks. key_at ks place) (sym are) ∙ at in
          let some = subst (λ q. 0 < length (places_of keys q)) named (has_lines keys (length keys) place (omega (arith, size))) in
          let other : (length (places_of keys key) == 0) ≡ false = grind (arith, nat_tests, some) in
          names_more keys key ∙ (ap (λ b. keys_of keys ++ cond {A = List (Option ℕ)} b (key ∷ []) []) other ∙ append-nil (keys_of keys))

      written : (i : ℕ) → i < length (set parts place part) → HasSeenOne (lines ++ line ∷ []) (keys ++ key ∷ []) (get_or (set parts place part) i part)
      written i less =
          let many = length-set parts place part in
          let inside : i < length parts = omega arith in
          elim (cases_eq i place) [
            | inl same ↦
                subst (HasSeenOne (lines ++ line ∷ []) (keys ++ key ∷ [])) (sym (ap (λ m. get_or (set parts place part) m part) same ∙ get_or-set_same parts place part part lt))
                (seen_one_more lines keys as_many line key (get_or parts place part) part its (All-get_or (HasSeenOne lines keys) parts place part lt each) more)
            | inr away ↦
                let differs : option_eq ◌==◌ key (get_or parts i part).key ≡ false = false_from_ne_true _ (λ same.
                away (each_once keys (length keys) i place (omega (arith, size)) (omega (arith, size))
                (ap (λ ks. key_at ks i) (sym are) ∙ (get_or-map key_is parts i part None inside ∙ (sym (same_is _ _ same) ∙ (sym at ∙ ap (λ ks. key_at ks place) are)))))) in
                subst (HasSeenOne (lines ++ line ∷ []) (keys ++ key ∷ [])) (sym (get_or-set_other parts place i part part away))
                (seen_other lines keys as_many line key (get_or parts i part) differs (All-get_or (HasSeenOne lines keys) parts i part inside each))
          ]

  pub seen_first : (margin horizon : ℕ) (part : KeyPart) (new : List KeyPart) → ((i : ℕ) → i < length (names_of parts) → key_at (names_of parts) i ≢ key)
      → BeginsWith key margin horizon line (length lines) part → new ≡ parts ++ part ∷ []
      → (names_of new ≡ keys_of (keys ++ key ∷ [])) × All (HasSeenOne (lines ++ line ∷ []) (keys ++ key ∷ [])) new
  seen_first margin horizon part new absent first is = (
    ap names_of is ∙ (map_push key_is parts part ∙ (ap (λ q. names_of parts ++ q ∷ []) named ∙ (ap (λ (ks : List (Option ℕ)). ks ++ key ∷ []) are ∙ sym one_name))),
    subst (All (HasSeenOne (lines ++ line ∷ []) (keys ++ key ∷ []))) (sym is)
        (All-append (HasSeenOne (lines ++ line ∷ []) (keys ++ key ∷ [])) parts (part ∷ []) others
        (All-cons (HasSeenOne (lines ++ line ∷ []) (keys ++ key ∷ [])) part [] mine (All-nil (HasSeenOne (lines ++ line ∷ []) (keys ++ key ∷ []))))),
  )
    where
      named : part.key ≡ key
      named = first.more.key ∙ first.key

      gone : length (places_of keys key) ≡ 0
      gone = has_none keys (length keys) key (λ i less. subst (λ ks. key_at ks i ≢ key) are (absent i (omega (arith, ap length are))))

      one_name : keys_of (keys ++ key ∷ []) ≡ keys_of keys ++ key ∷ []
      one_name =
          let none : (length (places_of keys key) == 0) ≡ true = grind (arith, nat_tests, gone) in
          names_more keys key ∙ ap (λ b. keys_of keys ++ cond {A = List (Option ℕ)} b (key ∷ []) []) none

      mine : HasSeenOne (lines ++ line ∷ []) (keys ++ key ∷ []) part
      mine =
          let empty = seen_empty lines keys first.empty first.seen first.numbers (ap (λ q. length (places_of keys q)) first.key ∙ gone) in
          seen_one_more lines keys as_many line key first.empty part first.key empty first.more

      others : All (HasSeenOne (lines ++ line ∷ []) (keys ++ key ∷ [])) parts
      others = λ i d lt.
          let differs : option_eq ◌==◌ key (get_or parts i d).key ≡ false = false_from_ne_true _ (λ same.
          absent i (omega (arith, length-map parts key_is)) (get_or-map key_is parts i d None lt ∙ sym (same_is _ _ same))) in
          seen_other lines keys as_many line key (get_or parts i d) differs (each i d lt)

pub seen_still : (lines : List Line) (keys : List (Option ℕ)) (place : ℕ) (parts new : List KeyPart) → place < length parts → All (HasSeenOne lines keys) parts
    → HasNoMoreAt place parts new → (names_of new ≡ names_of parts) × All (HasSeenOne lines keys) new
seen_still lines keys place parts new lt each (part, still, is) = (
  same_names place parts new part still.key is lt,
  subst (All (HasSeenOne lines keys)) (sym is) (λ i d less.
      let many = length-set parts place part in
      let inside : i < length parts = omega arith in
      elim (cases_eq i place) [
        | inl same ↦
            subst (HasSeenOne lines keys) (sym (ap (λ m. get_or (set parts place part) m d) same ∙ get_or-set_same parts place part d lt))
            (seen_no_more lines keys (get_or parts place part) part (All-get_or (HasSeenOne lines keys) parts place part lt each) still)
        | inr away ↦ subst (HasSeenOne lines keys) (sym (get_or-set_other parts place i part d away)) (each i d inside)
      ]),
)

pub names_stay : (place : ℕ) (old new : List KeyPart) → place < length old → StaysAt place old new → names_of new ≡ names_of old
names_stay place old new lt (part, stay, same, is) = same_names place old new part stay.key is lt

pub alike_stay : (margin horizon from place : ℕ) (old new : List KeyPart) → place < length old → All (IsAlike margin horizon from) old → StaysAt place old new
    → All (IsAlike margin horizon from) new
alike_stay margin horizon from place old new lt each (part, stay, same, is) =
    let was = All-get_or (IsAlike margin horizon from) old place part lt each in
    let low = was.its_from in
    let up = same.its_from in
    subst (All (IsAlike margin horizon from)) (sym is) (All-set (IsAlike margin horizon from) old place part (record {
      its_margin = same.its_margin ∙ was.its_margin;
      its_horizon = same.its_horizon ∙ was.its_horizon;
      its_from = omega arith;
    }) each)

pub alike_first : (name : Option ℕ) (margin horizon from : ℕ) (line : Line) (number : ℕ) (old : List KeyPart) (part : KeyPart) → All (IsAlike margin horizon from) old
    → BeginsWith name margin horizon line number part → All (IsAlike margin horizon from) (old ++ part ∷ [])
alike_first name margin horizon from line number old part each first =
    let up = first.alike.its_from in
    All-append (IsAlike margin horizon from) old (part ∷ []) each
    (All-cons (IsAlike margin horizon from) part [] (record { its_margin = first.alike.its_margin; its_horizon = first.alike.its_horizon; its_from = omega arith })
    (All-nil (IsAlike margin horizon from)))

-- ---- a table that is the same

pub numbered_same : (old new : ℕ → Option ℕ) (list : List (Option ℕ)) → AreNumbered old list → ((q : ℕ) → new q ≡ old q) → AreNumbered new list
numbered_same old new list are same = record {
  there = λ key number has. are.there key number (sym (same (number_of key)) ∙ has);
  absent = λ key lacks. are.absent key (sym (same (number_of key)) ∙ lacks);
}

-- ---- each has settled as far as it had

pub stay_at : (place : ℕ) (old new : List KeyPart) → place < length old → StaysAt place old new → HaveStayed old new
stay_at place old new lt (part, stay, same, is) = subst (HaveStayed old) (sym is) (λ i d less.
    let many = length-set old place part in
    let inside : i < length old = omega arith in
    elim (cases_eq i place) [
      | inl at ↦
          let now : get_or (set old place part) i d ≡ part = ap (λ m. get_or (set old place part) m d) at ∙ get_or-set_same old place part d lt in
          let was : get_or old place part ≡ get_or old i d = get_or_default old place part d lt ∙ ap (λ m. get_or old m d) (sym at) in
          inl (inside, subst (HasStayed (get_or old i d)) (sym now) (subst (λ (x : KeyPart). HasStayed x part) was stay))
      | inr away ↦ inl (inside, subst (HasStayed (get_or old i d)) (sym (get_or-set_other old place i part d away)) (record { key = refl; from = refl; settled = refl }))
    ])

pub stay_first : (name : Option ℕ) (margin horizon : ℕ) (line : Line) (number : ℕ) (old new : List KeyPart) (part : KeyPart)
    → BeginsWith name margin horizon line number part → new ≡ old ++ part ∷ [] → HaveStayed old new
stay_first name margin horizon line number old new part first is = subst (HaveStayed old) (sym is) (λ i d less.
    elim (cases_lt i (length old)) [
      | inl inside ↦ inl (inside, subst (HasStayed (get_or old i d)) (sym (get_or_append_left old (part ∷ []) d i inside)) (record { key = refl; from = refl; settled = refl }))
      | inr ge ↦
          let longer = length-append old (part ∷ []) in
          let now : get_or (old ++ part ∷ []) i d ≡ part = get_or_push old part d i (omega arith) in
          let low = first.alike.its_from in
          inr (ge, ap (λ (x : KeyPart). x.watch.from) now ∙ (let none : part.watch.from ≡ 0 = omega arith in none))
    ])
