-- Of each key is told, each fault once, what there is to tell: for good, with one more line, and in all.
use Rattle.std.proofs.Common.{◌≡◌, ◌≢◌, ◌⊎◌, ℕ, zero, suc, ◌==◌, ◌<◌, ◌≤◌, Bool, true, false, cond, ◌&&◌, List, [], ◌∷◌, ◌++◌, Option, None, Some, IfSome, length, map, get_or, refl, ap, sym, subst, ◌∙◌, inl, inr, arith, append-nil, length-append}
use Rattle.std.specs.Prelude.{IsPermutation}
use Rattle.std.specs.Option.{option_eq}
use Rattle.std.specs.List.{All, filter}
use Rattle.std.proofs.lemmas.Bool.{both_ways, cases_lt}
use Rattle.std.proofs.lemmas.Bool.Decides.{nat_tests}
use Rattle.std.proofs.lemmas.List.{get_or_append_left, get_or-map, length-map}
use Rattle.std.proofs.lemmas.List.Elements.{All-append, All-cons, All-filter, All-head, All-map, All-nil, All-tail, All-weaker, filter_agree}
use Rattle.std.proofs.lemmas.List.Sorted.{IsPermutation-refl, IsPermutation-sym, IsPermutation-trans}
use Rattle.fdb_lines.specs.declared.fault.Found.{Found}
use Rattle.fdb_lines.specs.declared.key_part.KeyPart.{KeyPart}
use Rattle.fdb_lines.specs.declared.key_part.SettledKey.{SettledKey}
use Rattle.fdb_lines.specs.declared.key_watch.KeyWatch.{KeyWatch}
use Rattle.fdb_lines.specs.declared.line.Line.{Line}
use Rattle.fdb_lines.specs.declared.log.AuditOpts.{AuditOpts}
use Rattle.fdb_lines.specs.Before.{began}
use Rattle.fdb_lines.specs.Carried.{with_times}
use Rattle.fdb_lines.specs.KeyParts.{lines_of_one, names_of, HasSeenOne, HasStayed, HaveStayed}
use Rattle.fdb_lines.specs.Keys.{case_of_key, faults_at_by_key, faults_below_by_key, faults_by_key, key_at, keys_of, place_among, placed_found, places_of, told_at as placed_at}
use Rattle.fdb_lines.specs.KeyWatch.{AreTold, HasEntry, HasNothingToTell, HasSeenByKey}
use Rattle.fdb_lines.specs.Lines.{Lines, line_at, lines_in, nobody}
use Rattle.fdb_lines.specs.Listing.{faults_at, faults_of}
use Rattle.fdb_lines.specs.ToldByKey.{HasTold, HasToldOne, at_key, audited, audited_to, to_tell, told_by_all}
use Rattle.fdb_lines.specs.Watching.{begins_before, is_due, is_watched, opts_of, told_of, watched}
use Rattle.fdb_lines.proofs.Carried.{at_part}
use Rattle.fdb_lines.proofs.Kept.{kept_of_key}
use Rattle.fdb_lines.proofs.Keyed.{each_once, has_key, has_none, of_key, same_is, same_self, HasKey}
use Rattle.fdb_lines.proofs.Permuted.{filter_both, filter_mapped, none_pass, permuted_by_key}
use Rattle.fdb_lines.proofs.SeenByKey.{in_more, its_lines, names_more, other_places, places_more}
use Rattle.fdb_lines.proofs.Watched.{told_stays}
use Rattle.fdb_lines.proofs.Windows.{told_before}
use Rattle.fdb_lines.proofs.EntriesTell.{all_due, apart, key_is, maps_same, nobody_tells, none_of_none, none_yet, told_came, told_there, told_to}

-- ---- for good

pub is_there : (names : List (Option ℕ)) (q : Option ℕ) → HasKey names q ⊎ ((i : ℕ) → i < length names → key_at names i ≢ q)
is_there [] q = inr (λ i lt. absurd (omega (arith, lt)))
is_there (name ∷ names) q = by (option_eq ◌==◌ name q) refl (is_there names q)
  where
    by : (b : Bool) → option_eq ◌==◌ name q ≡ b → HasKey names q ⊎ ((i : ℕ) → i < length names → key_at names i ≢ q)
        → HasKey (name ∷ names) q ⊎ ((i : ℕ) → i < length (name ∷ names) → key_at (name ∷ names) i ≢ q)
    by true same rest = inl (0, omega arith, same_is name q same)
    by false other (inl (i, lt, is)) = inl (suc i, omega (arith, lt), is)
    by false other (inr none) = inr none_now
      where
        none_now : (i : ℕ) → i < length (name ∷ names) → key_at (name ∷ names) i ≢ q
        none_now zero lt is = both_ways (option_eq ◌==◌ name q) other (ap (λ key. option_eq ◌==◌ key q) is ∙ same_self q)
        none_now (suc i) lt is = none i (omega (arith, lt)) is

pub and_other : (a b : Bool) → (a && b) ≡ (b && a)
and_other true true = refl
and_other true false = refl
and_other false true = refl
and_other false false = refl

-- of what an audit finds, that of a key
pub audited_of : (margin : ℕ) (lines : List Line) (keys : List (Option ℕ)) (q : Option ℕ) → length keys ≡ length lines
    → at_key keys q (audited margin lines keys) ≡ to_tell margin None lines keys q
audited_of margin lines keys q as_many =
    let all = faults_by_key (with_times lines) keys (opts_of margin) in
    let its = λ (found : Found). option_eq ◌==◌ (key_at keys found.place) q in
    let wanted = λ (found : Found). is_watched found.fault in
    let place = placed_found (places_of keys q) in
    let mine = lines_of_one lines keys q in
    filter_both its wanted all
    ∙ (filter_agree (λ found. wanted found && its found) (λ found. its found && wanted found) (λ found. and_other (wanted found) (its found)) all
    ∙ (sym (filter_both wanted its all)
    ∙ (ap (filter wanted) (kept_of_key (with_times lines) keys (opts_of margin) q as_many)
    ∙ (filter_mapped wanted place (faults_of (watched margin mine)) ∙ ap (map place) (all_due margin mine)))))

-- of each key is told then what there is to tell up to a moment, or in all
pub told_of_each : (lines : List Line) (keys : List (Option ℕ)) → length keys ≡ length lines → (parts : List KeyPart) → names_of parts ≡ keys_of keys → All (HasSeenOne lines keys) parts
    → (margin : ℕ) (to : Option ℕ) (entries : List SettledKey) (told : List Found) → AreTold to lines keys parts entries
    → All (λ (part : KeyPart). HasEntry entries part.key ⊎ HasNothingToTell to lines keys part) parts → All (λ (part : KeyPart). part.watch.margin ≡ margin) parts
    → All (λ (part : KeyPart). IfSome to (λ last. part.watch.from ≤ last)) parts
    → All (HasToldOne lines keys told) parts → All (λ (found : Found). found.place < length lines) told
    → (q : Option ℕ) → IsPermutation (at_key keys q (told ++ told_by_all entries)) (to_tell margin to lines keys q)
told_of_each lines keys as_many parts named each margin to entries told tell rest same after has came = of_one
  where
    some_part : (ps : List KeyPart) (i : ℕ) → i < length ps → KeyPart
    some_part [] i lt = absurd (omega (arith, lt))
    some_part (part ∷ ps) i lt = part

    of_none : (q : Option ℕ) (ps : List KeyPart) → ps ≡ parts → ((i : ℕ) → i < length (names_of ps) → key_at (names_of ps) i ≢ q)
        → IsPermutation (at_key keys q (told ++ told_by_all entries)) (to_tell margin to lines keys q)
    of_none q ps is none =
        let here : (i : ℕ) → i < length (keys_of keys) → key_at (keys_of keys) i ≢ q =
        subst (λ (ns : List (Option ℕ)). (i : ℕ) → i < length ns → key_at ns i ≢ q) (ap names_of is ∙ named) none in
        let empty = has_none keys (length keys) q here in
        let mine = lines_of_one lines keys q in
        let size = length-map (places_of keys q) (line_at lines) in
        let found = told_of margin (is_due 0 0 0 to) mine in
        let nothing : found ≡ [] = none_of_none (length mine) found (size ∙ empty) (told_there margin (is_due 0 0 0 to) mine) in
        let quiet : at_key keys q (told ++ told_by_all entries) ≡ [] =
        none_pass (λ (found : Found). option_eq ◌==◌ (key_at keys found.place) q) (told ++ told_by_all entries) (λ k e lt.
        let one = get_or (told ++ told_by_all entries) k e in
        let there = told_came lines keys as_many parts named each to entries tell told came k e lt in
        let key = has_key keys (length keys) one.place (omega (arith, there, as_many)) in
        apart (key_at keys one.place) q (λ is. here key.0 key.1 (key.2 ∙ is))) in
        subst (λ l. IsPermutation l (to_tell margin to lines keys q)) (sym quiet)
        (subst (λ l. IsPermutation [] (map (placed_found (places_of keys q)) l)) (sym nothing) (IsPermutation-refl []))

    of_one : (q : Option ℕ) → IsPermutation (at_key keys q (told ++ told_by_all entries)) (to_tell margin to lines keys q)
    of_one q = elim (is_there (names_of parts) q) [
      | inl (i, lt, is) ↦
          let inside : i < length parts = (let size = length-map parts key_is in omega (arith, lt, size)) in
          let d = some_part parts i inside in
          let key : (get_or parts i d).key ≡ q = sym (get_or-map key_is parts i d None inside) ∙ is in
          subst (λ m. IsPermutation (at_key keys q (told ++ told_by_all entries)) (to_tell m to lines keys q)) (same i d inside)
          (subst (λ k. IsPermutation (at_key keys k (told ++ told_by_all entries)) (to_tell (get_or parts i d).watch.margin to lines keys k)) key
          (told_to lines keys as_many parts named each to entries tell told i d inside (has i d inside) (rest i d inside) (after i d inside)))
      | inr none ↦ of_none q parts refl none
    ]

pub told_for_good : (lines : List Line) (keys : List (Option ℕ)) → length keys ≡ length lines → (parts : List KeyPart) → names_of parts ≡ keys_of keys → All (HasSeenOne lines keys) parts
    → (margin : ℕ) (entries : List SettledKey) (told : List Found) → AreTold None lines keys parts entries
    → All (λ (part : KeyPart). HasEntry entries part.key ⊎ HasNothingToTell None lines keys part) parts → All (λ (part : KeyPart). part.watch.margin ≡ margin) parts
    → All (HasToldOne lines keys told) parts → All (λ (found : Found). found.place < length lines) told
    → IsPermutation (told ++ told_by_all entries) (audited margin lines keys)
told_for_good lines keys as_many parts named each margin entries told tell rest same has came =
    permuted_by_key (λ (found : Found). key_at keys found.place) (length (told ++ told_by_all entries)) (told ++ told_by_all entries) (audited margin lines keys) (omega arith) (λ q.
    subst (IsPermutation (at_key keys q (told ++ told_by_all entries))) (sym (audited_of margin lines keys q as_many))
    (told_of_each lines keys as_many parts named each margin None entries told tell rest same (λ i d lt. tt) has came q))

-- ---- with one more line

module _ (lines : List Line) (keys : List (Option ℕ)) (as_many : length keys ≡ length lines) (line : Line) (key : Option ℕ) (told : List Found)
    (came : All (λ (found : Found). found.place < length lines) told) where
  abbrev more : List Line
  more = lines ++ line ∷ []

  abbrev names : List (Option ℕ)
  names = keys ++ key ∷ []

  pub came_still : All (λ (found : Found). found.place < length more) told
  came_still k d lt = let there = came k d lt in let size = length-append lines (line ∷ []) in omega (arith, there, size)

  -- what was told of a key was told of it
  at_still : (q : Option ℕ) → at_key names q told ≡ at_key keys q told
  at_still q = by told came
    where
      by : (found : List Found) → All (λ (one : Found). one.place < length lines) found → at_key names q found ≡ at_key keys q found
      by [] all = refl
      by (one ∷ found) all =
          let there = All-head (λ (one : Found). one.place < length lines) one found all in
          ap (λ k. cond (option_eq ◌==◌ k q) (one ∷ at_key names q found) (at_key names q found)) (get_or_append_left keys (key ∷ []) None one.place (omega (arith, there, as_many)))
          ∙ ap (λ (l : List Found). cond (option_eq ◌==◌ (key_at keys one.place) q) (one ∷ l) l) (by found (All-tail (λ (one : Found). one.place < length lines) one found all))

  -- the lines of a key are as they were, or there is one more
  record IsMoreOf (q : Option ℕ) (mine : List Line) (places : List ℕ) : Type 0 where
    later : List Line
    beyond : List ℕ
    lines_are : mine ≡ lines_of_one lines keys q ++ later
    places_are : places ≡ places_of keys q ++ beyond
    only : All (λ (one : Line). one ≡ line) later

  of_each : (q : Option ℕ) → IsMoreOf q (lines_of_one more names q) (places_of names q)
  of_each q = by (option_eq ◌==◌ key q) refl
    where
      by : (b : Bool) → option_eq ◌==◌ key q ≡ b → IsMoreOf q (lines_of_one more names q) (places_of names q)
      by true same = subst (λ k. IsMoreOf k (lines_of_one more names k) (places_of names k)) (same_is key q same) (record {
        later = line ∷ [];
        beyond = cond (option_eq ◌==◌ key key) (length keys ∷ []) [];
        lines_are = its_lines lines keys as_many line key;
        places_are = places_more keys key key;
        only = All-cons (λ (one : Line). one ≡ line) line [] refl (All-nil (λ (one : Line). one ≡ line));
      })
      by false other = record {
        later = [];
        beyond = [];
        lines_are = ap (lines_in more) (other_places lines keys as_many line key q other)
            ∙ (in_more lines line (places_of keys q) (λ i lt. let is = (of_key keys q (places_of keys q) refl i lt).0 in omega (arith, is, as_many))
            ∙ sym (append-nil (lines_of_one lines keys q)));
        places_are = other_places lines keys as_many line key q other ∙ sym (append-nil (places_of keys q));
        only = All-nil (λ (one : Line). one ≡ line);
      }

  -- what there was to tell of a key up to a moment is the same, if the line did not begin before
  pub to_tell_still : (q : Option ℕ) (margin from : ℕ) → from ≤ began line → to_tell margin (Some from) more names q ≡ to_tell margin (Some from) lines keys q
  to_tell_still q margin from late =
      let it = of_each q in
      let mine = lines_of_one lines keys q in
      let test = is_due 0 0 0 (Some from) in
      let found = told_of margin test mine in
      let size = length-map (places_of keys q) (line_at lines) in
      let later : (j : ℕ) → j < length it.later → from ≤ began (line_at it.later j) = λ j lt. subst (λ (one : Line). from ≤ began one) (sym (it.only j nobody lt)) late in
      ap (λ (ls : List Line). map (placed_found (places_of names q)) (told_of margin test ls)) it.lines_are
      ∙ (ap (map (placed_found (places_of names q))) (told_stays margin from mine it.later later test (λ number one is. due_before number one is))
      ∙ (ap (λ (ps : List ℕ). map (placed_found ps) found) it.places_are
      ∙ maps_same (placed_found (places_of keys q ++ it.beyond)) (placed_found (places_of keys q)) found (λ k d lt.
      let there = told_there margin test mine k d lt in
      let one = get_or found k d in
      ap (λ (place : ℕ). let found : Found = record { place = place; fault = one.fault } in found)
      (get_or_append_left (places_of keys q) it.beyond 0 one.place (omega (arith, there, size))))))
    where
      due_before : (number : ℕ) (one : Line) → is_due 0 0 0 (Some from) number one ≡ true → began one < from
      due_before number one is = grind (arith, nat_tests)

  told_still : (q : Option ℕ) (margin from since : ℕ) → from ≤ began line
      → IsPermutation (at_key keys q told) (to_tell margin (Some from) lines keys q)
      → ((j : ℕ) → since ≤ j → j < length (lines_of_one lines keys q) → from ≤ began (line_at (lines_of_one lines keys q) j))
      → IsPermutation (at_key names q told) (to_tell margin (Some from) more names q)
      × ((j : ℕ) → since ≤ j → j < length (lines_of_one more names q) → from ≤ began (line_at (lines_of_one more names q) j))
  told_still q margin from since late once timely =
      let it = of_each q in
      let mine = lines_of_one lines keys q in (
        subst (λ l. IsPermutation l (to_tell margin (Some from) more names q)) (sym (at_still q))
            (subst (IsPermutation (at_key keys q told)) (sym (to_tell_still q margin from late)) once),
        subst (λ (ls : List Line). (j : ℕ) → since ≤ j → j < length ls → from ≤ began (line_at ls j)) (sym it.lines_are) (λ j ge lt. elim (cases_lt j (length mine)) [
          | inl old ↦ subst (λ (one : Line). from ≤ began one) (sym (get_or_append_left mine it.later nobody j old)) (timely j ge old)
          | inr past ↦ subst (λ (one : Line). from ≤ began one) (sym (last mine it.later it.only j past lt)) late
        ]),
      )
    where
      last : (mine later : List Line) → All (λ (one : Line). one ≡ line) later → (j : ℕ) → length mine ≤ j → j < length (mine ++ later) → line_at (mine ++ later) j ≡ line
      last [] later only j ge lt = only j nobody lt
      last (one ∷ mine) later only zero ge lt = absurd (omega (arith, ge))
      last (one ∷ mine) later only (suc j) ge lt = last mine later only j (omega (arith, ge)) (omega (arith, lt))

  -- each key
  pub pushed_on : (old new : List KeyPart) → names_of old ≡ keys_of keys → All (HasSeenOne lines keys) old → names_of new ≡ keys_of names → HaveStayed old new
      → (from margin : ℕ) → from ≤ began line → All (λ (part : KeyPart). (part.watch.margin ≡ margin) × (part.watch.from ≤ from)) old
      → All (λ (part : KeyPart). part.watch.margin ≡ margin) new → length old ≤ length new
      → All (HasToldOne lines keys told) old → All (HasToldOne more names told) new
  pushed_on old new named each renamed stays from margin late low same longer has i d lt = by (stays i d lt)
    where
      by : ((i < length old) × HasStayed (get_or old i d) (get_or new i d)) ⊎ ((length old ≤ i) × ((get_or new i d).watch.from ≡ 0)) → HasToldOne more names told (get_or new i d)
      by (inl (inside, stay)) =
          let bound = (low i d inside).1 in
          let margins : (get_or old i d).watch.margin ≡ (get_or new i d).watch.margin = (low i d inside).0 ∙ sym (same i d lt) in
          let had = has i d inside in
          let it = told_still (get_or old i d).key (get_or old i d).watch.margin (get_or old i d).watch.from (get_or old i d).watch.settled (omega (arith, bound, late)) had.once had.in_time in
          let one = subst (λ q. IsPermutation (at_key names q told) (to_tell (get_or old i d).watch.margin (Some (get_or old i d).watch.from) more names q)) (sym stay.key) it.0 in
          let two = subst (λ m. IsPermutation (at_key names (get_or new i d).key told) (to_tell m (Some (get_or old i d).watch.from) more names (get_or new i d).key)) margins one in
          record {
            once = subst (λ f. IsPermutation (at_key names (get_or new i d).key told) (to_tell (get_or new i d).watch.margin (Some f) more names (get_or new i d).key)) (sym stay.from) two;
            in_time = subst (λ q. (j : ℕ) → (get_or new i d).watch.settled ≤ j → j < length (lines_of_one more names q) → (get_or new i d).watch.from ≤ began (line_at (lines_of_one more names q) j)) (sym stay.key)
                (subst (λ f. (j : ℕ) → (get_or new i d).watch.settled ≤ j → j < length (lines_of_one more names (get_or old i d).key) → f ≤ began (line_at (lines_of_one more names (get_or old i d).key) j)) (sym stay.from)
                (subst (λ s. (j : ℕ) → s ≤ j → j < length (lines_of_one more names (get_or old i d).key) → (get_or old i d).watch.from ≤ began (line_at (lines_of_one more names (get_or old i d).key) j)) (sym stay.settled) it.1));
          }
      by (inr (ge, first)) =
          let q = (get_or new i d).key in
          let none : at_key names q told ≡ [] = at_still q ∙ nobody_tells lines keys as_many old named each q d told (λ j less is.
          let on = stays j d (omega (arith, less, longer)) in
          let stay = stayed j less on in
          let alike : (get_or new j d).key ≡ q = stay ∙ is in
          let at : j ≡ i = once_named j less alike in
          omega (arith, at, less, ge)) came in
          let nothing : to_tell (get_or new i d).watch.margin (Some (get_or new i d).watch.from) more names q ≡ [] =
          ap (λ f. to_tell (get_or new i d).watch.margin (Some f) more names q) first ∙ ap (map (placed_found (places_of names q))) (none_yet (get_or new i d).watch.margin (lines_of_one more names q)) in
          record {
            once = subst (λ l. IsPermutation l (to_tell (get_or new i d).watch.margin (Some (get_or new i d).watch.from) more names q)) (sym none)
                (subst (IsPermutation []) (sym nothing) (IsPermutation-refl []));
            in_time = λ j from_on less. omega (arith, first);
          }
        where
          stayed : (j : ℕ) → j < length old → ((j < length old) × HasStayed (get_or old j d) (get_or new j d)) ⊎ ((length old ≤ j) × ((get_or new j d).watch.from ≡ 0))
              → (get_or new j d).key ≡ (get_or old j d).key
          stayed j less (inl (inside, stay)) = stay.key
          stayed j less (inr (past, zero_from)) = absurd (omega (arith, less, past))

          once_named : (j : ℕ) → j < length old → (get_or new j d).key ≡ (get_or new i d).key → j ≡ i
          once_named j less is =
              let size = ap length (sym renamed) ∙ length-map new key_is in
              let at = λ (m : ℕ) (inside : m < length new). ap (λ ks. key_at ks m) (sym renamed) ∙ get_or-map key_is new m d None inside in
              let lj : j < length new = omega (arith, less, longer) in
              each_once names (length names) j i (omega (arith, size, lj)) (omega (arith, size, lt)) (at j lj ∙ (is ∙ sym (at i lt)))

pub push_on : (old new : KeyWatch) (lines : List Line) (keys : List (Option ℕ)) (told : List Found) (line : Line) (key : Option ℕ) → HasSeenByKey old lines keys
    → HasSeenByKey new (lines ++ line ∷ []) (keys ++ key ∷ []) → HaveStayed old.parts.items new.parts.items → new.margin ≡ old.margin → new.from ≡ old.from
    → HasTold old lines keys told → old.from ≤ began line → HasTold new (lines ++ line ∷ []) (keys ++ key ∷ []) told
push_on old new lines keys told line key seen now stays margin from has late =
    let one = ap length seen.names in
    let two = ap length now.names in
    let more = ap length (names_more keys key) in
    let sum = length-append (keys_of keys) (cond (length (places_of keys key) == 0) (key ∷ []) []) in
    let were = length-map old.parts.items key_is in
    let are = length-map new.parts.items key_is in
    record {
      each = pushed_on lines keys seen.as_many line key told has.came old.parts.items new.parts.items seen.names seen.each now.names stays old.from old.margin late
          (λ i d lt. let is = old.alike i d lt in (is.its_margin, is.its_from)) (λ i d lt. (new.alike i d lt).its_margin ∙ margin) (omega arith) has.each;
      came = came_still lines keys seen.as_many line key told has.came;
      all = λ q.
          subst (λ l. IsPermutation l (to_tell new.margin (Some new.from) (lines ++ line ∷ []) (keys ++ key ∷ []) q)) (sym (at_still lines keys seen.as_many line key told has.came q))
          (subst (λ m. IsPermutation (at_key keys q told) (to_tell m (Some new.from) (lines ++ line ∷ []) (keys ++ key ∷ []) q)) (sym margin)
          (subst (λ f. IsPermutation (at_key keys q told) (to_tell old.margin (Some f) (lines ++ line ∷ []) (keys ++ key ∷ []) q)) (sym from)
          (subst (IsPermutation (at_key keys q told)) (sym (to_tell_still lines keys seen.as_many line key told has.came q old.margin old.from late)) (has.all q))));
    }

-- ---- what has been told in all is what an audit finds up to where all have settled

pub filters_swap : (p q : Found → Bool) (xs : List Found) → filter p (filter q xs) ≡ filter q (filter p xs)
filters_swap p q xs = filter_both p q xs ∙ (filter_agree (λ x. q x && p x) (λ x. p x && q x) (λ x. and_other (q x) (p x)) xs ∙ sym (filter_both q p xs))

pub filter_same : {X : Type 0} (p q : X → Bool) (xs : List X) → All (λ x. p x ≡ q x) xs → filter p xs ≡ filter q xs
filter_same p q [] same = refl
filter_same {X} p q (x ∷ xs) same =
    ap (λ b. cond b (x ∷ filter p xs) (filter p xs)) (All-head (λ x. p x ≡ q x) x xs same)
    ∙ ap (λ (l : List X). cond (q x) (x ∷ l) l) (filter_same p q xs (All-tail (λ x. p x ≡ q x) x xs same))

-- of a key it is what there is to tell of it
pub audited_to_of : (margin to : ℕ) (lines : List Line) (keys : List (Option ℕ)) (q : Option ℕ) → length keys ≡ length lines
    → at_key keys q (audited_to margin to lines keys) ≡ to_tell margin (Some to) lines keys q
audited_to_of margin to lines keys q as_many =
    let its = λ (found : Found). option_eq ◌==◌ (key_at keys found.place) q in
    let before = λ (found : Found). begins_before (Some to) (line_at lines found.place) in
    let places = places_of keys q in
    let mine = lines_of_one lines keys q in
    let place = placed_found places in
    let found = told_of margin (is_due 0 0 0 None) mine in
    let size = length-map places (line_at lines) in
    filters_swap its before (audited margin lines keys)
    ∙ (ap (filter before) (audited_of margin lines keys q as_many)
    ∙ (filter_mapped before place found
    ∙ (ap (map place) (filter_same (λ (one : Found). before (place one)) (λ (one : Found). begins_before (Some to) (line_at mine one.place)) found (λ k d lt.
    let there = told_there margin (is_due 0 0 0 None) mine k d lt in
    ap (begins_before (Some to)) (sym (at_part lines places (get_or found k d).place (omega (arith, there, size))))))
    ∙ ap (map place) (sym (told_before margin 0 0 0 to None mine tt)))))

pub at_lines : (log : Lines) (keys : List (Option ℕ)) (opts : AuditOpts) (n : ℕ) → All (λ (found : Found). found.place < n) (faults_below_by_key log keys opts n)
at_lines log keys opts zero = All-nil (λ (found : Found). found.place < 0)
at_lines log keys opts (suc n) =
    All-append (λ (found : Found). found.place < suc n) (faults_below_by_key log keys opts n) (faults_at_by_key log keys opts n)
    (All-weaker (λ (found : Found). found.place < n) (λ (found : Found). found.place < suc n) (λ found lt. omega (arith, lt)) (faults_below_by_key log keys opts n) (at_lines log keys opts n))
    (All-map (λ (found : Found). found.place < suc n) (placed_at n) (faults_at (case_of_key log keys opts (key_at keys n)) (place_among keys n)) (λ k d lt. omega arith))

pub audited_there : (margin to : ℕ) (lines : List Line) (keys : List (Option ℕ)) → All (λ (found : Found). found.place < length lines) (audited_to margin to lines keys)
audited_there margin to lines keys =
    let is = λ (found : Found). found.place < length lines in
    let all = faults_by_key (with_times lines) keys (opts_of margin) in
    All-filter (λ (found : Found). begins_before (Some to) (line_at lines found.place)) is (audited margin lines keys)
    (All-filter (λ (found : Found). is_watched found.fault) is all (at_lines (with_times lines) keys (opts_of margin) (length lines)))

-- all that was told, each once
pub told_is : (watch : KeyWatch) (lines : List Line) (keys : List (Option ℕ)) (told : List Found) → HasSeenByKey watch lines keys → HasTold watch lines keys told
    → IsPermutation told (audited_to watch.margin watch.from lines keys)
told_is watch lines keys told seen has =
    permuted_by_key (λ (found : Found). key_at keys found.place) (length told) told (audited_to watch.margin watch.from lines keys) (omega arith) (λ q.
    subst (IsPermutation (at_key keys q told)) (sym (audited_to_of watch.margin watch.from lines keys q seen.as_many)) (has.all q))

-- and so it may as well be said to have been told that
pub told_so : (watch : KeyWatch) (lines : List Line) (keys : List (Option ℕ)) (told : List Found) → HasSeenByKey watch lines keys → HasTold watch lines keys told
    → HasTold watch lines keys (audited_to watch.margin watch.from lines keys)
told_so watch lines keys told seen has =
    let all = audited_to watch.margin watch.from lines keys in
    let its = λ (q : Option ℕ). audited_to_of watch.margin watch.from lines keys q seen.as_many in
    record {
      each = λ i d lt.
          let part = get_or watch.parts.items i d in
          let had = has.each i d lt in
          let mine = to_tell watch.margin (Some watch.from) lines keys part.key in
          record {
            once = IsPermutation-trans (at_key keys part.key all) (at_key keys part.key told) (to_tell part.watch.margin (Some part.watch.from) lines keys part.key)
                (subst (λ l. IsPermutation l (at_key keys part.key told)) (sym (its part.key)) (IsPermutation-sym (at_key keys part.key told) mine (has.all part.key)))
                had.once;
            in_time = had.in_time;
          };
      came = audited_there watch.margin watch.from lines keys;
      all = λ q. subst (λ l. IsPermutation l (to_tell watch.margin (Some watch.from) lines keys q)) (sym (its q)) (IsPermutation-refl (to_tell watch.margin (Some watch.from) lines keys q));
    }
