-- How far each key has settled.
use Rattle.std.specs.Option.{option_eq}
use Rattle.std.proofs.Common.{◌≡◌, ◌≢◌, ◌==◌, ℕ, zero, suc, ◌<◌, Bool, true, false, cond, List, [], ◌∷◌, ◌++◌, Option, None, Some, length, set, get_or, refl, ap, sym, subst, ◌∙◌, inl, inr, arith}
use Rattle.std.specs.List.{All}
use Rattle.std.proofs.lemmas.Bool.{both_ways, false_from_ne_true}
use Rattle.std.proofs.lemmas.List.{get_or-map, length-map}
use Rattle.fdb_lines.specs.declared.key_part.KeyPart.{KeyPart}
use Rattle.fdb_lines.specs.declared.key_part.SettledKey.{SettledKey}
use Rattle.fdb_lines.specs.declared.key_watch.KeyWatch.{KeyWatch}
use Rattle.fdb_lines.specs.declared.line.Line.{Line}
use Rattle.fdb_lines.specs.KeyParts.{lines_of_one, names_of, HasSeenOne, HasStayed}
use Rattle.fdb_lines.specs.Keys.{key_at, keys_of, places_of}
use Rattle.fdb_lines.specs.KeyWatch.{AreTold, GoesTo, HasEntry, HasSeenByKey, SettledTo, SettlesOrStays, not_settled, settled_in, settled_of}
use Rattle.fdb_lines.specs.Lines.{line_at}
use Rattle.fdb_lines.specs.private.KeyParts.{StaysAt}
use Rattle.fdb_lines.proofs.Keyed.{has_lines, has_none, same_is, same_self}

abbrev key_is : KeyPart → Option ℕ
key_is part = part.key

abbrev entry_key : SettledKey → Option ℕ
entry_key entry = entry.key

abbrev settled_at : ℕ → ℕ → SettledTo
settled_at from come = record { to = Some from; come = come }

either : {X : Type 0} (b : Bool) (x : X) → cond b x x ≡ x
either true x = refl
either false x = refl

-- ---- with a line more

pub far_is : (old new : KeyPart) → HasStayed old new → settled_of new ≡ settled_of old
far_is old new stay = ap (λ from. settled_at from new.watch.settled) stay.from ∙ ap (settled_at old.watch.from) stay.settled

far_set : (place : ℕ) (old : List KeyPart) (part : KeyPart) (key : Option ℕ) → place < length old → HasStayed (get_or old place part) part
    → settled_in (set old place part) key ≡ settled_in old key
far_set place [] part key lt stay = absurd (omega arith)
far_set zero (one ∷ old) part key lt stay =
    ap (λ name. cond (option_eq ◌==◌ name key) (settled_of part) (settled_in old key)) stay.key
    ∙ ap (λ far. cond (option_eq ◌==◌ one.key key) far (settled_in old key)) (far_is one part stay)
far_set (suc place) (one ∷ old) part key lt stay = ap (cond (option_eq ◌==◌ one.key key) (settled_of one)) (far_set place old part key (omega arith) stay)

pub far_at : (place : ℕ) (old new : List KeyPart) → place < length old → StaysAt place old new → (key : Option ℕ) → settled_in new key ≡ settled_in old key
far_at place old new lt (part, stay, same, is) key = ap (λ parts. settled_in parts key) is ∙ far_set place old part key lt stay

pub far_first : (old : List KeyPart) (part : KeyPart) → settled_of part ≡ not_settled → (key : Option ℕ) → settled_in (old ++ part ∷ []) key ≡ settled_in old key
far_first [] part none key = ap (λ far. cond (option_eq ◌==◌ part.key key) far not_settled) none ∙ either (option_eq ◌==◌ part.key key) not_settled
far_first (one ∷ old) part none key = ap (cond (option_eq ◌==◌ one.key key) (settled_of one)) (far_first old part none key)

-- ---- each key has one part

far_there : (parts : List KeyPart) (i : ℕ) (d : KeyPart) → i < length parts → ((j : ℕ) → j < i → (get_or parts j d).key ≢ (get_or parts i d).key)
    → settled_in parts (get_or parts i d).key ≡ settled_of (get_or parts i d)
far_there [] i d lt apart = absurd (omega arith)
far_there (part ∷ parts) zero d lt apart = ap (λ b. cond b (settled_of part) (settled_in parts part.key)) (same_self part.key)
far_there (part ∷ parts) (suc i) d lt apart =
    let key = (get_or parts i d).key in
    ap (λ b. cond b (settled_of part) (settled_in parts key)) (false_from_ne_true _ (λ same. apart 0 (omega arith) (same_is part.key key same)))
    ∙ far_there parts i d (omega arith) (λ j less. apart (suc j) (omega arith))

pub far_each : (parts : List KeyPart)
    → ((i j : ℕ) → i < length (names_of parts) → j < length (names_of parts) → key_at (names_of parts) i ≡ key_at (names_of parts) j → i ≡ j)
    → All (λ (part : KeyPart). settled_in parts part.key ≡ settled_of part) parts
far_each parts once i d lt =
    let size = length-map parts key_is in
    far_there parts i d lt (λ j less same.
    let one : j < length parts = omega arith in
    let at : j ≡ i = once j i (omega (arith, size)) (omega (arith, size)) (get_or-map key_is parts j d None one ∙ (same ∙ sym (get_or-map key_is parts i d None lt))) in
    absurd (omega arith))

-- ---- a key without lines

none_in : (parts : List KeyPart) (key : Option ℕ) → ((i : ℕ) → i < length (names_of parts) → key_at (names_of parts) i ≢ key) → settled_in parts key ≡ not_settled
none_in [] key none = refl
none_in (part ∷ parts) key none =
    ap (λ b. cond b (settled_of part) (settled_in parts key)) (false_from_ne_true _ (λ same. none 0 (omega arith) (same_is part.key key same)))
    ∙ none_in parts key (λ i lt. none (suc i) (omega arith))

pub far_none : (watch : KeyWatch) (lines : List Line) (keys : List (Option ℕ)) → HasSeenByKey watch lines keys → (key : Option ℕ) → length (lines_of_one lines keys key) ≡ 0
    → settled_in watch.parts.items key ≡ not_settled
far_none watch lines keys seen key none =
    none_in watch.parts.items key (λ i lt same.
    let some = has_lines keys (length keys) i (subst (λ (ks : List (Option ℕ)). i < length ks) seen.names lt) in
    let its : 0 < length (places_of keys key) = subst (λ q. 0 < length (places_of keys q)) (ap (λ ks. key_at ks i) (sym seen.names) ∙ same) some in
    absurd (omega (arith, none, length-map (places_of keys key) (line_at lines))))

-- ---- when all settle

none_more : (names : List (Option ℕ)) (one key : Option ℕ) → one ≢ key → ((i : ℕ) → i < length names → key_at names i ≢ key)
    → (i : ℕ) → i < length (one ∷ names) → key_at (one ∷ names) i ≢ key
none_more names one key other none zero lt = other
none_more names one key other none (suc i) lt = none i (omega arith)

module _ (to : ℕ) (lines : List Line) (keys : List (Option ℕ)) (entries : List SettledKey) (key : Option ℕ) where
  abbrev come : ℕ
  come = length (lines_of_one lines keys key)

  abbrev Goes : SettledTo → SettledTo → Type 0
  Goes = GoesTo to come entries key

  goes_one : (old new : KeyPart) → old.key ≡ key → HasSeenOne lines keys old → SettlesOrStays to lines keys entries old new → Goes (settled_of old) (settled_of new)
  goes_one old new is seen (inl (entry, on)) =
      inl (
        subst (HasEntry entries) is entry,
        ap (λ from. settled_at from new.watch.settled) on.from
            ∙ ap (settled_at to) (on.settled ∙ (seen.seen.count ∙ ap (λ q. length (lines_of_one lines keys q)) is)),
      )
  goes_one old new is seen (inr quiet) =
      inr (
        (λ entry. quiet.no_entry (subst (HasEntry entries) (sym is) entry)),
        ap settled_of quiet.same,
        quiet.none_came ∙ (seen.seen.count ∙ ap (λ q. length (lines_of_one lines keys q)) is),
      )

  key_on : (old new : KeyPart) → SettlesOrStays to lines keys entries old new → new.key ≡ old.key
  key_on old new (inl (entry, on)) = on.key
  key_on old new (inr quiet) = ap key_is quiet.same

  goes_each : (old new : List KeyPart) → length new ≡ length old → All (HasSeenOne lines keys) old
      → ((i : ℕ) (d : KeyPart) → i < length old → SettlesOrStays to lines keys entries (get_or old i d) (get_or new i d))
      → (((i : ℕ) → i < length (names_of old) → key_at (names_of old) i ≢ key) → (HasEntry entries key → ⊥) × (come ≡ 0)) → Goes (settled_in old key) (settled_in new key)
  goes_each [] [] size each goes rest = let it = rest (λ i lt. absurd (omega arith)) in inr (it.0, refl, sym it.1)
  goes_each [] (n ∷ new) size each goes rest = absurd (omega (arith, size))
  goes_each (o ∷ old) [] size each goes rest = absurd (omega (arith, size))
  goes_each (o ∷ old) (n ∷ new) size each goes rest =
      let same = key_on o n (goes 0 o (omega arith)) in
      subst (λ name. Goes (cond (option_eq ◌==◌ o.key key) (settled_of o) (settled_in old key)) (cond (option_eq ◌==◌ name key) (settled_of n) (settled_in new key))) (sym same)
      (by (option_eq ◌==◌ o.key key) refl (λ other.
      goes_each old new (omega (arith, size)) (λ i d lt. each (suc i) d (omega arith)) (λ i d lt. goes (suc i) d (omega arith))
      (λ none. rest (none_more (names_of old) o.key key (λ same. both_ways _ other (ap (λ name. option_eq ◌==◌ name key) same ∙ same_self key)) none))))
    where
      by : (b : Bool) → option_eq ◌==◌ o.key key ≡ b → (option_eq ◌==◌ o.key key ≡ false → Goes (settled_in old key) (settled_in new key))
          → Goes (cond b (settled_of o) (settled_in old key)) (cond b (settled_of n) (settled_in new key))
      by true is on = goes_one o n (same_is o.key key is) (each 0 o (omega arith)) (goes 0 o (omega arith))
      by false is on = on is

pub far_on : (to : ℕ) (lines : List Line) (keys : List (Option ℕ)) (entries : List SettledKey) (old new : List KeyPart) (key : Option ℕ) → length new ≡ length old
    → names_of old ≡ keys_of keys → All (HasSeenOne lines keys) old
    → ((i : ℕ) (d : KeyPart) → i < length old → SettlesOrStays to lines keys entries (get_or old i d) (get_or new i d)) → AreTold (Some to) lines keys old entries
    → GoesTo to (length (lines_of_one lines keys key)) entries key (settled_in old key) (settled_in new key)
far_on to lines keys entries old new key size named each goes told =
    goes_each to lines keys entries key old new size each goes (λ none. (
      λ has.
          let j = has.0 in
          let less = has.1 in
          let within : j < length entries = omega (arith, length-map entries entry_key) in
          let e = some_of entries within in
          let it = told.each j e within in
          let d = some_of old it.1 in
          let lt = it.1 in
          none it.0 (omega (arith, length-map old key_is))
          (get_or-map key_is old it.0 d None lt ∙ (sym (it.2 d).key ∙ (sym (get_or-map entry_key entries j e key within) ∙ has.2))),
      length-map (places_of keys key) (line_at lines) ∙ has_none keys (length keys) key (λ i lt is.
          none i (subst (λ (ks : List (Option ℕ)). i < length ks) (sym named) lt) (ap (λ ks. key_at ks i) named ∙ is)),
    ))
  where
    some_of : {X : Type 0} (xs : List X) {i : ℕ} → i < length xs → X
    some_of [] lt = absurd (omega arith)
    some_of (x ∷ xs) lt = x
