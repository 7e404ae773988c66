-- Of each key all has been told that there is to tell: in a window, or there is nothing.
use Rattle.std.specs.Prelude.{◌==◌}
use Rattle.std.specs.Option.{option_eq}
use Rattle.std.proofs.Common.{◌≡◌, ◌⊎◌, ◌∙◌, ℕ, zero, suc, ◌-◌, ◌<◌, Bool, true, false, cond, List, [], ◌∷◌, ◌++◌, All, Option, None, Result, ap, append-nil, arith, inl, inr, length, map, refl, slice_index_or, subst, sym}
use Rattle.std.specs.List.{Contains}
use Rattle.std.proofs.lemmas.Bool.{cases_lt}
use Rattle.std.proofs.lemmas.Bool.Decides.{nat_tests}
use Rattle.std.proofs.lemmas.List.{get_or-map, get_or_default, length-map}
use Rattle.std.proofs.lemmas.List.Elements.{Contains-append_left, Contains-push}
use Rattle.fdb_lines.specs.declared.key_part.KeyPart.{KeyPart}
use Rattle.fdb_lines.specs.declared.key_part.SettledKey.{SettledKey}
use Rattle.fdb_lines.specs.declared.line.Line.{Line}
use Rattle.fdb_lines.specs.KeyParts.{lines_of_one, names_of}
use Rattle.fdb_lines.specs.Keys.{key_at, keys_below, keys_of, place_among, places_below}
use Rattle.fdb_lines.specs.KeyWatch.{HasEntry, HasNothingToTell, SettledTo, settled_in, settled_of}
use Rattle.fdb_lines.specs.Watching.{is_due, told_of}
use Rattle.fdb_log_reader.specs.declared.error.Why.{Why}
use Rattle.fdb_log_reader.specs.ReadLine.{SaidLine}
use Rattle.fdb_audit.specs.Following.{IsToldOff, Window, keys_taken, lines_taken, told_to}
use Rattle.fdb_audit.specs.private.Followed.{IsWatchedBy}
use Rattle.fdb_audit.proofs.InTurn.{entry_key, told_all, window_key}
use Rattle.fdb_audit.proofs.KeyPlaces.{same_is}

-- ---- the key of each line is among the keys

one_above : (keys : List (Option ℕ)) (key : Option ℕ) (n : ℕ) → 0 < length (places_below keys key n) → (j : ℕ) × (j < n) × (key_at keys j ≡ key)
one_above keys key zero some = absurd (omega (arith, some))
one_above keys key (suc n) some = by (option_eq ◌==◌ (key_at keys n) key) refl (one_above keys key n)
  where
    by : (b : Bool) → option_eq ◌==◌ (key_at keys n) key ≡ b → (0 < length (places_below keys key n) → (j : ℕ) × (j < n) × (key_at keys j ≡ key)) → (j : ℕ) × (j < suc n) × (key_at keys j ≡ key)
    by true same above = (n, omega arith, same_is (key_at keys n) key same)
    by false other above =
        let none : places_below keys key (suc n) ≡ places_below keys key n = ap (λ b. places_below keys key n ++ cond b (n ∷ []) []) other ∙ append-nil (places_below keys key n) in
        let size = ap length none in
        let (j, lt, is) = above (omega (arith, some, size)) in
        (j, omega (arith, lt), is)

named_below : (keys : List (Option ℕ)) (n k : ℕ) → k < n → Contains (keys_below keys n) (key_at keys k)
named_below keys zero k lt = absurd (omega (arith, lt))
named_below keys (suc n) k lt =
    let its = λ (b : Bool). cond {A = List (Option ℕ)} b (key_at keys n ∷ []) [] in
    let before = keys_below keys n in
    elim (cases_lt k n) [
      | inl old ↦ Contains-append_left before (its (place_among keys n == 0)) (key_at keys k) (named_below keys n k old)
      | inr ge ↦
          let at : k ≡ n = omega (arith, lt, ge) in
          subst (λ m. Contains (keys_below keys (suc n)) (key_at keys m)) (sym at) (last (place_among keys n == 0) refl (named_below keys n))
    ]
  where
    last : (b : Bool) → (place_among keys n == 0) ≡ b → ((k : ℕ) → k < n → Contains (keys_below keys n) (key_at keys k)) → Contains (keys_below keys n ++ cond b (key_at keys n ∷ []) []) (key_at keys n)
    last true first above = Contains-push (keys_below keys n) (key_at keys n)
    last false not above =
        let some : 0 < place_among keys n = grind (arith, nat_tests, not) in
        let (j, less, is) = one_above keys (key_at keys n) n some in
        Contains-append_left (keys_below keys n) [] (key_at keys n) (subst (Contains (keys_below keys n)) is (above j less))

pub named_of : (keys : List (Option ℕ)) (key : Option ℕ) → Contains keys key → Contains (keys_of keys) key
named_of keys key (k, lt, is) = subst (Contains (keys_of keys)) (get_or_default keys k None key lt ∙ is) (named_below keys (length keys) k lt)

-- ---- and so is its part

part_named : (parts : List KeyPart) (key : Option ℕ) → Contains (names_of parts) key → (i : ℕ) × (i < length parts) × ((d : KeyPart) → (slice_index_or parts i d).key ≡ key)
part_named parts key (i, lt, is) =
    let size = length-map parts (λ (part : KeyPart). part.key) in
    let less : i < length parts = omega (arith, lt, size) in
    (i, less, λ d. sym (get_or-map (λ (part : KeyPart). part.key) parts i d key less) ∙ is)

some_of : (parts : List KeyPart) → 0 < length parts → KeyPart
some_of [] lt = absurd (omega (arith, lt))
some_of (part ∷ parts) lt = part

module _ (margin behind : ℕ) (read : List (Result SaidLine Why)) (to : Option ℕ) (entries : List SettledKey) where
  abbrev Told : KeyPart → Type 0
  Told part = HasEntry entries part.key ⊎ HasNothingToTell to (lines_taken read) (keys_taken read) part

  abbrev its : Option ℕ → List Line
  its key = lines_of_one (lines_taken read) (keys_taken read) key

  -- where there is nothing to tell of a key, a window that went on would tell nothing
  nothing_told : (part : KeyPart) (key : Option ℕ) (now : SettledTo) → IsWatchedBy margin behind to part → part.key ≡ key → HasNothingToTell to (lines_taken read) (keys_taken read) part
      → now ≡ settled_of part → IsToldOff margin behind to (its key) now
  nothing_told part key now watched same nothing is =
      let due = λ (behind : ℕ). is_due part.watch.from (part.watch.from - behind) part.watch.settled to in
      let none : told_of margin (due behind) (its key) ≡ [] =
      sym (ap (λ margin. told_of margin (due part.watch.horizon) (its part.key)) watched.its_margin
      ∙ (ap (λ behind. told_of margin (due behind) (its part.key)) watched.its_horizon ∙ ap (λ key. told_of margin (due behind) (its key)) same)) ∙ nothing in
      subst (IsToldOff margin behind to (its key)) (sym is) (inr (part.watch.from, refl, none))

  pub told_off : (parts : List KeyPart) (far : Option ℕ → SettledTo) (windows : List Window) → All (IsWatchedBy margin behind to) parts
      → All (λ (part : KeyPart). settled_in parts part.key ≡ settled_of part) parts → All Told parts → names_of parts ≡ keys_of (keys_taken read)
      → ((key : Option ℕ) → settled_in parts key ≡ far key) → All (λ (window : Window). (window.read ≡ length read) × (window.to ≡ to)) windows
      → map window_key windows ≡ map entry_key entries → (key : Option ℕ) → Contains (keys_taken read) key → IsToldOff margin behind to (its key) (told_to read far windows key)
  told_off parts far windows watched apart told names same each keys key has =
      let (i, lt, is) = part_named parts key (subst (λ names. Contains names key) (sym names) (named_of (keys_taken read) key has)) in
      let d = some_of parts (omega (arith, lt)) in
      let part = slice_index_or parts i d in
      elim (told_all 0 read [] to far windows key each) [
        | inl (one, told) ↦ inl told
        | inr (none, still) ↦ elim (told i d lt) [
          | inl entry ↦ absurd (none (subst (λ keys. Contains keys key) (sym keys) (subst (Contains (map entry_key entries)) (is d) entry)))
          | inr nothing ↦ nothing_told part key (told_to read far windows key) (watched i d lt) (is d) nothing
              (still ∙ (sym (same key) ∙ (ap (settled_in parts) (sym (is d)) ∙ apart i d lt)))
        ]
      ]
