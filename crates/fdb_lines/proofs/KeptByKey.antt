-- The lines that are kept of all keys.
use Rattle.std.proofs.Common.{◌≡◌, ℕ, zero, suc, ◌<◌, ◌≤◌, List, [], ◌∷◌, ◌++◌, Option, length, map, slice_index, take, refl, ap, sym, subst, ◌∙◌, add-one, arith}
use Rattle.std.specs.List.{All, flat_map}
use Rattle.std.proofs.lemmas.List.{get_or-map, length-map, map-append, take_all, take_more}
use Rattle.std.proofs.lemmas.List.Elements.{All-append, All-cons, All-nil}
use Rattle.fdb_lines.specs.declared.key_part.KeptLine.{KeptLine}
use Rattle.fdb_lines.specs.declared.key_part.KeyPart.{KeyPart}
use Rattle.fdb_lines.specs.declared.line.Line.{Line}
use Rattle.fdb_lines.specs.KeyParts.{HasSeenOne}
use Rattle.fdb_lines.specs.Keys.{key_at, places_of}
use Rattle.fdb_lines.specs.KeyWatch.{AreKept, IsKept}
use Rattle.fdb_lines.specs.Lines.{line_at, lines_in}
use Rattle.fdb_lines.specs.private.KeyParts.{kept_at, kept_below, kept_in_part}
use Rattle.fdb_lines.proofs.Carried.{at_part, fewer_are}
use Rattle.fdb_lines.proofs.Keyed.{place_is, same_is}

abbrev number_is : KeptLine → ℕ
number_is kept = kept.number

abbrev numbers_are : KeyPart → List ℕ
numbers_are part = part.numbers.items

-- ---- of a part

module _ (lines : List Line) (keys : List (Option ℕ)) (as_many : length keys ≡ length lines) (part : KeyPart) (has : HasSeenOne lines keys part) where
  abbrev mine : List ℕ
  mine = places_of keys part.key

  abbrev its : ℕ → ℕ
  its i = slice_index part.watch.numbers.items i

  its_lines : part.watch.log.lines.items ≡ lines_in lines part.numbers.items
  its_lines = has.seen.kept ∙ (fewer_are lines mine part.watch.numbers.items has.seen.stand.within ∙ ap (lines_in lines) (sym has.numbers))

  its_number : (i : ℕ) → i < length part.watch.numbers.items → slice_index part.numbers.items i ≡ slice_index mine (its i)
  its_number i lt = ap (λ ns. slice_index ns i) has.numbers ∙ get_or-map (slice_index mine) part.watch.numbers.items i 0 0 lt

  is_kept : (i : ℕ) → i < length part.numbers.items → IsKept lines keys (kept_at part i)
  is_kept i lt =
      let many = part.as_many in
      let size = length-map mine (line_at lines) in
      let inside : i < length part.watch.numbers.items = omega arith in
      let within = has.seen.stand.within i inside in
      let is = place_is keys part.key (length keys) (its i) (omega arith) in
      let low = is.0 in
      record {
        came = subst (λ k. k < length lines) (sym (its_number i inside)) (omega arith);
        key = sym (ap (key_at keys) (its_number i inside) ∙ same_is _ _ is.1);
        line = ap (λ (ls : List Line). line_at ls i) its_lines ∙ at_part lines part.numbers.items i lt;
      }

  kept_are : (n : ℕ) → n ≤ length part.numbers.items → All (IsKept lines keys) (kept_below part n)
  kept_are zero le = All-nil (IsKept lines keys)
  kept_are (suc n) le =
      All-append (IsKept lines keys) (kept_below part n) (kept_at part n ∷ []) (kept_are n (omega arith))
      (All-cons (IsKept lines keys) (kept_at part n) [] (is_kept n (omega arith)) (All-nil (IsKept lines keys)))

numbers_below : (part : KeyPart) (n : ℕ) → n ≤ length part.numbers.items → map number_is (kept_below part n) ≡ take n part.numbers.items
numbers_below part zero le = refl
numbers_below part (suc n) le =
    map-append number_is (kept_below part n) (kept_at part n ∷ [])
    ∙ (ap (λ (ns : List ℕ). ns ++ slice_index part.numbers.items n ∷ []) (numbers_below part n (omega arith))
    ∙ (sym (take_more part.numbers.items n 0 (omega arith)) ∙ ap (λ m. take m part.numbers.items) (add-one n)))

numbers_of_part : (part : KeyPart) → map number_is (kept_in_part part) ≡ part.numbers.items
numbers_of_part part = numbers_below part (length part.numbers.items) (omega arith) ∙ take_all (length part.numbers.items) part.numbers.items (omega arith)

-- ---- of all

all_kept : (lines : List Line) (keys : List (Option ℕ)) → length keys ≡ length lines → (parts : List KeyPart) → All (HasSeenOne lines keys) parts
    → All (IsKept lines keys) (flat_map kept_in_part parts)
all_kept lines keys as_many [] each = All-nil (IsKept lines keys)
all_kept lines keys as_many (part ∷ parts) each =
    All-append (IsKept lines keys) (kept_in_part part) (flat_map kept_in_part parts)
    (kept_are lines keys as_many part (each 0 part (omega arith)) (length part.numbers.items) (omega arith))
    (all_kept lines keys as_many parts (λ k d lt. each (suc k) d (omega arith)))

all_numbers : (parts : List KeyPart) → map number_is (flat_map kept_in_part parts) ≡ flat_map numbers_are parts
all_numbers [] = refl
all_numbers (part ∷ parts) =
    map-append number_is (kept_in_part part) (flat_map kept_in_part parts)
    ∙ (ap (λ (ns : List ℕ). ns ++ map number_is (flat_map kept_in_part parts)) (numbers_of_part part)
    ∙ ap (λ (ns : List ℕ). part.numbers.items ++ ns) (all_numbers parts))

pub kept_by_key : (lines : List Line) (keys : List (Option ℕ)) (parts : List KeyPart) (kept : List KeptLine) → length keys ≡ length lines → All (HasSeenOne lines keys) parts
    → kept ≡ flat_map kept_in_part parts → AreKept lines keys parts kept
kept_by_key lines keys parts kept as_many each is = record {
  each = subst (All (IsKept lines keys)) (sym is) (all_kept lines keys as_many parts each);
  all = ap (map number_is) is ∙ all_numbers parts;
}
