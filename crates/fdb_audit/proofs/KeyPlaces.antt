-- Where the lines of a key stand.
use Rattle.std.specs.Prelude.{◌==◌}
use Rattle.std.specs.Option.{option_eq}
use Rattle.std.proofs.Common.{◌≡◌, ◌∙◌, ℕ, zero, suc, ◌<◌, Bool, true, false, cond, List, [], ◌∷◌, ◌++◌, Option, None, Some, ap, append-nil, arith, inl, inr, length, length-append, refl, slice_index, sym}
use Rattle.std.proofs.lemmas.Bool.{both_ways, cases_lt, eqb-true}
use Rattle.std.proofs.lemmas.Bool.Decides.{nat_tests}
use Rattle.std.proofs.lemmas.List.{get_or-map, get_or_append_left, get_or_push}
use Rattle.fdb_lines.specs.declared.line.Line.{Line}
use Rattle.fdb_lines.specs.Keys.{key_at, places_below}
use Rattle.fdb_lines.specs.Lines.{line_at, lines_in, nobody}

pub at_part : (lines : List Line) (places : List ℕ) (i : ℕ) → i < length places → line_at (lines_in lines places) i ≡ line_at lines (slice_index places i)
at_part lines places i lt = get_or-map (line_at lines) places i 0 nobody lt

pub same_is : (a b : Option ℕ) → option_eq ◌==◌ a b ≡ true → a ≡ b
same_is None None h = refl
same_is None (Some b) h = absurd (both_ways false refl h)
same_is (Some a) None h = absurd (both_ways false refl h)
same_is (Some a) (Some b) h = ap (λ (k : ℕ). Some k) (eqb-true a b h)

pub same_self : (a : Option ℕ) → option_eq ◌==◌ a a ≡ true
same_self None = refl
same_self (Some a) = grind (arith, nat_tests)

-- each line of the key has a place
abbrev HasPlace : List (Option ℕ) → Option ℕ → ℕ → List ℕ → Type 0
HasPlace keys key k places = (length (places_below keys key k) < length places) × (slice_index places (length (places_below keys key k)) ≡ k)

has_more : (keys : List (Option ℕ)) (key : Option ℕ) (n k : ℕ) (b : Bool) → option_eq ◌==◌ (key_at keys n) key ≡ b → option_eq ◌==◌ (key_at keys k) key ≡ true → k < suc n
    → (k < n → HasPlace keys key k (places_below keys key n)) → HasPlace keys key k (places_below keys key n ++ cond b (n ∷ []) [])
has_more keys key n k true here same lt has =
    let before = places_below keys key n in
    let len = length-append before (n ∷ []) in
    elim (cases_lt k n) [
      | inl old ↦ let is = has old in let within = is.0 in (omega arith, get_or_append_left before (n ∷ []) 0 _ within ∙ is.1)
      | inr ge ↦
          let at : k ≡ n = omega arith in
          let size : length (places_below keys key k) ≡ length before = ap (λ m. length (places_below keys key m)) at in
          (omega arith, get_or_push before n 0 _ (sym size) ∙ sym at)
    ]
has_more keys key n k false other same lt has =
    let old : k < n = elim (cases_lt k n) [
      | inl old ↦ old
      | inr ge ↦ let at : k ≡ n = omega arith in absurd (both_ways _ other (sym (ap (λ m. option_eq ◌==◌ (key_at keys m) key) at) ∙ same))
    ] in
    rw append-nil (has old)

pub has_place : (keys : List (Option ℕ)) (key : Option ℕ) (n k : ℕ) → option_eq ◌==◌ (key_at keys k) key ≡ true → k < n → HasPlace keys key k (places_below keys key n)
has_place keys key zero k same lt = absurd (omega arith)
has_place keys key (suc n) k same lt = has_more keys key n k (option_eq ◌==◌ (key_at keys n) key) refl same lt (λ old. has_place keys key n k same old)
