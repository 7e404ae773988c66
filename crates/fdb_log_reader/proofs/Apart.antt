-- What comes behind a text that ends where a line does.
use Rattle.std.proofs.Common.{◌≡◌, ℕ, ◌≤◌, Bool, true, false, List, [], ◌∷◌, ◌++◌, length, length-append, inl, inr, refl, ap, sym, subst, ◌∙◌, arith, append_assoc, append-nil}
use Rattle.std.proofs.lemmas.Bool.{cases_lt}
use Rattle.std.proofs.lemmas.Bool.Decides.{nat_tests}
use Rattle.std.proofs.lemmas.List.Elements.{All-append, All-cons, All-nil}
use Rattle.fdb_log_reader.specs.private.{IsOneLine}
use Rattle.fdb_log_reader.specs.Reading.{EndsALine, is_line_feed, lines_in}
use Rattle.fdb_log_reader.proofs.Splitting.{first_line, last_line}

-- A text is one that ends where a line does, and then a line that has not ended.
record Parted (text : List ℕ) : Type 0 where
  fed : List ℕ
  line : List ℕ
  is : text ≡ fed ++ line
  one : IsOneLine line
  apart : (more : List ℕ) → lines_in (fed ++ more) ≡ lines_in fed ++ lines_in more

-- with a line and its feed in front
parted_on : (front text : List ℕ) → IsOneLine front → Parted text → Parted (front ++ 10 ∷ text)
parted_on front text one rest = record {
  fed = front ++ 10 ∷ rest.fed;
  line = rest.line;
  is = ap (λ (text : List ℕ). front ++ 10 ∷ text) rest.is ∙ sym (append_assoc front (10 ∷ rest.fed) rest.line);
  one = rest.one;
  apart = λ more.
      ap lines_in (append_assoc front (10 ∷ rest.fed) more)
      ∙ (first_line front (rest.fed ++ more) one
      ∙ (ap (λ (lines : List (List ℕ)). front ∷ lines) (rest.apart more) ∙ ap (λ (lines : List (List ℕ)). lines ++ lines_in more) (sym (first_line front rest.fed one))));
}

-- one more byte of a line
one_longer : (front : List ℕ) (byte : ℕ) → IsOneLine front → is_line_feed byte ≡ false → IsOneLine (front ++ byte ∷ [])
one_longer front byte one not =
    let is = λ (byte : ℕ). is_line_feed byte ≡ false in
    All-append is front (byte ∷ []) one (All-cons is byte [] not (All-nil is))

-- with a byte in front
parted_step : (front : List ℕ) (byte : ℕ) (text : List ℕ) → IsOneLine front → ((front : List ℕ) → IsOneLine front → Parted (front ++ text))
    → (b : Bool) → is_line_feed byte ≡ b → Parted (front ++ byte ∷ text)
parted_step front byte text one rest true feed =
    let same : byte ≡ 10 = grind (arith, nat_tests) in
    subst (λ (byte : ℕ). Parted (front ++ byte ∷ text)) (sym same) (parted_on front text one (rest [] (All-nil (λ byte. is_line_feed byte ≡ false))))
parted_step front byte text one rest false not = subst Parted (append_assoc front (byte ∷ []) text) (rest (front ++ byte ∷ []) (one_longer front byte one not))

parted : (front text : List ℕ) → IsOneLine front → Parted (front ++ text)
parted front [] one = record {
  fed = [];
  line = front;
  is = append-nil front;
  one = one;
  apart = λ more. refl;
}
parted front (byte ∷ text) one = parted_step front byte text one (λ front one. parted front text one) (is_line_feed byte) refl

one_with : (line : List ℕ) → IsOneLine line → length (lines_in (line ++ 32 ∷ [])) ≡ 1
one_with line one =
    let longer = line ++ 32 ∷ [] in
    let size = length-append line (32 ∷ []) in
    ap length (ap lines_in (sym (append-nil longer)) ∙ last_line longer (one_longer line 32 one refl) (omega (arith, size)))

nothing : (line : List ℕ) → length line ≤ 0 → line ≡ []
nothing [] none = refl
nothing (byte ∷ line) none = absurd (omega (arith, none))

pub goes_apart : (text more : List ℕ) → EndsALine text → lines_in (text ++ more) ≡ lines_in text ++ lines_in more
goes_apart text more ends =
    let all = parted [] text (All-nil (λ byte. is_line_feed byte ≡ false)) in
    let fed = all.fed in
    let line = all.line in
    let so_far = length (lines_in fed) in
    let whole : lines_in text ≡ lines_in fed ++ lines_in line = ap lines_in all.is ∙ all.apart line in
    let longer : lines_in (text ++ 32 ∷ []) ≡ lines_in fed ++ lines_in (line ++ 32 ∷ []) =
    ap (λ (text : List ℕ). lines_in (text ++ 32 ∷ [])) all.is ∙ (ap lines_in (append_assoc fed line (32 ∷ [])) ∙ all.apart (line ++ 32 ∷ [])) in
    let count = ap length whole ∙ length-append (lines_in fed) (lines_in line) in
    let count_longer = ap length longer ∙ length-append (lines_in fed) (lines_in (line ++ 32 ∷ [])) in
    let one = one_with line all.one in
    let none : length (lines_in line) ≡ 0 = omega (arith, count, count_longer, one, ends) in
    let empty : line ≡ [] = elim (cases_lt 0 (length line)) [
      | inl some ↦
          let is = ap length (ap lines_in (sym (append-nil line)) ∙ last_line line all.one some) in
          absurd (omega (arith, is, none))
      | inr ge ↦ nothing line ge
    ] in
    let is : text ≡ fed = all.is ∙ (ap (λ (line : List ℕ). fed ++ line) empty ∙ append-nil fed) in
    ap (λ (text : List ℕ). lines_in (text ++ more)) is ∙ (all.apart more ∙ ap (λ (text : List ℕ). lines_in text ++ lines_in more) (sym is))
