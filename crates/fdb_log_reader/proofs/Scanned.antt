-- The parts of a line in the usual form.
use Rattle.std.proofs.Common.{◌≡◌, ℕ, zero, suc, ◌+◌, ◌-◌, ◌*◌, ◌/◌, ◌%◌, ◌^◌, ◌<◌, ◌≤◌, true, List, [], ◌∷◌, ◌++◌, length, take, drop, slice_index, decimal, ◌⊎◌, inl, inr, refl, sym, ap, ap₂, ◌∙◌, arith, append_assoc}
use Rattle.std.proofs.lemmas.Bool.Decides.{nat_tests}
use Rattle.std.proofs.lemmas.Fmt.{decimal_digit, decimal_step}
use Rattle.std.proofs.Math.Seq.{take-suc}
use Rattle.std.proofs.lemmas.List.{length-drop, take_all}
use Rattle.json.specs.Print.{escape, quoted}
use Rattle.json.specs.Run.{is_plain}
use Rattle.json.proofs.Printed.Strings.{escape_byte_plain}

no_quote : (x : ℕ) → is_plain x ≡ true → x ≡ 34 → ⊥
no_quote x plain e = grind (arith, nat_tests)

no_backslash : (x : ℕ) → is_plain x ≡ true → x ≡ 92 → ⊥
no_backslash x plain e = grind (arith, nat_tests)

no_control : (x : ℕ) → is_plain x ≡ true → 32 ≤ x
no_control x plain = grind (arith, nat_tests)

-- plain bytes stand for themselves
escape_plain : (bytes : List ℕ) (end : ℕ) → end ≤ length bytes → ((k : ℕ) → k < end → is_plain (slice_index bytes k) ≡ true) → escape (take end bytes) ≡ take end bytes
escape_plain bytes zero within plain = refl
escape_plain [] (suc end) within plain = absurd (omega arith)
escape_plain (x ∷ bytes) (suc end) within plain =
    let first = plain 0 (omega arith) in
    ap₂ ◌++◌ (escape_byte_plain x (no_quote x first) (no_backslash x first) (no_control x first))
    (escape_plain bytes end (omega arith) (λ k lt. plain (suc k) (omega arith)))

cut : (bytes : List ℕ) (end : ℕ) → end < length bytes → bytes ≡ take end bytes ++ slice_index bytes end ∷ drop (suc end) bytes
cut [] end within = absurd (omega arith)
cut (x ∷ bytes) zero within = refl
cut (x ∷ bytes) (suc end) within = ap (λ l. x ∷ l) (cut bytes end (omega arith))

-- a text that a quote ends
pub text_ends : (bytes text : List ℕ) (end : ℕ) → end < length bytes → ((k : ℕ) → k < end → is_plain (slice_index bytes k) ≡ true)
    → slice_index bytes end ≡ 34 → text ≡ take end bytes → bytes ≡ escape text ++ 34 ∷ take (length bytes - (end + 1)) (drop (end + 1) bytes)
text_ends bytes text end within plain quote front =
    let next : suc end ≡ end + 1 = omega arith in
    let all : take (length bytes - (end + 1)) (drop (end + 1) bytes) ≡ drop (end + 1) bytes = take_all (length bytes - (end + 1)) (drop (end + 1) bytes) (omega (arith, length-drop (end + 1) bytes)) in
    cut bytes end within
    ∙ ap₂ ◌++◌ (sym (ap escape front ∙ escape_plain bytes end (omega arith) plain)) (ap₂ ◌∷◌ quote (ap (λ n. drop n bytes) next ∙ sym all))

-- the digits of a number, one more of which is read
pub digits_more : (bytes : List ℕ) (end number : ℕ) → end < length bytes → 48 ≤ slice_index bytes end → slice_index bytes end ≤ 57
    → ((end ≡ 0) × (number ≡ 0)) ⊎ ((0 < end) × (take end bytes ≡ decimal number)) → (0 < end → 0 < number) → number * 10 + (slice_index bytes end - 48) < 2 ^ 64
    → take (end + 1) bytes ≡ decimal (number * 10 + (slice_index bytes end - 48))
digits_more bytes end number within low high (inl none) some small =
    let x = slice_index bytes end in
    let next : end + 1 ≡ suc end = omega arith in
    let is : number * 10 + (x - 48) ≡ x - 48 = omega (arith, none.1) in
    let digit : 48 + (x - 48) ≡ x = omega arith in
    let front : take end bytes ≡ [] = ap (λ n. take n bytes) none.0 in
    ap (λ n. take n bytes) next ∙ take-suc bytes end 0 within ∙ ap (λ l. l ++ x ∷ []) front
    ∙ sym (ap decimal is ∙ decimal_digit (x - 48) (omega arith) ∙ ap (λ d. d ∷ []) digit)
digits_more bytes end number within low high (inr (begun, front)) some small =
    let positive : 0 < number = some begun in
    let x = slice_index bytes end in
    let n = number * 10 + (x - 48) in
    let next : end + 1 ≡ suc end = omega arith in
    let above : n / 10 ≡ number = omega arith in
    let last : 48 + n % 10 ≡ x = omega arith in
    digits_on (take end bytes) (take (end + 1) bytes) number x (ap (λ m. take m bytes) next ∙ take-suc bytes end 0 within) front (omega arith) small above last
  where
    digits_on : (before bytes : List ℕ) (number x : ℕ) → bytes ≡ before ++ x ∷ [] → before ≡ decimal number → 10 ≤ number * 10 + (x - 48) → number * 10 + (x - 48) < 2 ^ 64
        → (number * 10 + (x - 48)) / 10 ≡ number → 48 + (number * 10 + (x - 48)) % 10 ≡ x → bytes ≡ decimal (number * 10 + (x - 48))
    digits_on before bytes number x is front large small above last =
        is ∙ ap₂ (λ l d. l ++ d ∷ []) (front ∙ sym (ap decimal above)) (sym last) ∙ sym (decimal_step (number * 10 + (x - 48)) large small)

-- a text in its quotes, and what comes behind
pub quoted_then : (bytes rest text after : List ℕ) → bytes ≡ 34 ∷ rest → rest ≡ escape text ++ 34 ∷ after → bytes ≡ quoted text ++ after
quoted_then bytes rest text after first is = first ∙ ap (λ l. 34 ∷ l) (is ∙ sym (append_assoc (escape text) (34 ∷ []) after))
