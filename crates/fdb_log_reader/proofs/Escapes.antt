-- The escape of a character, as a hole of four hex digits writes it.
use Rattle.std.proofs.Common.{◌≡◌, ℕ, zero, suc, ◌+◌, ◌-◌, ◌<◌, ◌≤◌, ◌^◌, ◌&&◌, Bool, true, false, List, [], ◌++◌, codes, refl, sym, subst, inl, inr, arith, leb-true, eqb-true}
use Rattle.std.proofs.lemmas.Bool.{and_parts, cases_eq, or_cases}
use Rattle.std.proofs.lemmas.Slice.Eq.{bytes_eq-Decides}
use Rattle.std.specs.Char.{is_control}
use Rattle.std.specs.Fmt.{char_count, digits, format_spec, padded_integral}
use Rattle.std.specs.Int.{is_in_range}
use Rattle.std.specs.Str.{bytes_eq}
use Rattle.fdb_log_reader.specs.Printed.{escaped, is_bidi_control, is_unprintable}

-- `\u`, and the digits as the hole writes them
abbrev pub written : ℕ → List ℕ
written c = codes "\\u" ++ padded_integral (format_spec 32 0 4 4 (2 ^ 64 - 1)) false [] (digits 16 false c)

-- so many characters from a first on have that escape
abbrev are_written : ℕ → ℕ → Bool
are_written first zero = true
are_written first (suc count) = bytes_eq (written (first + count)) (escaped (first + count)) && are_written first count

of_these : (first count : ℕ) → are_written first count ≡ true → (c : ℕ) → first ≤ c → c < first + count → written c ≡ escaped c
of_these first zero all c low high = absurd (omega arith)
of_these first (suc count) all c low high =
    let parts = and_parts _ _ all in
    elim (cases_eq c (first + count)) [
      | inl is ↦ subst (λ n. written n ≡ escaped n) (sym is) ((bytes_eq-Decides (written (first + count)) (escaped (first + count))).0 parts.0)
      | inr other ↦ of_these first count parts.1 c low (omega arith)
    ]

low_controls : are_written 0 32 ≡ true
unfolding digits padded_integral char_count
low_controls = refl

high_controls : are_written 0x7F 33 ≡ true
unfolding digits padded_integral char_count
high_controls = refl

letter_mark : are_written 0x061C 1 ≡ true
unfolding digits padded_integral char_count
letter_mark = refl

marks : are_written 0x200E 2 ≡ true
unfolding digits padded_integral char_count
marks = refl

separators : are_written 0x2028 2 ≡ true
unfolding digits padded_integral char_count
separators = refl

embeddings : are_written 0x202A 5 ≡ true
unfolding digits padded_integral char_count
embeddings = refl

isolates : are_written 0x2066 4 ≡ true
unfolding digits padded_integral char_count
isolates = refl

of_range : (first count : ℕ) → are_written first count ≡ true → (c last : ℕ) → last + 1 ≡ first + count → is_in_range first last c ≡ true → written c ≡ escaped c
of_range first count all c last ends is =
    let parts = and_parts _ _ is in
    let low = leb-true first c parts.0 in
    let high = leb-true c last parts.1 in
    of_these first count all c low (omega (arith, high, ends))

of_bidi : (c : ℕ) → is_bidi_control c ≡ true → written c ≡ escaped c
of_bidi c is = elim (or_cases _ _ is) [
  | inl before ↦ elim (or_cases _ _ before) [
    | inl first ↦ elim (or_cases _ _ first) [
      | inl mark ↦ let one : c ≡ 0x061C = eqb-true c 0x061C mark in of_these 0x061C 1 letter_mark c (omega arith) (omega arith)
      | inr mark ↦ of_range 0x200E 2 marks c 0x200F refl mark
    ]
    | inr embedding ↦ of_range 0x202A 5 embeddings c 0x202E refl embedding
  ]
  | inr isolate ↦ of_range 0x2066 4 isolates c 0x2069 refl isolate
]

of_control : (c : ℕ) → is_control c ≡ true → written c ≡ escaped c
of_control c is = elim (or_cases _ _ is) [
  | inl low ↦ of_range 0 32 low_controls c 0x1F refl low
  | inr high ↦ of_range 0x7F 33 high_controls c 0x9F refl high
]

pub escape_written : (c : ℕ) → is_unprintable c ≡ true → written c ≡ escaped c
escape_written c is = elim (or_cases _ _ is) [
  | inl before ↦ elim (or_cases _ _ before) [
    | inl control ↦ of_control c control
    | inr separator ↦ of_range 0x2028 2 separators c 0x2029 refl separator
  ]
  | inr bidi ↦ of_bidi c bidi
]
