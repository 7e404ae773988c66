-- The numbers that texts write, and what a member says that may be a text or a number.
use Rattle.std.proofs.Common.{◌≡◌, ℕ, ◌^◌, ◌<◌, ◌&&◌, true, false, cond, nat_eq, nat_lt, List, [], ◌∷◌, length, drop, slice_get, decimal, Option, None, Some, Result, Ok, Err, option_map, option_and_then, if◌then◌else◌, refl, ap, subst, sym, ◌∙◌, arith, eqb-true, ltb-true}
use Rattle.std.proofs.lemmas.Bool.{and_parts}
use Rattle.std.proofs.lemmas.Bool.Decides.{nat_tests}
use Rattle.std.specs.Char.{digit_value}
use Rattle.std.specs.Option.{option_eq}
use Rattle.std.specs.Result.{OkIff, result_ok}
use Rattle.std.specs.declared.num.ParseIntError.{ParseIntError}
use Rattle.std.specs.Option.{option_or}
use Rattle.std.specs.Str.Parse.{AllDigits, IsNumeral, ParsesUnsigned, digits_value}
use Rattle.serde_json.specs.Data.{Data, null, boolean, number, string, array, object}
use Rattle.serde_json.specs.Find.{as_str}
use Rattle.fdb_log_reader.specs.Members.{are_digits, as_count, as_name, whole, written}

digits_are : (text : List ℕ) → AllDigits 10 text → are_digits text ≡ true
digits_are [] all = refl
digits_are (byte ∷ bytes) all = let rest = digits_are bytes all.1 in let first = all.0 in grind (arith, nat_tests)

are_all : (text : List ℕ) → are_digits text ≡ true → AllDigits 10 text
are_all [] is = tt
are_all (byte ∷ bytes) is = (grind (arith, nat_tests), are_all bytes (grind (arith, nat_tests)))

-- a text writes no number, unless it is a numeral below 2^64
none_written : (text : List ℕ) → ¬ (IsNumeral 10 text × (digits_value 10 text < 2 ^ 64)) → written text ≡ None
none_written text not =
    elim (nat_lt 0 (length text) && (are_digits text && nat_lt (digits_value 10 text) (2 ^ 64))) as (λ b. (nat_lt 0 (length text) && (are_digits text && nat_lt (digits_value 10 text) (2 ^ 64))) ≡ b → (if b then Some (digits_value 10 text) else None) ≡ None) [
      | true ↦ λ is. let some = and_parts _ _ is in let rest = and_parts _ _ some.1 in absurd (not ((ltb-true 0 (length text) some.0, are_all text rest.0), ltb-true (digits_value 10 text) (2 ^ 64) rest.1))
      | false ↦ λ _. refl
    ] refl

some_written : (text : List ℕ) → IsNumeral 10 text → digits_value 10 text < 2 ^ 64 → written text ≡ Some (digits_value 10 text)
some_written text numeral below =
    let digits = digits_are text numeral.1 in
    let some : nat_lt 0 (length text) ≡ true = let has = numeral.0 in grind (arith, nat_tests) in
    let small : nat_lt (digits_value 10 text) (2 ^ 64) ≡ true = grind (arith, nat_tests) in
    ap (λ b. if b && (are_digits text && nat_lt (digits_value 10 text) (2 ^ 64)) then Some (digits_value 10 text) else None) some
    ∙ (ap (λ b. if b && nat_lt (digits_value 10 text) (2 ^ 64) then Some (digits_value 10 text) else None) digits
    ∙ ap (λ b. if b then Some (digits_value 10 text) else None) small)

parsed_is : (text : List ℕ) (parsed : Result ℕ ParseIntError) → OkIff parsed (IsNumeral 10 text × (digits_value 10 text < 2 ^ 64)) (digits_value 10 text) → result_ok parsed ≡ written text
parsed_is text (Ok n) is = ap Some is.1 ∙ sym (some_written text is.0.0 is.0.1)
parsed_is text (Err e) not = sym (none_written text not)

-- what is parsed of a text that no plus begins is what it writes
pub without_plus : (text : List ℕ) (parsed : Result ℕ ParseIntError) → option_eq nat_eq (slice_get text 0) (Some 43) ≡ false → ParsesUnsigned 64 10 text parsed → result_ok parsed ≡ written text
without_plus [] parsed none is = parsed_is [] parsed is
without_plus (byte ∷ bytes) parsed none is = parsed_is (byte ∷ bytes) parsed (subst (λ b. OkIff parsed (IsNumeral 10 (drop (cond b 1 0) (byte ∷ bytes)) × (digits_value 10 (drop (cond b 1 0) (byte ∷ bytes)) < 2 ^ 64)) (digits_value 10 (drop (cond b 1 0) (byte ∷ bytes)))) none is)

-- and one that a plus begins writes none
pub with_plus : (text : List ℕ) → option_eq nat_eq (slice_get text 0) (Some 43) ≡ true → written text ≡ None
with_plus [] some = refl
with_plus (byte ∷ bytes) some = none_written (byte ∷ bytes) (λ is. let plus = eqb-true byte 43 some in let digit : digit_value 43 < 10 = subst (λ b. digit_value b < 10) plus is.0.1.0 in absurd (omega arith))

-- ---- a text or a number

pub count_said : (said : Option Data) → option_and_then as_count said ≡ option_or (option_and_then written (option_and_then as_str said)) (option_and_then whole said)
count_said None = refl
count_said (Some null) = refl
count_said (Some (boolean _)) = refl
count_said (Some (number _)) = refl
count_said (Some (string _)) = refl
count_said (Some (array _)) = refl
count_said (Some (object _)) = refl

pub name_said : (said : Option Data) → option_and_then as_name said ≡ option_or (option_and_then as_str said) (option_map decimal (option_and_then whole said))
name_said None = refl
name_said (Some null) = refl
name_said (Some (boolean _)) = refl
name_said (Some (number _)) = refl
name_said (Some (string _)) = refl
name_said (Some (array _)) = refl
name_said (Some (object _)) = refl
