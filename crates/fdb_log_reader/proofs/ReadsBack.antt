-- A name that is printed is read back: behind its opening quote stands what stands for the name.
use Rattle.std.proofs.Common.{◌≡◌, ℕ, zero, suc, ◌+◌, ◌*◌, ◌/◌, ◌%◌, ◌<◌, ◌≤◌, nat_lt, ◌==◌, Bool, true, false, cond, ◌&&◌, ◌||◌, List, [], ◌∷◌, ◌++◌, map, length, get_or, flat_map, Option, None, Some, IsUtf8, option_and_then, string_bytes, refl, ap, ap₂, sym, ◌∙◌, subst, inl, inr, ◌⊎◌, arith, append_assoc, append-nil, leb-true, if◌then◌else◌}
use Rattle.std.proofs.lemmas.Bool.{and_parts, and_left, cases_eq, cases_lt, eqb-true, le-ltb, lt-leb, lt-ltb, ne_eqb, or_cases}
use Rattle.std.proofs.lemmas.List.Concat.{flat_map-append}
use Rattle.std.proofs.lemmas.Slice.Eq.{bytes_eq-Decides}
use Rattle.std.proofs.lemmas.Str.{IsUtf8-append, IsUtf8-encode, IsUtf8-nil, IsUtf8-string_bytes, chars-append, chars_past_char, digit_value-digit_char, encode_ascii, inside_one}
use Rattle.std.specs.Char.{digit_char, digit_value, encode_utf8, is_digit}
use Rattle.std.specs.Char.Escape.{hex_digit_at}
use Rattle.std.specs.Int.{is_in_range}
use Rattle.std.specs.Prelude.{String}
use Rattle.std.specs.Str.{bytes_eq, chars}
use Rattle.std.specs.declared.alloc.Global.{Global}
use lib.Utf8.{encode, encodes, scalar, scalars}
use Rattle.json.proofs.Printed.Strings.{escape_byte_plain}
use Rattle.json.proofs.Printed.Utf8.{IsUtf8-are_ascii, are_ascii}
use Rattle.json.specs.Print.{escape, escape_byte}
use Rattle.json.specs.Text.{after_high, code_unit, content, is_high_surrogate, is_low_surrogate, plain, prepend, short_escape}
use Rattle.fdb_log_reader.specs.Printed.{escaped, is_unprintable, printed, read_back, shown}

-- ---- the escape of a character is read as the character

spelt : (a b c d w x y z : ℕ) → is_digit a 16 ≡ true → is_digit b 16 ≡ true → is_digit c 16 ≡ true → is_digit d 16 ≡ true
    → digit_value a ≡ w → digit_value b ≡ x → digit_value c ≡ y → digit_value d ≡ z → code_unit a b c d ≡ Some (w * 4096 + x * 256 + y * 16 + z)
unfolding code_unit
spelt a b c d w x y z one two three four va vb vc vd =
    let value = Some (digit_value a * 4096 + digit_value b * 256 + digit_value c * 16 + digit_value d) in
    ap (λ t. cond (t && is_digit b 16 && is_digit c 16 && is_digit d 16) value None) one
    ∙ (ap (λ t. cond (t && is_digit c 16 && is_digit d 16) value None) two
    ∙ (ap (λ t. cond (t && is_digit d 16) value None) three
    ∙ (ap (λ t. cond t value None) four ∙ λ i. Some (va i * 4096 + vb i * 256 + vc i * 16 + vd i))))

hex : (d : ℕ) → d < 16 → (is_digit (digit_char d) 16 ≡ true) × (digit_value (digit_char d) ≡ d)
hex d small = let is = digit_value-digit_char d (omega arith) in (ap (λ v. nat_lt v 16) is ∙ lt-ltb d 16 small, is)

unit : (c : ℕ) → c < 0x10000 → code_unit (hex_digit_at 0x1000 c) (hex_digit_at 0x100 c) (hex_digit_at 0x10 c) (hex_digit_at 1 c) ≡ Some c
unit c small =
    let one = hex (c / 0x1000 % 16) (omega arith) in
    let two = hex (c / 0x100 % 16) (omega arith) in
    let three = hex (c / 0x10 % 16) (omega arith) in
    let four = hex (c / 1 % 16) (omega arith) in
    spelt _ _ _ _ _ _ _ _ one.0 two.0 three.0 four.0 one.1 two.1 three.1 four.1 ∙ ap Some (omega arith)

escape_read : (c : ℕ) (r : List ℕ) → c < 0xD800 → content plain (escaped c ++ r) ≡ prepend (encode_utf8 c) (content plain r)
unfolding content
escape_read c r low =
    let is = unit c (omega arith) in
    let no_high : is_high_surrogate c ≡ false = and_left _ _ (lt-leb 0xD800 c low) in
    let no_low : is_low_surrogate c ≡ false = and_left _ _ (lt-leb 0xDC00 c (omega arith)) in
    ap (option_and_then (λ u. cond (is_high_surrogate u) (content (after_high u) r) (cond (is_low_surrogate u) None (prepend (encode_utf8 u) (content plain r))))) is
    ∙ (ap (λ b. cond b (content (after_high c) r) (cond (is_low_surrogate c) None (prepend (encode_utf8 c) (content plain r)))) no_high
    ∙ ap (λ b. cond b None (prepend (encode_utf8 c) (content plain r))) no_low)

up_to : (low high c : ℕ) → high < 0xD800 → is_in_range low high c ≡ true → c < 0xD800
up_to low high c small is = let most = leb-true c high (and_parts _ _ is).1 in omega arith

unprintable_low : (c : ℕ) → is_unprintable c ≡ true → c < 0xD800
unprintable_low c is = elim (or_cases _ _ is) [
  | inl before ↦ elim (or_cases _ _ before) [
    | inl control ↦ elim (or_cases _ _ control) [ inl low ↦ up_to 0 0x1F c (omega arith) low | inr high ↦ up_to 0x7F 0x9F c (omega arith) high ]
    | inr separator ↦ up_to 0x2028 0x2029 c (omega arith) separator
  ]
  | inr bidi ↦ elim (or_cases _ _ bidi) [
    | inl first ↦ elim (or_cases _ _ first) [
      | inl marks ↦ elim (or_cases _ _ marks) [ inl one ↦ let is_one : c ≡ 0x061C = eqb-true c 0x061C one in omega arith | inr two ↦ up_to 0x200E 0x200F c (omega arith) two ]
      | inr embedding ↦ up_to 0x202A 0x202E c (omega arith) embedding
    ]
    | inr isolate ↦ up_to 0x2066 0x2069 c (omega arith) isolate
  ]
]

-- ---- bytes that stand for themselves

read_more : (x : ℕ) (r : List ℕ) → (x ≡ 34 → ⊥) → (x ≡ 92 → ⊥) → 32 ≤ x → content plain (x ∷ r) ≡ prepend (x ∷ []) (content plain r)
unfolding content
read_more x r quote backslash low = rw (ne_eqb x 34 quote, ne_eqb x 92 backslash, le-ltb x 32 low)

none_before : (o : Option (List ℕ)) → o ≡ prepend [] o
none_before None = refl
none_before (Some s) = refl

one_before : (x : ℕ) (bs : List ℕ) (o : Option (List ℕ)) → prepend (x ∷ []) (prepend bs o) ≡ prepend (x ∷ bs) o
one_before x bs None = refl
one_before x bs (Some s) = refl

high_read : (bs r : List ℕ) → ((k : ℕ) → k < length bs → 128 ≤ get_or bs k 0) → content plain (bs ++ r) ≡ prepend bs (content plain r)
high_read [] r high = none_before (content plain r)
high_read (x ∷ bs) r high =
    let first : 128 ≤ x = high 0 (omega arith) in
    read_more x (bs ++ r) (λ e. omega arith) (λ e. omega arith) (omega arith)
    ∙ (ap (prepend (x ∷ [])) (high_read bs r (λ k below. high (suc k) (omega arith))) ∙ one_before x bs (content plain r))

high_bytes : (c : ℕ) → 128 ≤ c → (k : ℕ) → k < length (encode c) → 128 ≤ get_or (encode c) k 0
high_bytes c big k below = elim (cases_lt (get_or (encode c) k 0) 128) [
  | inl low ↦ absurd (omega (arith, inside_one c [] (encode c) k (sym (append-nil _)) below low))
  | inr h ↦ h
]

escape_high : (bs : List ℕ) → ((k : ℕ) → k < length bs → 128 ≤ get_or bs k 0) → escape bs ≡ bs
escape_high [] high = refl
escape_high (x ∷ bs) high =
    let first : 128 ≤ x = high 0 (omega arith) in
    ap₂ (λ (a b : List ℕ). a ++ b) (escape_byte_plain x (λ e. omega arith) (λ e. omega arith) (omega arith)) (escape_high bs (λ k below. high (suc k) (omega arith)))

-- ---- ASCII

-- of each byte below a bound: its escape is ASCII, and is shown as it is; and below 32 it is by four digits, or short
abbrev are_shown : ℕ → Bool
are_shown zero = true
are_shown (suc n) = are_ascii (escape_byte n) && bytes_eq (flat_map shown (chars (escape_byte n))) (escape_byte n) && are_shown n

all_shown : are_shown 127 ≡ true
unfolding chars escape_byte encode
all_shown = refl

of_each : (n : ℕ) → are_shown n ≡ true → (x : ℕ) → x < n → (are_ascii (escape_byte x) ≡ true) × (flat_map shown (chars (escape_byte x)) ≡ escape_byte x)
of_each zero all x below = absurd (omega arith)
of_each (suc n) all x below =
    let parts = and_parts _ _ all in
    let here = and_parts _ _ parts.0 in
    elim (cases_eq x n) [
      | inl is ↦ subst (λ y. (are_ascii (escape_byte y) ≡ true) × (flat_map shown (chars (escape_byte y)) ≡ escape_byte y)) (sym is) (here.0, (bytes_eq-Decides (flat_map shown (chars (escape_byte n))) (escape_byte n)).0 here.1)
      | inr other ↦ of_each n parts.1 x (omega arith)
    ]

abbrev IsRead : ℕ → Type 0
IsRead x = (r : List ℕ) → content plain (escape_byte x ++ r) ≡ prepend (x ∷ []) (content plain r)

abbrev is_short : ℕ → Bool
is_short x = (x == 8) || (x == 9) || (x == 10) || (x == 12) || (x == 13)

abbrev are_spelt : ℕ → Bool
are_spelt zero = true
are_spelt (suc n) = (is_short n || bytes_eq (escape_byte n) (escaped n)) && are_spelt n

all_spelt : are_spelt 32 ≡ true
unfolding escape_byte
all_spelt = refl

is_spelt : (n : ℕ) → are_spelt n ≡ true → (x : ℕ) → x < n → (is_short x ≡ true) ⊎ (escape_byte x ≡ escaped x)
is_spelt zero all x below = absurd (omega arith)
is_spelt (suc n) all x below =
    let parts = and_parts _ _ all in
    elim (cases_eq x n) [
      | inl is ↦ subst (λ y. (is_short y ≡ true) ⊎ (escape_byte y ≡ escaped y)) (sym is) (elim (or_cases _ _ parts.0) [
        | inl short ↦ inl short
        | inr same ↦ inr ((bytes_eq-Decides (escape_byte n) (escaped n)).0 same)
      ])
      | inr other ↦ is_spelt n parts.1 x (omega arith)
    ]

of_eight : IsRead 8
unfolding content escape_byte short_escape
of_eight = λ r. refl

of_nine : IsRead 9
unfolding content escape_byte short_escape
of_nine = λ r. refl

of_ten : IsRead 10
unfolding content escape_byte short_escape
of_ten = λ r. refl

of_twelve : IsRead 12
unfolding content escape_byte short_escape
of_twelve = λ r. refl

of_thirteen : IsRead 13
unfolding content escape_byte short_escape
of_thirteen = λ r. refl

of_quote : IsRead 34
unfolding content escape_byte short_escape
of_quote = λ r. refl

of_backslash : IsRead 92
unfolding content escape_byte short_escape
of_backslash = λ r. refl

short_read : (x : ℕ) → is_short x ≡ true → IsRead x
short_read x is = elim (or_cases _ _ is) [
  | inl to_12 ↦ elim (or_cases _ _ to_12) [
    | inl to_10 ↦ elim (or_cases _ _ to_10) [
      | inl to_9 ↦ elim (or_cases _ _ to_9) [ inl e ↦ subst IsRead (sym (eqb-true x 8 e)) of_eight | inr e ↦ subst IsRead (sym (eqb-true x 9 e)) of_nine ]
      | inr e ↦ subst IsRead (sym (eqb-true x 10 e)) of_ten
    ]
    | inr e ↦ subst IsRead (sym (eqb-true x 12 e)) of_twelve
  ]
  | inr e ↦ subst IsRead (sym (eqb-true x 13 e)) of_thirteen
]

spelt_read : (x : ℕ) → x < 32 → escape_byte x ≡ escaped x → IsRead x
spelt_read x small is r = ap (λ bs. content plain (bs ++ r)) is ∙ (escape_read x r (omega arith) ∙ ap (λ bs. prepend bs (content plain r)) (encode_ascii x (omega arith)))

byte_read : (x : ℕ) → IsRead x
byte_read x = elim (cases_eq x 34) [
  | inl is ↦ subst IsRead (sym is) of_quote
  | inr quote ↦ elim (cases_eq x 92) [
    | inl is ↦ subst IsRead (sym is) of_backslash
    | inr backslash ↦ elim (cases_lt x 32) [
      | inl small ↦ elim (is_spelt 32 all_spelt x small) [ inl short ↦ short_read x short | inr same ↦ spelt_read x small same ]
      | inr low ↦ λ r. ap (λ bs. content plain (bs ++ r)) (escape_byte_plain x quote backslash low) ∙ read_more x r quote backslash low
    ]
  ]
]

-- ---- a character, a name, names

abbrev shown_of : List ℕ → List ℕ
shown_of text = flat_map shown (chars text)

del_read : (r : List ℕ) → content plain (shown_of (escape (encode 127)) ++ r) ≡ prepend (encode 127) (content plain r)
unfolding content chars escape_byte encode code_unit
del_read r = refl

small_read : (c : ℕ) (r : List ℕ) → c < 127 → content plain (shown_of (escape (encode c)) ++ r) ≡ prepend (encode c) (content plain r)
small_read c r small =
    let own = encode_ascii c (omega arith) in
    ap (λ bs. content plain (shown_of (escape bs) ++ r)) own
    ∙ (ap (λ bs. content plain (shown_of bs ++ r)) (append-nil (escape_byte c))
    ∙ (ap (λ bs. content plain (bs ++ r)) (of_each 127 all_shown c small).1
    ∙ (byte_read c r ∙ ap (λ bs. prepend bs (content plain r)) (sym own))))

chars_one : (c : ℕ) → scalar c ≡ true → chars (encode c) ≡ c ∷ []
unfolding chars
chars_one c ok = chars_past_char (encode c) [] c (IsUtf8-encode c ok) (sym (append-nil (encode c)))

shown_read : (c : ℕ) (r : List ℕ) → 128 ≤ c → content plain (shown c ++ r) ≡ prepend (encode c) (content plain r)
shown_read c r big =
    elim (is_unprintable c) as (λ b. is_unprintable c ≡ b → content plain ((if b then escaped c else encode_utf8 c) ++ r) ≡ prepend (encode c) (content plain r)) [
      | true ↦ λ is. escape_read c r (unprintable_low c is)
      | false ↦ λ _. high_read (encode c) r (high_bytes c big)
    ] refl

big_read : (c : ℕ) (r : List ℕ) → scalar c ≡ true → 128 ≤ c → content plain (shown_of (escape (encode c)) ++ r) ≡ prepend (encode c) (content plain r)
big_read c r ok big =
    ap (λ bs. content plain (shown_of bs ++ r)) (escape_high (encode c) (high_bytes c big))
    ∙ (ap (λ cs. content plain (flat_map shown cs ++ r)) (chars_one c ok)
    ∙ (ap (λ bs. content plain (bs ++ r)) (append-nil (shown c)) ∙ shown_read c r big))

char_read : (c : ℕ) (r : List ℕ) → scalar c ≡ true → content plain (shown_of (escape (encode c)) ++ r) ≡ prepend (encode c) (content plain r)
char_read c r ok = elim (cases_lt c 127) [
  | inl small ↦ small_read c r small
  | inr more ↦ elim (cases_eq c 127) [
    | inl is ↦ subst (λ d. content plain (shown_of (escape (encode d)) ++ r) ≡ prepend (encode d) (content plain r)) (sym is) (del_read r)
    | inr other ↦ big_read c r ok (omega arith)
  ]
]

escape_del : are_ascii (escape_byte 127) ≡ true
unfolding escape_byte
escape_del = refl

IsUtf8-escape : (c : ℕ) → scalar c ≡ true → IsUtf8 (escape (encode c))
IsUtf8-escape c ok = elim (cases_lt c 128) [
  | inl small ↦
      let ascii : are_ascii (escape_byte c) ≡ true = elim (cases_lt c 127) [ inl less ↦ (of_each 127 all_shown c less).0 | inr last ↦ let is : c ≡ 127 = omega arith in ap (λ d. are_ascii (escape_byte d)) is ∙ escape_del ] in
      subst (λ bs. IsUtf8 (escape bs)) (sym (encode_ascii c small)) (subst IsUtf8 (sym (append-nil (escape_byte c))) (IsUtf8-are_ascii (escape_byte c) ascii))
  | inr big ↦ subst IsUtf8 (sym (escape_high (encode c) (high_bytes c big))) (IsUtf8-encode c ok)
]

chars_read : (cs : List ℕ) (r : List ℕ) → scalars cs ≡ true → content plain (shown_of (escape (encodes cs)) ++ 34 ∷ r) ≡ Some (encodes cs)
unfolding content chars
chars_read [] r all = refl
chars_read (c ∷ cs) r all =
    let parts = and_parts _ _ all in
    let split : shown_of (escape (encode c ++ encodes cs)) ≡ shown_of (escape (encode c)) ++ shown_of (escape (encodes cs)) =
    ap shown_of (flat_map-append escape_byte (encode c) (encodes cs))
    ∙ (ap (flat_map shown) (chars-append (escape (encode c)) (escape (encodes cs)) (IsUtf8-escape c parts.0))
    ∙ flat_map-append shown (chars (escape (encode c))) (chars (escape (encodes cs)))) in
    ap (λ bs. content plain (bs ++ 34 ∷ r)) split
    ∙ (ap (content plain) (append_assoc (shown_of (escape (encode c))) (shown_of (escape (encodes cs))) (34 ∷ r))
    ∙ (char_read c (shown_of (escape (encodes cs)) ++ 34 ∷ r) parts.0 ∙ ap (prepend (encode c)) (chars_read cs r parts.1)))

IsUtf8-escapes : (cs : List ℕ) → scalars cs ≡ true → IsUtf8 (escape (encodes cs))
IsUtf8-escapes [] all = IsUtf8-nil
IsUtf8-escapes (c ∷ cs) all =
    let parts = and_parts _ _ all in
    subst IsUtf8 (sym (flat_map-append escape_byte (encode c) (encodes cs))) (IsUtf8-append _ _ (IsUtf8-escape c parts.0) (IsUtf8-escapes cs parts.1))

quote_shown : shown_of (34 ∷ []) ≡ 34 ∷ []
unfolding chars encode
quote_shown = refl

printed_is : (name : List ℕ) → IsUtf8 (escape name) → printed name ≡ 34 ∷ (shown_of (escape name) ++ 34 ∷ [])
printed_is name text =
    let quote : IsUtf8 (34 ∷ []) = IsUtf8-are_ascii (34 ∷ []) refl in
    let behind : shown_of (escape name ++ 34 ∷ []) ≡ shown_of (escape name) ++ 34 ∷ [] =
    ap (flat_map shown) (chars-append (escape name) (34 ∷ []) text)
    ∙ (flat_map-append shown (chars (escape name)) (chars (34 ∷ [])) ∙ ap (λ bs. shown_of (escape name) ++ bs) quote_shown) in
    ap (flat_map shown) (chars-append (34 ∷ []) (escape name ++ 34 ∷ []) quote)
    ∙ (flat_map-append shown (chars (34 ∷ [])) (chars (escape name ++ 34 ∷ [])) ∙ ap₂ (λ (a b : List ℕ). a ++ b) quote_shown behind)

name_back : (name : List ℕ) → IsUtf8 name → read_back (printed name) ≡ Some name
name_back name text =
    subst (λ n. read_back (printed n) ≡ Some n) text.1.1 (ap read_back (printed_is (encodes text.0) (IsUtf8-escapes text.0 text.1.0)) ∙ chars_read text.0 [] text.1.0)

pub names_back : (names : List (String Global)) → map read_back (map printed (map string_bytes names)) ≡ map Some (map string_bytes names)
names_back [] = refl
names_back (name ∷ names) = ap₂ (λ (a : Option (List ℕ)) (b : List (Option (List ℕ))). a ∷ b) (name_back (string_bytes name) (IsUtf8-string_bytes name)) (names_back names)
