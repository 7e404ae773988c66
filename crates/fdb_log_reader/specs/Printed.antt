-- How names and values are printed: as JSON that is safe on a terminal and within a line. (this product's own)
use Rattle.std.specs.Prelude.{◌≡◌, ℕ, Bool, false, ◌||◌, ◌==◌, List, [], ◌∷◌, ◌++◌, Option, codes, drop, flat_map, if◌then◌else◌}
use Rattle.std.specs.Char.{encode_utf8, is_control}
use Rattle.std.specs.Char.Escape.{hex_digit_at}
use Rattle.std.specs.Int.{is_in_range}
use Rattle.std.specs.Str.{chars}
use Rattle.json.specs.Lex.{tokens}
use Rattle.json.specs.Print.{print, quoted}
use Rattle.json.specs.Text.{content, plain}
use Rattle.serde_json.specs.Data.{Data}
use Rattle.serde_json.specs.Written.{compact_text, has_float}

-- the line and paragraph separators
abbrev pub is_separator : ℕ → Bool
is_separator c = is_in_range 0x2028 0x2029 c

-- what turns the text beside it round (Unicode's Bidi_Control): the Arabic letter mark, the left-to-right and
-- right-to-left marks, the embeddings and overrides, and the isolates
abbrev pub is_bidi_control : ℕ → Bool
is_bidi_control c =
    (c == 0x061C) || is_in_range 0x200E 0x200F c || is_in_range 0x202A 0x202E c || is_in_range 0x2066 0x2069 c

-- what a terminal, a line or the text beside it is not safe from
abbrev pub is_unprintable : ℕ → Bool
is_unprintable c = is_control c || is_separator c || is_bidi_control c

-- its escape in a JSON string, by four hex digits
abbrev pub escaped : ℕ → List ℕ
escaped c = codes "\\u" ++ hex_digit_at 0x1000 c ∷ hex_digit_at 0x100 c ∷ hex_digit_at 0x10 c ∷ hex_digit_at 1 c ∷ []

abbrev pub shown : ℕ → List ℕ
shown c = if is_unprintable c then escaped c else encode_utf8 c

-- a text with these characters escaped
abbrev pub shown_text : List ℕ → List ℕ
shown_text text = flat_map shown (chars text)

-- a name: its JSON string, as `serde_json` writes it, with these characters escaped too
abbrev pub printed : List ℕ → List ℕ
printed name = shown_text (quoted name)

-- what a JSON string stands for, behind its opening quote (RFC 8259, section 7)
abbrev pub read_back : List ℕ → Option (List ℕ)
read_back text = content plain (drop 1 text)

-- a JSON text as `serde_json` writes a value: without white space, and one text alone where no float is in it
abbrev pub IsWritten : List ℕ → Data → Type 0
IsWritten text value = (text ≡ print (tokens text)) × (has_float value ≡ false → text ≡ compact_text value)
