-- Lines that are read one by one: what is read of each, and of a text that comes piece by piece.
use Rattle.std.proofs.Common.{◌≡◌, ℕ, ◌+◌, suc, ◌<◌, ◌≤◌, ◌==◌, nat_lt, Bool, true, false, List, [], ◌∷◌, ◌++◌, length, length-append, map, string_bytes, take, Option, None, Some, IfOk, IfSome, IsSomeAnd, MatchResult, not, ◌⊎◌, inl, inr, String, option_map, zero, Result, Ok, Err, refl, ap, ap₂, subst, sym, ◌∙◌, arith, append_assoc, append-nil, if◌then◌else◌}
use Rattle.std.proofs.lemmas.Bool.Decides.{nat_tests}
use Rattle.std.proofs.lemmas.List.{take_all, length-take-le, map-append}
use Rattle.std.proofs.lemmas.List.Elements.{All-append, All-cons, All-nil, All-take}
use Rattle.std.specs.List.{All, slice_index_or}
use Rattle.std.specs.declared.alloc.Global.{Global}
use Rattle.serde_json.specs.Data.{Data}
use Rattle.serde_json.specs.Find.{get}
use Rattle.fdb_log_reader.specs.declared.error.Why.{Why}
use Rattle.fdb_log_reader.specs.declared.error.Why.TheVariants.{BadMember, Memory, SomeTimes, TooLong, TooMany}
use Rattle.fdb_log_reader.specs.declared.line_reader.LineReader.{LineReader}
use Rattle.fdb_lines.specs.Lines.{are_known, has_times, is_learn, kind_of}
use Rattle.fdb_log_reader.specs.declared.member.Member.TheVariants.{Learn}
use Rattle.fdb_log_reader.specs.declared.read_line.ReadLine.{ReadLine}
use Rattle.fdb_log_reader.specs.declared.reader.TheConstants.{MAX_LINE_BYTES}
use Rattle.fdb_log_reader.specs.declared.usual.Usual.{Usual}
use Rattle.fdb_log_reader.specs.Columns.{IsText}
use Rattle.fdb_log_reader.specs.LineReader.{AreMore, AreMoreKeys, line_names, lines_on, names_on}
use Rattle.fdb_log_reader.specs.Members.{and_then, member_of}
use Rattle.fdb_log_reader.specs.Numbers.{client_in, with_client, IsMore}
use Rattle.fdb_log_reader.specs.Parts.{SaidParts, parts_said}
use Rattle.fdb_log_reader.specs.Reading.{is_line_feed, lines_in, value_of, without_empty_end}
use Rattle.fdb_log_reader.specs.ReadLine.{HasTexts, IsNumbered, IsTimed, LineNames, MemberNames, ReadsLine, SaidLine, are_full, key_number, known_of, line_in, line_read, line_said, line_with, lines_read, member_in, names_after, names_behind, numbered, refusal_alone, said_by, said_in, showing, text_says, unless, with_known, with_names}
use Rattle.fdb_log_reader.specs.private.{IsOneLine}
use Rattle.fdb_log_reader.specs.private.Following.{AllRead, Follows, Keeps, TakesLine, all_on, behind}
use Rattle.fdb_log_reader.specs.private.Usual.{StandsFor, beside_of, says_of}
use Rattle.fdb_log_reader.proofs.Naming.{number_within}
use Rattle.fdb_log_reader.proofs.ShownTexts.{more_names, within_some}
use Rattle.fdb_log_reader.proofs.Splitting.{first_line, front_stays, last_line, parts}
use Rattle.fdb_log_reader.proofs.UsualForm.{parts_same}

-- ---- more names

same_more : (names : List (List ℕ)) → IsMore names names
same_more names = ([], sym (append-nil names))

more_yet : (a b c : List (List ℕ)) → IsMore a b → IsMore b c → IsMore a c
more_yet a b c one two = (one.0 ++ two.0, two.1 ∙ (ap (λ l. l ++ two.0) one.1 ∙ append_assoc a one.0 two.0))

same_keys : (keys : Option MemberNames) → AreMoreKeys keys keys
same_keys None = refl
same_keys (Some keys) = (keys, refl, refl, same_more keys.names)

keys_yet : (a b c : Option MemberNames) → AreMoreKeys a b → AreMoreKeys b c → AreMoreKeys a c
keys_yet None b c one two = subst (λ b. AreMoreKeys b c) one two
keys_yet (Some a) b c one two =
    let next = subst (λ b. AreMoreKeys b c) one.1 two in
    (next.0, next.1, next.2 ∙ one.2, more_yet a.names one.0.names next.0.names one.3 next.3)

pub all_same : (names : LineNames) → AreMore names names
all_same names = (same_more names.clients, same_keys names.keys)

pub all_yet : (a b c : LineNames) → AreMore a b → AreMore b c → AreMore a c
all_yet a b c one two = (more_yet a.clients b.clients c.clients one.0 two.0, keys_yet a.keys b.keys c.keys one.1 two.1)

client_more : (names : List (List ℕ)) (client : Option (List ℕ)) → IsMore names (with_client names client)
client_more names None = same_more names
client_more names (Some name) = more_names names (with_client names (Some name)) name refl

known_more : (keys : Option MemberNames) (key : Option (List ℕ)) → AreMoreKeys keys (option_map (with_known key) keys)
known_more None key = refl
known_more (Some keys) key = (with_known key keys, refl, refl, client_more keys.names key)

-- ---- numbers of names

client_within : (names : List (List ℕ)) (client : Option (List ℕ)) → IfSome (client_in names client) (λ n. n < length names)
client_within names None = tt
client_within names (Some name) = number_within names name

key_within : (keys : Option MemberNames) (key : Option (List ℕ)) → IfSome (key_number keys key) (λ n. IsSomeAnd keys (λ keys. n < length keys.names))
key_within None key = tt
key_within (Some keys) key = client_within keys.names key

key_still : (keys more : Option MemberNames) (n : ℕ) → AreMoreKeys keys more → IsSomeAnd keys (λ keys. n < length keys.names) → IsSomeAnd more (λ keys. n < length keys.names)
key_still None more n are is = absurd is
key_still (Some keys) more n are is =
    let count = ap length are.3.1 ∙ length-append keys.names are.3.0 in
    let there : n < length are.0.names = omega arith in
    subst (λ more. IsSomeAnd more (λ keys. n < length keys.names)) (sym are.1) there

keys_still : (keys more : Option MemberNames) (key : Option ℕ) → AreMoreKeys keys more
    → IfSome key (λ n. IsSomeAnd keys (λ keys. n < length keys.names)) → IfSome key (λ n. IsSomeAnd more (λ keys. n < length keys.names))
keys_still keys more None are is = tt
keys_still keys more (Some n) are is = key_still keys more n are is

-- numbers stay those of names
still : (names more : LineNames) (said : SaidLine) → AreMore names more → IsNumbered names said → IsNumbered more said
still names more said are is =
    (within_some names.clients more.clients said.line.client are.0 is.0, keys_still names.keys more.keys said.key are.1 is.1)

still_read : (names more : LineNames) (read : Result ReadLine Why) → AreMore names more → IfOk read (λ read. IsNumbered names (said_by read)) → IfOk read (λ read. IsNumbered more (said_by read))
still_read names more (Ok read) are is = still names more (said_by read) are is
still_read names more (Err why) are is = tt

-- ---- what comes of a line

-- a line that is not refused has times
timed_by : (known learns : Bool) → (if not known then Some SomeTimes else (if learns then Some (BadMember Learn) else None)) ≡ None → known ≡ true
timed_by true learns none = refl
timed_by false learns none = absurd (grind (arith, none))

timed_alone : (parts : SaidParts) → refusal_alone parts ≡ None → are_known parts.times ≡ true
timed_alone parts none = timed_by (are_known parts.times) (is_learn (kind_of parts.call)) none

-- the names are more, and have the numbers of the line, which has times
record Fits (names : LineNames) (read : Result (SaidLine × LineNames) Why) : Type 0 where
  more : AreMore names (names_after names read)
  numbers : IfOk (line_in read) (IsNumbered (names_after names read))
  timed : IfOk (line_in read) (λ said. has_times said.line ≡ true)

fits_not : (names : LineNames) (why : Why) → Fits names (Err why)
fits_not names why = record { more = all_same names; numbers = tt; timed = tt }

fits_unless : (names more : LineNames) (said : SaidLine) (why : Option Why) → AreMore names more → IsNumbered more said → (why ≡ None → has_times said.line ≡ true)
    → Fits names (unless why (said, more))
fits_unless names more said None are is timed = record { more = are; numbers = is; timed = timed refl }
fits_unless names more said (Some why) are is timed = fits_not names why

fits_with : (shown : List (List ℕ)) (names : LineNames) (beside : List ℕ → Option Data) (parts : SaidParts) → Fits names (line_with shown names beside parts)
fits_with shown names beside parts =
    let more = with_names names parts in
    fits_unless names more (numbered more parts (map beside shown)) (refusal_alone parts)
    (client_more names.clients parts.client, known_more names.keys parts.key)
    (client_within more.clients parts.client, key_within more.keys parts.key) (timed_alone parts)

fits_then : {T : Type 0} (names : LineNames) (said : Result T Why) (next : T → Result (SaidLine × LineNames) Why) → ((t : T) → Fits names (next t)) → Fits names (and_then said next)
fits_then names (Ok said) next fits = fits said
fits_then names (Err why) next fits = fits_not names why

fits_else : (names : LineNames) (b : Bool) (why : Why) (read : Result (SaidLine × LineNames) Why) → Fits names read → Fits names (if b then Err why else read)
fits_else names true why read fits = fits_not names why
fits_else names false why read fits = fits

fits : (shown : List (List ℕ)) (names : LineNames) (bytes : List ℕ) → Fits names (line_read shown names bytes)
fits shown names bytes =
    fits_else names (nat_lt MAX_LINE_BYTES (length bytes)) TooLong _
    (fits_else names (are_full names) TooMany _
    (fits_then names (value_of bytes) (λ value. line_said shown names (member_of value) (λ name. get name value))
    (λ value. fits_then names (parts_said names.clients (member_in names) (member_of value) (λ name. get name value)) (line_with shown names (λ name. get name value))
    (fits_with shown names (λ name. get name value)))))

numbers_read : (names : LineNames) (read : Result ReadLine Why) → IfOk (said_in read) (IsNumbered names) → IfOk read (λ read. IsNumbered names (said_by read))
numbers_read names (Ok read) is = is
numbers_read names (Err why) is = tt

timed_read : (read : Result ReadLine Why) → IfOk (said_in read) (λ said. has_times said.line ≡ true) → IfOk read IsTimed
timed_read (Ok read) is = is
timed_read (Err why) is = tt

-- such a line in the usual form says what its members do
pub usual_read : (names : LineNames) (bytes : List ℕ) (further : Option (List ℕ)) (line : Usual) → length bytes ≤ MAX_LINE_BYTES → are_full names ≡ false
    → further ≡ member_in names → StandsFor bytes further line → line_read [] names bytes ≡ line_said [] names (says_of line) (beside_of line)
usual_read names bytes further line short room keyed is =
    let short_enough : nat_lt MAX_LINE_BYTES (length bytes) ≡ false = grind (arith, nat_tests) in
    let value = is.0 in
    ap (λ b. if b then Err TooLong else (if are_full names then Err TooMany else and_then (value_of bytes) (λ value. line_said [] names (member_of value) (λ name. get name value)))) short_enough
    ∙ ap (λ b. if b then Err TooMany else and_then (value_of bytes) (λ value. line_said [] names (member_of value) (λ name. get name value))) room
    ∙ ap (λ value. and_then value (λ value. line_said [] names (member_of value) (λ name. get name value))) is.1
    ∙ ap (λ says. line_said [] names says (λ name. get name value)) is.2
    ∙ ap (λ parts. and_then parts (line_with [] names (beside_of line)))
    (parts_same names.clients (member_in names) (says_of line) (λ name. get name value) (beside_of line) (subst (λ name. IfSome name (λ name. get name value ≡ beside_of line name)) keyed is.3))

-- and was read as that, where nothing is shown
pub usual_says : (result : Result ReadLine Why) (names more : LineNames) (members : List (List ℕ)) (bytes : List ℕ) (line : Usual) → members ≡ []
    → line_read [] names bytes ≡ line_said [] names (says_of line) (beside_of line) → IfOk result (λ read. read.shown.items ≡ [])
    → MatchResult result (λ read. line_said [] names (says_of line) (beside_of line) ≡ Ok (showing [] (said_by read), more))
    (λ why. (why ≡ Memory) ⊎ ((line_said [] names (says_of line) (beside_of line) ≡ Err why) × (more ≡ names)))
    → MatchResult result (λ read. (line_read members names bytes ≡ Ok (said_by read, more)) × HasTexts read)
    (λ why. (why ≡ Memory) ⊎ ((line_read members names bytes ≡ Err why) × (more ≡ names)))
usual_says (Ok read) names more members bytes line hidden same none is = (
  ap (λ members. line_read members names bytes) hidden ∙ (same ∙ (is ∙ ap (λ texts. Ok (showing (map text_says texts) (said_by read), more)) (sym none))),
  subst (λ texts. All (λ text. IsText (text_says text) (option_map string_bytes text)) texts) (sym none) (All-nil (λ text. IsText (text_says text) (option_map string_bytes text))),
)
usual_says (Err why) names more members bytes line hidden same none is =
    elim is [
      | inl memory ↦ inl memory
      | inr refused ↦ inr (ap (λ members. line_read members names bytes) hidden ∙ (same ∙ refused.0), refused.1)
    ]

pub none_named : (shown : List (String Global)) → (length shown == 0) ≡ true → map string_bytes shown ≡ []
none_named [] none = refl
none_named (one ∷ more) none = absurd (grind (arith, nat_tests))

-- ---- a line that is too long

-- what becomes of some lines, and the names behind them
abbrev all_of : List (List ℕ) → LineNames → List (List ℕ) → AllRead
all_of shown names lines = (lines_read shown names lines, names_behind shown names lines)

long_one : (shown : List (List ℕ)) (names : LineNames) (line : List ℕ) (lines : List (List ℕ)) → MAX_LINE_BYTES < length line
    → all_of shown names (line ∷ lines) ≡ behind (Err TooLong ∷ []) (all_of shown names lines)
long_one shown names line lines long =
    let is : nat_lt MAX_LINE_BYTES (length line) ≡ true = grind (arith, nat_tests) in
    let refused : line_read shown names line ≡ Err TooLong = rw is in
    ap (λ read. behind (line_in read ∷ []) (all_of shown (names_after names read) lines)) refused

long_read : (shown : List (List ℕ)) (names : LineNames) (line : List ℕ) (more : List (List ℕ)) → MAX_LINE_BYTES < length line
    → all_of shown names (without_empty_end (line ∷ more)) ≡ behind (Err TooLong ∷ []) (all_of shown names (without_empty_end more))
long_read shown names line [] long =
    let some : (length line == 0) ≡ false = grind (arith, nat_tests) in
    ap (λ b. all_of shown names (if b then [] else line ∷ [])) some ∙ long_one shown names line [] long
long_read shown names line (next ∷ more) long = long_one shown names line (without_empty_end (next ∷ more)) long

-- a front that is too long is refused at its end, whatever it says
long_front : (shown : List (List ℕ)) (names : LineNames) (front text : List ℕ) → IsOneLine front → MAX_LINE_BYTES < length front
    → all_of shown names (lines_in (front ++ text)) ≡ behind (Err TooLong ∷ []) (all_of shown names (without_empty_end (parts text).1))
long_front shown names front text one long =
    let first = (parts text).0 in
    let lengths = length-append front first in
    ap (λ parts. all_of shown names (without_empty_end parts)) (front_stays front text one)
    ∙ long_read shown names (front ++ first) (parts text).1 (omega arith)

fits_in : (front bytes : List ℕ) (room : ℕ) → length bytes ≤ room → (text : List ℕ) → front ++ (bytes ++ text) ≡ (front ++ take room bytes) ++ text
fits_in front bytes room few text =
    sym (append_assoc front bytes text) ∙ ap (λ kept. (front ++ kept) ++ text) (sym (take_all room bytes few))

-- of a line that is too long no more is kept than shows it
kept_part : (shown : List (List ℕ)) (names : LineNames) (front bytes : List ℕ) (room : ℕ) → IsOneLine front → IsOneLine bytes
    → length front + room ≡ MAX_LINE_BYTES + 1 → (text : List ℕ)
    → all_of shown names (lines_in (front ++ (bytes ++ text))) ≡ all_of shown names (lines_in ((front ++ take room bytes) ++ text))
kept_part shown names front bytes room one more is text =
    elim (nat_lt room (length bytes)) as (λ b. nat_lt room (length bytes) ≡ b → all_of shown names (lines_in (front ++ (bytes ++ text))) ≡ all_of shown names (lines_in ((front ++ take room bytes) ++ text))) [
      | true ↦ λ e.
          let long : room < length bytes = grind (arith, nat_tests) in
          let whole = front ++ bytes in
          let part = front ++ take room bytes in
          let whole_one = All-append (λ byte. is_line_feed byte ≡ false) front bytes one more in
          let part_one = All-append (λ byte. is_line_feed byte ≡ false) front (take room bytes) one (All-take (λ byte. is_line_feed byte ≡ false) room bytes more) in
          let whole_long : MAX_LINE_BYTES < length whole = omega (arith, length-append front bytes) in
          let part_long : MAX_LINE_BYTES < length part = omega (arith, length-append front (take room bytes), length-take-le room bytes (omega arith)) in
          ap (λ bytes. all_of shown names (lines_in bytes)) (sym (append_assoc front bytes text))
          ∙ (long_front shown names whole text whole_one whole_long ∙ sym (long_front shown names part text part_one part_long))
      | false ↦ λ e.
          let few : length bytes ≤ room = grind (arith, nat_tests) in
          ap (λ bytes. all_of shown names (lines_in bytes)) (fits_in front bytes room few text)
    ] refl

pub keeps : (old new : LineReader) (bytes : List ℕ) (room : ℕ) → IsOneLine bytes → length old.front.items + room ≡ MAX_LINE_BYTES + 1
    → new.names ≡ old.names → new.shown ≡ old.shown → new.front.items ≡ old.front.items ++ take room bytes → Keeps old bytes new
keeps old new bytes room one is names shown front = record {
  goes = λ text. kept_part (map string_bytes old.shown.items) (line_names old) old.front.items bytes room old.one_line one is text
      ∙ λ i. all_of (map string_bytes (sym shown i).items) (known_of (sym names i)) (lines_in (sym front i ++ text));
  names = ap known_of names;
}

-- ---- lines, one after another

pub takes : (old new : LineReader) (bytes whole : List ℕ) (read : Result ReadLine Why) → old.front.items ++ bytes ≡ whole → IsOneLine whole
    → ReadsLine (map string_bytes old.shown.items) (line_names old) whole read (line_names new) → new.shown ≡ old.shown → new.front.items ≡ [] → TakesLine old bytes read new
takes old new bytes whole read is one reads shown front =
    let members = map string_bytes old.shown.items in
    let names = line_names old in
    let said = line_read members names whole in
    let fit = fits members names whole in
    record {
      goes = λ text.
          ap (all_of members names) (ap lines_in (sym (append_assoc old.front.items bytes (10 ∷ text))) ∙ (ap (λ whole. lines_in (whole ++ 10 ∷ text)) is ∙ first_line whole text one))
          ∙ (ap₂ (λ line names. behind (line ∷ []) (all_of members names (lines_in text))) reads.said reads.after
          ∙ λ i. behind (said_in read ∷ []) (all_of (map string_bytes (sym shown i).items) (line_names new) (lines_in (sym front i ++ text))));
      more = subst (AreMore names) reads.after fit.more;
      texts = reads.texts;
      timed = timed_read read (subst (λ line. IfOk line (λ said. has_times said.line ≡ true)) reads.said fit.timed);
      numbers = numbers_read (line_names new) read (subst (λ line. IfOk line (IsNumbered (line_names new))) reads.said (subst (λ more. IfOk (line_in said) (IsNumbered more)) reads.after fit.numbers));
    }

one_read : (P : Result ReadLine Why → Type 0) (read : Result ReadLine Why) → P read → All P (read ∷ [])
one_read P read is zero d lt = is
one_read P read is (suc k) d lt = absurd (omega arith)

pub follows_on : (old now new : LineReader) (bytes rest line after : List ℕ) (lines : List (Result ReadLine Why)) (read : Result ReadLine Why)
    → Follows old bytes lines now rest → rest ≡ line ++ 10 ∷ after → TakesLine now line read new → Follows old bytes (lines ++ read ∷ []) new after
follows_on old now new bytes rest line after lines read so_far is takes =
    record {
      goes = λ text.
          so_far.goes text
          ∙ (ap (behind (map said_in lines)) (ap (all_on now) (ap (λ r. r ++ text) is ∙ append_assoc line (10 ∷ after) text) ∙ takes.goes (after ++ text))
          ∙ ap (λ lines. (lines, names_on new (after ++ text)))
          (sym (append_assoc (map said_in lines) (said_in read ∷ []) (lines_on new (after ++ text)))
          ∙ ap (λ said. said ++ lines_on new (after ++ text)) (sym (map-append said_in lines (read ∷ [])))));
      more = all_yet (line_names old) (line_names now) (line_names new) so_far.more takes.more;
      texts = All-append (λ read. IfOk read HasTexts) lines (read ∷ []) so_far.texts (one_read (λ read. IfOk read HasTexts) read takes.texts);
      timed = All-append (λ read. IfOk read IsTimed) lines (read ∷ []) so_far.timed (one_read (λ read. IfOk read IsTimed) read takes.timed);
      numbers = All-append (λ read. IfOk read (λ read. IsNumbered (line_names new) (said_by read))) lines (read ∷ [])
          (λ k d lt. still_read (line_names now) (line_names new) (slice_index_or lines k d) takes.more (so_far.numbers k d lt))
          (one_read (λ read. IfOk read (λ read. IsNumbered (line_names new) (said_by read))) read takes.numbers);
    }

-- ---- where the text ends

pub nothing_left : (reader : LineReader) → reader.front.items ≡ [] → all_on reader [] ≡ ([], line_names reader)
nothing_left reader none = ap (λ front. all_of (map string_bytes reader.shown.items) (line_names reader) (lines_in (front ++ []))) none

pub last_taken : (old new : LineReader) (read : Result ReadLine Why) → 0 < length old.front.items → new.front.items ≡ [] → TakesLine old [] read new
    → all_on old [] ≡ (said_in read ∷ [], line_names new)
last_taken old new read some none takes =
    ap (all_of (map string_bytes old.shown.items) (line_names old)) (last_line old.front.items old.one_line some ∙ sym (first_line old.front.items [] old.one_line))
    ∙ (takes.goes [] ∙ ap (behind (said_in read ∷ [])) (nothing_left new none))

-- ---- the member that has the keys is one and the same

pub more_behind : (shown : List (List ℕ)) (names : LineNames) (lines : List (List ℕ)) → AreMore names (names_behind shown names lines)
more_behind shown names [] = all_same names
more_behind shown names (line ∷ lines) =
    let next = names_after names (line_read shown names line) in
    all_yet names next (names_behind shown next lines) (fits shown names line).more (more_behind shown next lines)

still_said : (names more : LineNames) (read : Result SaidLine Why) → AreMore names more → IfOk read (IsNumbered names) → IfOk read (IsNumbered more)
still_said names more (Ok said) are is = still names more said are is
still_said names more (Err why) are is = tt

-- and lines have numbers of the names behind them
pub numbered_behind : (shown : List (List ℕ)) (names : LineNames) (lines : List (List ℕ))
    → All (λ read. IfOk read (IsNumbered (names_behind shown names lines))) (lines_read shown names lines)
numbered_behind shown names [] = All-nil (λ read. IfOk read (IsNumbered names))
numbered_behind shown names (line ∷ lines) =
    let read = line_read shown names line in
    let next = names_after names read in
    let behind = names_behind shown next lines in
    All-cons (λ read. IfOk read (IsNumbered behind)) (line_in read) (lines_read shown next lines)
    (still_said next behind (line_in read) (more_behind shown next lines) (fits shown names line).numbers) (numbered_behind shown next lines)

member_same : (keys more : Option MemberNames) → AreMoreKeys keys more → option_map (λ (one : MemberNames). one.member) more ≡ option_map (λ (one : MemberNames). one.member) keys
member_same None more is = ap (option_map (λ (one : MemberNames). one.member)) is
member_same (Some keys) more (new, is, same, rest) = ap (option_map (λ (one : MemberNames). one.member)) is ∙ ap (λ (name : List ℕ). Some name) same

pub member_behind : (shown : List (List ℕ)) (names : LineNames) (lines : List (List ℕ)) → member_in (names_behind shown names lines) ≡ member_in names
member_behind shown names lines = member_same names.keys (names_behind shown names lines).keys (more_behind shown names lines).1

-- ---- a byte behind what has come of a line is of that line

as_many : (shown : List (List ℕ)) (names : LineNames) (lines : List (List ℕ)) → length (lines_read shown names lines) ≡ length lines
as_many shown names [] = refl
as_many shown names (line ∷ lines) = let rest = as_many shown (names_after names (line_read shown names line)) lines in omega (arith, rest)

one_more : (front : List ℕ) → IsOneLine front → length (lines_in (front ++ 32 ∷ [])) ≡ 1
one_more front one =
    let line = front ++ 32 ∷ [] in
    let size = length-append front (32 ∷ []) in
    let is = λ (byte : ℕ). is_line_feed byte ≡ false in
    ap length (ap lines_in (sym (append-nil line)) ∙ last_line line (All-append is front (32 ∷ []) one (All-cons is 32 [] refl (All-nil is))) (omega (arith, size)))

pub space_more : (reader : LineReader) → length (lines_on reader (32 ∷ [])) ≡ 1
space_more reader =
    as_many (map string_bytes reader.shown.items) (line_names reader) (lines_in (reader.front.items ++ 32 ∷ [])) ∙ one_more reader.front.items reader.one_line
