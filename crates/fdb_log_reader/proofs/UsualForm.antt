-- A line in the usual form is read as the value that its members tell.
use Rattle.std.proofs.Common.{◌≡◌, ℕ, ◌<◌, ◌≤◌, true, false, List, [], ◌∷◌, ◌++◌, Some, None, Option, IfSome, MatchResult, OnOk, ◌⊎◌, inl, inr, Result, Ok, Err, option_map, option_and_then, decimal, length, nat_le, nat_lt, ◌==◌, if◌then◌else◌, refl, subst, sym, ap, ap₂, map, ◌∙◌, arith, append_assoc, append-nil}
use Rattle.std.proofs.lemmas.Slice.Eq.{bytes_eq-Decides}
use Rattle.std.proofs.lemmas.Bool.{false≢true}
use Rattle.std.proofs.lemmas.Bool.Decides.{nat_tests}
use Rattle.std.specs.Str.{IsUtf8, bytes_eq}
use Rattle.std.proofs.lemmas.Str.{is_utf8-from_IsUtf8}
use Rattle.json.specs.Json as json
use Rattle.json.specs.Lex.{tokens}
use Rattle.json.specs.Print.{print_from, quoted}
use Rattle.json.specs.Tree.{HasNumbers, MembersHaveNumbers, depth, json_tokens, members_depth, members_tokens}
use Rattle.json.proofs.Printed.Decimals.{IsNumber-decimal}
use Rattle.json.proofs.Printed.Tokens.{tokens-print}
use Rattle.json.proofs.Printed.Trees.{ArePrintable-json_tokens, value-json_tokens}
use Rattle.serde_json.specs.Data.{Data, Members, no_members, number, object, put}
use Rattle.serde_json.specs.Find.{get, get_member}
use Rattle.serde_json.specs.Read.{max_depth, of_json, of_members, read}
use Rattle.serde_json.proofs.Numbers.{number_of-decimal}
use Rattle.serde_json.proofs.Views.{get_member-put, get_member-put_other}
use Rattle.fdb_log_reader.specs.declared.error.Why.TheVariants.{BadMember, Memory, TooLong, TooMany}
use Rattle.fdb_log_reader.specs.declared.error.Why.{Why}
use Rattle.fdb_lines.specs.declared.line.Operation.{Operation}
use Rattle.fdb_lines.specs.Lines.{is_learn, kind_of}
use Rattle.fdb_log_reader.specs.declared.member.Member.{Member}
use Rattle.fdb_log_reader.specs.declared.member.Member.TheVariants.{Learn}
use Rattle.fdb_log_reader.specs.declared.usual.Told.{Told}
use Rattle.fdb_log_reader.specs.declared.usual.Told.TheVariants.{Number, Text, Null}
use Rattle.fdb_log_reader.specs.declared.usual.Usual.{Usual}
use Rattle.fdb_lines.specs.declared.log.TheConstants.{MAX_LINES}
use Rattle.fdb_log_reader.specs.Members.{and_then, call_of, client_of, name_of, times_of}
use Rattle.fdb_log_reader.specs.Columns.{NumberColumn, ShownColumn, all_shown, key_in, most_bytes, numbered_on, shown_of, with_key}
use Rattle.fdb_log_reader.specs.declared.shown.Shown.{Shown}
use Rattle.fdb_log_reader.specs.Numbers.{client_in, with_client}
use Rattle.fdb_log_reader.specs.Parts.{SaidParts, key_said, parts_said}
use Rattle.fdb_log_reader.specs.Reading.{Reading, or_not_json, pushed, reading_of, value_of, with_line, with_own_number, with_said, with_value}
use Rattle.fdb_log_reader.specs.declared.named_log.NamedLog.{NamedLog}
use Rattle.fdb_log_reader.specs.private.{shows}
use Rattle.fdb_log_reader.specs.private.Usual.{IsReadAs, IsSmall, IsTold, Reads, Says, SaysFurther, StandsFor, beside_of, says_of, told_data, told_json, told_text}

told_reads : (told : Told) → IsSmall told → of_json (told_json told) ≡ Some (told_data told)
told_reads (Number n) small = ap (option_map number) (number_of-decimal n small)
told_reads _ small = refl

told_number : (told : Told) → IsSmall told → HasNumbers (told_json told)
told_number (Number n) small = IsNumber-decimal n small
told_number _ small = tt

told_depth : (told : Told) → depth (told_json told) ≡ 0
told_depth Null = refl
told_depth _ = refl

-- ---- texts

opened : (those : json.Members) → 123 ∷ print_from false (members_tokens those) ≡ print_from false (json_tokens (json.object those))
unfolding print_from
opened those = refl

member_text : (name : List ℕ) (told : Told) (more : json.Members)
    → print_from false (members_tokens (json.member name (told_json told) more)) ≡ quoted name ++ 58 ∷ (told_text told ++ print_from true (members_tokens more))
unfolding print_from
member_text name (Number n) more = append_assoc (quoted name) (58 ∷ []) (decimal n ++ print_from true (members_tokens more))
member_text name (Text text) more = append_assoc (quoted name) (58 ∷ []) (quoted text.now ++ print_from true (members_tokens more))
member_text name Null more = append_assoc (quoted name) (58 ∷ []) (110 ∷ 117 ∷ 108 ∷ 108 ∷ print_from true (members_tokens more))

comma : (name : List ℕ) (said : json.Json) (more : json.Members)
    → 44 ∷ print_from false (members_tokens (json.member name said more)) ≡ print_from true (members_tokens (json.member name said more))
unfolding print_from
comma name said more = refl

closed : 125 ∷ [] ≡ print_from true (members_tokens json.no_members)
unfolding print_from
closed = refl

-- what is read of the text of an object
object_read : (those : json.Members) (all : Members) → MembersHaveNumbers those → members_depth those ≤ 126 → of_members those no_members ≡ Some all
    → read (123 ∷ print_from false (members_tokens those)) ≡ Some (object all)
object_read those all numbers flat is =
    let whole = json.object those in
    let spelt : tokens (123 ∷ print_from false (members_tokens those)) ≡ json_tokens whole = ap tokens (opened those) ∙ tokens-print (json_tokens whole) (ArePrintable-json_tokens whole numbers) in
    ap (λ ts. option_and_then of_json (option_and_then (λ p. json.if_last p.0 p.1) (json.value max_depth ts))) (spelt ∙ sym (append-nil (json_tokens whole)))
    ∙ ap (λ o. option_and_then of_json (option_and_then (λ p. json.if_last p.0 p.1) o)) (value-json_tokens whole max_depth [] (omega arith))
    ∙ ap (option_map object) is

-- ---- what members say

put_said : (name q : List ℕ) (told : Told) (found : Members) (was now : Option Data) → get_member q found ≡ was
    → now ≡ (if bytes_eq name q then Some (told_data told) else was) → get_member q (put name (told_data told) found) ≡ now
put_said name q told found was now says more =
    elim (bytes_eq name q) as (λ b. bytes_eq name q ≡ b → get_member q (put name (told_data told) found) ≡ (if b then Some (told_data told) else was)) [
      | true ↦ λ e. ap (λ n. get_member n (put name (told_data told) found)) (sym ((bytes_eq-Decides name q).0 e)) ∙ get_member-put name (told_data told) found
      | false ↦ λ e. get_member-put_other q name (told_data told) found (λ same. false≢true (sym e ∙ (bytes_eq-Decides name q).1 (sym same))) ∙ says
    ] refl ∙ sym more

put_further : (further : Option (List ℕ)) (name : List ℕ) (told : Told) (found : Members) (line next : Usual) → IfSome further (λ q. get_member q found ≡ beside_of line q)
    → SaysFurther further name told line next → IfSome further (λ q. get_member q (put name (told_data told) found) ≡ beside_of next q)
put_further None name told found line next says more = tt
put_further (Some q) name told found line next says more = put_said name q told found (beside_of line q) (beside_of next q) says more

put_says : (further : Option (List ℕ)) (name : List ℕ) (told : Told) (found : Members) (line next : Usual) → IsTold (λ q. get_member q found) further line
    → Says further name told line next → IsTold (λ q. get_member q (put name (told_data told) found)) further next
put_says further name told found line next says more =
    (λ m. put_said name (name_of m) told found (says_of line m) (says_of next m) (says.0 m) (more.0 m), put_further further name told found line next says.1 more.1)

-- ---- a member at a time

none_further : (further : Option (List ℕ)) (line : Usual) → line.further ≡ None → IfSome further (λ name. None ≡ beside_of line name)
none_further None line none = tt
none_further (Some name) line none = sym (ap (option_map told_data) none)

pub begun : (bytes rest : List ℕ) (further : Option (List ℕ)) (line : Usual) → bytes ≡ 123 ∷ rest → ((m : Member) → says_of line m ≡ None) → line.further ≡ None
    → Reads bytes further rest line
begun bytes rest further line is none nothing = record {
  found = no_members;
  says = (λ m. sym (none m), none_further further line nothing);
  goes = λ name said more all numbers flat text of. ap read (is ∙ ap (λ l. 123 ∷ l) text) ∙ object_read (json.member name said more) all numbers flat of;
}

pub goes_on : (bytes rest after more name : List ℕ) (further : Option (List ℕ)) (told : Told) (line next : Usual) → Reads bytes further rest line
    → rest ≡ quoted name ++ 58 ∷ (told_text told ++ after) → IsSmall told → Says further name told line next → after ≡ 44 ∷ more → Reads bytes further more next
goes_on bytes rest after more name further told line next reads is small says comes = record {
  found = put name (told_data told) reads.found;
  says = put_says further name told reads.found line next reads.says says;
  goes = λ key said others all numbers flat text of.
      let tail = json.member key said others in
      let spelt : after ≡ print_from true (members_tokens tail) = comes ∙ ap (λ l. 44 ∷ l) text ∙ comma key said others in
      reads.goes name (told_json told) tail all (told_number told small, numbers) (omega (arith, told_depth told))
      (is ∙ ap (λ l. quoted name ++ 58 ∷ (told_text told ++ l)) spelt ∙ sym (member_text name told tail))
      (ap (option_and_then (λ d. of_members tail (put name d reads.found))) (told_reads told small) ∙ of);
}

pub ended : (bytes rest after name : List ℕ) (further : Option (List ℕ)) (told : Told) (line next : Usual) → Reads bytes further rest line
    → rest ≡ quoted name ++ 58 ∷ (told_text told ++ after) → IsSmall told → Says further name told line next → after ≡ 125 ∷ [] → IsReadAs bytes further next
ended bytes rest after name further told line next reads is small says comes =
    let all = put name (told_data told) reads.found in
    let spelt : after ≡ print_from true (members_tokens json.no_members) = comes ∙ closed in (
      object all,
      reads.goes name (told_json told) json.no_members all (told_number told small, tt) (omega (arith, told_depth told))
          (is ∙ ap (λ l. quoted name ++ 58 ∷ (told_text told ++ l)) spelt ∙ sym (member_text name told json.no_members))
          (ap (option_and_then (λ d. of_members json.no_members (put name d reads.found))) (told_reads told small)),
      put_says further name told reads.found line next reads.says says,
    )

-- ---- the whole line

-- of what members say beside those with a name of their own, just that is read which has the key
key_same : (member : Option (List ℕ)) (call : Operation) (beside said : List ℕ → Option Data) → IfSome member (λ name. beside name ≡ said name)
    → key_said member call beside ≡ key_said member call said
key_same None call beside said same = refl
key_same (Some member) call beside said same =
    ap (λ (key : Option Data). if is_learn (kind_of call) then Err (BadMember Learn) else key_in key) same

pub parts_same : (names : List (List ℕ)) (member : Option (List ℕ)) (says : Member → Option Data) (beside said : List ℕ → Option Data) → IfSome member (λ name. beside name ≡ said name)
    → parts_said names member says beside ≡ parts_said names member says said
parts_same names member says beside said same =
    ap (λ (key_with : Operation → Result (Option (List ℕ)) Why).
    and_then (client_of says) (λ client.
    and_then (call_of names says) (λ call.
    and_then (times_of says) (λ times.
    and_then (key_with call) (λ key.
    Ok (record { client = client; call = call; times = times; key = key }))))))
    (λ i call. key_same member call beside said same i)

beside_same : (reading : Reading) (says : Member → Option Data) (beside said : List ℕ → Option Data) → IfSome (option_map (λ column. column.member) reading.keys) (λ name. beside name ≡ said name)
    → reading.shown ≡ [] → with_said reading says beside ≡ with_said reading says said
beside_same reading says beside said same hidden =
    let shown : all_shown beside reading.shown ≡ all_shown said reading.shown = ap (all_shown beside) hidden ∙ sym (ap (all_shown said) hidden) in
    ap₂ (λ (parts : Result SaidParts Why) (shown : List ShownColumn).
    and_then parts (λ parts.
    let names = with_client reading.names parts.client in
    and_then (pushed reading.log (record { client = client_in names parts.client; call = parts.call; times = parts.times })) (λ log.
    Ok (record { log = log; names = names; keys = option_map (λ column. with_key column parts.key) reading.keys; numbers = reading.numbers; shown = shown }))))
    (parts_same reading.names (option_map (λ column. column.member) reading.keys) says beside said same) shown

pub stands : (bytes : List ℕ) (further : Option (List ℕ)) (line : Usual) → IsUtf8 bytes → IsReadAs bytes further line → StandsFor bytes further line
stands bytes further line text is = (
  is.0,
  ap (λ b. or_not_json (if b then read bytes else None)) (is_utf8-from_IsUtf8 bytes text) ∙ ap or_not_json is.1,
  (λ i m. is.2.0 m i),
  is.2.1,
)

pub none_shown : (shown : List Shown) → (length shown == 0) ≡ true → map shown_of shown ≡ []
none_shown [] none = refl
none_shown (one ∷ more) none = absurd (grind (arith, nat_tests))

-- what has been read is all, where nothing is shown
pub shown_nothing : {T : Type 0} (result : Result T Why) (old new : NamedLog) (read : Result Reading Why) (beside : List ℕ → Option Data) → (reading_of old).shown ≡ []
    → OnOk result (new.shown ≡ old.shown)
    → MatchResult result (λ _. read ≡ Ok (shows (all_shown beside (reading_of old).shown) (reading_of new))) (λ why. (why ≡ Memory) ⊎ (read ≡ Err why))
    → MatchResult result (λ _. read ≡ Ok (reading_of new)) (λ why. (why ≡ Memory) ⊎ (read ≡ Err why))
shown_nothing (Ok said) old new read beside hidden same is =
    is ∙ ap (λ columns. Ok (shows columns (reading_of new))) (ap (all_shown beside) hidden ∙ sym (ap (λ shown. map shown_of shown.items) same ∙ hidden))
shown_nothing (Err why) old new read beside hidden same is = is

-- what has been read with such a line more, where the further member has the keys, and nothing is shown
pub with_usual : (reading : Reading) (bytes : List ℕ) (further : Option (List ℕ)) (line : Usual) → further ≡ option_map (λ column. column.member) reading.keys → reading.shown ≡ []
    → length bytes ≤ most_bytes reading.numbers → length reading.log.lines < MAX_LINES → (is : StandsFor bytes further line)
    → with_line reading bytes ≡ and_then (with_said reading (says_of line) (beside_of line)) (with_own_number (λ name. get name is.0))
with_usual reading bytes further line keyed_by hidden short few is =
    let short_enough : nat_lt (most_bytes reading.numbers) (length bytes) ≡ false = grind (arith, nat_tests) in
    let few_enough : nat_le MAX_LINES (length reading.log.lines) ≡ false = grind (arith, nat_tests) in
    ap (λ b. if b then Err TooLong else (if nat_le MAX_LINES (length reading.log.lines) then Err TooMany else and_then (value_of bytes) (with_value reading))) short_enough
    ∙ ap (λ b. if b then Err TooMany else and_then (value_of bytes) (with_value reading)) few_enough
    ∙ ap (λ value. and_then value (with_value reading)) is.1
    ∙ (ap (λ says. and_then (with_said reading says (λ name. get name is.0)) (with_own_number (λ name. get name is.0))) is.2
    ∙ ap (λ said. and_then said (with_own_number (λ name. get name is.0))) (beside_same reading (says_of line) (λ name. get name is.0) (beside_of line) (subst (λ name. IfSome name (λ name. get name is.0 ≡ beside_of line name)) keyed_by is.3) hidden))

-- what has been read with the own number of the line, which comes last
abbrev pub numbered_read : Reading → Option NumberColumn → Reading
numbered_read reading numbers = record { log = reading.log; names = reading.names; keys = reading.keys; numbers = numbers; shown = reading.shown }

pub with_number : {T : Type 0} (result : Result T Why) (between new : Reading) (said : List ℕ → Option Data) (read : Result Reading Why)
    → read ≡ and_then (Ok between) (with_own_number said) → new ≡ numbered_read between new.numbers
    → MatchResult result (λ _. numbered_on said between.numbers ≡ Ok new.numbers) (λ why. (why ≡ Memory) ⊎ (numbered_on said between.numbers ≡ Err why))
    → MatchResult result (λ _. read ≡ Ok new) (λ why. (why ≡ Memory) ⊎ (read ≡ Err why))
with_number (Ok done) between new said read last same is =
    last ∙ (ap (λ (numbers : Result (Option NumberColumn) Why). and_then numbers (λ numbers. Ok (numbered_read between numbers))) is ∙ ap (λ (it : Reading). Ok it) (sym same))
with_number (Err why) between new said read last same (inl memory) = inl memory
with_number (Err why) between new said read last same (inr refused) =
    inr (last ∙ ap (λ (numbers : Result (Option NumberColumn) Why). and_then numbers (λ numbers. Ok (numbered_read between numbers))) refused)
