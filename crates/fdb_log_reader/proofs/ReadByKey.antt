-- What is known of a log that was read with the keys of its lines.
use Rattle.std.proofs.Common.{◌≡◌, ◌∙◌, ◌+◌, ◌==◌, ◌&&◌, ℕ, append-nil, map, ◌<◌, Bool, true, false, cond, nat_le, nat_lt, not, List, [], ◌∷◌, ◌++◌, length, length-append, Option, None, Some, IfSome, option_map, Result, Ok, Err, All, ap, arith, if◌then◌else◌, refl, subst, sym}
use Rattle.std.specs.Bool.{beq}
use Rattle.std.proofs.lemmas.Bool.Decides.{nat_tests}
use Rattle.std.proofs.lemmas.List.Elements.{All-append, All-cons, All-nil}
use Rattle.std.proofs.lemmas.Option.{slice_get_within}
use Rattle.serde_json.specs.Data.{Data}
use Rattle.serde_json.specs.Find.{get}
use Rattle.fdb_lines.specs.declared.line.Line.{Line}
use Rattle.fdb_lines.specs.declared.log.LineError.{LineError}
use Rattle.fdb_lines.specs.declared.log.TheConstants.{MAX_LINES}
use Rattle.fdb_lines.specs.Lines.{Lines, has_times, is_learn, kind_of}
use Rattle.fdb_lines.specs.Log.{added, refusal_of}
use Rattle.fdb_log_reader.specs.declared.error.ReadError.{ReadError}
use Rattle.fdb_log_reader.specs.declared.error.Why.{Why}
use Rattle.fdb_log_reader.specs.declared.error.Why.TheVariants.{BadMember, TooLong, TooMany}
use Rattle.fdb_log_reader.specs.declared.member.Member.{Member}
use Rattle.fdb_log_reader.specs.declared.member.Member.TheVariants.{Learn}
use Rattle.fdb_log_reader.specs.ByKey.{IsReadByKey}
use Rattle.fdb_log_reader.specs.Columns.{KeyColumn, NumberColumn, ShownColumn, all_shown, key_in, most_bytes, no_keys, nothing_shown, numbered_on, with_key}
use Rattle.fdb_log_reader.specs.Members.{and_then, call_of, client_of, member_of, times_of}
use Rattle.fdb_log_reader.specs.Numbers.{IsMore, client_in, with_client}
use Rattle.fdb_log_reader.specs.Parts.{SaidParts, key_said, parts_said}
use Rattle.fdb_log_reader.specs.Reading.{Reading, added_unless, lines_in, nothing, or_refused, pushed, reading_with, value_of, with_line, with_lines, with_own_number, with_parts, with_said, with_value}
use Rattle.fdb_log_reader.proofs.Behind.{once_none}
use Rattle.fdb_log_reader.proofs.NamedOnce.{has_own, once_with}
use Rattle.fdb_log_reader.proofs.ShownTexts.{more_names, within_kept, within_some}

-- ---- a line more

abbrev line_of : Reading → SaidParts → Line
line_of reading parts =
    record { client = client_in (with_client reading.names parts.client) parts.client; call = parts.call; times = parts.times }

-- what has been read with a line more that says this
abbrev with_one : Reading → SaidParts → Option NumberColumn → List ShownColumn → Reading
with_one reading parts numbers shown = record {
  log = added reading.log (line_of reading parts);
  names = with_client reading.names parts.client;
  keys = option_map (λ column. with_key column parts.key) reading.keys;
  numbers = numbers;
  shown = shown;
}

-- beside keys it has not learnt, and its log takes it
record Adds (reading next : Reading) : Type 0 where
  parts : SaidParts
  numbers : Option NumberColumn
  shown : List ShownColumn
  learns : is_learn (kind_of parts.call) ≡ false
  fits : refusal_of reading.log (line_of reading parts) ≡ None
  is : next ≡ with_one reading parts numbers shown

came : {S T : Type 0} (read : Result S Why) (next : S → Result T Why) (it : T) → and_then read next ≡ Ok it → (s : S) × (read ≡ Ok s) × (next s ≡ Ok it)
came (Ok s) next it is = (s, refl, is)
came (Err why) next it is = absurd (cc)

same_ok : {T : Type 0} (one other : T) → (let it : Result T Why = Ok one in it) ≡ Ok other → one ≡ other
same_ok one other is = cc

unless_err : {T : Type 0} (b : Bool) (why : Why) (read : Result T Why) (it : T) → (if b then Err why else read) ≡ Ok it → (b ≡ false) × (read ≡ Ok it)
unless_err true why read it is = absurd (cc)
unless_err false why read it is = (refl, is)

taken : (refused : Option LineError) (log : Lines) (line : Line) (more : Lines) → added_unless refused log line ≡ Ok more → (refused ≡ None) × (more ≡ added log line)
taken None log line more is = (refl, cc)
taken (Some error) log line more is = absurd (cc)

-- beside keys no line has learnt
not_learnt : (names : List (List ℕ)) (member : List ℕ) (says : Member → Option Data) (beside : List ℕ → Option Data) (parts : SaidParts)
    → parts_said names (Some member) says beside ≡ Ok parts → is_learn (kind_of parts.call) ≡ false
not_learnt names member says beside parts is =
    let client = came (client_of says) _ parts is in
    let call = came (call_of names says) _ parts client.2 in
    let times = came (times_of says) _ parts call.2 in
    let key = came (key_said (Some member) call.0 beside) _ parts times.2 in
    let made : SaidParts = record { client = client.0; call = call.0; times = times.0; key = key.0 } in
    let same : made ≡ parts = same_ok made parts key.2 in
    ap (λ (parts : SaidParts). is_learn (kind_of parts.call)) (sym same)
    ∙ (unless_err (is_learn (kind_of call.0)) (BadMember Learn) (key_in (beside member)) key.0 key.1).0

adds : (reading next : Reading) (keys : KeyColumn) (bytes : List ℕ) → reading.keys ≡ Some keys → with_line reading bytes ≡ Ok next → Adds reading next
adds reading next keys bytes keyed is =
    let few = unless_err (nat_lt (most_bytes reading.numbers) (length bytes)) TooLong _ next is in
    let read = unless_err (nat_le MAX_LINES (length reading.log.lines)) TooMany _ next few.1 in
    let value = came (value_of bytes) (with_value reading) next read.1 in
    let says = member_of value.0 in
    let beside = λ (name : List ℕ). get name value.0 in
    let said = came (with_said reading says beside) (with_own_number beside) next value.2 in
    let own = came (numbered_on beside said.0.numbers) _ next said.2 in
    let parts = came (parts_said reading.names (option_map (λ column. column.member) reading.keys) says beside) (with_parts reading beside) said.0 said.1 in
    let line = line_of reading parts.0 in
    let log = came (pushed reading.log line) _ said.0 parts.2 in
    let takes = taken (refusal_of reading.log line) reading.log line log.0 log.1 in
    let between : Reading = record { log = log.0; names = with_client reading.names parts.0.client; keys = option_map (λ column. with_key column parts.0.key) reading.keys; numbers = reading.numbers; shown = all_shown beside reading.shown } in
    let same : between ≡ said.0 = same_ok between said.0 log.2 in
    let last : Reading = record { log = said.0.log; names = said.0.names; keys = said.0.keys; numbers = own.0; shown = said.0.shown } in
    let same_last : last ≡ next = same_ok last next own.2 in
    let by_key : parts_said reading.names (Some keys.member) says beside ≡ Ok parts.0 =
    ap (λ (keys : Option KeyColumn). parts_said reading.names (option_map (λ column. column.member) keys) says beside) (sym keyed) ∙ parts.1 in
    record {
      parts = parts.0;
      numbers = own.0;
      shown = all_shown beside reading.shown;
      learns = not_learnt reading.names keys.member says beside parts.0 by_key;
      fits = takes.0;
      is = sym same_last
          ∙ ap (λ (it : Reading). let made : Reading = record { log = it.log; names = it.names; keys = it.keys; numbers = own.0; shown = it.shown } in made) (sym same)
          ∙ ap (λ (log : Lines). let made : Reading = record { log = log; names = between.names; keys = between.keys; numbers = own.0; shown = between.shown } in made) takes.1;
    }

-- ---- what is known is known with a line more

more_with : (names : List (List ℕ)) (name : Option (List ℕ)) → IsMore names (with_client names name)
more_with names None = more_none names
  where
    more_none : (names : List (List ℕ)) → IsMore names names
    more_none names = ([], sym (append-nil names))
more_with names (Some name) = more_names names (with_client names (Some name)) name refl

within_with : (names : List (List ℕ)) (name : Option (List ℕ)) → IfSome (client_in (with_client names name) name) (λ n. n < length (with_client names name))
within_with names None = tt
within_with names (Some name) =
    let own = has_own names name in
    subst (λ (number : Option ℕ). IfSome number (λ n. n < length (with_client names (Some name)))) (sym own.1) (slice_get_within _ own.0 name own.2)

one_of : {X : Type 0} (P : X → Type 0) (x : X) → P x → All P (x ∷ [])
one_of P x is = All-cons P x [] is (All-nil P)

-- times are on all lines or on none
abbrev AreTimed : Lines → Type 0
AreTimed log = All (λ (line : Line). has_times line ≡ log.timed) log.lines

as_before : (one other : Bool) → beq one other ≡ true → one ≡ other
as_before true true is = refl
as_before true false is = absurd (cc)
as_before false true is = absurd (cc)
as_before false false is = refl

none_first : {X : Type 0} (b : Bool) (x : X) (rest : Option X) → cond b (Some x) rest ≡ None → (b ≡ false) × (rest ≡ None)
none_first true x rest is = absurd (cc)
none_first false x rest is = (refl, is)

timed_more : (log : Lines) (line : Line) → refusal_of log line ≡ None → AreTimed log → AreTimed (added log line)
timed_more log line fits timed = by log.lines timed (none_first _ _ _ (none_first _ _ _ fits).1).0
  where
    by : (lines : List Line) → All (λ (line : Line). has_times line ≡ log.timed) lines
        → (not (length lines == 0) && not (beq log.timed (has_times line))) ≡ false → All (λ (other : Line). has_times other ≡ has_times line) (lines ++ line ∷ [])
    by [] timed none = one_of (λ (other : Line). has_times other ≡ has_times line) line refl
    by (first ∷ lines) timed none =
        let some : (length (first ∷ lines) == 0) ≡ false = grind (arith, nat_tests) in
        let same : beq log.timed (has_times line) ≡ true = not_not (beq log.timed (has_times line)) (ap (λ b. not b && not (beq log.timed (has_times line))) (sym some) ∙ none) in
        let is = as_before log.timed (has_times line) same in
        All-append (λ (other : Line). has_times other ≡ has_times line) (first ∷ lines) (line ∷ []) (λ k d lt. timed k d lt ∙ is)
        (one_of (λ (other : Line). has_times other ≡ has_times line) line refl)
      where
        not_not : (b : Bool) → not b ≡ false → b ≡ true
        not_not true is = refl
        not_not false is = absurd (cc)

known_more : (reading next : Reading) (keys : KeyColumn) (bytes : List ℕ) → with_line reading bytes ≡ Ok next → IsReadByKey reading keys → (more : KeyColumn) × IsReadByKey next more
known_more reading next keys bytes read known =
    let one = adds reading next keys bytes known.keyed read in
    let parts = one.parts in
    let line = line_of reading parts in
    let more = with_key keys parts.key in
    let names = more_with reading.names parts.client in
    let client = λ (line : Line). IfSome line.client (λ client. client < length (with_client reading.names parts.client)) in
    let made : IsReadByKey (with_one reading parts one.numbers one.shown) more = record {
      keyed = ap (option_map (λ column. with_key column parts.key)) known.keyed;
      cells = let one_cell = length-append keys.numbers (client_in more.keys parts.key ∷ []) in let one_line = length-append reading.log.lines (line ∷ []) in let all = known.cells in omega (arith, one_cell, one_line, all);
      clients_once = once_with reading.names parts.client known.clients_once;
      keys_once = once_with keys.keys parts.key known.keys_once;
      clients = All-append client reading.log.lines (line ∷ []) (λ k d lt. within_some reading.names (with_client reading.names parts.client) _ names (known.clients k d lt))
          (one_of client line (within_with reading.names parts.client));
      keys_within = All-append (λ (number : Option ℕ). IfSome number (λ n. n < length more.keys)) keys.numbers (client_in more.keys parts.key ∷ [])
          (within_kept keys.keys more.keys keys.numbers (more_with keys.keys parts.key) known.keys_within)
          (one_of (λ (number : Option ℕ). IfSome number (λ n. n < length more.keys)) (client_in more.keys parts.key) (within_with keys.keys parts.key));
      timed = timed_more reading.log line one.fits known.timed;
      learns = All-append (λ (line : Line). is_learn (kind_of line.call) ≡ false) reading.log.lines (line ∷ []) known.learns (one_of (λ (line : Line). is_learn (kind_of line.call) ≡ false) line one.learns);
    } in
    (more, subst (λ (it : Reading). IsReadByKey it more) (sym one.is) made)

-- ---- all lines

-- what was read is known, and has a line
abbrev pub IsKnown : Reading → Type 0
IsKnown reading = (keys : KeyColumn) × IsReadByKey reading keys × (0 < length reading.log.lines)

pub known_read : (reading last : Reading) (keys : KeyColumn) (lines : List (List ℕ)) → IsReadByKey reading keys → with_lines reading lines ≡ Ok last → IsKnown last
known_read reading last keys [] known is = by _ (length reading.log.lines == 0) refl is
  where
    by : (error : ReadError) (b : Bool) → (length reading.log.lines == 0) ≡ b → (if b then Err error else Ok reading) ≡ Ok last → IsKnown last
    by error true none is = absurd (cc)
    by error false some is =
        let same : reading ≡ last = cc in
        subst IsKnown same (keys, known, grind (arith, nat_tests))
known_read reading last keys (line ∷ lines) known is = by (with_line reading line) refl is (λ next more knows rest. known_read next last more lines knows rest)
  where
    by : (read : Result Reading Why) → with_line reading line ≡ read → or_refused (length reading.log.lines + 1) read (λ more. with_lines more lines) ≡ Ok last
        → ((next : Reading) (more : KeyColumn) → IsReadByKey next more → with_lines next lines ≡ Ok last → IsKnown last) → IsKnown last
    by (Err why) was is again = absurd (cc)
    by (Ok next) was is again = let (more, knows) = known_more reading next keys line was known in again next more knows is

pub known_of_text : (member : List ℕ) (shown : List (List ℕ)) (number : Option (List ℕ)) (bytes : List ℕ) (reading : Reading) → reading_with (Some member) shown number bytes ≡ Ok reading → IsKnown reading
known_of_text member shown number bytes reading is =
    known_read (nothing (Some member) number (map nothing_shown shown)) reading (no_keys member) (lines_in bytes)
    (record {
      keyed = refl;
      cells = refl;
      clients_once = once_none;
      keys_once = once_none;
      clients = All-nil (λ (line : Line). IfSome line.client (λ client. client < 0));
      keys_within = All-nil (λ (number : Option ℕ). IfSome number (λ n. n < 0));
      timed = All-nil (λ (line : Line). has_times line ≡ false);
      learns = All-nil (λ (line : Line). is_learn (kind_of line.call) ≡ false);
    }) is
