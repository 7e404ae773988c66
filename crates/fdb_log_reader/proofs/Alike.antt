-- Lines say the same whatever names are above them, but for the numbers.
use Rattle.std.proofs.Common.{◌≡◌, ℕ, ◌≤◌, nat_le, nat_lt, ◌||◌, Bool, true, false, List, [], ◌∷◌, length, length-append, map, Option, None, Some, not, ◌⊎◌, inl, inr, Result, Ok, Err, refl, ap, sym, subst, ◌∙◌, arith, if◌then◌else◌}
use Rattle.std.specs.Prelude.{⊤, option_and_then}
use Rattle.std.proofs.lemmas.Bool.{false≢true}
use Rattle.std.proofs.lemmas.Bool.Decides.{nat_tests}
use Rattle.serde_json.specs.Data.{Data}
use Rattle.serde_json.specs.Find.{get}
use Rattle.fdb_lines.specs.declared.line.Operation.{Operation}
use Rattle.fdb_lines.specs.declared.line.Operation.TheVariants as call
use Rattle.fdb_lines.specs.declared.line.Times.{Times}
use Rattle.fdb_lines.specs.declared.log.TheConstants.{MAX_LINES}
use Rattle.fdb_lines.specs.Lines.{are_known, is_learn, kind_of}
use Rattle.fdb_log_reader.specs.declared.error.Why.{Why}
use Rattle.fdb_log_reader.specs.declared.error.Why.TheVariants.{BadMember, NoCall, SomeTimes, TooLong, TooMany, TwoCalls}
use Rattle.fdb_log_reader.specs.declared.member.Member.{Member}
use Rattle.fdb_log_reader.specs.declared.member.Member.TheVariants.{Read, Commit, Ask, Report, Learn}
use Rattle.fdb_log_reader.specs.declared.reader.TheConstants.{MAX_LINE_BYTES}
use Rattle.fdb_log_reader.specs.LineReader.{AreMore, AreMoreKeys}
use Rattle.fdb_log_reader.specs.Members.{and_then, as_name, call_of, client_of, member_of, number_of, or_bad, teller_of, times_of}
use Rattle.fdb_log_reader.specs.Named.{Named, named_if, named_said}
use Rattle.fdb_log_reader.specs.Numbers.{IsMore, number_in}
use Rattle.fdb_log_reader.specs.Parts.{SaidParts, key_said, parts_said}
use Rattle.fdb_log_reader.specs.ReadLine.{LineNames, MemberNames, SaidLine, are_full, key_count, line_in, line_read, line_said, line_with, lines_read, member_in, names_after, names_behind, numbered, refusal_alone, unless, with_names}
use Rattle.fdb_log_reader.specs.Reading.{value_of}
use Rattle.fdb_log_reader.proofs.NamedOnce.{member_with, named_again, named_parts}
use Rattle.fdb_log_reader.proofs.SingleLines.{all_same, all_yet, more_behind}

-- ---- what a call says, by whatever names

abbrev IsErr : {T : Type 0} → Result T Why → Type 0
IsErr (Ok said) = ⊥
IsErr (Err why) = ⊤

-- nothing is said, or that it has learnt, which no line may say that is read by itself
abbrev IsLost : Result Operation Why → Type 0
IsLost (Ok call) = is_learn (kind_of call) ≡ true
IsLost (Err why) = ⊤

abbrev CallsAlike : Result Operation Why → Result Operation Why → Type 0
CallsAlike one other = (one ≡ other) ⊎ (IsLost one × IsErr other)

same_where : (b : Bool) (said one other : Result Operation Why) → CallsAlike one other → CallsAlike (if b then said else one) (if b then said else other)
same_where true said one other are = inl refl
same_where false said one other are = are

lost_learnt : (teller : Result ℕ Why) → IsLost (and_then teller (λ teller. Ok (call.Learn teller)))
lost_learnt (Ok teller) = refl
lost_learnt (Err why) = tt

none_learnt : (name : Option (List ℕ)) → IsErr (and_then (or_bad Learn (option_and_then (number_in []) name)) (λ teller. Ok (call.Learn teller)))
none_learnt None = tt
none_learnt (Some name) = tt

calls_alike : (names : List (List ℕ)) (says : Member → Option Data) → CallsAlike (call_of names says) (call_of [] says)
calls_alike names says =
    same_where _ (Err NoCall) _ _ (same_where _ (Err TwoCalls) _ _
    (same_where _ (and_then (number_of says Read) (λ version. Ok (call.Read version))) _ _
    (same_where _ (and_then (number_of says Commit) (λ version. Ok (call.Commit version))) _ _
    (same_where _ (and_then (number_of says Ask) (λ version. Ok (call.Ask version))) _ _
    (same_where _ (and_then (number_of says Report) (λ version. Ok (call.Report version))) _ _
    (inr (lost_learnt (teller_of names says), none_learnt (option_and_then as_name (says Learn)))))))))

-- ---- what a line says, by whatever names

-- what it says, and what is shown of it; none where it is refused
abbrev Parted : Type 0
Parted = SaidParts × List (Option Data)

abbrev kept_if : {X : Type 0} → Option Why → X → Option X
kept_if None said = Some said
kept_if (Some why) said = None

abbrev of_parts : List (List ℕ) → (List ℕ → Option Data) → Result SaidParts Why → Option Parted
of_parts shown beside (Ok parts) = kept_if (refusal_alone parts) (parts, map beside shown)
of_parts shown beside (Err why) = None

abbrev of_value : List (List ℕ) → Option (List ℕ) → Result Data Why → Option Parted
of_value shown member (Ok value) = of_parts shown (λ name. get name value) (parts_said [] member (member_of value) (λ name. get name value))
of_value shown member (Err why) = None

abbrev of_line : List (List ℕ) → Option (List ℕ) → List ℕ → Option Parted
of_line shown member bytes = if nat_lt MAX_LINE_BYTES (length bytes) then None else of_value shown member (value_of bytes)

abbrev read_as : LineNames → Parted → Result (SaidLine × LineNames) Why
read_as names said = let more = with_names names said.0 in Ok (numbered more said.0 said.1, more)

-- it is read as that
abbrev Says : LineNames → Option Parted → Result (SaidLine × LineNames) Why → Type 0
Says names None read = IsErr read
Says names (Some said) read = read ≡ read_as names said

says_with : (shown : List (List ℕ)) (names : LineNames) (beside : List ℕ → Option Data) (parts : SaidParts) (why : Option Why) → refusal_alone parts ≡ why
    → Says names (kept_if why (parts, map beside shown)) (unless why (numbered (with_names names parts) parts (map beside shown), with_names names parts))
says_with shown names beside parts None is = refl
says_with shown names beside parts (Some why) is = tt

refused_with : (shown : List (List ℕ)) (names : LineNames) (beside : List ℕ → Option Data) (parts : SaidParts) → is_learn (kind_of parts.call) ≡ true → IsErr (line_with shown names beside parts)
refused_with shown names beside parts learnt = by (are_known parts.times) (is_learn (kind_of parts.call)) learnt
  where
    by : (known learns : Bool) → learns ≡ true
        → IsErr {T = SaidLine × LineNames} (unless (if not known then Some SomeTimes else (if learns then Some (BadMember Learn) else None)) (numbered (with_names names parts) parts (map beside shown), with_names names parts))
    by false learns is = tt
    by true true is = tt
    by true false is = absurd (false≢true is)

-- the parts of a line, by its client, its call, its times and its key
abbrev chained : Result (Option (List ℕ)) Why → Result Operation Why → Result (Option Times) Why → (Operation → Result (Option (List ℕ)) Why) → Result SaidParts Why
chained client call times key =
    and_then client (λ client. and_then call (λ call. and_then times (λ times. and_then (key call) (λ key. Ok (record { client = client; call = call; times = times; key = key })))))

module _ (shown : List (List ℕ)) (names : LineNames) (beside : List ℕ → Option Data) where
  said_same : (parts : Result SaidParts Why) → Says names (of_parts shown beside parts) (and_then parts (line_with shown names beside))
  said_same (Ok parts) = says_with shown names beside parts (refusal_alone parts) refl
  said_same (Err why) = tt

  learnt_refused : (client : Option (List ℕ)) (call : Operation) (times : Result (Option Times) Why) (key : Result (Option (List ℕ)) Why) → is_learn (kind_of call) ≡ true
      → IsErr (and_then (and_then times (λ times. and_then key (λ key. Ok (record { client = client; call = call; times = times; key = key })))) (line_with shown names beside))
  learnt_refused client call (Err why) key learnt = tt
  learnt_refused client call (Ok times) (Err why) learnt = tt
  learnt_refused client call (Ok times) (Ok key) learnt = refused_with shown names beside (record { client = client; call = call; times = times; key = key }) learnt

  lost_refused : (client : Result (Option (List ℕ)) Why) (call : Result Operation Why) (times : Result (Option Times) Why) (key : Operation → Result (Option (List ℕ)) Why) → IsLost call
      → IsErr (and_then (chained client call times key) (line_with shown names beside))
  lost_refused (Err why) call times key lost = tt
  lost_refused (Ok client) (Err why) times key lost = tt
  lost_refused (Ok client) (Ok call) times key lost = learnt_refused client call times (key call) lost

  none_said : (client : Result (Option (List ℕ)) Why) (call : Result Operation Why) (times : Result (Option Times) Why) (key : Operation → Result (Option (List ℕ)) Why) → IsErr call
      → of_parts shown beside (chained client call times key) ≡ None
  none_said (Err why) call times key is = refl
  none_said (Ok client) (Err why) times key is = refl
  none_said (Ok client) (Ok call) times key is = absurd is

  said_alike : (client : Result (Option (List ℕ)) Why) (one other : Result Operation Why) (times : Result (Option Times) Why) (key : Operation → Result (Option (List ℕ)) Why)
      → CallsAlike one other → Says names (of_parts shown beside (chained client other times key)) (and_then (chained client one times key) (line_with shown names beside))
  said_alike client one other times key (inl same) =
      subst (λ other. Says names (of_parts shown beside (chained client other times key)) (and_then (chained client one times key) (line_with shown names beside))) same
      (said_same (chained client one times key))
  said_alike client one other times key (inr (lost, none)) =
      subst (λ said. Says names said (and_then (chained client one times key) (line_with shown names beside))) (sym (none_said client other times key none))
      (lost_refused client one times key lost)

says_line : (shown : List (List ℕ)) (names : LineNames) (long full : Bool) (value : Result Data Why) → full ≡ false
    → Says names (if long then None else of_value shown (member_in names) value)
    (if long then Err TooLong else (if full then Err TooMany else and_then value (λ value. line_said shown names (member_of value) (λ name. get name value))))
says_line shown names true full value room = tt
says_line shown names false true value room = absurd (false≢true (sym room))
says_line shown names false false (Err why) room = tt
says_line shown names false false (Ok value) room =
    let says = member_of value in
    let beside = λ (name : List ℕ). get name value in
    said_alike shown names beside (client_of says) (call_of names.clients says) (call_of [] says) (times_of says) (λ call. key_said (member_in names) call beside) (calls_alike names.clients says)

says : (shown : List (List ℕ)) (names : LineNames) (bytes : List ℕ) → are_full names ≡ false → Says names (of_line shown (member_in names) bytes) (line_read shown names bytes)
says shown names bytes room = says_line shown names (nat_lt MAX_LINE_BYTES (length bytes)) (are_full names) (value_of bytes) room

-- ---- room for names

more_or : (a b c d : Bool) → (c ≡ false → a ≡ false) → (d ≡ false → b ≡ false) → (c || d) ≡ false → (a || b) ≡ false
more_or a b true d one two none = absurd (false≢true (sym none))
more_or a b false d one two none = ap (λ first. first || b) (one refl) ∙ two none

fewer : (few many : ℕ) → few ≤ many → nat_le MAX_LINES many ≡ false → nat_le MAX_LINES few ≡ false
fewer few many le room = grind (arith, nat_tests)

more_count : (names more : List (List ℕ)) → IsMore names more → length names ≤ length more
more_count names more is = let size = ap length is.1 ∙ length-append names is.0 in omega (arith, size)

keys_count : (names more : LineNames) → AreMore names more → key_count names.keys ≤ key_count more.keys
keys_count names more are = by names.keys more.keys are.1
  where
    by : (keys more : Option MemberNames) → AreMoreKeys keys more → key_count keys ≤ key_count more
    by None more are = omega arith
    by (Some keys) more are =
        let count = more_count keys.names are.0.names are.3 in
        subst (λ more. length keys.names ≤ key_count more) (sym are.1) count

has_room : (names more : LineNames) → AreMore names more → are_full more ≡ false → are_full names ≡ false
has_room names more are room =
    more_or _ _ (nat_le MAX_LINES (length more.clients)) (nat_le MAX_LINES (key_count more.keys))
    (fewer (length names.clients) (length more.clients) (more_count names.clients more.clients are.0))
    (fewer (key_count names.keys) (key_count more.keys) (keys_count names more are)) room

-- ---- line by line

-- what becomes of lines, by the names that stand behind them
abbrev AllAlike : List (List ℕ) → (names others own theirs : LineNames) → List (List ℕ) → Type 0
AllAlike shown names others own theirs lines =
    member_in names ≡ member_in others → AreMore (names_behind shown names lines) own → AreMore (names_behind shown others lines) theirs → are_full own ≡ false → are_full theirs ≡ false
    → map (named_if own) (lines_read shown names lines) ≡ map (named_if theirs) (lines_read shown others lines)

abbrev NextAlike : List (List ℕ) → (names others own theirs : LineNames) → List (List ℕ) → (read other : Result (SaidLine × LineNames) Why) → Type 0
NextAlike shown names others own theirs lines read other =
    AreMore (names_behind shown (names_after names read) lines) own → AreMore (names_behind shown (names_after others other) lines) theirs
    → map (named_if own) (line_in read ∷ lines_read shown (names_after names read) lines) ≡ map (named_if theirs) (line_in other ∷ lines_read shown (names_after others other) lines)

module _ (shown : List (List ℕ)) (own theirs : LineNames) (room : are_full own ≡ false) (their_room : are_full theirs ≡ false) (lines : List (List ℕ))
    (rest : (names others : LineNames) → AllAlike shown names others own theirs lines) (names others : LineNames) (same : member_in names ≡ member_in others) where
  next_none : (read other : Result (SaidLine × LineNames) Why) → IsErr read → IsErr other → NextAlike shown names others own theirs lines read other
  next_none (Err why) (Err reason) is too = λ more theirs_too. ap (λ (next : List (Option Named)). None ∷ next) (rest names others same more theirs_too room their_room)
  next_none (Ok read) other is too = absurd is
  next_none (Err why) (Ok other) is too = absurd too

  next_some : (said : Parted) → NextAlike shown names others own theirs lines (read_as names said) (read_as others said)
  next_some said = λ more theirs_too.
      let now = with_names names said.0 in
      let now_too = with_names others said.0 in
      let behind = all_yet now (names_behind shown now lines) own (more_behind shown now lines) more in
      let behind_too = all_yet now_too (names_behind shown now_too lines) theirs (more_behind shown now_too lines) theirs_too in
      let both : member_in now ≡ member_in now_too = member_with names said.0 ∙ (same ∙ sym (member_with others said.0)) in
      let here : named_said own (numbered now said.0 said.1) ≡ named_said theirs (numbered now_too said.0 said.1) =
      named_again names own said.0 said.1 behind ∙ (ap (λ member. named_parts member said.0) same ∙ sym (named_again others theirs said.0 said.1 behind_too)) in
      ap (λ (one : Named). Some one ∷ map (named_if own) (lines_read shown now lines)) here
      ∙ ap (λ (next : List (Option Named)). Some (named_said theirs (numbered now_too said.0 said.1)) ∷ next) (rest now now_too both more theirs_too room their_room)

  next : (said : Option Parted) (read other : Result (SaidLine × LineNames) Why) → Says names said read → Says others said other → NextAlike shown names others own theirs lines read other
  next None read other is too = next_none read other is too
  next (Some said) read other is too =
      subst (λ read. NextAlike shown names others own theirs lines read other) (sym is)
      (subst (λ other. NextAlike shown names others own theirs lines (read_as names said) other) (sym too) (next_some said))

all_alike : (shown : List (List ℕ)) (own theirs : LineNames) (lines : List (List ℕ)) (names others : LineNames) → AllAlike shown names others own theirs lines
all_alike shown own theirs [] names others = λ same more theirs_too room their_room. refl
all_alike shown own theirs (line ∷ lines) names others = λ same more theirs_too room their_room.
    let here = has_room names own (all_yet names (names_behind shown names (line ∷ lines)) own (more_behind shown names (line ∷ lines)) more) room in
    let there = has_room others theirs (all_yet others (names_behind shown others (line ∷ lines)) theirs (more_behind shown others (line ∷ lines)) theirs_too) their_room in
    next shown own theirs room their_room lines (λ names others. all_alike shown own theirs lines names others) names others same
    (of_line shown (member_in names) line) (line_read shown names line) (line_read shown others line)
    (says shown names line here)
    (subst (λ member. Says others (of_line shown member line) (line_read shown others line)) (sym same) (says shown others line there))
    more theirs_too

pub lines_alike : (shown : List (List ℕ)) (names others : LineNames) (lines : List (List ℕ)) → member_in names ≡ member_in others
    → are_full (names_behind shown names lines) ≡ false → are_full (names_behind shown others lines) ≡ false
    → map (named_if (names_behind shown names lines)) (lines_read shown names lines) ≡ map (named_if (names_behind shown others lines)) (lines_read shown others lines)
lines_alike shown names others lines same room their_room =
    let own = names_behind shown names lines in
    let theirs = names_behind shown others lines in
    all_alike shown own theirs lines names others same (all_same own) (all_same theirs) room their_room
