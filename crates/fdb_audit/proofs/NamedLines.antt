-- When lines say the same, whatever numbers their clients and keys have.
use Rattle.std.proofs.Common.{◌≡◌, ◌∙◌, ℕ, suc, ◌<◌, ◌≤◌, Bool, true, false, List, [], ◌∷◌, Option, None, Some, IfSome, Result, Ok, Err, ap, arith, eqb-true, if◌then◌else◌, inl, inr, length, map, nat_eq, refl, subst, sym}
use Rattle.std.specs.List.{All, slice_index}
use Rattle.std.specs.List.Sorted.{IsNonDecreasing, IsNonDecreasingBy}
use Rattle.std.specs.Option.{option_eq}
use Rattle.std.proofs.Props.{props}
use Rattle.std.proofs.lemmas.Bool.{cases_lt, false≢true}
use Rattle.std.proofs.lemmas.Bool.Decides.{nat_tests}
use Rattle.std.proofs.lemmas.List.{get_or-map, length-map}
use Rattle.fdb_lines.specs.contracts.line.OperationPartialEq.TheImpl.{eq-value as call-eq}
use Rattle.fdb_lines.specs.contracts.line.TimesPartialEq.TheImpl.{eq-value as times-eq}
use Rattle.fdb_lines.specs.declared.key_part.KeptLine.{KeptLine}
use Rattle.fdb_lines.specs.declared.line.Operation.{Operation}
use Rattle.fdb_lines.specs.declared.line.Operation.TheVariants.{Read, Commit, Ask, Report, Learn}
use Rattle.fdb_lines.specs.declared.line.Times.{Times}
use Rattle.fdb_lines.specs.KeyWatch.{IsKept}
use Rattle.fdb_lines.specs.Lines.{line_at}
use Rattle.fdb_log_reader.specs.declared.error.Why.{Why}
use Rattle.fdb_log_reader.specs.declared.error.Why.TheVariants.{TooLong, TooMany}
use Rattle.fdb_log_reader.specs.declared.read_line.ReadLine.{ReadLine}
use Rattle.fdb_log_reader.specs.Members.{and_then}
use Rattle.fdb_log_reader.specs.ReadLine.{LineNames, SaidLine, line_in, line_read, lines_read, names_after, names_behind, no_names, refusal_alone, said_in, showing, unless, with_names}
use Rattle.fdb_log_reader.specs.Reading.{lines_in, value_of}
use Rattle.fdb_audit.specs.Following.{keys_taken, lines_taken, taken}
use Rattle.fdb_audit.specs.Kept.{Named, Rise, named, named_at, named_in, named_said}
use Rattle.fdb_audit.specs.private.KeptTexts.{named_kept, number_of}

-- ---- what was done, and when

pub same_call : (one other : Operation) → call-eq.it one other ≡ true → one ≡ other
same_call (Read v) (Read w) is = ap Read (eqb-true v w is)
same_call (Commit v) (Commit w) is = ap Commit (eqb-true v w is)
same_call (Ask v) (Ask w) is = ap Ask (eqb-true v w is)
same_call (Report v) (Report w) is = ap Report (eqb-true v w is)
same_call (Learn a) (Learn b) is = ap Learn (eqb-true a b is)
same_call one other is = absurd (false≢true is)

options_same : {X : Type 0} (test : X → X → Bool) → ((x y : X) → test x y ≡ true → x ≡ y) → (one other : Option X) → option_eq test one other ≡ true → one ≡ other
options_same test are None None is = refl
options_same test are None (Some y) is = absurd (false≢true is)
options_same test are (Some x) None is = absurd (false≢true is)
options_same test are (Some x) (Some y) is = ap Some (are x y is)

only_one : (began : ℕ) (ended : Option ℕ) (one other : IfSome ended (λ end. began ≤ end)) → one ≡ other
only_one began ended one other = let only : IsProp (IfSome ended (λ end. began ≤ end)) = Prim.hlevel props in only one other

abbrev times_of : (began : ℕ) (ended : Option ℕ) → IfSome ended (λ end. began ≤ end) → Times
times_of began ended order = record { began = began; ended = ended; in_order = order }

both_same : (one other : Times) → one.began ≡ other.began → one.ended ≡ other.ended → one ≡ other
both_same one other began ended =
    subst (λ (end : Option ℕ). (order : IfSome end (λ end. other.began ≤ end)) → one ≡ times_of other.began end order) ended
    (subst (λ (at : ℕ). (order : IfSome one.ended (λ end. at ≤ end)) → one ≡ times_of at one.ended order) began
    (λ order. ap (times_of one.began one.ended) (only_one one.began one.ended one.in_order order))) other.in_order

pub same_times : (one other : Option Times) → option_eq times-eq.it one other ≡ true → one ≡ other
same_times one other is =
    options_same times-eq.it (λ x y are. both_same x y (grind (arith, nat_tests)) (options_same nat_eq (λ n m. eqb-true n m) x.ended y.ended (grind (arith, nat_tests)))) one other is

-- ---- what lines say

-- lines that were read say, by names, what those say that are kept
abbrev pub SayTheSame : LineNames → List (Result ReadLine Why) → LineNames → List KeptLine → Type 0
SayTheSame names lines theirs kept = map (named_said names) (taken (map said_in lines)) ≡ map (named_kept theirs) kept

pub say_the_same : (names theirs : LineNames) (line : Result ReadLine Why) (kept : KeptLine) (lines : List (Result ReadLine Why)) (more : List KeptLine)
    → SayTheSame names (line ∷ []) theirs (kept ∷ []) → SayTheSame names lines theirs more → SayTheSame names (line ∷ lines) theirs (kept ∷ more)
say_the_same names theirs (Ok read) kept lines more one rest = cc
say_the_same names theirs (Err why) kept lines more one rest = cc

-- what is kept of lines is what was taken at their places, which rise where their numbers do
pub named_places : (names : LineNames) (read : List (Result SaidLine Why)) (kept : List KeptLine) → All (IsKept (lines_taken read) (keys_taken read)) kept
    → map (named_kept names) kept ≡ map (named_at names read) (map number_of kept)
named_places names read [] are = refl
named_places names read (one ∷ kept) are =
    let here = are 0 one (omega arith) in
    let first : named_kept names one ≡ named_at names read one.number =
    ap (λ line. named names line one.key) here.line ∙ ap (λ key. named names (line_at (lines_taken read) one.number) key) here.key in
    let rest = named_places names read kept (λ k d lt. are (suc k) d (omega (arith, lt))) in
    cc

pub places_rise : (kept : List KeptLine) → IsNonDecreasingBy number_of kept → IsNonDecreasing (map number_of kept)
places_rise [] rise = λ i j d le lt. absurd (omega (arith, lt))
places_rise (one ∷ kept) rise = λ i j d le lt.
    let all = one ∷ kept in
    let size = length-map all number_of in
    let within : j < length all = omega (arith, lt, size) in
    let first = get_or-map number_of all i one d (omega (arith, le, within)) in
    let last = get_or-map number_of all j one d within in
    let up = rise i j one le within in
    omega (arith, first, last, up)

-- they are apart where their numbers are
pub places_apart : (number : ℕ → ℕ) (places : List ℕ) → IsNonDecreasing places → Rise (map number places) → Rise places
places_apart number places rise apart = λ i j lt within.
    let size = length-map places number in
    let first = get_or-map number places i 0 0 (omega (arith, lt, within)) in
    let last = get_or-map number places j 0 0 within in
    let up = rise i j 0 (omega (arith, lt)) within in
    let above = apart i j lt (omega (arith, within, size)) in
    elim (cases_lt (slice_index places i) (slice_index places j)) [
      | inl less ↦ less
      | inr ge ↦
          let same : slice_index places i ≡ slice_index places j = omega (arith, ge, up) in
          let both = ap number same in
          absurd (omega (arith, first, last, above, both))
    ]

-- ---- whatever is shown of them

abbrev bare : Result (SaidLine × LineNames) Why → Result (SaidLine × LineNames) Why
bare (Ok read) = Ok (showing [] read.0, read.1)
bare (Err why) = Err why

unless_long : (long full : Bool) (read other : Result (SaidLine × LineNames) Why) → bare read ≡ other
    → bare (if long then Err TooLong else (if full then Err TooMany else read)) ≡ (if long then Err TooLong else (if full then Err TooMany else other))
unless_long true full read other is = refl
unless_long false true read other is = refl
unless_long false false read other is = is

through : {X : Type 0} (said : Result X Why) (one other : X → Result (SaidLine × LineNames) Why) → ((x : X) → bare (one x) ≡ other x) → bare (and_then said one) ≡ and_then said other
through (Ok x) one other are = are x
through (Err why) one other are = refl

unless_refused : (said : SaidLine) (names : LineNames) (why : Option Why) → bare (unless why (said, names)) ≡ unless why (showing [] said, names)
unless_refused said names None = refl
unless_refused said names (Some why) = refl

bare_read : (shown : List (List ℕ)) (names : LineNames) (bytes : List ℕ) → bare (line_read shown names bytes) ≡ line_read [] names bytes
bare_read shown names bytes = unless_long _ _ _ _ (through (value_of bytes) _ _ (λ value. through _ _ _ (λ parts. unless_refused _ (with_names names parts) (refusal_alone parts))))

-- the names behind lines, and what the lines say by any names
names_step : (shown : List (List ℕ)) (names : LineNames) (lines : List (List ℕ)) (read other : Result (SaidLine × LineNames) Why) → bare read ≡ other
    → ((names : LineNames) → names_behind shown names lines ≡ names_behind [] names lines)
    → names_behind shown (names_after names read) lines ≡ names_behind [] (names_after names other) lines
names_step shown names lines (Ok read) other is rest = subst (λ other. names_behind shown read.1 lines ≡ names_behind [] (names_after names other) lines) is (rest read.1)
names_step shown names lines (Err why) other is rest = subst (λ other. names_behind shown names lines ≡ names_behind [] (names_after names other) lines) is (rest names)

names_alike : (shown : List (List ℕ)) (names : LineNames) (lines : List (List ℕ)) → names_behind shown names lines ≡ names_behind [] names lines
names_alike shown names [] = refl
names_alike shown names (line ∷ lines) =
    names_step shown names lines (line_read shown names line) (line_read [] names line) (bare_read shown names line) (λ names. names_alike shown names lines)

abbrev all_said : LineNames → List (Result SaidLine Why) → List Named
all_said own read = map (named_said own) (taken read)

said_step : (shown : List (List ℕ)) (own names : LineNames) (lines : List (List ℕ)) (read other : Result (SaidLine × LineNames) Why) → bare read ≡ other
    → ((names : LineNames) → all_said own (lines_read shown names lines) ≡ all_said own (lines_read [] names lines))
    → all_said own (line_in read ∷ lines_read shown (names_after names read) lines) ≡ all_said own (line_in other ∷ lines_read [] (names_after names other) lines)
said_step shown own names lines (Ok read) other is rest =
    subst (λ other. all_said own (Ok read.0 ∷ lines_read shown read.1 lines) ≡ all_said own (line_in other ∷ lines_read [] (names_after names other) lines)) is
    (ap (λ (more : List Named). named_said own read.0 ∷ more) (rest read.1))
said_step shown own names lines (Err why) other is rest =
    subst (λ other. all_said own (lines_read shown names lines) ≡ all_said own (line_in other ∷ lines_read [] (names_after names other) lines)) is (rest names)

said_alike : (shown : List (List ℕ)) (own names : LineNames) (lines : List (List ℕ)) → all_said own (lines_read shown names lines) ≡ all_said own (lines_read [] names lines)
said_alike shown own names [] = refl
said_alike shown own names (line ∷ lines) =
    said_step shown own names lines (line_read shown names line) (line_read [] names line) (bare_read shown names line) (λ names. said_alike shown own names lines)

alike : (key : Option (List ℕ)) (shown : List (List ℕ)) (text : List ℕ) → named_in key shown text ≡ named_in key [] text
alike key shown text =
    let none = no_names key in
    let lines = lines_in text in
    said_alike shown (names_behind shown none lines) none lines ∙ ap (λ (names : LineNames). all_said names (lines_read [] none lines)) (names_alike shown none lines)

-- so they say the same, whatever is shown
pub whatever_is_shown : (key : Option (List ℕ)) (one other : List (List ℕ)) (text : List ℕ) → named_in key one text ≡ named_in key other text
whatever_is_shown key one other text = alike key one text ∙ sym (alike key other text)
