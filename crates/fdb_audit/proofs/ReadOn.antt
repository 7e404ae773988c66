-- What is read of lines that come behind others, and what it says by names.
use Rattle.std.proofs.Common.{◌≡◌, ◌∙◌, ℕ, zero, suc, ◌+◌, ◌<◌, ◌≤◌, nat_lt, Bool, true, false, cond, List, [], ◌∷◌, ◌++◌, Option, None, Some, IfOk, IfSome, IsSomeAnd, Result, Ok, Err, ap, arith, drop, length, length-append, map, refl, sym, subst}
use Rattle.std.specs.List.{All}
use Rattle.std.specs.Prelude.{count_by, option_and_then, slice_get}
use Rattle.std.proofs.lemmas.Bool.Decides.{nat_tests}
use Rattle.std.proofs.lemmas.List.{get_or_append_left, map-append}
use Rattle.std.proofs.lemmas.List.Elements.{All-cons, All-nil}
use Rattle.std.proofs.lemmas.List.Sums.{sum_by-cons}
use Rattle.fdb_lines.specs.declared.line.Line.{Line}
use Rattle.fdb_lines.specs.Before.{began, began_of}
use Rattle.fdb_lines.specs.Lines.{line_at}
use Rattle.fdb_log_reader.specs.declared.error.Why.{Why}
use Rattle.fdb_log_reader.specs.LineReader.{AreMore, AreMoreKeys}
use Rattle.fdb_log_reader.specs.Named.{Named, named_if, named_said}
use Rattle.fdb_log_reader.specs.Numbers.{IsMore}
use Rattle.fdb_log_reader.specs.ReadLine.{IsNumbered, LineNames, MemberNames, SaidLine, line_in, line_read, lines_read, names_after, names_behind}
use Rattle.fdb_audit.specs.Following.{early_at, keys_taken, lines_taken, taken}
use Rattle.fdb_audit.proofs.KeptTexts.{taken_on}
use Rattle.fdb_audit.proofs.SameBut.{key_of, line_of, none_said, said_at}

-- ---- lines behind others

pub read_on : (shown : List (List ℕ)) (names : LineNames) (lines more : List (List ℕ))
    → lines_read shown names (lines ++ more) ≡ lines_read shown names lines ++ lines_read shown (names_behind shown names lines) more
read_on shown names [] more = refl
read_on shown names (line ∷ lines) more =
    let read = line_read shown names line in
    ap (λ (rest : List (Result SaidLine Why)). line_in read ∷ rest) (read_on shown (names_after names read) lines more)

pub behind_on : (shown : List (List ℕ)) (names : LineNames) (lines more : List (List ℕ))
    → names_behind shown names (lines ++ more) ≡ names_behind shown (names_behind shown names lines) more
behind_on shown names [] more = refl
behind_on shown names (line ∷ lines) more = behind_on shown (names_after names (line_read shown names line)) lines more

pub lines_taken_on : (read more : List (Result SaidLine Why)) → lines_taken (read ++ more) ≡ lines_taken read ++ lines_taken more
lines_taken_on read more = ap (map line_of) (taken_on read more) ∙ map-append line_of (taken read) (taken more)

pub keys_taken_on : (read more : List (Result SaidLine Why)) → keys_taken (read ++ more) ≡ keys_taken read ++ keys_taken more
keys_taken_on read more = ap (map key_of) (taken_on read more) ∙ map-append key_of (taken read) (taken more)

pub drop_front : {X : Type 0} (xs ys : List X) → drop (length xs) (xs ++ ys) ≡ ys
drop_front [] ys = refl
drop_front (x ∷ xs) ys = drop_front xs ys

-- ---- what holds of each line that is taken

pub taken_all : (P : SaidLine → Type 0) (read : List (Result SaidLine Why)) → All (λ read. IfOk read P) read → All P (taken read)
taken_all P [] all = All-nil P
taken_all P (Ok said ∷ read) all =
    All-cons P said (taken read) (all 0 (Ok said) (omega arith)) (taken_all P read (λ k d lt. all (suc k) d (omega (arith, lt))))
taken_all P (Err why ∷ read) all = taken_all P read (λ k d lt. all (suc k) d (omega (arith, lt)))

pub all_front : {X : Type 0} (P : X → Type 0) (xs ys : List X) → All P (xs ++ ys) → All P xs
all_front P xs ys all = λ k d lt. subst P (get_or_append_left xs ys d k lt) (all k d (let size = length-append xs ys in omega (arith, size, lt)))

-- a line that is not there has no numbers
pub numbered_at : (names : LineNames) (said : List SaidLine) → All (IsNumbered names) said → (k : ℕ) → IsNumbered names (said_at said k)
numbered_at names [] are k = (tt, tt)
numbered_at names (one ∷ said) are zero = are 0 none_said (omega arith)
numbered_at names (one ∷ said) are (suc k) = numbered_at names said (λ i d lt. are (suc i) d (omega (arith, lt))) k

-- ---- what lines say by names that are more

front : (names new : List (List ℕ)) (n : ℕ) → n < length names → slice_get (names ++ new) n ≡ slice_get names n
front [] new n lt = absurd (omega (arith, lt))
front (name ∷ names) new zero lt = refl
front (name ∷ names) new (suc n) lt = front names new n (omega (arith, lt))

client_grown : (names more : List (List ℕ)) (client : Option ℕ) → IsMore names more → IfSome client (λ n. n < length names)
    → option_and_then (slice_get more) client ≡ option_and_then (slice_get names) client
client_grown names more None are within = refl
client_grown names more (Some n) are within = ap (λ (list : List (List ℕ)). slice_get list n) are.1 ∙ front names are.0 n within

key_grown : (keys more : Option MemberNames) (key : Option ℕ) → AreMoreKeys keys more → IfSome key (λ n. IsSomeAnd keys (λ keys. n < length keys.names))
    → option_and_then (λ (keys : MemberNames). option_and_then (slice_get keys.names) key) more ≡ option_and_then (λ (keys : MemberNames). option_and_then (slice_get keys.names) key) keys
key_grown None more key are within = ap (option_and_then (λ (keys : MemberNames). option_and_then (slice_get keys.names) key)) are
key_grown (Some keys) more key are within =
    ap (option_and_then (λ (keys : MemberNames). option_and_then (slice_get keys.names) key)) are.1 ∙ client_grown keys.names are.0.names key are.3 within

grown : (names more : LineNames) (said : SaidLine) → AreMore names more → IsNumbered names said → named_said more said ≡ named_said names said
grown names more said are is =
    let make = λ (client key : Option (List ℕ)). let it : Named = record { client = client; key = key; call = said.line.call; times = said.line.times } in it in
    (λ i. make (client_grown names.clients more.clients said.line.client are.0 is.0 i) (key_grown names.keys more.keys said.key are.1 is.1 i))

pub all_grown : (names more : LineNames) (said : List SaidLine) → AreMore names more → All (IsNumbered names) said → map (named_said more) said ≡ map (named_said names) said
all_grown names more [] are each = refl
all_grown names more (one ∷ said) are each =
    let here = grown names more one are (each 0 one (omega arith)) in
    let rest = all_grown names more said are (λ k d lt. each (suc k) d (omega (arith, lt))) in
    (λ i. here i ∷ rest i)

-- of those that may be refused, those that are not
abbrev pub somes : {X : Type 0} → List (Option X) → List X
somes [] = []
somes (Some x ∷ xs) = x ∷ somes xs
somes (None ∷ xs) = somes xs

pub named_somes : (names : LineNames) (read : List (Result SaidLine Why)) → somes (map (named_if names) read) ≡ map (named_said names) (taken read)
named_somes names [] = refl
named_somes names (Ok said ∷ read) = ap (λ (rest : List Named). named_said names said ∷ rest) (named_somes names read)
named_somes names (Err why ∷ read) = named_somes names read

-- ---- when lines began

pub early_named : (at : ℕ) (names : LineNames) (said : List SaidLine)
    → early_at at (map line_of said) ≡ count_by (λ (one : Named). nat_lt (began_of one.times) at) (map (named_said names) said)
early_named at names [] = refl
early_named at names (one ∷ said) =
    let rest = early_named at names said in
    let here = sum_by-cons (λ (line : Line). cond {A = ℕ} (nat_lt (began line) at) 1 0) one.line (map line_of said) in
    let there = sum_by-cons (λ (one : Named). cond {A = ℕ} (nat_lt (began_of one.times) at) 1 0) (named_said names one) (map (named_said names) said) in
    here ∙ (ap (λ n. cond {A = ℕ} (nat_lt (began one.line) at) 1 0 + n) rest ∙ sym there)

-- where none began before a moment, each began then or later
pub in_time : (at : ℕ) (lines : List Line) → early_at at lines ≡ 0 → (j : ℕ) → j < length lines → at ≤ began (line_at lines j)
in_time at [] none j lt = absurd (omega (arith, lt))
in_time at (line ∷ lines) none zero lt =
    let all = sum_by-cons (λ (line : Line). cond {A = ℕ} (nat_lt (began line) at) 1 0) line lines in
    first (nat_lt (began line) at) refl (omega (arith, all, none))
  where
    first : (b : Bool) → nat_lt (began line) at ≡ b → cond {A = ℕ} b 1 0 ≤ 0 → at ≤ began line
    first true is le = absurd (omega (arith, le))
    first false is le = grind (arith, nat_tests)
in_time at (line ∷ lines) none (suc j) lt =
    let all = sum_by-cons (λ (line : Line). cond {A = ℕ} (nat_lt (began line) at) 1 0) line lines in
    in_time at lines (omega (arith, all, none)) j (omega (arith, lt))
