-- What texts say that keep lines.
use Rattle.std.proofs.Common.{◌≡◌, ◌∙◌, ℕ, zero, suc, ◌+◌, ◌-◌, ◌<◌, nat_lt, Bool, true, false, List, [], ◌∷◌, ◌++◌, Option, None, Some, Result, Ok, Err, ap, cond, append-nil, arith, drop, get_or, inl, inr, is_some, length, map, min, option_map, refl, string_bytes, sym, take, unwrap_or}
use Rattle.std.specs.Prelude.{◌||◌, OnOk, count_by}
use Rattle.std.proofs.lemmas.Bool.{cases_lt}
use Rattle.std.proofs.lemmas.Bool.Decides.{nat_tests}
use Rattle.std.proofs.lemmas.List.{drop_all, length-append, length-map, length_push, map-append, map_push, take_all, take_more}
use Rattle.std.proofs.lemmas.List.Sums.{sum_by-append, sum_by-cons}
use Rattle.fdb_lines.specs.declared.line.Line.{Line}
use Rattle.fdb_lines.specs.Before.{began}
use Rattle.fdb_log_reader.specs.declared.error.Why.{Why}
use Rattle.fdb_log_reader.specs.declared.line_reader.LineReader.{LineReader}
use Rattle.fdb_log_reader.specs.declared.read_line.ReadLine.{ReadLine}
use Rattle.fdb_log_reader.specs.LineReader.{line_names, lines_on}
use Rattle.fdb_log_reader.specs.ReadLine.{LineNames, SaidLine, line_read, lines_read, member_in, names_after, names_behind, no_names, said_in}
use Rattle.fdb_log_reader.specs.Reading.{EndsALine, lines_in}
use Rattle.fdb_audit.specs.declared.arguments.AuditArguments.{AuditArguments}
use Rattle.fdb_audit.specs.declared.follower.Follower.{Follower}
use Rattle.fdb_audit.specs.Watched.{HasFollowed, names_asked}
use Rattle.fdb_audit.specs.Following.{Start, early_at, lines_taken, taken}
use Rattle.fdb_audit.specs.Kept.{KeptSaid, kept_said, number_kept, read_by, says_many, settled_by}

-- ---- where a text ends

pub as_many : (shown : List (List ℕ)) (names : LineNames) (lines : List (List ℕ)) → length (lines_read shown names lines) ≡ length lines
as_many shown names [] = refl
as_many shown names (line ∷ lines) = let rest = as_many shown (names_after names (line_read shown names line)) lines in omega (arith, rest)

-- where nothing is pending, what has been read is all that becomes of the lines of a text
pub all_read : (shown : List (List ℕ)) (names : LineNames) (reader : LineReader) (bytes : List ℕ) (lines : List (Result SaidLine Why))
    → lines_read shown names (lines_in (bytes ++ [])) ≡ lines ++ lines_on reader [] → lines_on reader [] ≡ [] → lines_read shown names (lines_in bytes) ≡ lines
all_read shown names reader bytes lines goes none =
    ap (λ (text : List ℕ). lines_read shown names (lines_in text)) (sym (append-nil bytes))
    ∙ (goes ∙ (ap (λ (rest : List (Result SaidLine Why)). lines ++ rest) none ∙ append-nil lines))

module _ (shown : List (List ℕ)) (names : LineNames) (reader : LineReader) (bytes : List ℕ) (lines : List (Result SaidLine Why))
    (goes : (text : List ℕ) → lines_read shown names (lines_in (bytes ++ text)) ≡ lines ++ lines_on reader text) (one : length (lines_on reader (32 ∷ [])) ≡ 1) where
  so_far : length (lines_in bytes) ≡ length lines + length (lines_on reader [])
  so_far =
      sym (as_many shown names (lines_in bytes))
      ∙ (ap (λ (text : List ℕ). length (lines_read shown names (lines_in text))) (sym (append-nil bytes)) ∙ (ap length (goes []) ∙ length-append lines (lines_on reader [])))

  with_one : length (lines_in (bytes ++ 32 ∷ [])) ≡ length lines + 1
  with_one =
      sym (as_many shown names (lines_in (bytes ++ 32 ∷ [])))
      ∙ (ap length (goes (32 ∷ [])) ∙ (length-append lines (lines_on reader (32 ∷ [])) ∙ ap (λ n. length lines + n) one))

  pub ends_so : lines_on reader [] ≡ [] → EndsALine bytes
  ends_so none = let all = so_far in let more = with_one in let left = ap length none in omega (arith, all, more, left)

  pub nothing_pending : EndsALine bytes → lines_on reader [] ≡ []
  nothing_pending ends = let all = so_far in let more = with_one in empty (lines_on reader []) (omega (arith, all, more, ends))
    where
      empty : (items : List (Result SaidLine Why)) → length items ≡ 0 → items ≡ []
      empty [] is = refl
      empty (item ∷ items) is = absurd (omega (arith, is))

-- ---- parts of lines

pub none_at : (lines : List Line) → early_at 0 lines ≡ 0
none_at [] = refl
none_at (line ∷ lines) = sum_by-cons (λ (one : Line). cond (nat_lt (began one) 0) 1 0) line lines ∙ (let rest = none_at lines in let here = never (began line) in omega (arith, rest, here))
  where
    never : (at : ℕ) → cond {A = ℕ} (nat_lt at 0) 1 0 ≡ 0
    never at = grind (arith, nat_tests)

pub take_least : {X : Type 0} (n : ℕ) (xs : List X) → take (min n (length xs)) xs ≡ take n xs
take_least n xs = elim (cases_lt n (length xs)) [
  | inl lt ↦ ap (λ m. take m xs) (let is : min n (length xs) ≡ n = omega (arith, lt) in is)
  | inr ge ↦ ap (λ m. take m xs) (let is : min n (length xs) ≡ length xs = omega (arith, ge) in is) ∙ (take_all (length xs) xs (omega arith) ∙ sym (take_all n xs ge))
]

pub drop_least : {X : Type 0} (n : ℕ) (xs : List X) → drop (min n (length xs)) xs ≡ drop n xs
drop_least n xs = elim (cases_lt n (length xs)) [
  | inl lt ↦ ap (λ m. drop m xs) (let is : min n (length xs) ≡ n = omega (arith, lt) in is)
  | inr ge ↦ ap (λ m. drop m xs) (let is : min n (length xs) ≡ length xs = omega (arith, ge) in is) ∙ (drop_all (length xs) xs (omega arith) ∙ sym (drop_all n xs ge))
]

pub take_mapped : {X Y : Type 0} (f : X → Y) (n : ℕ) (xs : List X) → take n (map f xs) ≡ map f (take n xs)
take_mapped f zero xs = refl
take_mapped f (suc n) [] = refl
take_mapped {X} {Y} f (suc n) (x ∷ xs) = ap (λ (l : List Y). f x ∷ l) (take_mapped f n xs)

pub drop_mapped : {X Y : Type 0} (f : X → Y) (n : ℕ) (xs : List X) → drop n (map f xs) ≡ map f (drop n xs)
drop_mapped f zero xs = refl
drop_mapped f (suc n) [] = refl
drop_mapped f (suc n) (x ∷ xs) = drop_mapped f n xs

pub taken_on : (xs ys : List (Result SaidLine Why)) → taken (xs ++ ys) ≡ taken xs ++ taken ys
taken_on [] ys = refl
taken_on (Ok said ∷ xs) ys = ap (λ (l : List SaidLine). said ∷ l) (taken_on xs ys)
taken_on (Err why ∷ xs) ys = taken_on xs ys

pub early_on : (at : ℕ) (xs ys : List (Result SaidLine Why)) → early_at at (lines_taken (xs ++ ys)) ≡ early_at at (lines_taken xs) + early_at at (lines_taken ys)
early_on at xs ys =
    let line = λ (said : SaidLine). said.line in
    ap (λ (l : List SaidLine). early_at at (map line l)) (taken_on xs ys)
    ∙ (ap (early_at at) (map-append line (taken xs) (taken ys)) ∙ sum_by-append (λ (one : Line). cond (nat_lt (began one) at) 1 0) (lines_taken xs) (lines_taken ys))

pub taken_next : (lines : List (Result ReadLine Why)) (i : ℕ) (read : Result ReadLine Why) → i < length lines → read ≡ get_or lines i read
    → taken (map said_in (take (i + 1) lines)) ≡ taken (map said_in (take i lines)) ++ taken (said_in read ∷ [])
taken_next lines i read lt is =
    ap (λ (all : List (Result ReadLine Why)). taken (map said_in all))
    (take_more lines i read lt ∙ ap (λ (one : Result ReadLine Why). take i lines ++ one ∷ []) (sym is))
    ∙ (ap taken (map_push said_in (take i lines) read) ∙ taken_on (map said_in (take i lines)) (said_in read ∷ []))

pub on_not_err : {T E P : Type 0} (result : Result T E) → ((error : E) → result ≡ Err error → ⊥) → OnOk result P → P
on_not_err (Ok value) not holds = holds
on_not_err (Err error) not holds = absurd (not error refl)

-- ---- with a line more

read_more : (count : ℕ) (lines : List SaidLine) (said : SaidLine) → read_by count (lines ++ said ∷ []) ≡ unwrap_or (number_kept 1 said) (read_by count lines)
read_more count [] said = refl
read_more count (line ∷ lines) said = read_more (unwrap_or (number_kept 1 line) count) lines said

settled_more : (at : ℕ) (lines : List SaidLine) (said : SaidLine) → settled_by at (lines ++ said ∷ []) ≡ unwrap_or (number_kept 2 said) (settled_by at lines)
settled_more at [] said = refl
settled_more at (line ∷ lines) said = settled_more (unwrap_or (number_kept 2 line) at) lines said

abbrev pub told_more : Option ℕ → ℕ → ℕ
told_more None told = told
told_more (Some settled) told = told + 1

abbrev is_told : SaidLine → Bool
is_told said = is_some (number_kept 2 said)

count_more : (lines : List SaidLine) (said : SaidLine) (settled : Option ℕ) → number_kept 2 said ≡ settled → count_by is_told (lines ++ said ∷ []) ≡ told_more settled (count_by is_told lines)
count_more lines said settled is = sum_by-append (λ (one : SaidLine). cond (is_told one) 1 0) lines (said ∷ []) ∙ by settled is
  where
    count : ℕ
    count = count_by is_told lines

    by : (settled : Option ℕ) → number_kept 2 said ≡ settled → count + (0 + cond (is_told said) 1 0) ≡ told_more settled count
    by None is = ap (λ (it : Option ℕ). count + (0 + cond (is_some it) 1 0)) is ∙ omega arith
    by (Some at) is = ap (λ (it : Option ℕ). count + (0 + cond (is_some it) 1 0)) is ∙ omega arith

abbrev pub number_of : SaidLine → ℕ
number_of said = unwrap_or (number_kept 0 said) 0

abbrev pub said_so : List ℕ → ℕ → ℕ → ℕ → Bool → KeptSaid
said_so numbers more told settled many = record { front = record { lines = numbers; more = more }; told = told; settled = settled; many = many }

many_more : (lines : List SaidLine) (said : SaidLine) → nat_lt 0 (count_by says_many (lines ++ said ∷ [])) ≡ nat_lt 0 (count_by says_many lines) || says_many said
many_more lines said = ap (nat_lt 0) (sum_by-append (λ (one : SaidLine). cond (says_many one) 1 0) lines (said ∷ [])) ∙ by (says_many said) (count_by says_many lines)
  where
    either : (one other : Bool) → other ≡ true → true ≡ one || other
    either true other is = refl
    either false other is = sym is

    neither : (one : Bool) → one ≡ one || false
    neither true = refl
    neither false = refl

    by : (b : Bool) (count : ℕ) → nat_lt 0 (count + (0 + cond {A = ℕ} b 1 0)) ≡ nat_lt 0 count || b
    by true count = let some : nat_lt 0 (count + (0 + 1)) ≡ true = grind (arith, nat_tests) in some ∙ either (nat_lt 0 count) true refl
    by false count = let same : count + (0 + 0) ≡ count = omega arith in ap (nat_lt 0) same ∙ neither (nat_lt 0 count)

pub kept_more : (before : List SaidLine) (said : SaidLine) (number read : ℕ) (settled : Option ℕ)
    → number_kept 0 said ≡ Some number → number_kept 1 said ≡ Some read → number_kept 2 said ≡ settled
    → kept_said (before ++ said ∷ [])
    ≡ said_so (map number_of before ++ number ∷ []) (read - (length before + 1)) (told_more settled (count_by is_told before)) (unwrap_or settled (settled_by 0 before))
    (nat_lt 0 (count_by says_many before) || says_many said)
kept_more before said number read settled number_is read_is settled_is =
    let all = before ++ said ∷ [] in
    let numbers = map number_of before ++ number ∷ [] in
    let more = read - (length before + 1) in
    let many = nat_lt 0 (count_by says_many all) in
    ap (λ ns. said_so ns (read_by 0 all - length all) (count_by is_told all) (settled_by 0 all) many) (map_push number_of before said ∙ ap (λ (it : Option ℕ). map number_of before ++ unwrap_or it 0 ∷ []) number_is)
    ∙ (ap (λ n. said_so numbers (n - length all) (count_by is_told all) (settled_by 0 all) many) (read_more 0 before said ∙ ap (λ (it : Option ℕ). unwrap_or it (read_by 0 before)) read_is)
    ∙ (ap (λ n. said_so numbers (read - n) (count_by is_told all) (settled_by 0 all) many) (length_push before said)
    ∙ (ap (λ n. said_so numbers more n (settled_by 0 all) many) (count_more before said settled settled_is)
    ∙ (ap (λ n. said_so numbers more (told_more settled (count_by is_told before)) n many) (settled_more 0 before said ∙ ap (λ (it : Option ℕ). unwrap_or it (settled_by 0 before)) settled_is)
    ∙ ap (said_so numbers more (told_more settled (count_by is_told before)) (unwrap_or settled (settled_by 0 before))) (many_more before said)))))

pub said_same : (ns ms : List ℕ) (more more_so told told_so at at_so : ℕ) (many many_so : Bool) → ns ≡ ms → more ≡ more_so → told ≡ told_so → at ≡ at_so → many ≡ many_so
    → said_so ns more told at many ≡ said_so ms more_so told_so at_so many_so
said_same ns ms more more_so told told_so at at_so many many_so one two three four five =
    ap (λ l. said_so l more told at many) one
    ∙ (ap (λ n. said_so ms n told at many) two ∙ (ap (λ n. said_so ms more_so n at many) three ∙ (ap (λ n. said_so ms more_so told_so n many) four ∙ ap (said_so ms more_so told_so at_so) five)))

-- what has been read, with a line more
pub added : (was : KeptSaid) (ns : List ℕ) (more told at : ℕ) (many : Bool) (before : List SaidLine) (said : SaidLine) (number read : ℕ) (settled : Option ℕ) → was ≡ kept_said before
    → number_kept 0 said ≡ Some number → number_kept 1 said ≡ Some read → number_kept 2 said ≡ settled
    → ns ≡ was.front.lines ++ number ∷ [] → more ≡ read - (length was.front.lines + 1) → told ≡ told_more settled was.told → at ≡ unwrap_or settled was.settled → many ≡ was.many || says_many said
    → said_so ns more told at many ≡ kept_said (before ++ said ∷ [])
added was ns more told at many before said number read settled same number_is read_is settled_is numbers_are more_is told_is at_is many_is =
    let numbers = ap (λ (kept : KeptSaid). kept.front.lines) same in
    let size = ap length numbers ∙ length-map before number_of in
    said_same ns (map number_of before ++ number ∷ []) more (read - (length before + 1)) told (told_more settled (count_by is_told before)) at (unwrap_or settled (settled_by 0 before))
    many (nat_lt 0 (count_by says_many before) || says_many said)
    (numbers_are ∙ ap (λ (l : List ℕ). l ++ number ∷ []) numbers)
    (more_is ∙ ap (λ n. read - (n + 1)) size)
    (told_is ∙ ap (λ (kept : KeptSaid). told_more settled kept.told) same)
    (at_is ∙ ap (λ (kept : KeptSaid). unwrap_or settled kept.settled) same)
    (many_is ∙ ap (λ (kept : KeptSaid). kept.many || says_many said) same)
    ∙ sym (kept_more before said number read settled number_is read_is settled_is)

-- ---- the member that has the keys

of_key : (key : Option (List ℕ)) → member_in (no_names key) ≡ key
of_key None = refl
of_key (Some name) = refl

abbrev pub StaysInOne : Type 0
StaysInOne = (shown : List (List ℕ)) (names : LineNames) (lines : List (List ℕ)) → member_in (names_behind shown names lines) ≡ member_in names

pub member_asked : (asked : AuditArguments) (bytes : List ℕ) → StaysInOne → member_in (names_asked asked bytes) ≡ option_map string_bytes asked.key
member_asked asked bytes stays =
    let key = option_map string_bytes asked.key in
    stays (map string_bytes asked.shown.items) (no_names key) (lines_in bytes) ∙ of_key key

pub member_followed : (asked : AuditArguments) (start : Start) (follower : Follower) (bytes told : List ℕ) → HasFollowed asked start follower bytes told → StaysInOne
    → member_in (line_names follower.reader) ≡ option_map string_bytes asked.key
member_followed asked start follower bytes told has stays =
    let reader = follower.reader in
    sym (stays (map string_bytes reader.shown.items) (line_names reader) (lines_in (reader.front.items ++ [])))
    ∙ (sym (ap member_in (has.behind [])) ∙ member_asked asked (bytes ++ []) stays)
