-- What the text of a watch that stopped says of when: up to when all had been told, and that no line of it came early.
use Rattle.std.proofs.Common.{◌≡◌, ◌∙◌, ℕ, zero, suc, ◌+◌, ◌-◌, ◌<◌, ◌≤◌, nat_lt, Bool, true, false, cond, List, [], ◌∷◌, IsPermutation, IsTrue, Option, Result, Ok, Err, ap, arith, drop, inl, inr, length, map, option_map, refl, slice_index, string_bytes, subst, sym, take, if◌then◌else◌}
use Rattle.std.specs.List.{All, flat_map}
use Rattle.std.specs.Prelude.{count_by, slice_index_or}
use Rattle.std.proofs.lemmas.Bool.{cases_lt}
use Rattle.std.proofs.lemmas.Bool.Decides.{nat_tests}
use Rattle.std.proofs.lemmas.List.{get_or_default, get_or-drop, get_or-take, length-drop, length-map, length-take}
use Rattle.std.proofs.lemmas.List.Elements.{All-drop, All-from_get_or}
use Rattle.std.proofs.lemmas.List.Sums.{sum_by-cons}
use Rattle.fdb_lines.specs.declared.fault.Found.{Found}
use Rattle.fdb_lines.specs.declared.key_part.KeyPart.{KeyPart}
use Rattle.fdb_lines.specs.declared.key_watch.KeyWatch.{KeyWatch}
use Rattle.fdb_lines.specs.declared.line.Line.{Line}
use Rattle.fdb_lines.specs.Before.{began, began_of, ended}
use Rattle.fdb_lines.specs.KeyWatch.{HasSeenByKey}
use Rattle.fdb_lines.specs.Lines.{kind_of, line_at, nobody}
use Rattle.fdb_lines.specs.Reasons.{shows_or_draws}
use Rattle.fdb_lines.specs.StandByKey.{StandForByKey}
use Rattle.fdb_log_reader.specs.declared.error.Why.{Why}
use Rattle.fdb_log_reader.specs.Named.{Named, named_said}
use Rattle.fdb_log_reader.specs.ReadLine.{SaidLine, no_names}
use Rattle.fdb_log_reader.specs.Reading.{lines_in}
use Rattle.fdb_audit.specs.declared.arguments.AuditArguments.{AuditArguments}
use Rattle.fdb_audit.specs.declared.taken_lines.Taking.{Taking}
use Rattle.fdb_audit.specs.Clocks.{ClocksBefore, believed_end, certain_to, no_clocks}
use Rattle.fdb_audit.specs.Following.{IsAnew, Start, early_at, keys_taken, lines_taken, taken}
use Rattle.fdb_audit.specs.Kept.{KeptSaid, Keeps, Rise, named_at, start_of}
use Rattle.fdb_audit.specs.Taken.{AreTaken}
use Rattle.fdb_audit.specs.Watched.{lines_asked, names_asked}
use Rattle.fdb_audit.proofs.Calls.{IsCall, calls_asked}
use Rattle.fdb_audit.proofs.ReadLines.{counted}
use Rattle.fdb_audit.proofs.Believed.{believed_low}
use Rattle.fdb_audit.proofs.KeptSome.{one_ended, one_kept}
use Rattle.fdb_audit.proofs.KeptTexts.{as_many, drop_mapped, none_at}
use Rattle.fdb_audit.proofs.ReadOn.{early_named, in_time, taken_all}
use Rattle.fdb_audit.proofs.SameBut.{line_is, line_of, none_said}

-- ---- of places that rise, those from one on

count_some : (test : ℕ → Bool) (xs : List ℕ) (i : ℕ) → i < length xs → test (slice_index xs i) ≡ true → 0 < count_by test xs
count_some test [] i lt is = absurd (omega (arith, lt))
count_some test (x ∷ xs) zero lt is =
    let all = sum_by-cons (λ (x : ℕ). cond {A = ℕ} (test x) 1 0) x xs in
    let here : cond {A = ℕ} (test x) 1 0 ≡ 1 = ap (λ b. cond {A = ℕ} b 1 0) is in
    omega (arith, all, here)
count_some test (x ∷ xs) (suc i) lt is =
    let all = sum_by-cons (λ (x : ℕ). cond {A = ℕ} (test x) 1 0) x xs in
    let rest = count_some test xs i (omega (arith, lt)) is in
    omega (arith, all, rest)

pub count_none : {X : Type 0} (test : X → Bool) (xs : List X) → All (λ x. test x ≡ false) xs → count_by test xs ≡ 0
count_none test [] none = refl
count_none {X} test (x ∷ xs) none =
    let all = sum_by-cons (λ (x : X). cond {A = ℕ} (test x) 1 0) x xs in
    let here : cond {A = ℕ} (test x) 1 0 ≡ 0 = ap (λ b. cond {A = ℕ} b 1 0) (none 0 x (omega arith)) in
    let rest = count_none test xs (λ k d lt. none (suc k) d (omega (arith, lt))) in
    omega (arith, all, here, rest)

count_none_of : (test : Named → Bool) (named : ℕ → Named) (places : List ℕ) → All (λ place. test (named place) ≡ false) places → count_by test (map named places) ≡ 0
count_none_of test named [] none = refl
count_none_of test named (place ∷ places) none =
    let all = sum_by-cons (λ (one : Named). cond {A = ℕ} (test one) 1 0) (named place) (map named places) in
    let here : cond {A = ℕ} (test (named place)) 1 0 ≡ 0 = ap (λ b. cond {A = ℕ} b 1 0) (none 0 place (omega arith)) in
    let rest = count_none_of test named places (λ k d lt. none (suc k) d (omega (arith, lt))) in
    omega (arith, all, here, rest)

not_before : (come place : ℕ) → come ≤ place → nat_lt place come ≡ false
not_before come place le = grind (arith, nat_tests)

-- where each line began at a moment or later, none began before
pub none_before : (at : ℕ) (lines : List Line) → ((j : ℕ) → j < length lines → at ≤ began (line_at lines j)) → early_at at lines ≡ 0
none_before at lines late =
    count_none (λ (line : Line). nat_lt (began line) at) lines
    (All-from_get_or (λ (line : Line). nat_lt (began line) at ≡ false) lines nobody (λ j lt. not_before at (began (line_at lines j)) (late j lt)))

fewer : (come : ℕ) (xs : List ℕ) → Rise xs → All (λ x. come ≤ x) (drop (count_by (λ x. nat_lt x come) xs) xs)
fewer come [] rise = λ k d lt. absurd (omega (arith, lt))
fewer come (x ∷ xs) rise = by (nat_lt x come) refl (fewer come xs (λ i j lt within. rise (suc i) (suc j) (omega (arith, lt)) (omega (arith, within))))
  where
    later : come ≤ x → All (λ x. come ≤ x) (x ∷ xs)
    later le zero d lt = le
    later le (suc k) d lt = (let up = rise 0 (suc k) (omega arith) lt in let less : x < slice_index xs k = up in
        subst (λ place. come ≤ place) (get_or_default xs k 0 d (omega (arith, lt))) (omega (arith, less, le)))

    by : (b : Bool) → nat_lt x come ≡ b → All (λ x. come ≤ x) (drop (count_by (λ x. nat_lt x come) xs) xs) → All (λ x. come ≤ x) (drop (count_by (λ x. nat_lt x come) (x ∷ xs)) (x ∷ xs))
    by true is rest =
        let all = sum_by-cons (λ (x : ℕ). cond {A = ℕ} (nat_lt x come) 1 0) x xs in
        let here : cond {A = ℕ} (nat_lt x come) 1 0 ≡ 1 = ap (λ b. cond {A = ℕ} b 1 0) is in
        let count : count_by (λ x. nat_lt x come) (x ∷ xs) ≡ suc (count_by (λ x. nat_lt x come) xs) = omega (arith, all, here) in
        subst (λ n. All (λ x. come ≤ x) (drop n (x ∷ xs))) (sym count) rest
    by false is rest =
        let le : come ≤ x = grind (arith, nat_tests) in
        let each = later le in
        let none = count_none (λ x. nat_lt x come) (x ∷ xs) (λ k d lt. not_before come (slice_index_or (x ∷ xs) k d) (each k d lt)) in
        subst (λ n. All (λ x. come ≤ x) (drop n (x ∷ xs))) (sym none) each

-- ---- where none is refused, those behind some are taken

few_taken : (read : List (Result SaidLine Why)) → length (taken read) ≤ length read
few_taken read = let all = counted 0 read in omega (arith, all)

taken_drop : (n : ℕ) (read : List (Result SaidLine Why)) → length (taken read) ≡ length read → taken (drop n read) ≡ drop n (taken read)
taken_drop zero read all = refl
taken_drop (suc n) [] all = refl
taken_drop (suc n) (Ok said ∷ read) all = taken_drop n read (omega (arith, all))
taken_drop (suc n) (Err why ∷ read) all = let few = few_taken read in absurd (omega (arith, few, all))

-- ---- of a watch whose lines that came since it settled came in time

if_some : (count from : ℕ) → 0 < count → (if nat_lt 0 count then from else 0) ≡ from
if_some count from some = let is : nat_lt 0 count ≡ true = grind (arith, nat_tests) in ap (λ b. if b then from else 0) is

if_none : (b : Bool) (from : ℕ) → from ≡ 0 → (if b then from else 0) ≡ from
if_none true from none = refl
if_none false from none = sym none

-- what a watch keeps stands for all
abbrev pub StandsForAll : Type 0
StandsForAll = (watch : KeyWatch) (lines : List Line) (keys : List (Option ℕ)) (places : List ℕ) → HasSeenByKey watch lines keys
    → IsPermutation (flat_map (λ (part : KeyPart). part.numbers.items) watch.parts.items) places
    → ((i j : ℕ) → i < j → j < length places → slice_index places i < slice_index places j) → StandForByKey watch.margin (watch.from - watch.horizon) lines keys places

module _ (stands : StandsForAll) (asked : AuditArguments) (start : Start) (behind : ℕ) (piece kept : List ℕ) (taking : Taking) {told : List Found}
    (are : AreTaken start taking (lines_asked asked piece) told)
    (keeps : Keeps (option_map string_bytes asked.key) (names_asked asked piece) start.kept taking (lines_asked asked piece) kept)
    (start_early : start.early ≡ 0) (early : taking.counts.early ≡ 0) where
  abbrev lines : List Line
  lines = lines_taken (lines_asked asked piece)

  abbrev from : ℕ
  from = taking.watch.from

  abbrev places : List ℕ
  places = keeps.places

  abbrev count : ℕ
  count = count_by (λ place. nat_lt place taking.settled) places

  stand : StandForByKey taking.watch.margin (taking.watch.from - taking.watch.horizon) lines (keys_taken (lines_asked asked piece)) places
  stand = stands taking.watch lines (keys_taken (lines_asked asked piece)) places are.seen keeps.all keeps.rise

  timely : (j : ℕ) → taking.settled ≤ j → j < length lines → from ≤ began (line_at lines j)
  timely j le lt =
      let since = are.settled.since in
      let none : early_at from (drop taking.settled lines) ≡ 0 = omega (arith, since, start_early, early) in
      let size = length-drop taking.settled lines in
      let late = in_time from (drop taking.settled lines) none (j - taking.settled) (omega (arith, size, le, lt)) in
      let at : taking.settled + (j - taking.settled) ≡ j = omega (arith, le) in
      subst (λ line. from ≤ began line) (get_or-drop taking.settled lines (j - taking.settled) nobody ∙ ap (line_at lines) at) late

  calls : (j : ℕ) → j < length lines → IsTrue (shows_or_draws (kind_of (line_at lines j).call))
  calls j lt =
      let read = lines_asked asked piece in
      let size = length-map (taken read) line_of in
      let each = taken_all IsCall read (calls_asked asked piece) in
      subst (λ (line : Line). IsTrue (shows_or_draws (kind_of line.call))) (sym (line_is (taken read) j)) (each j none_said (omega (arith, size, lt)))

  said_from : (start_of asked behind kept).from ≡ (if nat_lt 0 count then from else 0)
  said_from = ap (λ (said : KeptSaid). said.settled) keeps.said

  -- where nothing had been read, it has settled by what is believed of lines that had come
  by_lines : IsAnew start → from ≤ believed_end no_clocks start.behind [] (take taking.settled lines) - start.behind
  by_lines anew =
      let read = lines_asked asked piece in
      let At = λ (known : ClocksBefore) (at : ℕ) (above since : List Line).
      from ≤ certain_to at start.behind (believed_end known start.behind above (take (taking.settled - length above) since)) in
      let all : At no_clocks 0 [] lines =
      subst (λ known. At known 0 [] lines) anew.clocks
      (subst (λ at. At start.clocks at [] lines) anew.from
      (subst (λ n. At start.clocks start.from (lines_taken (take n read)) (lines_taken (drop n read))) anew.lines are.reach.from)) in
      let same : taking.settled - 0 ≡ taking.settled = omega arith in
      let part = ap (λ n. believed_end no_clocks start.behind [] (take n lines)) same in
      omega (arith, all, part)

  -- where it has settled by lines that had ended, one of them is kept
  pub says_when : IsAnew start → (start_of asked behind kept).from ≡ from
  says_when anew = said_from ∙ elim (cases_lt 0 from) [
    | inr ge ↦ if_none (nat_lt 0 count) from (omega (arith, ge))
    | inl some ↦
        let far = by_lines anew in
        let front = take taking.settled lines in
        let low = believed_low start.behind front in
        let (j, lt, (end, has)) = one_ended 0 front (omega (arith, far, some, low)) in
        let size = length-take taking.settled lines in
        let same = get_or-take taking.settled lines j nobody (omega (arith, lt, size)) in
        let (i, less, before, ends) = one_kept taking.watch.margin (from - taking.watch.horizon) from taking.settled lines (keys_taken (lines_asked asked piece)) places (omega arith) stand calls timely
        j (omega (arith, lt, size)) (omega (arith, lt, size)) (end, ap ended (sym same) ∙ has) in
        if_some count from (count_some (λ place. nat_lt place taking.settled) places i less (grind (arith, nat_tests, before)))
  ]

  all_taken : length (taken (lines_asked asked kept)) ≡ length (lines_asked asked kept)
  all_taken =
      let again = lines_asked asked kept in
      sym (length-map (taken again) (named_said (names_asked asked kept)))
      ∙ (ap length (keeps.lines (map string_bytes asked.shown.items))
      ∙ (length-map places (named_at (names_asked asked piece) (lines_asked asked piece))
      ∙ (sym keeps.whole ∙ sym (as_many (map string_bytes asked.shown.items) (no_names (option_map string_bytes asked.key)) (lines_in kept)))))

  -- those that came since have not come early
  since_then : early_at from (lines_taken (drop count (lines_asked asked kept))) ≡ 0
  since_then =
      let again = lines_asked asked kept in
      let read = lines_asked asked piece in
      let names = names_asked asked kept in
      let named = named_at (names_asked asked piece) read in
      let test = λ (one : Named). nat_lt (began_of one.times) from in
      let same : map (named_said names) (drop count (taken again)) ≡ map named (drop count places) =
      sym (drop_mapped (named_said names) count (taken again))
      ∙ (ap (drop count) (keeps.lines (map string_bytes asked.shown.items)) ∙ drop_mapped named count places) in
      let inside = All-drop (λ place. place < length lines) count places (All-from_get_or (λ place. place < length lines) places 0 stand.within) in
      let later = fewer taking.settled places keeps.rise in
      ap (λ (said : List SaidLine). early_at from (map line_of said)) (taken_drop count again all_taken)
      ∙ (early_named from names (drop count (taken again))
      ∙ (ap (count_by test) same
      ∙ count_none_of test named (drop count places) (λ k d lt.
      not_before from (began (line_at lines (slice_index_or (drop count places) k d))) (timely (slice_index_or (drop count places) k d) (later k d lt) (inside k d lt)))))

  pub none_early : (start_of asked behind kept).early ≡ 0
  none_early =
      let come = ap (λ (said : KeptSaid). said.told) keeps.said in
      (λ i. early_at (said_from i) (lines_taken (drop (come i) (lines_asked asked kept))))
      ∙ by (nat_lt 0 count)
    where
      by : (b : Bool) → early_at (if b then from else 0) (lines_taken (drop count (lines_asked asked kept))) ≡ 0
      by true = since_then
      by false = none_at (lines_taken (drop count (lines_asked asked kept)))
