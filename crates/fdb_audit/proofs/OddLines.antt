-- Lines that came early, or of which others are ahead, with one line more, and where a watch settles.
use Rattle.std.proofs.Common.{◌≡◌, ◌∙◌, ℕ, suc, ◌+◌, ◌-◌, ◌<◌, ◌≤◌, Bool, true, false, nat_le, nat_lt, List, [], ◌∷◌, ◌++◌, None, Option, Some, Result, Ok, Err, ap, arith, drop, length, length-drop, refl, subst, sym}
use Rattle.std.specs.Prelude.{if◌then◌else◌}
use Rattle.std.specs.List.{All, AllPairs}
use Rattle.std.proofs.lemmas.Bool.Decides.{nat_tests}
use Rattle.std.proofs.lemmas.List.{length-append, length-map, take-append-le, take_all}
use Rattle.fdb_lines.specs.declared.line.Line.{Line}
use Rattle.fdb_lines.specs.Before.{began}
use Rattle.fdb_log_reader.specs.declared.error.Why.{Why}
use Rattle.fdb_log_reader.specs.ReadLine.{SaidLine}
use Rattle.fdb_audit.specs.declared.refusal.CountedLine.{CountedLine}
use Rattle.fdb_audit.specs.declared.taken_lines.Settlings.{Settlings}
use Rattle.fdb_audit.specs.declared.taken_lines.Taking.{Taking}
use Rattle.fdb_audit.specs.Came.{ahead_lines, ahead_then, certain_with, early_by, early_lines, last_line, odd_line, odd_lines, odd_since, told_when}
use Rattle.fdb_audit.specs.Clocks.{ahead_by, ahead_end}
use Rattle.fdb_audit.specs.Following.{Start, lines_before, lines_since, taken}
use Rattle.fdb_audit.specs.Taken.{HasSettledAt}
use Rattle.fdb_audit.specs.private.Followed.{AreEarlyIn}
use Rattle.fdb_audit.proofs.ReadLines.{before_on, since_more, since_same, taken_more}
use Rattle.fdb_audit.proofs.Settled.{certain, drop_on}

-- ---- of any test

odd_at : (found : List CountedLine) (by : ℕ → Line → ℕ) (line other come more : ℕ) (one : Line) → line ≡ other → come ≡ more
    → found ++ odd_line line (by come one) (length found + 1) ≡ found ++ odd_line other (by more one) (length found + 1)
odd_at found by line other come more one at is = ap (λ n. found ++ odd_line n (by come one) (length found + 1)) at ∙ ap (λ n. found ++ odd_line other (by n one) (length found + 1)) is

module _ (by : ℕ → Line → ℕ) where
  pub odd_more : (line come : ℕ) (found : List CountedLine) (read : List (Result SaidLine Why)) (said : SaidLine)
      → let those = odd_lines by line come found read in
      odd_lines by line come found (read ++ Ok said ∷ []) ≡ those ++ odd_line (line + length read) (by (come + length (taken read)) said.line) (length those + 1)
  odd_more line come found [] said = odd_at found by line (line + 0) come (come + 0) said.line (omega arith) (omega arith)
  odd_more line come found (Ok other ∷ read) said =
      let next = found ++ odd_line line (by come other.line) (length found + 1) in
      odd_more (line + 1) (come + 1) next read said
      ∙ odd_at (odd_lines by (line + 1) (come + 1) next read) by ((line + 1) + length read) (line + length (Ok other ∷ read)) ((come + 1) + length (taken read)) (come + length (taken (Ok other ∷ read))) said.line
      (omega arith) (omega arith)
  odd_more line come found (Err why ∷ read) said =
      odd_more (line + 1) come found read said
      ∙ odd_at (odd_lines by (line + 1) come found read) by ((line + 1) + length read) (line + length (Err why ∷ read)) (come + length (taken read)) (come + length (taken read)) said.line (omega arith) refl

  pub odd_same : (line come : ℕ) (found : List CountedLine) (read : List (Result SaidLine Why)) (why : Why) → odd_lines by line come found (read ++ Err why ∷ []) ≡ odd_lines by line come found read
  odd_same line come found [] why = refl
  odd_same line come found (Ok other ∷ read) why = odd_same (line + 1) (come + 1) (found ++ odd_line line (by come other.line) (length found + 1)) read why
  odd_same line come found (Err other ∷ read) why = odd_same (line + 1) come found read why

  one_at_most : (line by count : ℕ) → length (odd_line line by count) ≤ 1
  one_at_most line by count = on (nat_lt 0 by)
    where
      on : (b : Bool) → length (if b then (let it : CountedLine = record { line = line; by = by; count = count } in it ∷ []) else []) ≤ 1
      on true = omega arith
      on false = omega arith

  pub odd_few : (line come : ℕ) (found : List CountedLine) (read : List (Result SaidLine Why)) → length (odd_lines by line come found read) ≤ length found + length read
  odd_few line come found [] = omega arith
  odd_few line come found (Ok said ∷ read) =
      let its = odd_line line (by come said.line) (length found + 1) in
      let rest = odd_few (line + 1) (come + 1) (found ++ its) read in
      let size = length-append found its in
      let one = one_at_most line (by come said.line) (length found + 1) in
      omega (arith, rest, size, one)
  odd_few line come found (Err why ∷ read) = let rest = odd_few (line + 1) come found read in omega (arith, rest)

-- tests that are the same of all these lines find the same
pub odd_as : (by other : ℕ → Line → ℕ) (line come : ℕ) (found : List CountedLine) (read : List (Result SaidLine Why))
    → ((k : ℕ) (one : Line) → k < length (taken read) → by (come + k) one ≡ other (come + k) one) → odd_lines by line come found read ≡ odd_lines other line come found read
odd_as by other line come found [] same = refl
odd_as by other line come found (Ok said ∷ read) same =
    let here : by come said.line ≡ other come said.line = moves by other (come + 0) come said.line (omega arith) (same 0 said.line (omega arith)) in
    ap (λ n. odd_lines by (line + 1) (come + 1) (found ++ odd_line line n (length found + 1)) read) here
    ∙ odd_as by other (line + 1) (come + 1) (found ++ odd_line line (other come said.line) (length found + 1)) read
    (λ k one lt. let moved : come + (k + 1) ≡ (come + 1) + k = omega arith in moves by other (come + (k + 1)) ((come + 1) + k) one moved (same (k + 1) one (omega arith)))
  where
    moves : (by other : ℕ → Line → ℕ) (m n : ℕ) (one : Line) → m ≡ n → by m one ≡ other m one → by n one ≡ other n one
    moves by other m n one at is = sym (ap (λ k. by k one) at) ∙ (is ∙ ap (λ k. other k one) at)
odd_as by other line come found (Err why ∷ read) same = odd_as by other (line + 1) come found read same

-- ---- when all had been told

later : (at n : ℕ) → at ≤ n → nat_le at n ≡ true
later at n le = grind (arith, nat_tests)

module _ (start : Start) (above since : List Line) (line : Line) where
  with_stays : (come : ℕ) → come ≤ length above + length since → certain_with start above (since ++ line ∷ []) come ≡ certain_with start above since come
  with_stays come le = ap (certain start above) (take-append-le (come - length above) since (line ∷ []) (omega (arith, le)))

  -- a line more changes nothing of that
  pub told_stays : (settled : List ℕ) (come : ℕ) → All (λ at. at ≤ length above + length since) settled
      → told_when start above (since ++ line ∷ []) settled come ≡ told_when start above since settled come
  told_stays [] come within = refl
  told_stays (at ∷ settled) come within =
      let here : at ≤ length above + length since = within 0 at (omega arith) in
      ap (λ n. if nat_le at come then n else told_when start above (since ++ line ∷ []) settled come) (with_stays at here)
      ∙ ap (λ n. if nat_le at come then certain_with start above since at else n) (told_stays settled come (λ k d lt. within (suc k) d (omega arith)))

-- nor does it once all that had settled had come
pub told_later : (start : Start) (above since : List Line) (settled : List ℕ) (come more : ℕ) → All (λ at. at ≤ come) settled → come ≤ more
    → told_when start above since settled more ≡ told_when start above since settled come
told_later start above since [] come more within le = refl
told_later start above since (at ∷ settled) come more within le =
    let here : at ≤ come = within 0 at (omega arith) in
    ap (λ b. if b then certain_with start above since at else told_when start above since settled more) (later at more (omega (arith, here, le)))
    ∙ sym (ap (λ b. if b then certain_with start above since at else told_when start above since settled come) (later at come here))

-- and where it settles now, it has told all that may be told
pub told_now : (start : Start) (above since : List Line) (settled : List ℕ) (come : ℕ) → come ≡ length above + length since → told_when start above since (come ∷ settled) come ≡ certain start above since
told_now start above since settled come all =
    ap (λ b. if b then certain_with start above since come else told_when start above since settled come) (later come come (omega arith))
    ∙ ap (certain start above) (take_all (come - length above) since (omega (arith, all)))

told_before : (start : Start) (above since : List Line) (settled : List ℕ) (at come : ℕ) → come < at → told_when start above since (at ∷ settled) come ≡ told_when start above since settled come
told_before start above since settled at come lt =
    let not : nat_le at come ≡ false = grind (arith, nat_tests) in
    ap (λ b. if b then certain_with start above since at else told_when start above since settled come) not

-- and so is what is ahead of a line that came
ahead_stays : (start : Start) (above since : List Line) (line : Line) (come : ℕ) (one : Line) → come ≤ length above + length since
    → ahead_then start above (since ++ line ∷ []) come one ≡ ahead_then start above since come one
ahead_stays start above since line come one le =
    ap (λ (those : List Line). ahead_by start.clocks start.behind (ahead_end start.clocks start.behind above those) (above ++ those) one)
    (take-append-le (come - length above) since (line ∷ []) (omega (arith, le)))

ahead_now : (start : Start) (above since : List Line) (come : ℕ) (one : Line) → come ≡ length above + length since
    → ahead_then start above since come one ≡ ahead_by start.clocks start.behind (ahead_end start.clocks start.behind above since) (above ++ since) one
ahead_now start above since come one all =
    ap (λ (those : List Line). ahead_by start.clocks start.behind (ahead_end start.clocks start.behind above those) (above ++ those) one) (take_all (come - length above) since (omega (arith, all)))

-- ---- of the lines that came since

module _ (start : Start) (read : List (Result SaidLine Why)) where
  abbrev above_all : List Line
  above_all = lines_before start read

  abbrev since_all : List Line
  since_all = lines_since start read

  -- how many have come, by those that were taken
  come_all : length (lines_before start read) + length (taken (drop start.lines read)) ≡ length (lines_before start read) + length (lines_since start read)
  come_all = ap (λ n. length (lines_before start read) + n) (sym (length-map (taken (drop start.lines read)) (λ (said : SaidLine). said.line)))

  -- with a line more that is taken
  since_push : (by : (above since : List Line) → ℕ → Line → ℕ) (said : SaidLine) → start.lines ≤ length read
      → ((come : ℕ) (one : Line) → come ≤ length above_all + length since_all → by above_all (since_all ++ said.line ∷ []) come one ≡ by above_all since_all come one)
      → odd_since by start (read ++ Ok said ∷ [])
      ≡ odd_since by start read ++ odd_line (start.kept.more + length read + 1) (by above_all since_all (length above_all + length since_all) said.line) (length (odd_since by start read) + 1)
  since_push by said less stays =
      let all = read ++ Ok said ∷ [] in
      let part = drop start.lines read in
      let first = start.kept.more + start.lines + 1 in
      let is = by above_all since_all in
      let many = come_all in
      let size = length-drop start.lines read in
      let longer = taken_more part said in
      let one_more = length-append (taken part) (said ∷ []) in
      ap (λ (above : List Line). odd_lines (by above (lines_since start all)) first (length above) [] (drop start.lines all)) (before_on start read (Ok said ∷ []) less)
      ∙ (ap (λ (since : List Line). odd_lines (by above_all since) first (length above_all) [] (drop start.lines all)) (since_more start read said less)
      ∙ (ap (λ (rest : List (Result SaidLine Why)). odd_lines (by above_all (since_all ++ said.line ∷ [])) first (length above_all) [] rest) (drop_on start.lines read (Ok said ∷ []) less)
      ∙ (odd_as (by above_all (since_all ++ said.line ∷ [])) is first (length above_all) [] (part ++ Ok said ∷ [])
      (λ k one lt. stays (length above_all + k) one (let same = ap length longer in omega (arith, lt, many, same, one_more)))
      ∙ (odd_more is first (length above_all) [] part said
      ∙ odd_at (odd_lines is first (length above_all) [] part) is (first + length part) (start.kept.more + length read + 1) (length above_all + length (taken part)) (length above_all + length since_all) said.line
      (omega (arith, size, less)) many))))

  -- or is left out
  pub since_left : (by : (above since : List Line) → ℕ → Line → ℕ) (why : Why) → start.lines ≤ length read → odd_since by start (read ++ Err why ∷ []) ≡ odd_since by start read
  since_left by why less =
      let all = read ++ Err why ∷ [] in
      let first = start.kept.more + start.lines + 1 in
      ap (λ (above : List Line). odd_lines (by above (lines_since start all)) first (length above) [] (drop start.lines all)) (before_on start read (Err why ∷ []) less)
      ∙ (ap (λ (since : List Line). odd_lines (by above_all since) first (length above_all) [] (drop start.lines all)) (since_same start read why less)
      ∙ (ap (λ (rest : List (Result SaidLine Why)). odd_lines (by above_all since_all) first (length above_all) [] rest) (drop_on start.lines read (Err why ∷ []) less)
      ∙ odd_same (by above_all since_all) first (length above_all) [] (drop start.lines read) why))

  pub since_least : (by : (above since : List Line) → ℕ → Line → ℕ) → length (odd_since by start read) ≤ length read
  since_least by =
      let few = odd_few (by above_all since_all) (start.kept.more + start.lines + 1) (length above_all) [] (drop start.lines read) in
      let size = length-drop start.lines read in
      omega (arith, few, size)

  pub since_early : (settled : List ℕ) → length (early_lines start read settled) ≤ length read
  since_early settled = since_least (λ above since. early_by start above since settled)

  pub since_ahead : length (ahead_lines start read) ≤ length read
  since_ahead = since_least (ahead_then start)

  -- where it settles
  pub early_settled : (settled : List ℕ) (at : ℕ) → at ≡ length above_all + length since_all → early_lines start read (at ∷ settled) ≡ early_lines start read settled
  early_settled settled at all =
      let many = come_all in
      odd_as (early_by start above_all since_all (at ∷ settled)) (early_by start above_all since_all settled) (start.kept.more + start.lines + 1) (length above_all) [] (drop start.lines read)
      (λ k one lt. ap (λ n. n - began one) (told_before start above_all since_all settled at (length above_all + k) (omega (arith, lt, many, all))))

  -- a line more that may be early
  pub early_push : (settled : List ℕ) (said : SaidLine) → start.lines ≤ length read → All (λ at. at ≤ length above_all + length since_all) settled
      → early_lines start (read ++ Ok said ∷ []) settled
      ≡ early_lines start read settled
      ++ odd_line (start.kept.more + length read + 1) (told_when start above_all since_all settled (length above_all + length since_all) - began said.line) (length (early_lines start read settled) + 1)
  early_push settled said less within =
      since_push (λ above since. early_by start above since settled) said less
      (λ come one le. ap (λ n. n - began one) (told_stays start above_all since_all said.line settled come within))

  -- or of which others may be ahead
  pub ahead_push : (said : SaidLine) → start.lines ≤ length read
      → ahead_lines start (read ++ Ok said ∷ [])
      ≡ ahead_lines start read
      ++ odd_line (start.kept.more + length read + 1)
      (ahead_by start.clocks start.behind (ahead_end start.clocks start.behind above_all since_all) (above_all ++ since_all) said.line) (length (ahead_lines start read) + 1)
  ahead_push said less =
      since_push (ahead_then start) said less (λ come one le. ahead_stays start above_all since_all said.line come one le)
      ∙ ap (λ n. ahead_lines start read ++ odd_line (start.kept.more + length read + 1) n (length (ahead_lines start read) + 1))
      (ahead_now start above_all since_all (length above_all + length since_all) said.line refl)

-- ---- the last of them

pub last_push : (last : Option ℕ) (lines : List CountedLine) (line by count : ℕ) → last_line last (lines ++ odd_line line by count) ≡ (if nat_lt 0 by then Some line else last_line last lines)
last_push last [] line by count = on (nat_lt 0 by)
  where
    on : (b : Bool) → last_line last (if b then (let it : CountedLine = record { line = line; by = by; count = count } in it ∷ []) else []) ≡ (if b then Some line else last)
    on true = refl
    on false = refl
last_push last (it ∷ lines) line by count = last_push (Some it.line) lines line by count

pub odd_count : (lines : List CountedLine) (line by count : ℕ) → length (lines ++ odd_line line by count) ≡ (if nat_lt 0 by then length lines + 1 else length lines)
odd_count lines line by count = on (nat_lt 0 by)
  where
    on : (b : Bool) → length (lines ++ (if b then (let it : CountedLine = record { line = line; by = by; count = count } in it ∷ []) else [])) ≡ (if b then length lines + 1 else length lines)
    on true = length-append lines (let it : CountedLine = record { line = line; by = by; count = count } in it ∷ [])
    on false = let size : length (lines ++ []) ≡ length lines + 0 = length-append lines [] in omega (arith, size)

-- ---- what is held of where it settled

pub settled_as : (start : Start) (new : Taking) (above since : List Line) (settled : List ℕ) → new.settlings.at ≡ settled → All (λ at. at ≤ length above + length since) settled
    → AllPairs (λ one other. other ≤ one) settled → new.watch.from ≡ told_when start above since settled (length above + length since) → HasSettledAt start new above since
settled_as start new above since settled same within order from = record {
  within = subst (All (λ at. at ≤ length above + length since)) (sym same) within;
  order = subst (AllPairs (λ one other. other ≤ one)) (sym same) order;
  from = from ∙ ap (λ settled. told_when start above since settled (length above + length since)) (sym same);
}

pub settled_at_still : (start : Start) (old new : Taking) (above since : List Line) → HasSettledAt start old above since → new.settlings ≡ old.settlings → new.watch.from ≡ old.watch.from
    → HasSettledAt start new above since
settled_at_still start old new above since is same from = settled_as start new above since old.settlings.at (ap (λ (settlings : Settlings). settlings.at) same) is.within is.order (from ∙ is.from)

-- and of which lines were early
pub early_still : (start : Start) (old new : Taking) (read more : List (Result SaidLine Why)) → AreEarlyIn start read old.settlings.at old.counts → new.settlings ≡ old.settlings → new.counts ≡ old.counts
    → ((settled : List ℕ) → early_lines start more settled ≡ early_lines start read settled) → AreEarlyIn start more new.settlings.at new.counts
early_still start old new read more are settlings counts same =
    let at = old.settlings.at in
    subst (λ (settlings : Settlings). AreEarlyIn start more settlings.at new.counts) (sym settlings)
    (subst (AreEarlyIn start more at) (sym counts) (record {
      count = are.count ∙ sym (ap length (same at));
      few = are.few;
      last_is = are.last_is ∙ sym (ap (last_line None) (same at));
    }))
