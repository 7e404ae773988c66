-- The lines that are taken, of those that were read, and as which of all they are printed.
use Rattle.std.proofs.Common.{◌≡◌, ◌∙◌, ℕ, zero, suc, ◌+◌, ◌-◌, ◌^◌, ◌<◌, ◌≤◌, Bool, true, false, cond, List, [], ◌∷◌, ◌++◌, Option, None, Some, Result, Ok, Err, ap, append_assoc, arith, count_by, get_or, length, map, min, nat_le, nat_lt, refl, slice_get, subst, sym, take}
use Rattle.std.specs.Option.{option_or}
use Rattle.std.specs.Prelude.{unwrap_or}
use Rattle.std.specs.List.{All}
use Rattle.std.specs.List.Sorted.{IsPartitionPoint}
use Rattle.std.proofs.lemmas.List.{get_or_append_left, get_or_push, length-map, length_push, map_push, take_more}
use Rattle.std.proofs.lemmas.Bool.Decides.{nat_tests}
use Rattle.std.proofs.lemmas.List.Sums.{count_by-le-length, sum_by-append, sum_by-cons}
use Rattle.fdb_lines.specs.declared.fault.Found.{Found}
use Rattle.fdb_lines.specs.declared.key_watch.KeyWatch.{KeyWatch}
use Rattle.fdb_lines.specs.declared.line.Line.{Line}
use Rattle.fdb_lines.specs.Before.{began}
use Rattle.fdb_lines.specs.KeyWatch.{HasSeenByKey}
use Rattle.fdb_lines.specs.Lines.{Kind, is_ask, is_commit, is_read, is_report, kind_of}
use Rattle.fdb_lines.specs.Summary.{how_many}
use Rattle.fdb_lines.specs.ToldByKey.{HasTold}
use Rattle.fdb_log_reader.specs.declared.error.ReadError.{ReadError}
use Rattle.fdb_log_reader.specs.declared.error.Why.{Why}
use Rattle.fdb_log_reader.specs.declared.error.Why.TheVariants.{Empty}
use Rattle.fdb_log_reader.specs.ReadLine.{SaidLine}
use Rattle.fdb_audit.specs.declared.progress.Counts.{Counts}
use Rattle.fdb_audit.specs.declared.members.Numbering.{Numbering}
use Rattle.fdb_audit.specs.declared.taken_lines.Taking.{Taking}
use Rattle.fdb_audit.specs.Following.{KeptBefore, Start, early_at, keys_taken, last_refused, left_out, lines_before, lines_since, lines_taken, no_line, taken_line, taken, taken_above}
use Rattle.fdb_audit.specs.Clocks.{believed_end, believed_with, certain_to, out_of_reach}
use Rattle.fdb_audit.specs.Came.{ahead_lines, ahead_then, early_by, told_when}
use Rattle.fdb_audit.specs.declared.taken_lines.Settlings.{Settlings}
use Rattle.fdb_audit.specs.Taken.{AreCounted, AreTaken, HasHeard, HasSettled, HasSettledAt, IsInReach, kept_by}
use Rattle.fdb_audit.proofs.ReadLines.{above_more, above_same, before_on, counted, keys_more, keys_same, lines_more, lines_same, parted_count, since_few, since_more, since_same, taken_more, taken_same}
use Rattle.fdb_audit.specs.Warned.{AreEarly}
use Rattle.fdb_audit.specs.private.Followed.{NotesLine, one_more}
use Rattle.fdb_audit.specs.private.Numbering.{AreTakenLines}
use Rattle.fdb_audit.proofs.Believed.{count_more, heard_more, hears_ahead, hears_believed}
use Rattle.fdb_audit.proofs.OddLines.{early_still, settled_as, settled_at_still, since_left, told_later, told_stays}
use Rattle.fdb_audit.proofs.Settled.{early_push, far_in_all, far_more, in_reach_still, late_more, settled_more, settled_still}

-- ---- the last that is refused

abbrev error_at : ℕ → Why → ReadError
error_at number why = record { line = number; why = why }

last_more : (number : ℕ) (last : Option ReadError) (read : List (Result SaidLine Why)) (why : Why)
    → last_refused number last (read ++ Err why ∷ []) ≡ Some (error_at (number + length read) why)
last_more number last [] why = let same : number ≡ number + 0 = omega arith in ap (λ n. Some (error_at n why)) same
last_more number last (Ok said ∷ read) why =
    let same : (number + 1) + length read ≡ number + length (Ok said ∷ read) = omega arith in
    last_more (number + 1) last read why ∙ ap (λ n. Some (error_at n why)) same
last_more number last (Err other ∷ read) why =
    let same : (number + 1) + length read ≡ number + length (Err other ∷ read) = omega arith in
    last_more (number + 1) (Some (error_at number other)) read why ∙ ap (λ n. Some (error_at n why)) same

last_same : (number : ℕ) (last : Option ReadError) (read : List (Result SaidLine Why)) (said : SaidLine) → last_refused number last (read ++ Ok said ∷ []) ≡ last_refused number last read
last_same number last [] said = refl
last_same number last (Ok other ∷ read) said = last_same (number + 1) last read said
last_same number last (Err why ∷ read) said = last_same (number + 1) (Some (error_at number why)) read said

last_of_some : (number : ℕ) (one : ReadError) (read : List (Result SaidLine Why)) → (it : ReadError) × (last_refused number (Some one) read ≡ Some it)
last_of_some number one [] = (one, refl)
last_of_some number one (Ok said ∷ read) = last_of_some (number + 1) one read
last_of_some number one (Err why ∷ read) = last_of_some (number + 1) (error_at number why) read

-- where some were refused before, these count if none is
pub last_on : (number : ℕ) (before : Option ReadError) (read : List (Result SaidLine Why)) → last_refused number before read ≡ option_or (last_refused number None read) before
last_on number before [] = refl
last_on number before (Ok said ∷ read) = last_on (number + 1) before read
last_on number before (Err why ∷ read) =
    let (it, is) = last_of_some (number + 1) (error_at number why) read in
    is ∙ sym (ap (λ (last : Option ReadError). option_or last before) is)

-- there is a line, or none
pub no_line_left : (list : List SaidLine) (before : ℕ) → length list ≡ 0 → before ≡ 0 → no_line list before ≡ Some (error_at 0 Empty)
no_line_left [] zero none nothing = refl
no_line_left [] (suc before) none nothing = absurd (omega (arith, nothing))
no_line_left (said ∷ list) before none nothing = absurd (omega (arith, none))

pub some_line : (list : List SaidLine) (before : ℕ) → 0 < length list + before → no_line list before ≡ None
some_line [] zero some = absurd (omega (arith, some))
some_line [] (suc before) some = refl
some_line (said ∷ list) before some = refl

-- why a part is refused
pub left_is : (start : Start) (read : List (Result SaidLine Why)) (refused before none : Option ReadError) → refused ≡ last_refused (start.kept.more + 1) None read
    → before ≡ start.before.refused → none ≡ no_line (taken read) start.before.counts.lines
    → option_or (option_or refused before) none ≡ left_out start read
left_is start read refused before none last same is =
    let number = start.kept.more + 1 in
    let all : option_or refused before ≡ last_refused number start.before.refused read =
    ap (λ (last : Option ReadError). option_or last before) last
    ∙ (ap (option_or (last_refused number None read)) same ∙ sym (last_on number start.before.refused read)) in
    ap (λ (last : Option ReadError). option_or last none) all ∙ ap (option_or (last_refused number start.before.refused read)) is

-- ---- the counts, with one more line

one_kind : (is : Kind → Bool) (lines : List Line) (line : Line) (count : ℕ) (b : Bool) → is (kind_of line.call) ≡ b → length lines + 1 < 2 ^ 64 → count ≡ how_many is lines
    → one_more b count ≡ how_many is (lines ++ line ∷ [])
one_kind is lines line count b same few all =
    let test = λ (one : Line). is (kind_of one.call) in
    let f = λ (one : Line). cond {A = ℕ} (test one) 1 0 in
    let sum = sum_by-append f lines (line ∷ []) in
    let last = sum_by-cons f line [] in
    let here : f line ≡ cond b 1 0 = ap (λ it. cond {A = ℕ} it 1 0) same in
    let most = count_by-le-length test lines in
    by b few all here sum last most
  where
    by : (b : Bool) → length lines + 1 < 2 ^ 64 → count ≡ how_many is lines → cond {A = ℕ} (is (kind_of line.call)) 1 0 ≡ cond b 1 0
        → how_many is (lines ++ line ∷ []) ≡ how_many is lines + how_many is (line ∷ []) → how_many is (line ∷ []) ≡ cond {A = ℕ} (is (kind_of line.call)) 1 0 + how_many is []
        → how_many is lines ≤ length lines → one_more b count ≡ how_many is (lines ++ line ∷ [])
    by true few all here sum last most = omega (arith, few, all, here, sum, last, most)
    by false few all here sum last most = omega (arith, few, all, here, sum, last, most)

pub counts_more : (old new : Counts) (lines : List Line) (line : Line) → length lines + 1 < 2 ^ 64 → AreCounted old lines → new.lines ≡ min (old.lines + 1) (2 ^ 64 - 1)
    → new.reads ≡ one_more (is_read (kind_of line.call)) old.reads → new.commits ≡ one_more (is_commit (kind_of line.call)) old.commits
    → new.asks ≡ one_more (is_ask (kind_of line.call)) old.asks → new.reports ≡ one_more (is_report (kind_of line.call)) old.reports → AreCounted new (lines ++ line ∷ [])
counts_more old new lines line few are all reads commits asks reports = record {
  lines = (let size = length_push lines line in let was = are.lines in omega (arith, all, size, was, few));
  reads = reads ∙ one_kind is_read lines line old.reads (is_read (kind_of line.call)) refl few are.reads;
  commits = commits ∙ one_kind is_commit lines line old.commits (is_commit (kind_of line.call)) refl few are.commits;
  asks = asks ∙ one_kind is_ask lines line old.asks (is_ask (kind_of line.call)) refl few are.asks;
  reports = reports ∙ one_kind is_report lines line old.reports (is_report (kind_of line.call)) refl few are.reports;
}

-- ---- what is held of them, with one more line

pub one_at_most : (is_one : Bool) (count : ℕ) → one_more is_one count ≤ count + 1
one_at_most true count = omega arith
one_at_most false count = omega arith

none_early : (b : Bool) (count : ℕ) → one_more b count ≡ 0 → (b ≡ false) × (count ≡ 0)
none_early true count none = absurd (omega (arith, none))
none_early false count none = (refl, none)

in_time : (began from : ℕ) → nat_lt began from ≡ false → from ≤ began
in_time began from late = grind (arith, nat_tests)

-- one more that came early began out of reach
early_more : (least behind newest from began count many : ℕ) → from ≤ certain_to least behind newest → count ≤ many
    → one_more (nat_lt began from) count ≤ many + cond (nat_lt began (certain_to least behind newest)) 1 0
early_more least behind newest from began count many low le = by (nat_lt began from) refl
  where
    by : (b : Bool) → nat_lt began from ≡ b → one_more b count ≤ many + cond {A = ℕ} (nat_lt began (certain_to least behind newest)) 1 0
    by false is = omega (arith, le)
    by true is =
        let before : began < from = grind (arith, nat_tests) in
        let out : nat_lt began (certain_to least behind newest) ≡ true =
        (let far : began < certain_to least behind newest = omega (arith, before, low) in grind (arith, nat_tests)) in
        let one : cond {A = ℕ} (nat_lt began (certain_to least behind newest)) 1 0 ≡ 1 = ap (λ b. cond {A = ℕ} b 1 0) out in
        omega (arith, one, le)

in_reach_more : (start : Start) (old new : Taking) (above since : List Line) (line : Line) → IsInReach start old above since → old.settled ≤ length above + length since
    → NotesLine old.watch.from old new line → new.watch.from ≡ old.watch.from → IsInReach start new above (since ++ line ∷ [])
in_reach_more start old new above since line is come notes from =
    let before = start.clocks in
    let behind = start.behind in
    let low = far_in_all start old above since is.from in
    let le = is.early in
    let early = notes.came.early in
    let more = early_more start.from behind (believed_end before behind above since) old.watch.from (began line) old.counts.early (out_of_reach before start.from behind above since) low le in
    let out = count_more (believed_with before behind) (λ (believed : ℕ) (above : List Line) (line : Line). nat_lt (began line) (certain_to start.from behind believed)) before.believed above since line in
    record {
      behind_is = notes.hears.behind ∙ is.behind_is;
      heard = subst (HasHeard before new.clocks) (append_assoc above since (line ∷ [])) (heard_more before old.clocks new.clocks (above ++ since) line is.heard notes.hears);
      believed = hears_believed before behind old.clocks new.clocks above since line is.heard notes.hears is.behind_is is.believed;
      from = far_more start old new above since line come is.from notes.settled from;
      early = omega (arith, early, more, out);
      ahead_to = hears_ahead before behind old.clocks new.clocks above since line is.heard notes.hears is.behind_is is.ahead_to;
    }

-- which of all a line more is that is taken
pub line_number : (start : Start) (old new : Taking) (read : List (Result SaidLine Why)) (said : SaidLine) (told : List Found) → AreTaken start old read told
    → old.taken + old.numbering.more + length old.numbering.above.items < 18446744073709551614 → (notes : NotesLine old.watch.from old new said.line)
    → notes.its_line ≡ start.kept.more + length read + 1
line_number start old new read said told are room notes =
    let all = counted 0 read in
    let above = ap length are.numbered.above in
    let is = notes.is_its in
    let count = notes.count in
    let was = are.count in
    let same = ap (λ (numbering : Numbering). numbering.more + length numbering.above.items) notes.numbering in
    let more = ap (λ (kept : KeptBefore). kept.more) are.numbered.front in
    omega (arith, all, above, is, count, was, same, more, room)

-- and so there are not too many
pub few_read : (start : Start) (old : Taking) (read : List (Result SaidLine Why)) (told : List Found) → AreTaken start old read told
    → old.taken + old.numbering.more + length old.numbering.above.items < 18446744073709551614 → length read + 1 < 2 ^ 64 - 1
few_read start old read told are room =
    let all = counted 0 read in
    let above = ap length are.numbered.above in
    let was = are.count in
    omega (arith, all, above, was, room)

takes_late : (start : Start) (old new : Taking) (read : List (Result SaidLine Why)) (said : SaidLine) {told : List Found} → AreTaken start old read told
    → new.counts.early ≡ one_more (nat_lt (began said.line) old.watch.from) old.counts.early → early_at start.from (lines_since start (read ++ Ok said ∷ [])) ≤ new.counts.early
takes_late start old new read said are early =
    let since = lines_since start read in
    let all = ap (early_at start.from) (since_more start read said are.few) in
    let push = early_push start.from since said.line in
    let most = count_by-le-length (λ (line : Line). nat_lt (began line) start.from) since in
    let least = since_few start read in
    let few = are.numbered.few in
    let low = are.from in
    let late = are.late in
    let was : early_at start.from since ≤ 0 + old.counts.early = omega (arith, late) in
    let more = late_more start.from old.watch.from (began said.line) old.counts.early (early_at start.from since) 0 low was (omega (arith, most, least, few)) in
    omega (arith, all, push, more, early)

settled_at_more : (start : Start) (old new : Taking) (above since : List Line) (line : Line) → HasSettledAt start old above since → new.settlings ≡ old.settlings → new.watch.from ≡ old.watch.from
    → HasSettledAt start new above (since ++ line ∷ [])
settled_at_more start old new above since line is same from =
    let size = length_push since line in
    let settled = old.settlings.at in
    let n = length above + length since in
    let so : told_when start above (since ++ line ∷ []) settled (length above + length (since ++ line ∷ [])) ≡ told_when start above since settled n =
    told_stays start above since line settled (length above + length (since ++ line ∷ [])) is.within ∙ told_later start above since settled n (length above + length (since ++ line ∷ [])) is.within (omega (arith, size)) in
    settled_as start new above (since ++ line ∷ []) settled (ap (λ (settlings : Settlings). settlings.at) same)
    (λ k d lt. let low = is.within k d lt in omega (arith, low, size)) is.order
    (from ∙ (is.from ∙ sym so))

pub takes : (start : Start) (old new : Taking) (read : List (Result SaidLine Why)) (said : SaidLine) (told : List Found) → AreTaken start old read told
    → old.taken + old.numbering.more + length old.numbering.above.items < 18446744073709551614
    → HasSeenByKey new.watch (lines_taken read ++ said.line ∷ []) (keys_taken read ++ said.key ∷ [])
    → (notes : NotesLine old.watch.from old new said.line) → new.watch.from ≡ old.watch.from
    → (HasTold old.watch (lines_taken read) (keys_taken read) told → old.watch.from ≤ began said.line
    → HasTold new.watch (lines_taken read ++ said.line ∷ []) (keys_taken read ++ said.key ∷ []) told)
    → AreEarly start (read ++ Ok said ∷ []) new.settlings.at new.counts.early new.counts.judged new.counts.last_early → new.counts.ahead ≡ length (ahead_lines start (read ++ Ok said ∷ []))
    → AreTaken start new (read ++ Ok said ∷ []) told
takes start old new read said told are room seen notes from tells came ahead =
    let more = read ++ Ok said ∷ [] in
    let all = counted 0 read in
    let above = ap length are.numbered.above in
    let size = length_push read (Ok said) in
    let few = are.numbered.few in
    let early = notes.came.early in
    let room_for : length (lines_taken read) + 1 < 2 ^ 64 = (let size = length-map (taken read) (λ (said : SaidLine). said.line) in omega (arith, size, all, few)) in
    record {
      seen = subst (λ lines. HasSeenByKey new.watch lines (keys_taken more)) (sym (lines_more read said))
          (subst (HasSeenByKey new.watch (lines_taken read ++ said.line ∷ [])) (sym (keys_more read said)) seen);
      numbered = record {
        above = ap (λ (numbering : Numbering). numbering.above.items) notes.numbering ∙ (are.numbered.above ∙ sym (above_same 0 read said));
        front = ap kept_by notes.numbering ∙ are.numbered.front;
        few = (let was = are.count in let more = ap (λ (kept : KeptBefore). kept.more) are.numbered.front in omega arith);
      };
      count = notes.count ∙ (ap (λ n. n + 1) are.count ∙ (sym (length_push (taken read) said) ∙ ap length (sym (taken_more read said))));
      refused = notes.refused ∙ (are.refused ∙ sym (last_same (start.kept.more + 1) None read said));
      counted = subst (AreCounted new.counts) (sym (since_more start read said are.few))
          (notes.counted (lines_since start read) (let least = since_few start read in omega (arith, least, few)) are.counted);
      few = (let was = are.few in omega (arith, was, size));
      before = are.before;
      from = (let was = are.from in omega (arith, was, from));
      late = takes_late start old new read said are early;
      settled = subst (HasSettled start new) (sym (lines_more read said))
          (settled_more start old new (lines_taken read) said.line are.settled room_for notes.settled from early);
      reach = subst (λ above. IsInReach start new above (lines_since start more)) (sym (before_on start read (Ok said ∷ []) are.few))
          (subst (IsInReach start new (lines_before start read)) (sym (since_more start read said are.few))
          (in_reach_more start old new (lines_before start read) (lines_since start read) said.line are.reach
          (let come = are.settled.come in let parts = parted_count start read in omega (arith, come, parts)) notes from));
      settled_at = subst (λ above. HasSettledAt start new above (lines_since start more)) (sym (before_on start read (Ok said ∷ []) are.few))
          (subst (HasSettledAt start new (lines_before start read)) (sym (since_more start read said are.few))
          (settled_at_more start old new (lines_before start read) (lines_since start read) said.line are.settled_at notes.settlings from));
      came = came;
      ahead = ahead;
      once = λ none_before none.
          let is = none_early (nat_lt (began said.line) old.watch.from) old.counts.early (sym early ∙ none) in
          subst (λ lines. HasTold new.watch lines (keys_taken more) told) (sym (lines_more read said))
          (subst (λ keys. HasTold new.watch (lines_taken read ++ said.line ∷ []) keys told) (sym (keys_more read said))
          (tells (are.once none_before is.1) (in_time (began said.line) old.watch.from is.0)));
    }

-- which of all a line more is that is left out
pub left_number : (start : Start) (old : Taking) (numbering : Numbering) (read : List (Result SaidLine Why)) (told : List Found) (number : ℕ) → AreTaken start old read told
    → old.taken + old.numbering.more + length old.numbering.above.items < 18446744073709551614
    → numbering.above.items ≡ old.numbering.above.items ++ old.taken ∷ [] → kept_by numbering ≡ kept_by old.numbering
    → number ≡ min (old.taken + numbering.more + length numbering.above.items) (2 ^ 64 - 1) → number ≡ start.kept.more + 1 + length read
left_number start old numbering read told number are room above same is =
    let all = counted 0 read in
    let was_above = ap length are.numbered.above in
    let longer = ap length above ∙ length_push old.numbering.above.items old.taken in
    let more_is = ap (λ (kept : KeptBefore). kept.more) are.numbered.front in
    let more_same = ap (λ (kept : KeptBefore). kept.more) same in
    let was = are.count in
    omega (arith, is, was, more_is, more_same, all, was_above, longer, room)

pub leaves_out : (start : Start) (old new : Taking) (read : List (Result SaidLine Why)) (why : Why) (told : List Found) (number : ℕ) → AreTaken start old read told
    → old.taken + old.numbering.more + length old.numbering.above.items < 18446744073709551614
    → new.watch ≡ old.watch → new.numbering.above.items ≡ old.numbering.above.items ++ old.taken ∷ [] → kept_by new.numbering ≡ kept_by old.numbering
    → new.taken ≡ old.taken → new.counts ≡ old.counts → new.settled ≡ old.settled → new.refused ≡ Some (record { line = number; why = why })
    → number ≡ min (new.taken + new.numbering.more + length new.numbering.above.items) (2 ^ 64 - 1) → new.clocks ≡ old.clocks
    → new.settlings ≡ old.settlings → AreTaken start new (read ++ Err why ∷ []) told
leaves_out start old new read why told number are room watch above same count counts settled refused is clocks settlings =
    let more = read ++ Err why ∷ [] in
    let all = counted 0 read in
    let was_above = ap length are.numbered.above in
    let size = length_push read (Err why) in
    let from_none : length (taken read) ≡ 0 + length (taken read) = omega arith in
    let more_is = ap (λ (kept : KeptBefore). kept.more) are.numbered.front in
    record {
      seen = subst (λ lines. HasSeenByKey new.watch lines (keys_taken more)) (sym (lines_same read why))
          (subst (HasSeenByKey new.watch (lines_taken read)) (sym (keys_same read why))
          (subst (λ watch. HasSeenByKey watch (lines_taken read) (keys_taken read)) (sym watch) are.seen));
      numbered = record {
        above = above ∙ (ap (λ part. part ++ old.taken ∷ []) are.numbered.above
            ∙ (ap (λ n. taken_above 0 read ++ n ∷ []) (are.count ∙ from_none) ∙ sym (above_more 0 read why)));
        front = same ∙ are.numbered.front;
        few = (let was = are.count in omega (arith, was, more_is, all, was_above, size, room));
      };
      count = count ∙ (are.count ∙ ap length (sym (taken_same read why)));
      refused = refused ∙ (ap (λ n. Some (error_at n why)) (left_number start old new.numbering read told number are room above same
          (is ∙ ap (λ n. min (n + new.numbering.more + length new.numbering.above.items) (2 ^ 64 - 1)) count)) ∙ sym (last_more (start.kept.more + 1) None read why));
      counted = subst (AreCounted new.counts) (sym (since_same start read why are.few)) (subst (λ counts. AreCounted counts (lines_since start read)) (sym counts) are.counted);
      few = (let was = are.few in omega (arith, was, size));
      before = are.before;
      from = (let was = are.from in let same = ap (λ (watch : KeyWatch). watch.from) watch in omega (arith, was, same));
      late = (let was = are.late in let same = ap (λ (counts : Counts). counts.early) counts in let since = ap (early_at start.from) (since_same start read why are.few) in omega (arith, was, same, since));
      settled = subst (HasSettled start new) (sym (lines_same read why))
          (settled_still start old new (lines_taken read) are.settled settled (ap (λ (watch : KeyWatch). watch.from) watch) (ap (λ (counts : Counts). counts.early) counts));
      settled_at = subst (λ above. HasSettledAt start new above (lines_since start more)) (sym (before_on start read (Err why ∷ []) are.few))
          (subst (HasSettledAt start new (lines_before start read)) (sym (since_same start read why are.few))
          (settled_at_still start old new (lines_before start read) (lines_since start read) are.settled_at settlings (ap (λ (watch : KeyWatch). watch.from) watch)));
      came = early_still start old new read more are.came settlings counts
          (λ settled. since_left start read (λ above since. early_by start above since settled) why are.few);
      ahead = ap (λ (counts : Counts). counts.ahead) counts ∙ (are.ahead ∙ sym (ap length (since_left start read (ahead_then start) why are.few)));
      reach = subst (λ above. IsInReach start new above (lines_since start more)) (sym (before_on start read (Err why ∷ []) are.few))
          (subst (IsInReach start new (lines_before start read)) (sym (since_same start read why are.few))
          (in_reach_still start old new (lines_before start read) (lines_since start read) are.reach clocks (ap (λ (watch : KeyWatch). watch.from) watch) settled counts));
      once = λ none_before none.
          subst (λ lines. HasTold new.watch lines (keys_taken more) told) (sym (lines_same read why))
          (subst (λ keys. HasTold new.watch (lines_taken read) keys told) (sym (keys_same read why))
          (subst (λ watch. HasTold watch (lines_taken read) (keys_taken read) told) (sym watch)
          (are.once none_before (sym (ap (λ (counts : Counts). counts.early) counts) ∙ none))));
    }

-- ---- which of all lines some are

-- those that pass come first, so many
front_counted : {X : Type 0} (test : X → Bool) (xs : List X) (front : ℕ) → front ≤ length xs
    → IsPartitionPoint (λ x. test x ≡ true) (λ x. test x ≡ false) xs front → front ≡ count_by test xs
front_counted test [] front le point = omega (arith, le)
front_counted test (x ∷ xs) zero le point =
    let rest = front_counted test xs zero (omega arith) (λ i d from below. absurd (omega (arith, below)), λ i d from below. point.1 (suc i) d (omega arith) (omega (arith, below))) in
    let none : cond {A = ℕ} (test x) 1 0 ≡ 0 = ap (λ b. cond {A = ℕ} b 1 0) (point.1 zero x (omega arith) (omega arith)) in
    omega (arith, rest, none, sum_by-cons (λ y. cond (test y) 1 0) x xs)
front_counted test (x ∷ xs) (suc front) le point =
    let rest = front_counted test xs front (omega (arith, le)) (λ i d from below. point.0 (suc i) d (omega arith) (omega (arith, below)), λ i d from below. point.1 (suc i) d (omega (arith, from)) (omega (arith, below))) in
    let one : cond {A = ℕ} (test x) 1 0 ≡ 1 = ap (λ b. cond {A = ℕ} b 1 0) (point.0 zero x (omega arith) (omega arith)) in
    omega (arith, rest, one, sum_by-cons (λ y. cond (test y) 1 0) x xs)

pub counted_by_search : (above : List ℕ) (taken front : ℕ) → front ≤ length above
    → IsPartitionPoint (λ one. nat_le one taken ≡ true) (λ one. nat_le one taken ≡ false) above front → front ≡ count_by (λ one. nat_le one taken) above
counted_by_search above taken front le point = front_counted (λ one. nat_le one taken) above front le point

pub taken_lines_more : (kept : KeptBefore) (above places lines more : List ℕ) (i place line : ℕ) → i < length places → place ≡ get_or places i place
    → (place + kept.more + length above < 18446744073709551615
    → line ≡ unwrap_or (slice_get kept.lines place) (place + 1 + kept.more + count_by (λ one. nat_le one place) above))
    → more ≡ lines ++ line ∷ [] → AreTakenLines kept above (take i places) lines → AreTakenLines kept above (take (i + 1) places) more
taken_lines_more kept above places lines more i place line lt at is pushed so_far read same few low =
    let split : take (i + 1) places ≡ take i places ++ place ∷ [] = take_more places i place lt ∙ ap (λ one. take i places ++ one ∷ []) (sym at) in
    let lows : All (λ one. one ≤ length (taken read)) (take i places ++ place ∷ []) = subst (All (λ one. one ≤ length (taken read))) split low in
    let size = length_push (take i places) place in
    let within : place ≤ length (taken read) = subst (λ one. one ≤ length (taken read)) (get_or_push (take i places) place place (length (take i places)) refl)
    (lows (length (take i places)) place (omega arith)) in
    let front : All (λ one. one ≤ length (taken read)) (take i places) = λ k d less.
    subst (λ one. one ≤ length (taken read)) (get_or_append_left (take i places) (place ∷ []) d k less) (lows k d (omega arith)) in
    let all = counted 0 read in
    let refused = ap length same in
    let one : line ≡ taken_line kept read place = is (omega arith) ∙ ap (λ list. unwrap_or (slice_get kept.lines place) (place + 1 + kept.more + count_by (λ one. nat_le one place) list)) same in
    pushed ∙ (ap (λ part. part ++ line ∷ []) (so_far read same few front)
    ∙ (ap (λ n. map (taken_line kept read) (take i places) ++ n ∷ []) one
    ∙ (sym (map_push (taken_line kept read) (take i places) place) ∙ ap (map (taken_line kept read)) (sym split))))
