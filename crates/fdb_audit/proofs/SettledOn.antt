-- The lines that were taken, once a watch has settled.
use Rattle.std.proofs.Common.{◌≡◌, ◌∙◌, ◌++◌, ◌-◌, ◌∷◌, [], ◌≤◌, ℕ, All, List, None, Result, ap, append-nil, arith, length, max, refl, subst, sym, ◌+◌}
use Rattle.std.proofs.lemmas.List.{drop_all, length-map, take_all}
use Rattle.std.proofs.lemmas.List.Elements.{All-cons, All-nil}
use Rattle.std.proofs.lemmas.List.Kept.{AllPairs-cons}
use Rattle.fdb_lines.specs.declared.key_watch.KeyWatch.{KeyWatch}
use Rattle.fdb_lines.specs.declared.fault.Found.{Found}
use Rattle.fdb_lines.specs.declared.line.Line.{Line}
use Rattle.fdb_lines.specs.KeyWatch.{HasSeenByKey}
use Rattle.fdb_lines.specs.ToldByKey.{HasTold}
use Rattle.fdb_log_reader.specs.declared.error.Why.{Why}
use Rattle.fdb_log_reader.specs.ReadLine.{SaidLine}
use Rattle.fdb_audit.specs.Clocks.{ClocksBefore}
use Rattle.fdb_audit.specs.declared.progress.Counts.{Counts}
use Rattle.fdb_audit.specs.declared.members.Numbering.{Numbering}
use Rattle.fdb_audit.specs.declared.taken_lines.Taking.{Taking}
use Rattle.fdb_audit.specs.Following.{Before, Start, certain_in, keys_taken, lines_before, lines_since, lines_taken, taken}
use Rattle.fdb_audit.specs.declared.clocks.Clocks.{Clocks}
use Rattle.fdb_audit.specs.Came.{ahead_lines, early_lines, last_line, told_when}
use Rattle.fdb_audit.specs.Taken.{AreCounted, AreTaken, HasHeard, HasSettledAt, IsInReach, kept_by}
use Rattle.fdb_audit.specs.declared.taken_lines.Settlings.{Settlings}
use Rattle.fdb_audit.specs.private.Followed.{AreEarlyIn, HasNoted}
use Rattle.fdb_audit.proofs.ReadLines.{parted_count}
use Rattle.fdb_audit.proofs.OddLines.{early_settled, early_still, settled_as, settled_at_still, told_now}
use Rattle.fdb_audit.proofs.Settled.{far_in_all, far_now, in_reach_still, settled_now, settled_still}

-- how many were taken, by when they came
pub taken_count : (start : Start) (old : Taking) (read : List (Result SaidLine Why)) (told : List Found) → AreTaken start old read told
    → old.taken ≡ length (lines_before start read) + length (lines_since start read)
taken_count start old read told are = are.count ∙ (sym (length-map (taken read) (λ (said : SaidLine). said.line)) ∙ sym (parted_count start read))

-- as far as all may be told
far_as : (start : Start) (old : Taking) (read : List (Result SaidLine Why)) (told : List Found) (from : ℕ) → AreTaken start old read told
    → from ≡ max old.watch.from (old.clocks.believed - old.clocks.behind) → from ≡ certain_in start read
far_as start old read told from are is =
    let was = are.reach in
    let low = far_in_all start old (lines_before start read) (lines_since start read) was.from in
    let least = are.from in
    let far = was.behind_is in
    let believed = was.believed in
    omega (arith, low, least, far, believed, is)

pub settled_taken : (start : Start) (old new : Taking) (read : List (Result SaidLine Why)) (told more : List Found) (at : ℕ)
    → AreTaken start old read told → at ≡ old.clocks.believed - old.clocks.behind
    → HasSeenByKey new.watch (lines_taken read) (keys_taken read) → new.watch.from ≡ max old.watch.from at
    → (HasTold old.watch (lines_taken read) (keys_taken read) told → HasTold new.watch (lines_taken read) (keys_taken read) (told ++ more))
    → new.numbering ≡ old.numbering → new.taken ≡ old.taken → new.refused ≡ old.refused → new.counts ≡ old.counts → new.clocks ≡ old.clocks
    → new.settled ≡ old.taken → new.settlings.at ≡ old.taken ∷ old.settlings.at → AreTaken start new read (told ++ more)
settled_taken start old new read told more at are at_is seen moved tells numbering count refused counts clocks settled settlings =
    let all_come = taken_count start old read told are in
    let lines = lines_taken read in
    let all : new.settled ≡ length lines = settled ∙ (are.count ∙ sym (length-map (taken read) (λ (said : SaidLine). said.line))) in
    record {
      seen = seen;
      numbered = record {
        above = ap (λ (numbering : Numbering). numbering.above.items) numbering ∙ are.numbered.above;
        front = ap kept_by numbering ∙ are.numbered.front;
        few = are.numbered.few;
      };
      count = count ∙ are.count;
      refused = refused ∙ are.refused;
      counted = subst (λ (counts : Counts). AreCounted counts (lines_since start read)) (sym counts) are.counted;
      few = are.few;
      before = are.before;
      settled_at =
          let above = lines_before start read in
          let since = lines_since start read in
          settled_as start new above since (old.taken ∷ old.settlings.at) settlings
          (All-cons (λ at. at ≤ length above + length since) old.taken old.settlings.at (omega (arith, all_come)) are.settled_at.within)
          (AllPairs-cons (λ one other. other ≤ one) old.taken old.settlings.at (subst (λ n. All (λ at. at ≤ n) old.settlings.at) (sym all_come) are.settled_at.within) are.settled_at.order)
          (far_as start old read told new.watch.from are (moved ∙ ap (max old.watch.from) at_is)
          ∙ sym (ap (told_when start above since (old.taken ∷ old.settlings.at)) (sym all_come) ∙ told_now start above since old.settlings.at old.taken all_come));
      came =
          let so = ap (early_lines start read) settlings ∙ early_settled start read old.settlings.at old.taken all_come in
          subst (λ (counts : Counts). AreEarlyIn start read new.settlings.at counts) (sym counts) (record {
            count = are.came.count ∙ sym (ap length so);
            few = are.came.few;
            last_is = are.came.last_is ∙ sym (ap (last_line None) so);
          });
      ahead = ap (λ (counts : Counts). counts.ahead) counts ∙ are.ahead;
      from = (let was = are.from in omega (arith, was, moved));
      late = (let was = are.late in let same = ap (λ (counts : Counts). counts.early) counts in omega (arith, was, same));
      settled = settled_now start new lines all;
      reach =
          let was = are.reach in
          let above = lines_before start read in
          let since = lines_since start read in
          let low = far_in_all start old above since was.from in
          let early = ap (λ (counts : Counts). counts.early) counts in
          let far = was.behind_is in
          let believed = was.believed in
          record {
            behind_is = ap (λ (clocks : Clocks). clocks.behind) clocks ∙ far;
            heard = subst (λ (clocks : Clocks). HasHeard start.clocks clocks (above ++ since)) (sym clocks) was.heard;
            believed = ap (λ (clocks : Clocks). clocks.believed) clocks ∙ believed;
            ahead_to = ap (λ (clocks : Clocks). clocks.ahead) clocks ∙ was.ahead_to;
            from = far_now start _ _ above since (all ∙ sym (parted_count start read)) (omega (arith, low, far, at_is, moved, believed));
            early = (let le = was.early in omega (arith, le, early));
          };
      once = λ none_before none. tells (are.once none_before (sym (ap (λ (counts : Counts). counts.early) counts) ∙ none));
    }

-- and once that is noted
pub settled_noted : (start : Start) (old mid new : Taking) (read : List (Result SaidLine Why)) (told more : List Found) (at : ℕ)
    → AreTaken start old read told → at ≡ old.clocks.believed - old.clocks.behind
    → HasSeenByKey mid.watch (lines_taken read) (keys_taken read) → mid.watch.from ≡ max old.watch.from at
    → (HasTold old.watch (lines_taken read) (keys_taken read) told → HasTold mid.watch (lines_taken read) (keys_taken read) (told ++ more))
    → mid.numbering ≡ old.numbering → mid.taken ≡ old.taken → mid.refused ≡ old.refused → mid.counts ≡ old.counts → mid.clocks ≡ old.clocks → mid.settlings ≡ old.settlings
    → HasNoted mid new → AreTaken start new read (told ++ more)
settled_noted start old mid new read told more at are at_is seen moved tells numbering count refused counts clocks settlings noted =
    let lines = lines_taken read in
    let keys = keys_taken read in
    settled_taken start old new read told more at are at_is
    (subst (λ (watch : KeyWatch). HasSeenByKey watch lines keys) (sym noted.watch) seen)
    (ap (λ (watch : KeyWatch). watch.from) noted.watch ∙ moved)
    (λ has. subst (λ (watch : KeyWatch). HasTold watch lines keys (told ++ more)) (sym noted.watch) (tells has))
    (noted.numbering ∙ numbering) (noted.taken ∙ count) (noted.refused ∙ refused) (noted.counts ∙ counts) (noted.clocks ∙ clocks) (noted.settled ∙ count)
    (noted.settlings ∙ (ap (λ n. n ∷ mid.settlings.at) count ∙ ap (λ (settlings : Settlings). old.taken ∷ settlings.at) settlings))

-- it has then settled as far as all may be told
pub settles_to : (start : Start) (old : Taking) (read : List (Result SaidLine Why)) (told : List Found) (from : ℕ) → AreTaken start old read told
    → from ≡ max old.watch.from (old.clocks.believed - old.clocks.behind) → from ≡ certain_in start read
settles_to start old read told from are is = far_as start old read told from are is

-- and where they are held otherwise, by what is in reach then: with what an earlier piece has counted, and what was known of clocks
pub held_else : (start : Start) (known : ClocksBefore) (before : Before) (old new : Taking) (read : List (Result SaidLine Why)) (told : List Found) → AreTaken start old read told
    → IsInReach (record start { clocks = known; before = before }) new (lines_before start read) (lines_since start read)
    → HasSettledAt (record start { clocks = known; before = before }) new (lines_before start read) (lines_since start read)
    → AreEarlyIn (record start { clocks = known; before = before }) read new.settlings.at new.counts
    → new.counts.ahead ≡ length (ahead_lines (record start { clocks = known; before = before }) read)
    → new.watch ≡ old.watch → new.numbering ≡ old.numbering → new.taken ≡ old.taken → new.refused ≡ old.refused → new.counts ≡ old.counts
    → new.settled ≡ old.settled → AreTaken (record start { clocks = known; before = before }) new read told
held_else start known before old new read told are reach at came ahead watch numbering count refused counts settled = record {
  seen = subst (λ (watch : KeyWatch). HasSeenByKey watch (lines_taken read) (keys_taken read)) (sym watch) are.seen;
  numbered = record {
    above = ap (λ (numbering : Numbering). numbering.above.items) numbering ∙ are.numbered.above;
    front = ap kept_by numbering ∙ are.numbered.front;
    few = are.numbered.few;
  };
  count = count ∙ are.count;
  refused = refused ∙ are.refused;
  counted = subst (λ (counts : Counts). AreCounted counts (lines_since start read)) (sym counts) are.counted;
  few = are.few;
  before = are.before;
  settled_at = at;
  came = came;
  ahead = ahead;
  from = (let was = are.from in let same = ap (λ (watch : KeyWatch). watch.from) watch in omega (arith, was, same));
  late = (let was = are.late in let same = ap (λ (counts : Counts). counts.early) counts in omega (arith, was, same));
  settled =
      let still = settled_still start old new (lines_taken read) are.settled settled (ap (λ (watch : KeyWatch). watch.from) watch) (ap (λ (counts : Counts). counts.early) counts) in
      record { come = still.come; since = still.since };
  reach = reach;
  once = λ none_before none. subst (λ (watch : KeyWatch). HasTold watch (lines_taken read) (keys_taken read) told) (sym watch)
      (are.once none_before (sym (ap (λ (counts : Counts). counts.early) counts) ∙ none));
}

-- what is neither said nor counted of lines that were taken is no part of it
pub taken_beside : (start : Start) (old new : Taking) (read : List (Result SaidLine Why)) (told : List Found) → AreTaken start old read told
    → new.watch ≡ old.watch → new.numbering ≡ old.numbering → new.taken ≡ old.taken → new.refused ≡ old.refused → new.counts ≡ old.counts
    → new.settled ≡ old.settled → new.clocks ≡ old.clocks → new.settlings ≡ old.settlings → AreTaken start new read told
taken_beside start old new read told are watch numbering count refused counts settled clocks settlings =
    held_else start start.clocks start.before old new read told are
    (in_reach_still start old new (lines_before start read) (lines_since start read) are.reach clocks (ap (λ (watch : KeyWatch). watch.from) watch) settled counts)
    (settled_at_still start old new (lines_before start read) (lines_since start read) are.settled_at settlings (ap (λ (watch : KeyWatch). watch.from) watch))
    (early_still start old new read read are.came settlings counts (λ settled. refl))
    (ap (λ (counts : Counts). counts.ahead) counts ∙ are.ahead)
    watch numbering count refused counts settled

-- where lines are counted anew, those that had come are in reach by what is known of clocks
pub in_reach_anew : (start : Start) (new : Taking) (read : List (Result SaidLine Why)) → new.clocks.behind ≡ start.behind → HasHeard start.clocks new.clocks (lines_taken read)
    → new.clocks.believed ≡ start.clocks.believed → new.clocks.ahead ≡ start.clocks.ahead → new.watch.from ≡ start.from → new.counts.early ≡ 0
    → start.lines ≡ length read → IsInReach start new (lines_before start read) (lines_since start read)
in_reach_anew start new read behind heard believed ahead_to from early all =
    let none : lines_since start read ≡ [] = ap lines_taken (drop_all start.lines read (omega (arith, all))) in
    let whole : lines_before start read ≡ lines_taken read = ap lines_taken (take_all start.lines read (omega (arith, all))) in
    let at : IsInReach start new (lines_taken read) [] = record {
      behind_is = behind;
      heard = subst (HasHeard start.clocks new.clocks) (sym (append-nil (lines_taken read))) heard;
      believed = believed;
      ahead_to = ahead_to;
      from = omega (arith, from);
      early = omega (arith, early);
    } in
    subst (λ above. IsInReach start new above (lines_since start read)) (sym whole) (subst (IsInReach start new (lines_taken read)) (sym none) at)

-- and it has not settled since
pub settled_anew : (start : Start) (new : Taking) (above since : List Line) → new.settlings.at ≡ [] → new.watch.from ≡ start.from → HasSettledAt start new above since
settled_anew start new above since none from = settled_as start new above since [] none (All-nil (λ at. at ≤ length above + length since)) (λ i j d lt within. absurd (omega arith)) from
