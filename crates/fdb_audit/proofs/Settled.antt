-- Up to when a watch has settled, by the lines that had come then.
use Rattle.std.proofs.Common.{◌≡◌, ◌∙◌, ℕ, zero, suc, ◌+◌, ◌-◌, ◌^◌, ◌<◌, ◌≤◌, Bool, true, false, cond, nat_lt, List, [], ◌∷◌, ◌++◌, ap, arith, drop, length, refl, subst, sym, take}
use Rattle.std.proofs.lemmas.Bool.Decides.{nat_tests}
use Rattle.std.proofs.lemmas.List.{drop_all, length-drop, length_push, take-append-le, take_all}
use Rattle.std.proofs.lemmas.List.Sums.{count_by-le-length, sum_by-append, sum_by-cons}
use Rattle.fdb_lines.specs.declared.line.Line.{Line}
use Rattle.fdb_lines.specs.Before.{began}
use Rattle.fdb_audit.specs.declared.taken_lines.Taking.{Taking}
use Rattle.fdb_audit.specs.Following.{Start, early_at}
use Rattle.fdb_audit.specs.Clocks.{believed_end, certain_to}
use Rattle.fdb_audit.specs.declared.clocks.Clocks.{Clocks}
use Rattle.fdb_audit.specs.declared.progress.Counts.{Counts}
use Rattle.fdb_audit.specs.Taken.{HasHeard, HasSettled, IsInReach}
use Rattle.fdb_audit.specs.private.Followed.{one_more}
use Rattle.fdb_audit.proofs.Believed.{believed_part}

-- ---- how many began before a moment

pub early_push : (at : ℕ) (lines : List Line) (line : Line) → early_at at (lines ++ line ∷ []) ≡ early_at at lines + cond (nat_lt (began line) at) 1 0
early_push at lines line =
    let f = λ (one : Line). cond {A = ℕ} (nat_lt (began one) at) 1 0 in
    let sum = sum_by-append f lines (line ∷ []) in
    let last = sum_by-cons f line [] in
    omega (arith, sum, last)

-- one more that began before what had been told is counted, as it began before what is settled
pub late_more : (from at began count early before : ℕ) → from ≤ at → early ≤ before + count → early + 1 < 2 ^ 64
    → early + cond (nat_lt began from) 1 0 ≤ before + one_more (nat_lt began at) count
late_more from at began count early before low le few = by (nat_lt began at) refl
  where
    most : (b : Bool) → cond {A = ℕ} b 1 0 ≤ 1
    most true = omega arith
    most false = omega arith

    by : (b : Bool) → nat_lt began at ≡ b → early + cond {A = ℕ} (nat_lt began from) 1 0 ≤ before + one_more b count
    by true is = let one = most (nat_lt began from) in omega (arith, one, le, few)
    by false is =
        let not : nat_lt began from ≡ false = grind (arith, nat_tests) in
        let none : cond {A = ℕ} (nat_lt began from) 1 0 ≡ 0 = ap (λ b. cond {A = ℕ} b 1 0) not in
        omega (arith, none, le)

-- ---- with a line more, and where it has settled

pub drop_on : {X : Type 0} (n : ℕ) (xs ys : List X) → n ≤ length xs → drop n (xs ++ ys) ≡ drop n xs ++ ys
drop_on zero xs ys le = refl
drop_on (suc n) [] ys le = absurd (omega (arith, le))
drop_on (suc n) (x ∷ xs) ys le = drop_on n xs ys (omega (arith, le))

pub settled_more : (start : Start) (old new : Taking) (lines : List Line) (line : Line) → HasSettled start old lines → length lines + 1 < 2 ^ 64
    → new.settled ≡ old.settled → new.watch.from ≡ old.watch.from → new.counts.early ≡ one_more (nat_lt (began line) old.watch.from) old.counts.early
    → HasSettled start new (lines ++ line ∷ [])
settled_more start old new lines line is room settled from early =
    let come = is.come in
    let was = is.since in
    let size = length_push lines line in
    let since = drop old.settled lines in
    let same : early_at new.watch.from (drop new.settled (lines ++ line ∷ [])) ≡ early_at old.watch.from (since ++ line ∷ []) =
    (λ i. early_at (from i) (drop (settled i) (lines ++ line ∷ []))) ∙ ap (early_at old.watch.from) (drop_on old.settled lines (line ∷ []) come) in
    let push = early_push old.watch.from since line in
    let least = count_by-le-length (λ (line : Line). nat_lt (began line) old.watch.from) since in
    let few = length-drop old.settled lines in
    let more = late_more old.watch.from old.watch.from (began line) old.counts.early (early_at old.watch.from since) start.early (omega arith) was (omega (arith, least, few, room)) in
    record {
      come = omega (arith, come, size, settled);
      since = omega (arith, same, push, more, early);
    }

pub settled_still : (start : Start) (old new : Taking) (lines : List Line) → HasSettled start old lines → new.settled ≡ old.settled → new.watch.from ≡ old.watch.from
    → new.counts.early ≡ old.counts.early → HasSettled start new lines
settled_still start old new lines is settled from early =
    let come = is.come in
    let was = is.since in
    let same : early_at new.watch.from (drop new.settled lines) ≡ early_at old.watch.from (drop old.settled lines) = (λ i. early_at (from i) (drop (settled i) lines)) in
    record {
      come = omega (arith, come, settled);
      since = omega (arith, same, was, early);
    }

-- where all lines had come
pub settled_now : (start : Start) (new : Taking) (lines : List Line) → new.settled ≡ length lines → HasSettled start new lines
settled_now start new lines all =
    let none : early_at new.watch.from (drop new.settled lines) ≡ 0 = ap (early_at new.watch.from) (drop_all new.settled lines (omega (arith, all))) in
    record {
      come = omega (arith, all);
      since = omega (arith, none);
    }

-- ---- how far it has

-- up to when all may be told of these lines
abbrev pub certain : Start → (above since : List Line) → ℕ
certain start above since = certain_to start.from start.behind (believed_end start.clocks start.behind above since)

pub far_more : (start : Start) (old new : Taking) (above since : List Line) (line : Line) → old.settled ≤ length above + length since
    → old.watch.from ≤ certain start above (take (old.settled - length above) since) → new.settled ≡ old.settled → new.watch.from ≡ old.watch.from
    → new.watch.from ≤ certain start above (take (new.settled - length above) (since ++ line ∷ []))
far_more start old new above since line come is settled from =
    let part : believed_end start.clocks start.behind above (take (new.settled - length above) (since ++ line ∷ [])) ≡ believed_end start.clocks start.behind above (take (old.settled - length above) since) =
    ap (believed_end start.clocks start.behind above)
    (ap (λ n. take (n - length above) (since ++ line ∷ [])) settled ∙ take-append-le (old.settled - length above) since (line ∷ []) (omega (arith, come))) in
    omega (arith, is, from, part)

-- so it is where the newest end is that is believed of all lines
pub far_in_all : (start : Start) (taking : Taking) (above since : List Line) → taking.watch.from ≤ certain start above (take (taking.settled - length above) since)
    → taking.watch.from ≤ certain start above since
far_in_all start taking above since is =
    let part = believed_part start.clocks start.behind start.clocks.believed above (taking.settled - length above) since in omega (arith, is, part)

pub far_now : (start : Start) (from come : ℕ) (above since : List Line) → come ≡ length above + length since → from ≤ certain start above since
    → from ≤ certain start above (take (come - length above) since)
far_now start from come above since all is =
    let whole : believed_end start.clocks start.behind above (take (come - length above) since) ≡ believed_end start.clocks start.behind above since =
    ap (believed_end start.clocks start.behind above) (take_all (come - length above) since (omega (arith, all))) in
    omega (arith, is, whole)

-- what does not move stays in reach
pub in_reach_still : (start : Start) (old new : Taking) (above since : List Line) → IsInReach start old above since → new.clocks ≡ old.clocks → new.watch.from ≡ old.watch.from
    → new.settled ≡ old.settled → new.counts ≡ old.counts → IsInReach start new above since
in_reach_still start old new above since was clocks from settled counts =
    let low = was.from in
    let few = was.early in
    let early = ap (λ (counts : Counts). counts.early) counts in
    let part = ap (λ n. believed_end start.clocks start.behind above (take (n - length above) since)) settled in
    record {
      behind_is = ap (λ (clocks : Clocks). clocks.behind) clocks ∙ was.behind_is;
      heard = subst (λ (clocks : Clocks). HasHeard start.clocks clocks (above ++ since)) (sym clocks) was.heard;
      believed = ap (λ (clocks : Clocks). clocks.believed) clocks ∙ was.believed;
      ahead_to = ap (λ (clocks : Clocks). clocks.ahead) clocks ∙ was.ahead_to;
      from = omega (arith, low, from, part);
      early = omega (arith, few, early);
    }
