-- How far ends are believed, with one line more.
use Rattle.std.proofs.Common.{◌≡◌, ◌∙◌, ℕ, zero, suc, ◌+◌, ◌≤◌, Bool, true, false, cond, nat_lt, List, [], ◌∷◌, ◌++◌, Option, None, Some, ap, append-nil, append_assoc, arith, is_some, max, not, refl, sym, take, unwrap_or}
use Rattle.std.specs.Prelude.{◌&&◌, if◌then◌else◌}
use Rattle.fdb_lines.specs.declared.line.Line.{Line}
use Rattle.fdb_lines.specs.Before.{ended}
use Rattle.fdb_lines.specs.Lines.{same_client}
use Rattle.fdb_audit.specs.declared.clocks.Clocks.{Clocks}
use Rattle.fdb_audit.specs.Clocks.{ClocksBefore, ahead_by, ahead_end, ahead_of_end, ahead_with, believed_end, believed_with, count_lines, end_of, end_of_another, floor_of, fold_lines, newer, newest_end, no_clocks, others_end, others_known, others_then, reached, vouched}
use Rattle.fdb_audit.specs.Taken.{HasHeard, known_by, others_of}
use Rattle.fdb_audit.specs.private.Clocks.{Carries, Hears, ahead_of, known_to}

-- ---- the newest end of lines

pub newest_more : (newest : ℕ) (lines : List Line) (line : Line) → newest_end newest (lines ++ line ∷ []) ≡ max (newest_end newest lines) (end_of line)
newest_more newest [] line = refl
newest_more newest (one ∷ lines) line = newest_more (max newest (end_of one)) lines line

pub newest_max : (newest : ℕ) (lines : List Line) → newest_end newest lines ≡ max newest (newest_end 0 lines)
newest_max newest [] = omega arith
newest_max newest (line ∷ lines) =
    let here = newest_max (max newest (end_of line)) lines in
    let there = newest_max (max 0 (end_of line)) lines in
    omega (arith, here, there)

newest_on : (newest : ℕ) (lines further : List Line) → newest_end newest lines ≤ newest_end newest (lines ++ further)
newest_on newest [] further = let is = newest_max newest further in omega (arith, is)
newest_on newest (line ∷ lines) further = newest_on (max newest (end_of line)) lines further

-- ---- the newest end of others

newer_none : (one : Option ℕ) → newer one None ≡ one
newer_none None = refl
newer_none (Some one) = refl

newer_assoc : (a b c : Option ℕ) → newer a (newer b c) ≡ newer (newer a b) c
newer_assoc None b c = refl
newer_assoc (Some a) None c = refl
newer_assoc (Some a) (Some b) None = refl
newer_assoc (Some a) (Some b) (Some c) = let same : max a (max b c) ≡ max (max a b) c = omega arith in ap (λ n. Some n) same

others_more : (client : Option ℕ) (lines : List Line) (line : Line) → others_end client (lines ++ line ∷ []) ≡ newer (others_end client lines) (end_of_another client line)
others_more client [] line = newer_none (end_of_another client line)
others_more client (one ∷ lines) line =
    ap (newer (end_of_another client one)) (others_more client lines line) ∙ newer_assoc (end_of_another client one) (others_end client lines) (end_of_another client line)

newer_value : (one other : Option ℕ) → unwrap_or (newer one other) 0 ≤ max (unwrap_or one 0) (unwrap_or other 0)
newer_value None other = omega arith
newer_value (Some one) None = omega arith
newer_value (Some one) (Some other) = omega arith

another_low : (client : Option ℕ) (line : Line) → unwrap_or (end_of_another client line) 0 ≤ end_of line
another_low client line = by (is_some line.client && not (same_client line.client client))
  where
    by : (b : Bool) → unwrap_or (if b then ended line else None) 0 ≤ end_of line
    by true = omega arith
    by false = omega arith

others_low : (client : Option ℕ) (lines : List Line) → unwrap_or (others_end client lines) 0 ≤ newest_end 0 lines
others_low client [] = omega arith
others_low client (line ∷ lines) =
    let rest = others_low client lines in
    let one = another_low client line in
    let both = newer_value (end_of_another client line) (others_end client lines) in
    let is = newest_max (max 0 (end_of line)) lines in
    omega (arith, rest, one, both, is)

vouched_low : (client : Option ℕ) (above : List Line) → vouched no_clocks client above ≤ newest_end 0 above
vouched_low client above = by (others_end client above) (others_low client above)
  where
    by : (end : Option ℕ) → unwrap_or end 0 ≤ newest_end 0 above → unwrap_or end (newest_end 0 above) ≤ newest_end 0 above
    by None low = omega arith
    by (Some end) low = omega (arith, low)

-- ---- one line after another

module _ {S : Type 0} (step : S → List Line → Line → S) where
  pub fold_more : (state : S) (above lines : List Line) (line : Line) → fold_lines step state above (lines ++ line ∷ []) ≡ step (fold_lines step state above lines) (above ++ lines) line
  fold_more state above [] line = ap (λ all. step state all line) (sym (append-nil above))
  fold_more state above (one ∷ lines) line =
      let next = step state above one in
      fold_more next (above ++ one ∷ []) lines line ∙ ap (λ all. step (fold_lines step next (above ++ one ∷ []) lines) all line) (append_assoc above (one ∷ []) lines)

  -- and some after others
  pub fold_on : (state : S) (above lines more : List Line) → fold_lines step state above (lines ++ more) ≡ fold_lines step (fold_lines step state above lines) (above ++ lines) more
  fold_on state above [] more = ap (λ all. fold_lines step state all more) (sym (append-nil above))
  fold_on state above (one ∷ lines) more =
      let next = step state above one in
      fold_on next (above ++ one ∷ []) lines more ∙ ap (λ all. fold_lines step (fold_lines step next (above ++ one ∷ []) lines) all more) (append_assoc above (one ∷ []) lines)

  module _ (test : S → List Line → Line → Bool) where
    pub count_more : (state : S) (above lines : List Line) (line : Line)
        → count_lines step test state above (lines ++ line ∷ []) ≡ count_lines step test state above lines + cond (test (fold_lines step state above lines) (above ++ lines) line) 1 0
    count_more state above [] line =
        let same = ap (λ all. cond {A = ℕ} (test state all line) 1 0) (append-nil above) in
        omega (arith, same)
    count_more state above (one ∷ lines) line =
        let next = step state above one in
        let rest = count_more next (above ++ one ∷ []) lines line in
        let same = ap (λ all. cond {A = ℕ} (test (fold_lines step next (above ++ one ∷ []) lines) all line) 1 0) (append_assoc above (one ∷ []) lines) in
        omega (arith, rest, same)

-- ---- what is believed

either_least : (b : Bool) (known believed end : ℕ) → believed ≤ known → believed ≤ (if b then known else max believed end)
either_least true known believed end le = le
either_least false known believed end le = omega arith

with_least : (before : ClocksBefore) (behind believed : ℕ) (above : List Line) (line : Line) → believed ≤ believed_with before behind believed above line
with_least before behind believed above line =
    let known = reached before believed above line in
    either_least (nat_lt (known + behind) (end_of line)) known believed (end_of line) (omega arith)

behind_least : (before : ClocksBefore) (behind believed : ℕ) (above lines : List Line) → believed ≤ fold_lines (believed_with before behind) believed above lines
behind_least before behind believed above [] = omega arith
behind_least before behind believed above (line ∷ lines) =
    let one = with_least before behind believed above line in
    let rest = behind_least before behind (believed_with before behind believed above line) (above ++ line ∷ []) lines in
    omega (arith, one, rest)

pub believed_part : (before : ClocksBefore) (behind believed : ℕ) (above : List Line) (n : ℕ) (lines : List Line)
    → fold_lines (believed_with before behind) believed above (take n lines) ≤ fold_lines (believed_with before behind) believed above lines
believed_part before behind believed above zero lines = behind_least before behind believed above lines
believed_part before behind believed above (suc n) [] = omega arith
believed_part before behind believed above (suc n) (line ∷ lines) = believed_part before behind (believed_with before behind believed above line) (above ++ line ∷ []) n lines

either_most : (b : Bool) (known believed end most : ℕ) → known ≤ most → max believed end ≤ most → (if b then known else max believed end) ≤ most
either_most true known believed end most one other = one
either_most false known believed end most one other = other

with_most : (behind believed : ℕ) (above : List Line) (line : Line) → believed_with no_clocks behind believed above line ≤ max believed (newest_end 0 (above ++ line ∷ []))
with_most behind believed above line =
    let known = reached no_clocks believed above line in
    let low = vouched_low line.client above in
    let all = newest_more 0 above line in
    either_most (nat_lt (known + behind) (end_of line)) known believed (end_of line) (max believed (newest_end 0 (above ++ line ∷ []))) (omega (arith, low, all)) (omega (arith, all))

behind_most : (behind believed : ℕ) (above lines : List Line) → fold_lines (believed_with no_clocks behind) believed above lines ≤ max believed (newest_end 0 (above ++ lines))
behind_most behind believed above [] = omega arith
behind_most behind believed above (line ∷ lines) =
    let one = with_most behind believed above line in
    let rest = behind_most behind (believed_with no_clocks behind believed above line) (above ++ line ∷ []) lines in
    let same = ap (newest_end 0) (append_assoc above (line ∷ []) lines) in
    let more = newest_on 0 (above ++ line ∷ []) lines in
    omega (arith, one, rest, same, more)

-- no end is believed that is newer than all
pub believed_low : (behind : ℕ) (lines : List Line) → believed_end no_clocks behind [] lines ≤ newest_end 0 lines
believed_low behind lines = let most = behind_most behind 0 [] lines in omega (arith, most)

-- ---- what is heard

pub heard_more : (before : ClocksBefore) (old new : Clocks) (lines : List Line) (line : Line) → HasHeard before old lines → Hears old new line → HasHeard before new (lines ++ line ∷ [])
heard_more before old new lines line has hears = record {
  newest = hears.newest ∙ (ap (λ n. max n (end_of line)) has.newest ∙ sym (newest_more before.newest lines line));
  others = λ client.
      let own = end_of_another client line in
      hears.others client
      ∙ (ap (λ end. newer end own) (has.others client)
      ∙ (sym (newer_assoc (floor_of before.many) (others_end client lines) own) ∙ ap (newer (floor_of before.many)) (sym (others_more client lines line))));
}

known_is : (before : ClocksBefore) (clocks : Clocks) (believed : ℕ) (above : List Line) (line : Line) → HasHeard before clocks above → clocks.believed ≡ believed
    → known_to clocks line ≡ reached before believed above line
known_is before clocks believed above line has is =
    ap (λ n. max n (unwrap_or (others_of clocks line.client) clocks.newest)) is
    ∙ (ap (λ end. max believed (unwrap_or end clocks.newest)) (has.others line.client) ∙ ap (λ n. max believed (unwrap_or (others_known before line.client above) n)) has.newest)

pub hears_believed : (before : ClocksBefore) (behind : ℕ) (old new : Clocks) (above lines : List Line) (line : Line) → HasHeard before old (above ++ lines) → Hears old new line → old.behind ≡ behind
    → old.believed ≡ believed_end before behind above lines → new.believed ≡ believed_end before behind above (lines ++ line ∷ [])
hears_believed before behind old new above lines line has hears far is =
    let believed = believed_end before behind above lines in
    let known = reached before believed (above ++ lines) line in
    let by = λ (known behind believed : ℕ). if nat_lt (known + behind) (end_of line) then known else max believed (end_of line) in
    hears.believed ∙ (ap (λ known. by known old.behind old.believed) (known_is before old believed (above ++ lines) line has is)
    ∙ (ap (λ behind. by known behind old.believed) far ∙ (ap (by known behind) is ∙ sym (fold_more (believed_with before behind) before.believed above lines line))))

-- ---- what is ahead

pub ahead_is : (before : ClocksBefore) (behind ahead : ℕ) (clocks : Clocks) (lines : List Line) (line : Line) → HasHeard before clocks lines → clocks.behind ≡ behind → clocks.ahead ≡ ahead
    → ahead_of clocks line ≡ ahead_by before behind ahead lines line
ahead_is before behind ahead clocks lines line has far is =
    ap (λ behind. ahead_of_end behind clocks.ahead (unwrap_or (others_of clocks line.client) 0) (ended line)) far
    ∙ (ap (λ ahead. ahead_of_end behind ahead (unwrap_or (others_of clocks line.client) 0) (ended line)) is
    ∙ ap (λ end. ahead_of_end behind ahead (unwrap_or end 0) (ended line)) (has.others line.client))

pub hears_ahead : (before : ClocksBefore) (behind : ℕ) (old new : Clocks) (above lines : List Line) (line : Line) → HasHeard before old (above ++ lines) → Hears old new line → old.behind ≡ behind
    → old.ahead ≡ ahead_end before behind above lines → new.ahead ≡ ahead_end before behind above (lines ++ line ∷ [])
hears_ahead before behind old new above lines line has hears far is =
    let by = λ (by others ahead : ℕ). if nat_lt 0 by then others else ahead in
    let all = above ++ lines in
    let others = others_then before all line in
    let ahead = ahead_end before behind above lines in
    hears.ahead ∙ (ap (λ n. by n (unwrap_or (others_of old line.client) 0) old.ahead) (ahead_is before behind ahead old all line has far is)
    ∙ (ap (λ end. by (ahead_by before behind ahead all line) (unwrap_or end 0) old.ahead) (has.others line.client)
    ∙ (ap (by (ahead_by before behind ahead all line) others) is ∙ sym (fold_more (ahead_with before behind) before.ahead above lines line))))

-- ---- where a watch goes on

floors : (a b : Bool) (end : Option ℕ) → newer (floor_of a) (newer (floor_of (b && a)) end) ≡ newer (floor_of a) end
floors true true None = refl
floors true true (Some end) = let same : max 0 (max 0 end) ≡ max 0 end = omega arith in ap (λ n. Some n) same
floors true false end = refl
floors false true end = refl
floors false false end = refl

-- others have been heard, and lines again that were kept
pub carried_on : (before : ClocksBefore) (others old new : Clocks) (some : Bool) (lines : List Line) → before.newest ≡ 0 → before.many ≡ (some && is_some others.second) → HasHeard before old lines
    → Carries others old new → HasHeard (known_by others) new lines
carried_on before others old new some lines none many has carries =
    let so = is_some others.second in
    record {
      newest = (let first = newest_max others.newest lines in let was = has.newest in let now = carries.newest in let zero = ap (λ n. newest_end n lines) none in omega (arith, first, was, now, zero));
      others = λ client.
          carries.others_are client
          ∙ (ap (newer (floor_of so)) (has.others client)
          ∙ (ap (λ (b : Bool). newer (floor_of so) (newer (floor_of b) (others_end client lines))) many ∙ floors so some (others_end client lines)));
    }
