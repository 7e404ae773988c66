-- Changes that follow one another, and those of one number among them.
use Rattle.std.proofs.Common.{◌≡◌, ◌≢◌, ℕ, suc, ◌+◌, ◌*◌, ◌<◌, ◌≤◌, ◌==◌, Bool, true, false, List, [], ◌∷◌, ◌++◌, length, if◌then◌else◌, refl, sym, ap, ◌∙◌, arith, le_refl, length-append}
use Rattle.std.specs.Prelude.{All}
use Rattle.std.proofs.lemmas.Bool.{and_parts, and_from}
use Rattle.std.proofs.lemmas.Bool.Decides.{nat_tests}
use Rattle.std.proofs.lemmas.List.{append-nil, nil_from_length}
use Rattle.std.proofs.lemmas.List.Elements.{All-nil, All-cons, All-head, All-tail}
use mathlib.Core.List.{IsPrefix}
use Rattle.fdb_history.specs.declared.register.Record.{Record}
use Rattle.fdb_history.specs.Register.{after_report, changes}
use Rattle.fdb_live.specs.Seen.{last_record, all_change, changed_by, IsLog, IsRecord}
use Rattle.fdb_live.specs.declared.view.Change.{Change}
use Rattle.fdb_live.proofs.Register.{reach, changed_reaches, version_at_least, after_taken}

pub last_record-push : (start : Record) (log : List Change) (r : Change) → last_record start (log ++ r ∷ []) ≡ after_report (last_record start log) r.rec
last_record-push start [] r = refl
last_record-push start (q ∷ log) r = last_record-push (after_report start q.rec) log r

pub all_change-push : (start : Record) (log : List Change) (r : Change) → all_change start log ≡ true → changes (last_record start log) r.rec ≡ true → all_change start (log ++ r ∷ []) ≡ true
all_change-push start [] r h up = and_from _ _ up refl
all_change-push start (q ∷ log) r h up =
    let parts = and_parts (changes start q.rec) (all_change (after_report start q.rec) log) h in
    and_from _ _ parts.0 (all_change-push (after_report start q.rec) log r parts.1 up)

-- with each change the version or the minimum known committed version rises
position_below_reach : (start : Record) (log : List Change) → all_change start log ≡ true → length log + reach start ≤ reach (last_record start log)
position_below_reach start [] h = omega arith
position_below_reach start (q ∷ log) h =
    let parts = and_parts (changes start q.rec) (all_change (after_report start q.rec) log) h in
    let here = changed_reaches start q.rec parts.0 in
    let rest = position_below_reach (after_report start q.rec) log parts.1 in
    omega arith

last_taken : (start : Record) (log : List Change) → IsRecord start → All (λ r. IsRecord r.rec) log → IsRecord (last_record start log)
last_taken start [] begun all = begun
last_taken start (q ∷ log) begun all = last_taken (after_report start q.rec) log (after_taken start q.rec begun (All-head (λ r. IsRecord r.rec) q log all)) (All-tail (λ r. IsRecord r.rec) q log all)

pub taken_last : {start : Record} {reporters : ℕ} {log : List Change} → IsLog start reporters log → IsRecord (last_record start log)
taken_last {start} {reporters} {log} legal = last_taken start log legal.start_taken legal.taken

-- a position never exceeds twice the version
pub position_below : {start : Record} {reporters : ℕ} {log : List Change} → IsLog start reporters log → length log ≤ 2 * (last_record start log).version
position_below {start} {reporters} {log} legal =
    let reached = position_below_reach start log legal.all_change in
    let within = (taken_last legal).within in
    omega arith

pub above_start : (start : Record) (log : List Change) → start.version ≤ (last_record start log).version
above_start start [] = le_refl start.version
above_start start (q ∷ log) =
    let here = (version_at_least start q.rec).0 in
    let rest = above_start (after_report start q.rec) log in
    omega arith

pub above_all : (start : Record) (log : List Change) (version : ℕ) → (last_record start log).version < version → All (λ r. r.rec.version < version) log
above_all start [] version above = All-nil _
above_all start (q ∷ log) version above =
    let here = (version_at_least start q.rec).1 in
    let rest = above_start (after_report start q.rec) log in
    All-cons (λ r. r.rec.version < version) q log (omega arith) (above_all (after_report start q.rec) log version above)

chosen : (b : Bool) (at : ℕ) (whole front back : List ℕ) → whole ≡ front ++ back → (if b then (at ∷ whole) else whole) ≡ (if b then (at ∷ front) else front) ++ back
chosen true at whole front back e = ap (λ l. at ∷ l) e
chosen false at whole front back e = e

pub changed_by-append : (n at : ℕ) (xs ys : List Change) → changed_by n at (xs ++ ys) ≡ changed_by n at xs ++ changed_by n (at + length xs) ys
changed_by-append n at [] ys = ap (λ k. changed_by n k ys) (omega arith)
changed_by-append n at (x ∷ xs) ys =
    let tail : changed_by n (at + 1) (xs ++ ys) ≡ changed_by n (at + 1) xs ++ changed_by n (at + suc (length xs)) ys =
    changed_by-append n (at + 1) xs ys ∙ ap (λ k. changed_by n (at + 1) xs ++ changed_by n k ys) (omega arith) in
    chosen (x.reporter == n) at _ _ _ tail

pub changed_by-push_own : (n at : ℕ) (xs : List Change) (r : Change) → r.reporter ≡ n → changed_by n at (xs ++ r ∷ []) ≡ changed_by n at xs ++ (at + length xs) ∷ []
changed_by-push_own n at xs r own = changed_by-append n at xs (r ∷ []) ∙ ap (λ l. changed_by n at xs ++ l) (one (r.reporter == n) refl)
  where
    one : (b : Bool) → (r.reporter == n) ≡ b → (if b then ((at + length xs) ∷ []) else []) ≡ (at + length xs) ∷ []
    one true e = refl
    one false e = absurd (grind (arith, nat_tests))

pub changed_by-push_other : (n at : ℕ) (xs : List Change) (r : Change) → r.reporter ≢ n → changed_by n at (xs ++ r ∷ []) ≡ changed_by n at xs
changed_by-push_other n at xs r other = changed_by-append n at xs (r ∷ []) ∙ (ap (λ l. changed_by n at xs ++ l) (none (r.reporter == n) refl) ∙ append-nil _)
  where
    none : (b : Bool) → (r.reporter == n) ≡ b → (if b then ((at + length xs) ∷ []) else []) ≡ []
    none true e = absurd (other (grind (arith, nat_tests)))
    none false e = refl

nothing_more : (ms bs cs : List ℕ) → ms ≡ (ms ++ bs) ++ cs → ms ≡ ms ++ bs
nothing_more ms bs cs e =
    let long = ap length e in
    let none : bs ≡ [] = nil_from_length bs (omega (arith, long, length-append (ms ++ bs) cs, length-append ms bs)) in
    sym (ap (λ l. ms ++ l) none ∙ append-nil ms)

-- where the whole has no more of a number than the least, what is between has none either
pub changed_by-between : (n : ℕ) (xs ys zs : List Change) → IsPrefix xs ys → IsPrefix ys zs → changed_by n 1 xs ≡ changed_by n 1 zs → changed_by n 1 xs ≡ changed_by n 1 ys
changed_by-between n xs ys zs p q e =
    let inner = ap (changed_by n 1) (sym p.1) ∙ changed_by-append n 1 xs p.0 in
    let outer = ap (changed_by n 1) (sym q.1) ∙ changed_by-append n 1 ys q.0 in
    nothing_more _ _ _ (e ∙ (outer ∙ ap (λ l. l ++ changed_by n (1 + length ys) q.0) inner)) ∙ sym inner
