-- The laws of chains: by places, since each answer of a chain is said by those before it.
use Rattle.std.proofs.Common.{◌≡◌, ℕ, zero, suc, ◌+◌, ◌-◌, ◌<◌, ◌≤◌, inl, inr, List, [], ◌∷◌, ◌++◌, length, take, slice_get, get_or, Some, sym, ap, ◌∙◌, arith, AllPairs, add-one}
use Rattle.std.proofs.lemmas.Bool.{cases_lt}
use Rattle.std.proofs.lemmas.List.{append-nil, append_assoc, get_or-take, length-take-le}
use Rattle.std.proofs.lemmas.Option.{none-some, same_Some, slice_get_within, slice_get-get_or, slice_get_read, get_or_from_slice_get}
use Rattle.fdb_history.specs.Chain.{step, last_answer, prev_after, version_after, IsNext, GoesOn, IsChain}
use Rattle.fdb_history.specs.declared.chain.Issued.{Issued}

-- each of some answers that go on from those before them is the next one after all before it
GoesOn-at : (epoch_end recovery : ℕ) (before later : List Issued) (place : ℕ) (answer : Issued) → GoesOn epoch_end recovery before later → slice_get later place ≡ Some answer → IsNext epoch_end recovery (before ++ take place later) answer
GoesOn-at epoch_end recovery before [] place answer on at = absurd (none-some answer at)
GoesOn-at epoch_end recovery before (next ∷ later) zero answer on at = rw (append-nil, ← same_Some next answer at) on.0
GoesOn-at epoch_end recovery before (next ∷ later) (suc place) answer on at =
    rw append_assoc at (GoesOn-at epoch_end recovery (before ++ next ∷ []) later place answer on.1 at)

-- Each answer of a chain is the next one after those before it.
pub IsNext-at : (epoch_end recovery : ℕ) (answers : List Issued) (place : ℕ) (answer : Issued) → IsChain epoch_end recovery answers → slice_get answers place ≡ Some answer → IsNext epoch_end recovery (take place answers) answer
IsNext-at epoch_end recovery answers place answer chain at = GoesOn-at epoch_end recovery [] answers place answer chain at

-- What goes on from some answers still does with the next one at its end.
pub GoesOn-push : (epoch_end recovery : ℕ) (before later : List Issued) (next : Issued) → GoesOn epoch_end recovery before later → IsNext epoch_end recovery (before ++ later) next → GoesOn epoch_end recovery before (later ++ next ∷ [])
GoesOn-push epoch_end recovery before [] next on is = (rw append-nil at is, tt)
GoesOn-push epoch_end recovery before (answer ∷ later) next on is =
    (on.0, GoesOn-push epoch_end recovery (before ++ answer ∷ []) later next on.1 (rw append_assoc is))

-- the last of the answers up to and including a place
last_answer-take : (answers : List Issued) (place : ℕ) (answer : Issued) → slice_get answers place ≡ Some answer → last_answer (take (suc place) answers) ≡ Some answer
last_answer-take answers place answer at =
    let long = length-take-le (suc place) answers (slice_get_within answers place answer at) in
    let last : length (take (suc place) answers) - 1 ≡ place = omega arith in
    rw last (slice_get_read (take (suc place) answers) (suc place) place answer (sym long) (omega arith)
    (sym (get_or-take (suc place) answers place answer (omega arith) ∙ get_or_from_slice_get answers place answer answer at)))

-- An answer and the next one: no gap.
record Follows (before after : Issued) : Type 0 where
  prev : after.prev ≡ before.version
  version : after.version ≡ before.version + step before.at after.at

chain-follows : (epoch_end recovery : ℕ) (answers : List Issued) (place : ℕ) (before after : Issued) → IsChain epoch_end recovery answers → slice_get answers place ≡ Some before → slice_get answers (suc place) ≡ Some after → Follows before after
chain-follows epoch_end recovery answers place before after chain b a =
    let next = IsNext-at epoch_end recovery answers (suc place) after chain a in
    let last = last_answer-take answers place before b in
    record {
      prev = next.prev ∙ ap (prev_after epoch_end) last;
      version = next.version ∙ ap (λ o. version_after recovery o after.at) last;
    }

-- the answer at a place that is not past another one's
answer_before : (answers : List Issued) (place : ℕ) (answer : Issued) (earlier : ℕ) → slice_get answers place ≡ Some answer → earlier ≤ place → (a : Issued) × (slice_get answers earlier ≡ Some a)
answer_before answers place answer earlier at order =
    let within = slice_get_within answers place answer at in
    (get_or answers earlier answer, slice_get-get_or answers earlier answer (omega arith))

-- An answer goes on from no version below that of one before it, and is above the version that it goes on from.
rises : (epoch_end recovery : ℕ) (answers : List Issued) (j k : ℕ) (earlier later : Issued) → IsChain epoch_end recovery answers → j < k → slice_get answers j ≡ Some earlier → slice_get answers k ≡ Some later → (earlier.version ≤ later.prev) × (later.prev < later.version)
rises epoch_end recovery answers j zero earlier later chain order e l = absurd (omega arith)
rises epoch_end recovery answers j (suc k) earlier later chain order e l =
    let before = answer_before answers (suc k) later k l (omega arith) in
    let next = chain-follows epoch_end recovery answers k before.0 later chain before.1 l in
    elim (cases_lt j k) [
      | inl less ↦ let up = rises epoch_end recovery answers j k earlier before.0 chain less e before.1 in (omega arith, omega arith)
      | inr not_less ↦
          let here : j ≡ k = omega arith in
          let same : earlier.version ≡ before.0.version = ap (λ (a : Issued). a.version) (same_Some earlier before.0 (sym e ∙ (ap (slice_get answers) here ∙ before.1))) in
          (omega arith, omega arith)
    ]

pub versions-AllPairs : (epoch_end recovery : ℕ) (answers : List Issued) → IsChain epoch_end recovery answers → AllPairs (λ earlier later. earlier.version < later.version) answers
versions-AllPairs epoch_end recovery answers chain j k d order within =
    let up = rises epoch_end recovery answers j k (get_or answers j d) (get_or answers k d) chain order
    (slice_get-get_or answers j d (omega arith)) (slice_get-get_or answers k d within) in
    omega arith

-- The first answer goes on from the end of the epoch before, at the recovery version.
pub chain-begins : (epoch_end recovery : ℕ) (answers : List Issued) (first : Issued) → IsChain epoch_end recovery answers → slice_get answers 0 ≡ Some first → (first.prev ≡ epoch_end) × (first.version ≡ recovery)
chain-begins epoch_end recovery answers first chain at = let next = IsNext-at epoch_end recovery answers 0 first chain at in (next.prev, next.version)

pub no_gap : (epoch_end recovery : ℕ) (answers : List Issued) (place : ℕ) (before after : Issued) → IsChain epoch_end recovery answers → slice_get answers place ≡ Some before → slice_get answers (place + 1) ≡ Some after → after.prev ≡ before.version
no_gap epoch_end recovery answers place before after chain b a =
    (chain-follows epoch_end recovery answers place before after chain b (rw add-one at a)).prev

-- Each answer goes on from a version below its own.
prev-below : (epoch_end recovery : ℕ) (answers : List Issued) (place : ℕ) (answer : Issued) → epoch_end < recovery → IsChain epoch_end recovery answers → slice_get answers place ≡ Some answer → answer.prev < answer.version
prev-below epoch_end recovery answers zero answer above chain at = let first = chain-begins epoch_end recovery answers answer chain at in omega arith
prev-below epoch_end recovery answers (suc place) answer above chain at =
    let before = answer_before answers (suc place) answer place at (omega arith) in
    (rises epoch_end recovery answers place (suc place) before.0 answer chain (omega arith) before.1 at).1

pub no_fork : (epoch_end recovery : ℕ) (answers : List Issued) → epoch_end < recovery → IsChain epoch_end recovery answers → AllPairs (λ one other. one.prev ≡ other.prev → ⊥) answers
no_fork epoch_end recovery answers above chain j k d order within same =
    let one_at = slice_get-get_or answers j d (omega arith) in
    let own = prev-below epoch_end recovery answers j (get_or answers j d) above chain one_at in
    let up = rises epoch_end recovery answers j k (get_or answers j d) (get_or answers k d) chain order one_at (slice_get-get_or answers k d within) in
    omega arith
