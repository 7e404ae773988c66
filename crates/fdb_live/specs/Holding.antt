-- What a token proves that its holder has seen of the chain.
use Rattle.std.specs.Prelude.{◌≡◌, ◌≢◌, ◌<◌, ◌≤◌, ⊤, ℕ, ◌+◌, ◌==◌, true, false, List, [], All, Contains, Option, None, Some, Result, Ok, Err, ◌⊎◌, IfOk, OnErr, filter, length, map, slice_get}
use mathlib.Core.List.{IsPrefix}
use Rattle.fdb_chain.specs.ChainCore.{IsAnswer, IsFor}
use Rattle.fdb_chain.specs.declared.error.ChainError.{ChainError}
use Rattle.fdb_chain.specs.declared.error.ChainError.TheVariants.{Exhausted, Memory}
use Rattle.fdb_history.specs.Chain.{last_answer, latest}
use Rattle.fdb_history.specs.Issuing.{Chain, answer_to, with_answer}
use Rattle.fdb_history.specs.declared.chain.Ask.{Ask}
use Rattle.fdb_history.specs.declared.chain.Issued.{Issued}
use Rattle.fdb_history.specs.declared.register.Record.{Record}
use Rattle.fdb_history.specs.declared.register.TheConstants.{MAX_VERSION}
use Rattle.fdb_live.specs.Seen.{IsBounded, IsChangedBy, IsLog, IsNotBehind, IsNotChangedBy, IsRecord}
use Rattle.fdb_live.specs.Seen.{Sight, last_record, longer}
use Rattle.fdb_live.specs.declared.held.Fetched.{Fetched}
use Rattle.fdb_live.specs.declared.live_record.Ack.{Ack}
use Rattle.fdb_live.specs.declared.view.Change.{Change}

-- The commit versions that some answers give, in their order.
abbrev pub versions : List Issued → List ℕ
versions answers = map (λ answer. answer.version) answers

-- The version of each of some changes is one of those of some answers.
abbrev pub AreDrawn : List Issued → List Change → Type 0
AreDrawn answers changes =
    All (λ change. Contains (versions answers) change.rec.version) changes

-- Those of some answers that are to this commit proxy.
abbrev pub answers_to : ℕ → List Issued → List Issued
answers_to proxy answers = filter (λ answer. answer.proxy == proxy) answers

-- The answers to its own commit proxy; none, where it is nobody's.
abbrev pub answers_among : Option ℕ → List Issued → List Issued
answers_among None answers = []
answers_among (Some proxy) answers = answers_to proxy answers

abbrev pub own_answers : Sight → List Issued
own_answers sight = answers_among sight.reporter sight.answers

-- The least version above the last one of some answers, and 0 where there is none.
abbrev pub above_last : Option Issued → ℕ
above_last None = 0
above_last (Some last) = last.version + 1

abbrev pub least_above : List Issued → ℕ
least_above answers = above_last (last_answer answers)

-- A request of the proxy whose token it is was answered, as the definition answers it on all that
-- had been answered by then: of a chain that began so, and of which the proxy itself had got no
-- other answers than those that the token has seen. The holder has then seen all that, and a fresh
-- answer after it. The versions that it had read were all drawn before.
pub record IsAsked
    (begun : Chain) (ask : Ask) (old : Sight) (result : Result Issued ChainError) (new : Sight)
    : Type 0 where
  pub before : List Issued
  pub seen : IsPrefix old.answers before
  pub own : answers_to ask.proxy before ≡ answers_to ask.proxy old.answers
  pub answer : IsAnswer (answer_to (record begun { answers = before }) ask) result
  pub ok : IfOk result (λ issued. record begun { answers = new.answers }
      ≡ with_answer (record begun { answers = before }) issued)
  pub err : OnErr result (new.answers ≡ before)
  pub read : IfOk result (λ issued. issued.fresh ≡ true → AreDrawn before old.changes)

-- The holder of a token has seen more, and lost nothing: its number is as before, no answer became its
-- own, and neither the record nor the least version above all answers has fallen.
pub record HasSeenMore (start : Record) (old new : Sight) : Type 0 where
  pub reporter : new.reporter ≡ old.reporter
  pub extends : IsPrefix old.changes new.changes
  pub answers : IsPrefix old.answers new.answers
  pub own_answers : own_answers new ≡ own_answers old
  pub never_falls : IsNotBehind (last_record start old.changes) (last_record start new.changes)
  pub least : least_above old.answers ≤ least_above new.answers

-- A read was answered with the record after the last change that its reader has then seen, which is not behind the one that it had
-- seen before; and each change is a reporter's.
pub record IsRead (start : Record) (reporters : ℕ) (old new : Sight) (fetched : Fetched) : Type 0 where
  pub rec : fetched.rec ≡ last_record start new.changes
  pub position : fetched.position ≡ length new.changes
  pub never_falls : IsNotBehind (last_record start old.changes) fetched.rec
  pub bounded : IsBounded fetched.position fetched.rec
  pub log : IsLog start reporters new.changes

-- The holder of a token has learnt what another's has seen: of each two lists it has the longer one
-- then, and so has seen no less than the other.
pub record HasLearnt (start : Record) (other old new : Sight) : Type 0 where
  pub told : IsPrefix other.changes new.changes
  pub told_answers : IsPrefix other.answers new.answers
  pub covers : IsNotBehind (last_record start other.changes) (last_record start new.changes)
  pub least_told : least_above other.answers ≤ least_above new.answers
  pub longer_answers : new.answers ≡ longer old.answers other.answers
  pub longer : new.changes ≡ longer old.changes other.changes

-- A report of a record was taken and acknowledged so.
pub record IsAcked (start rec : Record) (old new : Sight) (ack : Ack) : Type 0 where
  pub taken : IsRecord rec
  pub position : ack.position ≡ length new.changes
  pub bounded : IsBounded (length new.changes) (last_record start new.changes)
  pub changed : ack.changed ≡ true → IsChangedBy start rec ack.raised old new
  pub not_changed : ack.changed ≡ false → IsNotChangedBy start rec ack.raised old new

-- A fresh answer is of no lower version than its asker had read; of a higher one, unless it is the
-- first answer of all.
pub record IsAboveRead (read : ℕ) (issued : Issued) : Type 0 where
  pub at_least : read ≤ issued.version
  pub above : 0 < issued.ordinal → read < issued.version

-- What an answer is to who asked with a token: it is to the request, its version is in range, and it
-- stands at its ordinal among the answers that the holder has then seen. A fresh version is the last
-- of these, and above all that the holder had seen drawn, and above what it had read, which
-- only the first of all may equal.
pub record IsIssued (start : Record) (ask : Ask) (old new : Sight) (issued : Issued) : Type 0 where
  pub request : IsFor ask issued
  pub in_range : issued.version ≤ MAX_VERSION
  pub stands : slice_get new.answers issued.ordinal ≡ Some (record issued { fresh = true })
  pub has : Contains (versions new.answers) issued.version
  pub above : issued.fresh ≡ true → (earlier : Issued) → Contains old.answers earlier
      → earlier.version < issued.version
  pub above_old : issued.fresh ≡ true → least_above old.answers ≤ issued.version
  pub above_read : issued.fresh ≡ true
      → IsAboveRead (last_record start old.changes).version issued
  pub least : issued.fresh ≡ true → least_above new.answers ≡ issued.version + 1

-- A request drew no version: it was answered again, or refused.
abbrev pub DrewNone : Result Issued ChainError → Type 0
DrewNone (Ok issued) = issued.fresh ≡ false
DrewNone (Err cause) = ⊤

-- A request drew a version, or was refused since the versions are used up, or since memory is.
abbrev pub IsFreshUnlessOut : Result Issued ChainError → Type 0
IsFreshUnlessOut (Ok issued) = issued.fresh ≡ true
IsFreshUnlessOut (Err cause) = (cause ≡ Exhausted) ⊎ (cause ≡ Memory)

-- What a result owes to the proxy's own answers alone. Under the next number a version is drawn, unless
-- versions or memory are out, and under any other these decide the answer. Where none is drawn they stay.
pub record IsDue (begun : Chain) (ask : Ask) (old : Sight) (result : Result Issued ChainError)
    (new : Sight) : Type 0 where
  pub next : ask.num ≡ latest ask.proxy old.answers + 1 → IsFreshUnlessOut result
  pub decided : ask.num ≢ latest ask.proxy old.answers + 1
      → IsAnswer (answer_to (record begun { answers = old.answers }) ask) result
  pub own : DrewNone result → own_answers new ≡ own_answers old
