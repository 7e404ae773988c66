-- That what a client has logged agrees with what its token proves. (all of this is this product's
-- own)
use Rattle.std.specs.Prelude.{◌≡◌, ℕ, ◌-◌, ◌≤◌, Some, true, List, length, [], ◌∷◌, ◌++◌, Contains, flat_map, if◌then◌else◌, slice_get, take}
use Rattle.std.specs.List.{AllByRecursion}
use mathlib.Core.List.{IsPrefix}
use Rattle.fdb_history.specs.Audit.{IsNotAbove}
use Rattle.fdb_history.specs.Chain.{IsChain}
use Rattle.fdb_history.specs.Faults.{IsWrongBy}
use Rattle.fdb_history.specs.Laws.{HasMinimumWithin}
use Rattle.fdb_history.specs.Linear.{NeverGoesBack}
use Rattle.fdb_history.specs.Log.{answer_changes, fresh_answers, position_after_calls}
use Rattle.fdb_history.specs.Strays.{is_justified, issued_under}
use Rattle.fdb_history.specs.declared.chain.Issued.{Issued}
use Rattle.fdb_history.specs.declared.log.Call.{Call}
use Rattle.fdb_history.specs.declared.log.CallAnswer.{CallAnswer}
use Rattle.fdb_history.specs.declared.log.CallAnswer.TheVariants.{Acked}
use Rattle.fdb_history.specs.declared.register.Record.{Record}
use Rattle.fdb_live.specs.Holding.{own_answers, versions}
use Rattle.fdb_live.specs.Seen.{last_record, own_positions}
use Rattle.fdb_live.specs.declared.view.Change.{Change}
use Rattle.fdb_client.specs.Account.{Account, sight}

-- the live record at a position of a list of changes
abbrev pub record_at : Record → List Change → ℕ → Record
record_at start log position = last_record start (take position log)

-- the positions of the calls that say that they changed the record, in order
abbrev pub changed_positions : List Call → List ℕ
changed_positions calls =
    flat_map (λ call. if answer_changes call.answer then call.position ∷ [] else []) calls

-- A report that changed the record is the change at its position, under its client's number.
abbrev pub IsMade : ℕ → List Change → ℕ → CallAnswer → Type 0
IsMade number log position (Acked rec raised true) =
    slice_get log (position - 1) ≡ Some (record { reporter = number; rec = rec })
IsMade number log position _ = Unit {0}

-- A call was answered as the record is after these changes: a read with the record at its position,
-- a report with the flags that are due; a change is the client's own; no report told of a minimum
-- above its version; and a version that was drawn is above what its asker had seen.
pub record AgreesAt (start : Record) (number : ℕ) (log : List Change) (call : Call) : Type 0 where
  pub right : IsWrongBy (record_at start log) call.position call.answer → ⊥
  pub made : IsMade number log call.position call.answer
  pub within : HasMinimumWithin call.answer
  pub above : IsNotAbove (record_at start log) call.asked call.answer → ⊥

-- A client's calls agree with its token: what it owns are the positions of its changes, each once;
-- its calls never go back, nor beyond what the token has seen; and each agrees with that.
pub record Agrees (start : Record) (account : Account) : Type 0 where
  pub own : own_positions (sight account) ≡ changed_positions account.calls
  pub order : NeverGoesBack account.begun account.calls
  pub come_to : position_after_calls account.begun account.calls ≤ length account.changes
  pub each : AllByRecursion (AgreesAt start account.number account.changes) account.calls

-- Each of some calls is justified by a chain, after those of its client before it, of which there
-- were these already.
abbrev pub AreJustified : List Issued → ℕ → List Call → List Call → Type 0
AreJustified chain client before [] = Unit {0}
AreJustified chain client before (call ∷ calls) =
    (is_justified chain client before call ≡ true)
    × AreJustified chain client (before ++ call ∷ []) calls

-- A client's calls agree with the answers that its token proves: its own ones are those that were
-- drawn for its calls; each version that it may report is one of theirs; and each of its calls is
-- justified, by whatever chain goes on from them.
pub record AgreesWithChain (epoch_end recovery : ℕ) (account : Account) : Type 0 where
  pub own : own_answers (sight account) ≡ fresh_answers account.calls
  pub drawn : (num version : ℕ) → issued_under account.calls num ≡ Some version
      → Contains (versions account.answers) version
  pub justified : (chain : List Issued) → IsChain epoch_end recovery chain
      → IsPrefix account.answers chain → AreJustified chain account.number [] account.calls
