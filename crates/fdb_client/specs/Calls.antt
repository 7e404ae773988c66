-- What a client's calls may log. (all of this is this product's own)
use Rattle.std.specs.Prelude.{◌≡◌, ◌≢◌, ◌⊎◌, ℕ, ◌+◌, ◌<◌, ◌≤◌, ◌++◌, Bool, true, ◌&&◌, not, List, length, Option, None, Some, Result, Ok, Err}
use Rattle.std.specs.Bool.{MatchBool}
use mathlib.Core.List.{IsPrefix}
use Rattle.fdb_chain.specs.declared.error.ChainError.TheVariants.{Exhausted}
use Rattle.fdb_history.specs.Audit.{IsNotAbove}
use Rattle.fdb_history.specs.Issuing as definition
use Rattle.fdb_history.specs.Log.{fresh_answers}
use Rattle.fdb_history.specs.Register.{version_for}
use Rattle.fdb_history.specs.Strays.{issued_under, logged_as, may_refuse}
use Rattle.fdb_history.specs.declared.chain.Ask.{Ask}
use Rattle.fdb_history.specs.declared.chain.Issued.{Issued}
use Rattle.fdb_history.specs.declared.log.GrvOpts.{GrvOpts}
use Rattle.fdb_history.specs.declared.log.CallAnswer.{CallAnswer}
use Rattle.fdb_history.specs.declared.log.CallAnswer.TheVariants.{Version, Acked, Told, Refused}
use Rattle.fdb_history.specs.declared.log.Input.TheVariants as input
use Rattle.fdb_history.specs.declared.log.Refusal.{Refusal}
use Rattle.fdb_history.specs.declared.log.Refusal.TheVariants as refusal
use Rattle.fdb_history.specs.declared.register.Record.{Record}
use Rattle.fdb_live.specs.Holding.{answers_to, least_above, own_answers}
use Rattle.fdb_live.specs.Seen.{Sight}
use Rattle.fdb_live.specs.Seen.{IsBounded, IsNotBehind, IsChangedBy, IsNotChangedBy, IsRecord, last_record, longer}
use Rattle.fdb_live.specs.declared.live_record.Ack.{Ack}
use Rattle.fdb_live.specs.declared.view.Change.{Change}
use Rattle.fdb_client.specs.Account.{Account, IsSameClient, Logs, drawn_in, sight}
use Rattle.fdb_client.specs.Returned.{ReadReturns, AskReturns, ReportReturns}
use Rattle.fdb_client.specs.declared.error.ClientError.{ClientError}
use Rattle.fdb_client.specs.declared.error.ClientError.TheVariants.{Chain, Memory}
use Rattle.fdb_client.specs.declared.reply.ReadVersion.{ReadVersion}

-- It is the same client after a call, and what it has seen has not fallen.
pub record IsNotSetBack (start : Record) (before after : Account) : Type 0 where
  pub client : IsSameClient before after
  pub never_falls : IsNotBehind (last_record start before.changes) (last_record start after.changes)
  pub least : least_above before.answers ≤ least_above after.answers

-- A read gets the last record that the client has then seen, and is turned away exactly where that
-- is locked and the read is not lock-aware. Else it was refused as a read may be.
abbrev pub IsReadAnswer : Record → GrvOpts → Account → CallAnswer → Type 0
IsReadAnswer start opts after (Version rec limits locked_out) =
    (rec ≡ last_record start after.changes) × (locked_out ≡ (rec.locked && not opts.lock_aware))
IsReadAnswer start opts after (Refused cause) = may_refuse (input.Grv opts) cause ≡ true
IsReadAnswer start opts after _ = ⊥

-- A read was logged as one of these options, and returned what it logged.
pub record Reads (start : Record) (opts : GrvOpts) (before after : Account)
    (result : Result ReadVersion ClientError) : Type 0 where
  pub answer : CallAnswer
  pub logged : Logs before (input.Grv opts) answer after
  pub answered : IsReadAnswer start opts after answer
  pub returned : ReadReturns opts (length after.changes) answer result

-- What a read returned, to a client that had seen these changes and has then seen those: the last
-- record of the latter, which is not behind the last one of the former, and the version of it that
-- its options ask for.
pub record IsReadOf (start : Record) (opts : GrvOpts) (before after : List Change)
    (read : ReadVersion) : Type 0 where
  pub rec : read.rec ≡ last_record start after
  pub position : read.position ≡ length after
  pub version : read.version ≡ version_for opts.use_min read.rec
  pub at_least : read.rec.min_known ≤ read.version
  pub at_most : read.version ≤ read.rec.version
  pub never_falls : IsNotBehind (last_record start before) read.rec
  pub bounded : IsBounded read.position read.rec

-- the number that a client's next request for a commit version has: one more than it has drawn
abbrev pub next_number : Account → ℕ
next_number account = 1 + length (fresh_answers account.calls)

-- a client's request for a commit version: its number is that of the commit proxy
abbrev pub request_of : Account → ℕ → ℕ → ℕ → Ask
request_of account num processed at =
    record { proxy = account.number; num = num; processed = processed; at = at }

-- A request for a commit version was logged, and returned what it logged: the definition's answer on
-- all that had been answered by then. Those to its own commit proxy are those that it had seen. The
-- client has then seen all of that, and a fresh answer after it. Such a one, but for the first of
-- all, is above what the client had read.
pub record Asks (begun : definition.Chain) (start : Record) (num processed at : ℕ)
    (before after : Account) (result : Result Issued ClientError) : Type 0 where
  pub answer : CallAnswer
  pub logged : Logs before (input.Ask num processed at) answer after
  pub by_then : List Issued
  pub seen : IsPrefix before.answers by_then
  pub own : answers_to before.number by_then ≡ own_answers (sight before)
  pub answered : answer ≡ logged_as (definition.answer_to (record begun { answers = by_then })
      (request_of before num processed at))
  pub now : after.answers ≡ by_then ++ drawn_in answer
  pub above : IsNotAbove (λ _. last_record start before.changes) (length before.changes) answer
      → ⊥
  pub returned : AskReturns answer result

-- A request drew a version, or was refused since the versions are used up, or since memory is.
abbrev pub IsFreshUnlessOut : Result Issued ClientError → Type 0
IsFreshUnlessOut (Ok issued) = issued.fresh ≡ true
IsFreshUnlessOut (Err cause) = (cause ≡ Chain Exhausted) ⊎ (cause ≡ Memory)

-- What a result owes to the client's own answers alone. Under the next number a version is drawn, unless
-- versions or memory are out; under any other the answer is the definition's on the chain that the
-- client has seen, unless memory is refused.
pub record IsDue (seen : definition.Chain) (num processed at : ℕ) (before : Account)
    (result : Result Issued ClientError) : Type 0 where
  pub next : num ≡ next_number before → IsFreshUnlessOut result
  pub decided : num ≢ next_number before → result ≢ Err Memory
      → AskReturns (logged_as (definition.answer_to seen (request_of before num processed at)))
      result

-- A report is refused as `NotIssued` where the client's calls have no version under its number, and
-- as `MinAbove` where its minimum known committed version is above the version that they have.
abbrev pub IsReportRefusal : Option ℕ → ℕ → Refusal → Type 0
IsReportRefusal None min_known refusal.NotIssued = Unit {0}
IsReportRefusal (Some version) min_known refusal.MinAbove = version < min_known
IsReportRefusal version min_known _ = ⊥

-- A report is of the version that the client's calls have under its number, with the flags and the
-- minimum known committed version that it was given. It changes the record as the client, or finds
-- one that it does not change.
abbrev pub IsReportAnswer : Record → Option ℕ → Bool → Option (List ℕ) → ℕ → Account
    → Account → CallAnswer → Type 0
IsReportAnswer start version locked metadata min_known before after (Acked rec raised changed) =
    (version ≡ Some rec.version) × (rec.locked ≡ locked) × (rec.metadata ≡ metadata)
    × (rec.min_known ≡ min_known) × IsRecord rec
    × MatchBool changed (IsChangedBy start rec raised (sight before) (sight after))
    (IsNotChangedBy start rec raised (sight before) (sight after))
IsReportAnswer start version locked metadata min_known before after (Refused cause) =
    IsReportRefusal version min_known cause
IsReportAnswer start version locked metadata min_known before after _ = ⊥

-- A report of the version under this number was logged, and returned what it logged.
pub record Reports (start : Record) (num : ℕ) (locked : Bool) (metadata : Option (List ℕ))
    (min_known : ℕ) (before after : Account) (result : Result Ack ClientError) : Type 0 where
  pub answer : CallAnswer
  pub logged : Logs before (input.Report num locked metadata min_known) answer after
  pub answered : IsReportAnswer start (issued_under before.calls num) locked metadata min_known
      before after answer
  pub returned : ReportReturns (length after.changes) answer result

-- What a report of the version under a number was acknowledged with, to a client that has then seen
-- these changes: their last record is not below that version, and all is within bounds.
pub record IsAckOf (start : Record) (version : Option ℕ) (after : List Change) (ack : Ack)
    : Type 0 where
  pub covers : (reported : ℕ) → version ≡ Some reported
      → reported ≤ (last_record start after).version
  pub position : ack.position ≡ length after
  pub bounded : IsBounded (length after) (last_record start after)

-- A tell was logged, with the client that is told.
abbrev pub Tells : ℕ → Account → Account → Type 0
Tells to before after = Logs before (input.Tell to) Told after

-- A learn was logged, and the client has then seen the longer of its own lists and those that it was
-- told.
pub record Learns (from : ℕ) (told : Sight) (before after : Account) : Type 0 where
  pub logged : Logs before (input.Learn from) Told after
  pub seen : after.changes ≡ longer before.changes told.changes
  pub knows : IsPrefix told.changes after.changes
  pub answers : after.answers ≡ longer before.answers told.answers

-- What a client has seen is not behind what it was told: neither its record, nor the versions drawn.
pub record CoversTold (start : Record) (told : Sight) (after : Account) : Type 0 where
  pub covers : IsNotBehind (last_record start told.changes) (last_record start after.changes)
  pub least_told : least_above told.answers ≤ least_above after.answers
