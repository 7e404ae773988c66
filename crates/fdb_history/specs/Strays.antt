-- Stray answers: those that nothing justifies. An answer is justified by its call, by the chain of
-- commit versions and by what its client's log has so far. (this product's own)
use Rattle.std.specs.Prelude.{◌≡◌, ◌⊎◌, ℕ, ◌+◌, ◌-◌, ◌==◌, nat_eq, nat_lt, Bool, true, false, ◌&&◌, not, List, length, Option, None, Some, is_none, Result, Ok, Err, slice_get}
use Rattle.std.specs.List.{find, list_any}
use Rattle.std.specs.Cmp.Lexicographic.{pointwise}
use Rattle.std.specs.Option.{option_eq, option_map, option_map_or}
use mathlib.Core.Bool.{beq}
use Rattle.fdb_history.specs.Issuing.{by_number, kept}
use Rattle.fdb_history.specs.Chain.{last_answer, latest}
use Rattle.fdb_history.specs.Faults.{StandsAt}
use Rattle.fdb_history.specs.Log.{calls_of, answers_in, fresh_answers}
use Rattle.fdb_history.specs.declared.chain.Issued.{Issued}
use Rattle.fdb_history.specs.declared.chain.TheConstants.{MAX_STEP}
use Rattle.fdb_history.specs.declared.log.Call.{Call}
use Rattle.fdb_history.specs.declared.log.CallAnswer.{CallAnswer}
use Rattle.fdb_history.specs.declared.log.CallAnswer.TheVariants.{Version, Answered, Acked, Told, Refused}
use Rattle.fdb_history.specs.declared.log.ClientLog.{ClientLog}
use Rattle.fdb_history.specs.declared.log.Input.{Input}
use Rattle.fdb_history.specs.declared.log.Input.TheVariants as input
use Rattle.fdb_history.specs.declared.log.Refusal.{Refusal}
use Rattle.fdb_history.specs.declared.log.Refusal.TheVariants.{Early, Forgotten, Exhausted, BadCount, BatchThrottled, Full, ProxyClosed, NotIssued, Stranger, MinAbove}
use Rattle.fdb_history.specs.declared.register.TheConstants.{MAX_VERSION}

-- ---- which kinds of answers go with which calls

-- the refusals that a call of this kind may meet
abbrev pub may_refuse : Input → Refusal → Bool
may_refuse (input.Grv opts) BadCount = true
may_refuse (input.Grv opts) BatchThrottled = true
may_refuse (input.Grv opts) Full = true
may_refuse (input.Grv opts) ProxyClosed = true
may_refuse (input.Grv opts) Stranger = true
may_refuse (input.Ask num processed at) (Early expected) = true
may_refuse (input.Ask num processed at) Forgotten = true
may_refuse (input.Ask num processed at) Exhausted = true
may_refuse (input.Report num locked metadata min_known) NotIssued = true
may_refuse (input.Report num locked metadata min_known) MinAbove = true
may_refuse _ _ = false

-- an answer is of the kind of its input
abbrev pub goes_with : Input → CallAnswer → Bool
goes_with (input.Grv opts) (Version rec limits locked_out) = true
goes_with (input.Ask num processed at) (Answered issued) = true
goes_with (input.Report num locked metadata min_known) (Acked rec raised changed) = true
goes_with (input.Tell to) Told = true
goes_with (input.Learn from) Told = true
goes_with asked (Refused cause) = may_refuse asked cause
goes_with _ _ = false

-- ---- answers to reads: who is turned away from a locked database

-- A read is turned away exactly where locked and not lock-aware. What is locked is the record.
abbrev pub is_rightly_locked_out : Input → CallAnswer → Bool
is_rightly_locked_out (input.Grv opts) (Version rec limits locked_out) =
    beq locked_out (rec.locked && not opts.lock_aware)
is_rightly_locked_out _ _ = true

-- ---- answers to requests for a commit version, by the chain and the log

-- two answers are one, member by member
abbrev pub is_same : Issued → Issued → Bool
is_same a b =
    (a.ordinal == b.ordinal) && ((a.proxy == b.proxy) && ((a.num == b.num)
    && ((a.processed == b.processed) && ((a.prev == b.prev) && ((a.version == b.version)
    && ((a.at == b.at) && beq a.fresh b.fresh))))))

-- A commit version is its client's, under its number, in the chain. It is the chain's entry at its
-- ordinal, in all but `fresh`.
abbrev pub is_of_chain : List Issued → ℕ → Input → CallAnswer → Bool
is_of_chain chain client (input.Ask num processed at) (Answered issued) =
    (issued.proxy == client) && ((issued.num == num)
    && option_map_or (λ entry. is_same issued (record entry { fresh = issued.fresh }))
    (slice_get chain issued.ordinal) false)
is_of_chain _ _ _ _ = true

-- The next version would be above the greatest one at the greatest step.
abbrev pub is_near_the_end : List Issued → Bool
is_near_the_end chain =
    option_map_or (λ last. nat_lt (MAX_VERSION - MAX_STEP) last.version) (last_answer chain) false

-- A request is told the next number, which its own is beyond.
abbrev pub is_early : ℕ → CallAnswer → Bool
is_early next (Refused (Early expected)) = expected == next
is_early _ _ = false

-- A repeat gets the kept answer, or is told that none is. It gets all of it but `fresh`.
abbrev pub is_again : Option Issued → CallAnswer → Bool
is_again (Some found) (Answered issued) = is_same issued (record found { fresh = false })
is_again None (Refused Forgotten) = true
is_again _ _ = false

-- The next request gets a fresh answer, or the versions are used up. The answer has the request's
-- members.
abbrev pub is_fresh_answer : List Issued → ℕ → ℕ → CallAnswer → Bool
is_fresh_answer chain processed at (Answered issued) =
    issued.fresh && ((issued.processed == processed) && (issued.at == at))
is_fresh_answer chain processed at (Refused Exhausted) = is_near_the_end chain
is_fresh_answer _ _ _ _ = false

-- The answer is the one that a request's number asks for. That is, where this is its client's
-- latest number, and this answer is kept under the request's.
abbrev pub is_due : List Issued → ℕ → Option Issued → Input → CallAnswer → Bool
is_due chain latest_num found (input.Ask num processed at) answer =
    by_number latest_num num
    (is_early (latest_num + 1) answer)
    (is_again found answer)
    (is_fresh_answer chain processed at answer)
is_due _ _ _ _ _ = true

-- how the answer to a request stands in a log
abbrev pub logged_as : Result Issued Refusal → CallAnswer
logged_as (Ok issued) = Answered issued
logged_as (Err cause) = Refused cause

-- ---- answers to reports, by the version under their number

-- The first version that a log got under a number.
abbrev pub issued_under : List Call → ℕ → Option ℕ
issued_under before num =
    option_map (λ issued. issued.version) (find (λ issued. issued.num == num) (answers_in before))

-- A report is of the issued version, as given, or rightly refused. The version is the one under its
-- number, with the flags and the minimum known committed version that it was told; it is refused
-- only where none was, or where that minimum is above it.
abbrev pub is_of_issued : Option ℕ → Input → CallAnswer → Bool
is_of_issued version (input.Report num locked metadata min_known) (Acked rec raised changed) =
    option_eq nat_eq version (Some rec.version)
    && (beq rec.locked locked && (option_eq (pointwise nat_eq) rec.metadata metadata
    && (rec.min_known == min_known)))
is_of_issued version (input.Report num locked metadata min_known) (Refused NotIssued) = is_none version
is_of_issued version (input.Report num locked metadata min_known) (Refused MinAbove) =
    option_map_or (λ issued. nat_lt issued min_known) version false
is_of_issued _ _ _ = true

-- ---- where an answer is stray, and where one is missing

-- The number under which a call asks or reports, else 0.
abbrev pub number_of : Input → ℕ
number_of (input.Ask num processed at) = num
number_of (input.Report num locked metadata min_known) = num
number_of _ = 0

-- A call's answer is justified by chain, input and earlier calls. What its client's calls so far
-- say of its number is given: the client's latest one, the answer that is kept under it, and the
-- version that was issued under it.
abbrev pub is_justified_by : List Issued → ℕ → ℕ → Option Issued → Option ℕ → Call → Bool
is_justified_by chain client latest_num found version call =
    goes_with call.input call.answer
    && (is_rightly_locked_out call.input call.answer
    && (is_of_chain chain client call.input call.answer
    && (is_due chain latest_num found call.input call.answer
    && is_of_issued version call.input call.answer)))

-- A call's answer is justified after the calls before it in its log.
abbrev pub is_justified : List Issued → ℕ → List Call → Call → Bool
is_justified chain client before call =
    is_justified_by chain client
    (latest client (fresh_answers before))
    (kept client (number_of call.input) (fresh_answers before))
    (issued_under before (number_of call.input))
    call

-- The calls whose answers are not justified after those before them.
abbrev pub NotJustified : List Issued → List ClientLog → ℕ → ℕ → Type 0
NotJustified chain logs client place =
    StandsAt (λ before call. is_justified chain client before call ≡ false) logs client place

-- A call drew the chain's entry at a place. With this ordinal, and fresh, it is among the answers
-- of some calls.
abbrev pub is_drawn : List Call → ℕ → Issued → Bool
is_drawn calls place entry =
    list_any (λ issued. is_same issued (record entry { ordinal = place; fresh = true }))
    (answers_in calls)

-- The chain has a client's entry that none of its calls drew.
abbrev pub HasUndrawn : List Issued → List ClientLog → ℕ → Type 0
HasUndrawn chain logs client =
    (place : ℕ) × (entry : Issued) × (slice_get chain place ≡ Some entry) × (entry.proxy ≡ client)
    × (is_drawn (calls_of logs client) place entry ≡ false)

-- An answer is stray where it is not justified. And where the chain has an entry of a client that
-- none of its calls drew, the call is missing at the end of its log, which is at 0 where the client
-- has no log.
abbrev pub IsStray : List Issued → List ClientLog → ℕ → ℕ → Type 0
IsStray chain logs client place =
    NotJustified chain logs client place
    ⊎ ((place ≡ length (calls_of logs client)) × HasUndrawn chain logs client)
