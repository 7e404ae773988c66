-- What C asks of an audit, and what it is told.
use Rattle.std.specs.Prelude.{◌≡◌, ◌≢◌, ◌⊎◌, ◌↔◌, ℕ, ◌+◌, ◌<◌, ◌==◌, ◌++◌, Bool, true, false, List, [], ◌∷◌, drop, length, map, Option, None, Some, option_map, string_bytes, Result, Ok, Err, if◌then◌else◌}
use Rattle.std.specs.BTreeSet.{BTreeSet, contains}
use Rattle.std.specs.List.{list_any}
use Rattle.std.specs.Ordering.{nat_cmp}
use Rattle.fdb_lines.specs.Lines.{Lines, same_client}
use Rattle.fdb_lines.specs.declared.fault.Fault.{Fault}
use Rattle.fdb_lines.specs.declared.fault.Fault.TheVariants as fault
use Rattle.fdb_lines.specs.declared.line.Operation.{Operation}
use Rattle.fdb_lines.specs.declared.line.Operation.TheVariants as made
use Rattle.fdb_lines.specs.declared.line.Line.{Line}
use Rattle.fdb_lines.specs.declared.line.Times.{Times}
use Rattle.fdb_lines.specs.declared.fault.Late.{Late}
use Rattle.fdb_lines.specs.declared.log.AuditOpts.{AuditOpts}
use Rattle.fdb_lines.specs.declared.fault.Finding.{Finding}
use Rattle.fdb_lines.specs.declared.fault.Means.{Means}
use Rattle.fdb_lines.specs.declared.fault.Means.TheVariants as means
use Rattle.fdb_lines.specs.declared.fault.Reason.{Reason}
use Rattle.fdb_lines.specs.declared.fault.Reason.TheVariants as reason
use Rattle.fdb_lines.specs.declared.fault.Witness.{Witness}
use Rattle.fdb_log_reader.specs.Members.{and_then, or_bad, times_with}
use Rattle.fdb_log_reader.specs.Reading.{pushed}
use Rattle.fdb_log_reader.specs.declared.error.ReadError.{ReadError}
use Rattle.fdb_log_reader.specs.declared.error.Why.{Why}
use Rattle.fdb_log_reader.specs.declared.error.Why.TheVariants as why
use Rattle.fdb_log_reader.specs.declared.member.Member.{Member}
use Rattle.fdb_log_reader.specs.declared.member.Member.TheVariants as member
use Rattle.fdb_lines.specs.Judged.{AreAll}
use Rattle.fdb_audit.specs.Program.{members_named}
use Rattle.fdb_audit.specs.declared.arguments.AuditArguments.{AuditArguments}
use Rattle.fdb_audit.specs.declared.judgement.Wanted.{Wanted}
use Rattle.fdb_c.specs.declared.audit.FdbAuditOptions.{FdbAuditOptions}
use Rattle.fdb_c.specs.declared.audit.FdbRefused.{FdbRefused}
use Rattle.fdb_c.specs.declared.audit.TheConstants.{FDB_CLIENT, FDB_READ, FDB_COMMIT, FDB_ASK, FDB_REPORT, FDB_LEARN, FDB_BEGAN, FDB_ENDED, FDB_KEY}
use Rattle.fdb_c.specs.declared.audit_calls.FdbCall.{FdbCall}
use Rattle.fdb_c.specs.declared.audit_faults.FdbFault.{FdbFault}
use Rattle.fdb_c.specs.declared.audit_faults.TheConstants.{FDB_FAULT_ORDER, FDB_FAULT_WRONG, FDB_FAULT_NOT_ABOVE, FDB_FAULT_TWICE, FDB_FAULT_STRAY, FDB_REASON_KNOWN, FDB_REASON_UNREPORTED, FDB_REASON_REPORTED, FDB_REASON_DRAWN, FDB_REASON_UNDRAWN, FDB_MEANS_START, FDB_MEANS_ENDED, FDB_MEANS_OWN, FDB_MEANS_LEARNT}
use Rattle.fdb_c.specs.declared.status.TheConstants.{FDB_OK, FDB_MEMORY, FDB_ROOM, FDB_FAULT, FDB_TOO_LONG, FDB_TOO_MANY, FDB_NOT_JSON, FDB_NO_CALL, FDB_TWO_CALLS, FDB_SOME_TIMES, FDB_BAD_MEMBER, FDB_EMPTY, FDB_OVER, FDB_UNJUDGED}

-- ---- what is asked

abbrev pub complete_of : FdbAuditOptions → Option ℕ
complete_of options = if options.complete then Some options.start else None

abbrev pub opts_of : FdbAuditOptions → AuditOpts
opts_of options = record { complete = complete_of options; margin = options.margin }

abbrev pub wanted_of : FdbAuditOptions → Wanted
wanted_of options = record { history = options.history; all = options.all; totals = options.totals; json = options.json }

-- What the arguments of an audit ask: the version that all began with and the margin, what is printed, the member that has the
-- keys, and those that are printed beside the lines.
pub record Asked : Type 0 where
  pub opts : AuditOpts
  pub wanted : Wanted
  pub key : Option (List ℕ)
  pub shown : List (List ℕ)

abbrev pub asked_in : AuditArguments → Asked
asked_in arguments = record {
  opts = arguments.opts;
  wanted = arguments.wanted;
  key = option_map string_bytes arguments.key;
  shown = map string_bytes arguments.shown.items;
}

-- a text, unless it is empty
abbrev pub unless_empty : List ℕ → Option (List ℕ)
unless_empty [] = None
unless_empty (byte ∷ bytes) = Some (byte ∷ bytes)

-- with the members of these names: that of the keys, and those that are shown, parted by commas; none where the text is empty
abbrev pub asked_with : AuditOpts → Wanted → List ℕ → List ℕ → Asked
asked_with opts wanted key shown = record {
  opts = opts;
  wanted = wanted;
  key = unless_empty key;
  shown = members_named (unless_empty shown);
}

abbrev pub asked_by : FdbAuditOptions → List ℕ → List ℕ → Asked
asked_by options key shown = asked_with (opts_of options) (wanted_of options) key shown

-- ---- the log that an array of calls stands for

-- whose call it was, where that is known
abbrev pub client_of : FdbCall → Option ℕ
client_of call = if call.has_client then Some call.client else None

-- whether a log has a line of this client
abbrev pub has_line_of : Lines → ℕ → Bool
has_line_of log client = list_any (λ (line : Line). same_client line.client (Some client)) log.lines

-- These are the clients of whom a log has lines.
abbrev pub AreClients : Lines → BTreeSet ℕ → Type 0
AreClients log clients = (client : ℕ) → contains nat_cmp clients client ≡ has_line_of log client

-- One learns from a client that is known: a line above is its.
abbrev pub learnt_from : ℕ → Bool → Result Operation Why
learnt_from teller is_known = if is_known then Ok (made.Learn teller) else Err (why.BadMember member.Learn)

-- what was done, if it is one of the five, where the client from whom one has learnt is known or not
abbrev pub made_of : FdbCall → Bool → Result Operation Why
made_of call is_known =
    if call.kind == FDB_READ then Ok (made.Read call.version)
    else (if call.kind == FDB_COMMIT then Ok (made.Commit call.version)
    else (if call.kind == FDB_ASK then Ok (made.Ask call.version)
    else (if call.kind == FDB_REPORT then Ok (made.Report call.version)
    else (if call.kind == FDB_LEARN then learnt_from call.teller is_known
    else Err why.NoCall))))

-- when it ended, where that is known
abbrev pub ended_of : FdbCall → Option ℕ
ended_of call = if call.has_ended then Some call.ended else None

-- when, where that is known: no call ended before it began
abbrev pub times_of : FdbCall → Result (Option Times) Why
times_of call =
    if call.has_times then or_bad member.Ended (option_map Some (times_with call.began (ended_of call))) else Ok None

-- a log with a call more, or what is wrong with that
abbrev pub with_call : Lines → FdbCall → Result Lines Why
with_call log call =
    and_then (made_of call (has_line_of log call.teller)) (λ made.
    and_then (times_of call) (λ times.
    pushed log (record { client = client_of call; call = made; times = times })))

abbrev pub or_refused : ℕ → Result Lines Why → (Lines → Result Lines ReadError) → Result Lines ReadError
or_refused line (Ok log) next = next log
or_refused line (Err why) next = Err (record { line = line; why = why })

-- a log with these calls more, or the first that is refused, counted from 1
abbrev pub with_calls : Lines → List FdbCall → Result Lines ReadError
with_calls log [] = Ok log
with_calls log (call ∷ calls) =
    or_refused (length log.lines + 1) (with_call log call) (λ more. with_calls more calls)

-- The log that calls stand for, each a line.
abbrev pub log_in : List FdbCall → Result Lines ReadError
log_in calls = with_calls (record { timed = false; lines = [] }) calls

-- ---- why a log is refused

abbrev pub status_of : Why → ℕ
status_of why.Empty = FDB_EMPTY
status_of why.TooLong = FDB_TOO_LONG
status_of why.TooMany = FDB_TOO_MANY
status_of why.NotJson = FDB_NOT_JSON
status_of why.NoCall = FDB_NO_CALL
status_of why.TwoCalls = FDB_TWO_CALLS
status_of why.SomeTimes = FDB_SOME_TIMES
status_of (why.BadMember _) = FDB_BAD_MEMBER
status_of why.BadKey = FDB_BAD_MEMBER
status_of why.BadNumber = FDB_BAD_MEMBER
status_of why.Memory = FDB_MEMORY

abbrev pub number_of : Member → ℕ
number_of member.Client = FDB_CLIENT
number_of member.Read = FDB_READ
number_of member.Commit = FDB_COMMIT
number_of member.Ask = FDB_ASK
number_of member.Report = FDB_REPORT
number_of member.Learn = FDB_LEARN
number_of member.Began = FDB_BEGAN
number_of member.Ended = FDB_ENDED

-- the member that is bad, or 0
abbrev pub member_of : Why → ℕ
member_of (why.BadMember member) = number_of member
member_of why.BadKey = FDB_KEY
member_of _ = 0

-- A refusal, as C is told of it beside its status.
abbrev pub refused_of : ReadError → FdbRefused
refused_of error = record { line = error.line; member = member_of error.why }

-- A status that says that the log is refused.
abbrev pub IsRefusal : ℕ → Type 0
IsRefusal status =
    (status ≢ FDB_OK) × (status ≢ FDB_FAULT) × (status ≢ FDB_ROOM) × (status ≢ FDB_MEMORY) × (status ≢ FDB_UNJUDGED)

-- An error that is one of these was told, beside its status.
abbrev pub IsToldWhy : (ReadError → Type 0) → FdbRefused → ℕ → Type 0
IsToldWhy IsWhy refused status =
    (error : ReadError) × IsWhy error × (status ≡ status_of error.why) × (refused ≡ refused_of error)

-- Nothing is told of a line where there is nothing to tell, nor of what was over: it was, exactly
-- where the status says so.
pub record IsUntold (tells : Type 0) (was_over : Bool) (before after : FdbRefused) (status : ℕ) : Type 0 where
  pub untold : ¬ tells → after ≡ before
  pub over : (status ≡ FDB_OVER) ↔ (was_over ≡ true)
  pub not_told : status ≡ FDB_OVER → after ≡ before

-- ---- faults

abbrev pub number_of_fault : Fault → ℕ
number_of_fault fault.Order = FDB_FAULT_ORDER
number_of_fault fault.Wrong = FDB_FAULT_WRONG
number_of_fault fault.NotAbove = FDB_FAULT_NOT_ABOVE
number_of_fault fault.Twice = FDB_FAULT_TWICE
number_of_fault fault.Stray = FDB_FAULT_STRAY

-- how a version was known: all began with it, or a call knew of a line
abbrev pub number_of_means : Means → ℕ
number_of_means means.Ended = FDB_MEANS_ENDED
number_of_means means.Own = FDB_MEANS_OWN
number_of_means (means.Learnt _) = FDB_MEANS_LEARNT

abbrev pub means_by : Option Witness → ℕ
means_by None = FDB_MEANS_START
means_by (Some by) = number_of_means by.means

-- the place of the line that let it be known, or 0
abbrev pub place_by : Option Witness → ℕ
place_by None = 0
place_by (Some by) = by.place

-- the place of the line by which the client had learnt of that, or 0
abbrev pub teller_in : Means → ℕ
teller_in means.Ended = 0
teller_in means.Own = 0
teller_in (means.Learnt place) = place

abbrev pub learnt_by : Option Witness → ℕ
learnt_by None = 0
learnt_by (Some by) = teller_in by.means

-- a fault whose reason names no version
abbrev pub plain : Finding → ℕ → ℕ → FdbFault
plain finding why other = record {
  known = 0;
  late = 0;
  place = finding.found.place;
  other = other;
  by = 0;
  learnt = 0;
  first = 0;
  kind = number_of_fault finding.found.fault;
  reason = why;
  means = 0;
  has_late = false;
}

-- a fault whose reason is that a version was known
abbrev pub knowing : Finding → ℕ → ℕ → ℕ → Option Witness → FdbFault
knowing finding why other version by = record {
  known = version;
  late = 0;
  place = finding.found.place;
  other = other;
  by = place_by by;
  learnt = learnt_by by;
  first = 0;
  kind = number_of_fault finding.found.fault;
  reason = why;
  means = means_by by;
  has_late = false;
}

-- a fault with its reason
abbrev pub told_with : Finding → Reason → FdbFault
told_with finding (reason.Known version by) = knowing finding FDB_REASON_KNOWN 0 version by
told_with finding reason.Unreported = plain finding FDB_REASON_UNREPORTED 0
told_with finding (reason.Reported line version by) = knowing finding FDB_REASON_REPORTED line version by
told_with finding (reason.Drawn line) = plain finding FDB_REASON_DRAWN line
told_with finding reason.Undrawn = plain finding FDB_REASON_UNDRAWN 0

-- with how late the call was, where a line of another call outdates it
abbrev pub with_late : FdbFault → Option Late → FdbFault
with_late fault None = fault
with_late fault (Some it) = record fault { late = it.by; first = it.place; has_late = true }

-- A fault, as C is told of it.
abbrev pub told : Finding → FdbFault
told finding = with_late (told_with finding finding.reason) finding.late

-- All faults of a log, each once and by line, with a reason that is true of the lines, and how late the call was: of all lines
-- together or, where they have keys, of those of each key by themselves.
abbrev pub AreFaults : Lines → Option (List (Option ℕ)) → AuditOpts → List FdbFault → Type 0
AreFaults log keys opts faults = (found : List Finding) × AreAll log keys opts found × (faults ≡ map told found)

-- ---- what is written

-- It was written to the start of what C gave, with its size, and what stands behind it is as it was.
abbrev pub IsWritten : {T : Type 0} → List T → List T → List T → ℕ → Type 0
IsWritten written before after size = (after ≡ written ++ drop (length written) before) × (size ≡ length written)

-- There is no room for it: its size alone was written.
abbrev pub HasNoRoom : {T : Type 0} → List T → List T → List T → ℕ → Type 0
HasNoRoom written before after size = (length before < length written) × (after ≡ before) × (size ≡ length written)

-- What is wanted was written, or there is no room for it.
pub record IsGiven {T : Type 0} (wanted before after : List T) (size status : ℕ) : Type 0 where
  pub ok : status ≡ FDB_OK → IsWritten wanted before after size
  pub room : status ≡ FDB_ROOM → HasNoRoom wanted before after size
  pub statuses : (status ≡ FDB_OK) ⊎ (status ≡ FDB_ROOM)
