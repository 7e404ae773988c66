-- The lines of a log: what kind of call each is, its version, and its client. (this product's own)
use Rattle.std.specs.Prelude.{ℕ, Bool, true, false, ◌==◌, List, Option, None, Some, map, slice_index_or}
use Rattle.fdb_lines.specs.declared.line.Operation.{Operation}
use Rattle.fdb_lines.specs.declared.line.Operation.TheVariants.{Read as ReadOf, Commit as CommitOf, Ask as AskOf, Report as ReportOf, Learn as LearnFrom}
use Rattle.fdb_lines.specs.declared.line.Line.{Line}
use Rattle.fdb_lines.specs.declared.line.Times.{Times}

pub data Kind : Type 0 where
  Read : Kind
  Commit : Kind
  Ask : Kind
  Report : Kind
  Learn : Kind

abbrev pub kind_of : Operation → Kind
kind_of (ReadOf v) = Read
kind_of (CommitOf v) = Commit
kind_of (AskOf v) = Ask
kind_of (ReportOf v) = Report
kind_of (LearnFrom a) = Learn

-- the version of a call, and 0 for a line that has learnt
abbrev pub version_of : Operation → ℕ
version_of (ReadOf v) = v
version_of (CommitOf v) = v
version_of (AskOf v) = v
version_of (ReportOf v) = v
version_of (LearnFrom a) = 0

-- from whom a line has learnt, and 0 for a call
abbrev pub teller_of : Operation → ℕ
teller_of (ReadOf v) = 0
teller_of (CommitOf v) = 0
teller_of (AskOf v) = 0
teller_of (ReportOf v) = 0
teller_of (LearnFrom a) = a

abbrev pub is_read : Kind → Bool
is_read Read = true
is_read Commit = false
is_read Ask = false
is_read Report = false
is_read Learn = false

abbrev pub is_commit : Kind → Bool
is_commit Read = false
is_commit Commit = true
is_commit Ask = false
is_commit Report = false
is_commit Learn = false

abbrev pub is_ask : Kind → Bool
is_ask Read = false
is_ask Commit = false
is_ask Ask = true
is_ask Report = false
is_ask Learn = false

abbrev pub is_report : Kind → Bool
is_report Read = false
is_report Commit = false
is_report Ask = false
is_report Report = true
is_report Learn = false

abbrev pub is_learn : Kind → Bool
is_learn Read = false
is_learn Commit = false
is_learn Ask = false
is_learn Report = false
is_learn Learn = true

-- Which kinds draw a version: a commit asks for one, and reports it.
abbrev pub draws : Kind → Bool
draws Read = false
draws Commit = true
draws Ask = true
draws Report = false
draws Learn = false

abbrev pub reports : Kind → Bool
reports Read = false
reports Commit = true
reports Ask = false
reports Report = true
reports Learn = false

-- Which kinds show that the register has got to a version: reads and reports.
abbrev pub shows : Kind → Bool
shows Read = true
shows Commit = true
shows Ask = false
shows Report = true
shows Learn = false

abbrev pub same_client : Option ℕ → Option ℕ → Bool
same_client None None = true
same_client None (Some b) = false
same_client (Some a) None = false
same_client (Some a) (Some b) = a == b

-- whether two callers may be one: who is not known may be anybody
abbrev pub may_be_same_client : Option ℕ → Option ℕ → Bool
may_be_same_client None b = true
may_be_same_client (Some a) None = true
may_be_same_client (Some a) (Some b) = a == b

-- what stands past the last line: nothing
abbrev pub nobody : Line
nobody = record { client = None; call = LearnFrom 0; times = None }

abbrev pub line_at : List Line → ℕ → Line
line_at lines k = slice_index_or lines k nobody

-- whether there are times, with an end or without one
abbrev pub are_known : Option Times → Bool
are_known None = false
are_known (Some times) = true

abbrev pub has_times : Line → Bool
has_times line = are_known line.times

-- A log: its lines, and whether all have times or none has.
pub record Lines : Type 0 where
  pub timed : Bool
  pub lines : List Line

-- the lines at some places
abbrev pub lines_in : List Line → List ℕ → List Line
lines_in lines places = map (line_at lines) places

-- and as a log of their own
abbrev pub part_of : Lines → List ℕ → Lines
part_of log places = record { timed = log.timed; lines = lines_in log.lines places }

-- Some lines, with which of them comes before which (by places), the version that all begins with, and whether the
-- log has all calls.
pub record Case : Type 0 where
  pub lines : List Line
  pub before : ℕ → ℕ → Bool
  pub start : ℕ
  pub complete : Bool

abbrev pub kind_at : Case → ℕ → Kind
kind_at c k = kind_of (line_at c.lines k).call

abbrev pub version_at : Case → ℕ → ℕ
version_at c k = version_of (line_at c.lines k).call

abbrev pub client_at : Case → ℕ → Option ℕ
client_at c k = (line_at c.lines k).client
