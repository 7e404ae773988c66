-- Which lines come before which: by time, or by what clients have told one another. (this product's own)
use Rattle.std.specs.Prelude.{ℕ, zero, suc, ◌+◌, ◌==◌, ◌&&◌, ◌||◌, Bool, true, false, nat_lt, List, Option, None, Some}
use Rattle.fdb_lines.specs.declared.line.Line.{Line}
use Rattle.fdb_lines.specs.declared.line.Times.{Times}
use Rattle.fdb_lines.specs.Lines.{line_at, kind_of, is_learn, teller_of}

-- ---- with times: a call comes before what began after it had ended

abbrev pub began_of : Option Times → ℕ
began_of None = 0
began_of (Some times) = times.began

abbrev pub ended_of : Option Times → Option ℕ
ended_of None = None
ended_of (Some times) = times.ended

abbrev pub began : Line → ℕ
began line = began_of line.times

abbrev pub ended : Line → Option ℕ
ended line = ended_of line.times

-- whether two lines are known to be of one client
abbrev pub one_client : Option ℕ → Option ℕ → Bool
one_client None other = false
one_client (Some a) None = false
one_client (Some a) (Some b) = a == b

-- Whether a call that ended comes before one that began: it had ended by more than the margin, or it is of the same
-- client and had ended by that client's clock. Where it ended just when the other began, the line above comes before.
abbrev pub ended_before : ℕ → Bool → Line → Option ℕ → Line → Bool
ended_before margin above one None other = false
ended_before margin above one (Some end) other =
    nat_lt (end + margin) (began other)
    || (one_client one.client other.client && (nat_lt end (began other) || (above && end == began other)))

abbrev pub by_time : ℕ → List Line → ℕ → ℕ → Bool
by_time margin lines j k =
    ended_before margin (nat_lt j k) (line_at lines j) (ended (line_at lines j)) (line_at lines k)

-- ---- without times: a client's calls come one after another, and it knows what it has learnt

abbrev pub is_of : ℕ → Option ℕ → Bool
is_of a None = false
is_of a (Some b) = a == b

-- Whether a client has heard of the line at a place by the first n lines: of its own, and, where it has learnt from
-- another, of what that one had heard of by then.
abbrev pub has_heard : List Line → ℕ → ℕ → ℕ → Bool
has_heard lines zero a j = false
has_heard lines (suc n) a j =
    has_heard lines n a j
    || (is_of a (line_at lines n).client
    && (n == j || (is_learn (kind_of (line_at lines n).call) && has_heard lines n (teller_of (line_at lines n).call) j)))

abbrev pub heard_by : List Line → ℕ → Option ℕ → ℕ → Bool
heard_by lines k None j = false
heard_by lines k (Some a) j = has_heard lines k a j

abbrev pub by_telling : List Line → ℕ → ℕ → Bool
by_telling lines j k = heard_by lines k (line_at lines k).client j

-- ---- a log has times on all lines or on none

abbrev pub comes_before : Bool → ℕ → List Line → ℕ → ℕ → Bool
comes_before true margin lines = by_time margin lines
comes_before false margin lines = by_telling lines
