-- What a log is, and which lines it takes. (this product's own)
use Rattle.std.specs.Prelude.{◌==◌, ◌&&◌, not, nat_le, false, cond, [], ◌∷◌, ◌++◌, Option, None, Some, is_none, length}
use Rattle.std.specs.Bool.{beq}
use Rattle.fdb_lines.specs.declared.line.Line.{Line}
use Rattle.fdb_lines.specs.declared.log.Log.{Log}
use Rattle.fdb_lines.specs.declared.log.LineError.{LineError}
use Rattle.fdb_lines.specs.declared.log.LineError.TheVariants.{TooMany, SomeTimes, TimedLearn, NoClient}
use Rattle.fdb_lines.specs.Lines.{Lines, has_times, kind_of, is_learn}

abbrev pub lines_of : Log → Lines
lines_of log = record { timed = log.timed; lines = log.lines.items }

abbrev pub added : Lines → Line → Lines
added log line = record { timed = has_times line; lines = log.lines ++ line ∷ [] }

abbrev pub no_lines : Lines
no_lines = record { timed = false; lines = [] }

-- Why a line is not taken, if it is not: the first that holds.
abbrev pub refusal_of : Lines → Line → Option LineError
refusal_of log line =
    cond (nat_le 4294967295 (length log.lines)) (Some TooMany)
    (cond (not (length log.lines == 0) && not (beq log.timed (has_times line))) (Some SomeTimes)
    (cond (has_times line && is_learn (kind_of line.call)) (Some TimedLearn)
    (cond (not (has_times line) && is_none line.client) (Some NoClient) None)))
