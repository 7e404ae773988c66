-- Logs with keys, judged by value: each key is a register of its own, with values of its own. And logs of ranked lines.
use Rattle.std.specs.Prelude.{◌≡◌, ◌≢◌, ℕ, ◌<◌, true, List, Option, None, Some, length, map}
use Rattle.fdb_lines.specs.declared.line.Line.{Line}
use Rattle.fdb_lines.specs.declared.log.AuditOpts.{AuditOpts}
use Rattle.fdb_lines.specs.KeyParts.{lines_of_one}
use Rattle.fdb_lines.specs.Keys.{key_at}
use Rattle.fdb_lines.specs.Lines.{Lines}
use Rattle.fdb_values.specs.ByValue.{AreExplainedByValue, ranked_line, start_value, value_at}
use Rattle.fdb_values.specs.Zones.{rank_by_zone}

-- each line has its key, and all lines of a value, but of that with which all begins, are of one key
pub record HaveOwnValues (lines : List Line) (keys : List (Option ℕ)) : Type 0 where
  pub many : length keys ≡ length lines
  pub own : (j k : ℕ) → j < length lines → k < length lines → value_at lines j ≡ value_at lines k → value_at lines j ≢ start_value
      → key_at keys j ≡ key_at keys k

-- lines are explained by value: all together, or those of each key by themselves
abbrev pub AreExplainedByValueIn : ℕ → List Line → Option (List (Option ℕ)) → Type 0
AreExplainedByValueIn margin lines None = AreExplainedByValue margin lines
AreExplainedByValueIn margin lines (Some keys) = (key : Option ℕ) → AreExplainedByValue margin (lines_of_one lines keys key)

-- a log of lines with ranks for versions
pub record IsRankedLog (margin : ℕ) (lines : List Line) (log : Lines) : Type 0 where
  pub ranks : log.lines ≡ map (ranked_line (rank_by_zone margin lines)) lines
  pub timed : 0 < length lines → log.timed ≡ true

-- how it is audited: all calls are there, and all begins with version 0
abbrev pub opts_by_rank : ℕ → AuditOpts
opts_by_rank margin = record { complete = Some 0; margin = margin }
