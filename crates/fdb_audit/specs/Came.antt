-- Which lines came early to a log that is followed, and of which others were ahead. (this product's own)
use Rattle.std.specs.Prelude.{ℕ, ◌+◌, ◌-◌, ◌++◌, nat_le, nat_lt, List, [], ◌∷◌, Option, Some, Result, Ok, Err, drop, length, take, if◌then◌else◌}
use Rattle.fdb_lines.specs.declared.line.Line.{Line}
use Rattle.fdb_lines.specs.Before.{began}
use Rattle.fdb_log_reader.specs.declared.error.Why.{Why}
use Rattle.fdb_log_reader.specs.ReadLine.{SaidLine}
use Rattle.fdb_audit.specs.declared.refusal.CountedLine.{CountedLine}
use Rattle.fdb_audit.specs.Clocks.{ahead_by, ahead_end, believed_end, certain_to}
use Rattle.fdb_audit.specs.Following.{Start, lines_before, lines_since}

-- up to when all might be told once so many lines had been taken, those above the log's own included
abbrev pub certain_with : Start → (above since : List Line) → (come : ℕ) → ℕ
certain_with start above since come = certain_to start.from start.behind (believed_end start.clocks start.behind above (take (come - length above) since))

-- Up to when all had been told once so many lines had been taken: as far as it might be when a watch had settled last, which it did each
-- time that so many had been, the last first.
abbrev pub told_when : Start → (above since : List Line) → (settled : List ℕ) → (come : ℕ) → ℕ
told_when start above since [] come = start.from
told_when start above since (at ∷ settled) come = if nat_le at come then certain_with start above since at else told_when start above since settled come

-- by how much a line began before that when it came, so many lines being taken above it
abbrev pub early_by : Start → (above since : List Line) → (settled : List ℕ) → (come : ℕ) → Line → ℕ
early_by start above since settled come line = told_when start above since settled come - began line

-- and by how much lines of others above it are ahead of it
abbrev pub ahead_then : Start → (above since : List Line) → (come : ℕ) → Line → ℕ
ahead_then start above since come line =
    let those = take (come - length above) since in ahead_by start.clocks start.behind (ahead_end start.clocks start.behind above those) (above ++ those) line

-- a line that is odd by more than 0: which of all it is, by how much, and how many are with it
abbrev pub odd_line : (line by count : ℕ) → List CountedLine
odd_line line by count = if nat_lt 0 by then record { line = line; by = by; count = count } ∷ [] else []

-- Those of some lines that are, behind others that were found, where so many were taken above each; the first of them is this one of all.
abbrev pub odd_lines : (ℕ → Line → ℕ) → (line come : ℕ) → List CountedLine → List (Result SaidLine Why) → List CountedLine
odd_lines by line come found [] = found
odd_lines by line come found (Ok said ∷ read) = odd_lines by (line + 1) (come + 1) (found ++ odd_line line (by come said.line) (length found + 1)) read
odd_lines by line come found (Err why ∷ read) = odd_lines by (line + 1) come found read

-- those of the lines that came since
abbrev pub odd_since : ((above since : List Line) → ℕ → Line → ℕ) → Start → List (Result SaidLine Why) → List CountedLine
odd_since by start read =
    odd_lines (by (lines_before start read) (lines_since start read)) (start.kept.more + start.lines + 1) (length (lines_before start read)) [] (drop start.lines read)

-- The lines that came early, each with how long before what had been told it began, where a watch settled when so many had been taken.
abbrev pub early_lines : Start → List (Result SaidLine Why) → (settled : List ℕ) → List CountedLine
early_lines start read settled = odd_since (λ above since. early_by start above since settled) start read

-- The lines of which others above were ahead, each with by how much.
abbrev pub ahead_lines : Start → List (Result SaidLine Why) → List CountedLine
ahead_lines start read = odd_since (ahead_then start) start read

-- the last of some lines, by which of all it is
abbrev pub last_line : Option ℕ → List CountedLine → Option ℕ
last_line last [] = last
last_line last (it ∷ lines) = last_line (Some it.line) lines
