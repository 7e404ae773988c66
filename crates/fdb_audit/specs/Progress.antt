-- How far a log has been followed, as it is printed in between. (this product's own)
use Rattle.std.specs.Prelude.{◌≡◌, ◌++◌, ℕ, zero, suc, Bool, true, List, [], ◌∷◌, All, IfSome, Option, None, Some, Result, codes}
use Rattle.std.specs.List.{flat_map}
use Rattle.fdb_log_reader.specs.declared.error.ReadError.{ReadError}
use Rattle.fdb_log_reader.specs.declared.error.Why.{Why}
use Rattle.fdb_log_reader.specs.ReadLine.{SaidLine}
use Rattle.fdb_audit.specs.Figures.{Figure, figure, figures_text}
use Rattle.fdb_audit.specs.Following.{AreCountedOn, Counted, Start, counted_figures, counted_on, left_out, sum_of}
use Rattle.fdb_audit.specs.GoingOn.{GoesOnBy}
use Rattle.fdb_audit.specs.Taken.{counted_of}
use Rattle.fdb_audit.specs.Text.{line}
use Rattle.fdb_audit.specs.Watched.{AskForTheSame, HasFollowed, IsFollowed, lines_asked}
use Rattle.fdb_audit.specs.declared.arguments.AuditArguments.{AuditArguments}
use Rattle.fdb_audit.specs.declared.printer.LogFault.{LogFault}
use Rattle.fdb_audit.specs.declared.followed_log.FollowedLog.{FollowedLog}
use Rattle.fdb_audit.specs.declared.follower.Follower.{Follower}
use Rattle.fdb_audit.specs.declared.progress.Progress.{Progress}

-- how much had been read
abbrev pub counted_by : Progress → Counted
counted_by it = record {
  lines = it.lines;
  reads = it.reads;
  commits = it.commits;
  asks = it.asks;
  reports = it.reports;
  refused = it.refused;
  early = it.early;
  judged = it.judged;
  ahead = it.ahead;
}

-- and how far that was told
abbrev pub progress_figures : Progress → List Figure
progress_figures it =
    counted_figures (counted_by it)
    ++ figure (codes "open") it.open ∷ figure (codes "kept") it.kept ∷ figure (codes "newest_end") it.newest_end ∷ figure (codes "settled_to") it.settled_to ∷ []

abbrev pub progress_object : Progress → List ℕ
progress_object it = line (codes "{\"watched\":{" ++ figures_text true (progress_figures it) ++ codes "}}")

-- A text that is told, and how far the log was followed then, where that is told behind it: these lines had been read.
pub record Part : Type 0 where
  pub told : List ℕ
  pub read : List (Result SaidLine Why)
  pub progress : Option Progress

abbrev pub progress_text : Option Progress → List ℕ
progress_text None = []
progress_text (Some it) = progress_object it

-- So far a follower had followed a log: what it had counted, with an earlier piece; how many lines it kept, and how many were open, of
-- those that had been when it settled, and those that came since; the newest end that it believed, and up to when it had settled.
pub record IsProgressOf (start : Start) (follower : Follower) (it : Progress) : Type 0 where
  pub counts : counted_by it ≡ counted_on start.before.counts (counted_of follower.taking)
  pub kept : it.kept ≡ follower.taking.kept
  pub unjudged : it.«open» ≡ sum_of follower.taking.unsettled.unjudged follower.taking.unsettled.came
  pub newest : it.newest_end ≡ follower.taking.clocks.believed
  pub settled : it.settled_to ≡ follower.taking.watch.from

-- These lines are counted, and the figures are those of a follower that had read them.
pub record IsTrueOf (asked : AuditArguments) (start : Start) (read : List (Result SaidLine Why)) (it : Progress) : Type 0 where
  pub counted : AreCountedOn start read (counted_by it)
  pub follower : Follower
  pub before : List ℕ
  pub told : List ℕ
  pub followed : HasFollowed asked start follower before told
  pub same : followed.read ≡ read
  pub its : IsProgressOf start follower it

-- Whatever comes behind these bytes, the lines that had been read are the first of them; and how far they were followed is true of them,
-- where objects are asked for.
pub record IsPart (asked : AuditArguments) (start : Start) (bytes : List ℕ) (part : Part) : Type 0 where
  pub first : (text : List ℕ) → (rest : List (Result SaidLine Why)) × (lines_asked asked (bytes ++ text) ≡ part.read ++ rest)
  pub counts : IfSome part.progress (λ it. (asked.wanted.json ≡ true) × IsTrueOf asked start part.read it)

-- What is told of these bytes is printed in parts, behind some of which stands how far the log was followed then.
abbrev pub IsToldWith : AuditArguments → Start → (bytes told text : List ℕ) → Type 0
IsToldWith asked start bytes told text =
    (parts : List Part) × (told ≡ flat_map (λ (part : Part). part.told) parts) × (text ≡ flat_map (λ (part : Part). part.told ++ progress_text part.progress) parts)
    × All (IsPart asked start bytes) parts

-- A watch has gone on so many times while it read these bytes: this is printed of each piece of them, and of what is left, behind the
-- text that keeps the lines of what came before, what the last says.
abbrev pub ArePieces : AuditArguments → (Start → (bytes text : List ℕ) → Type 0) → (times : ℕ) → Start → (bytes text : List ℕ) → Type 0
ArePieces asked Last zero start bytes text = Last start bytes text
ArePieces asked Last (suc times) start bytes text =
    (piece rest first more told kept : List ℕ) × (bytes ≡ piece ++ rest) × (text ≡ first ++ more)
    × (next : Start) × GoesOnBy asked start piece told kept next × IsToldWith asked start piece told first
    × ArePieces asked Last times next (kept ++ rest) more

-- This is printed of bytes that have been read, of which a watch has not gone on.
pub record PrintedSoFar (asked : AuditArguments) (follower : Follower) (start : Start) (bytes text : List ℕ) : Type 0 where
  pub told : List ℕ
  pub followed : HasFollowed asked start follower bytes told
  pub told_with : IsToldWith asked start bytes told text

-- This is printed of these bytes, which have been read.
abbrev pub HasPrinted : AuditArguments → Start → FollowedLog → (bytes text : List ℕ) → Type 0
HasPrinted asked start log bytes text =
    (log.reporter.objects ≡ asked.wanted.json) × AskForTheSame asked log.asked
    × (times : ℕ) × ArePieces asked (PrintedSoFar asked log.follower) times start bytes text

-- And this at their end, where the last line that is refused is this one, and the last that came early is that.
pub record PrintedAll (asked : AuditArguments) (ends : Bool) (found : Option LogFault) (refused : Option ReadError) (last_early : Option ℕ) (start : Start) (bytes text : List ℕ) : Type 0 where
  pub told : List ℕ
  pub followed : IsFollowed asked start ends bytes told found last_early
  pub told_with : IsToldWith asked start bytes told text
  pub left : refused ≡ left_out start (lines_asked asked bytes)

abbrev pub IsPrinted : AuditArguments → Start → (ends : Bool) → (bytes text : List ℕ) → Option LogFault → Option ReadError → Option ℕ → Type 0
IsPrinted asked start ends bytes text found refused last_early =
    (times : ℕ) × ArePieces asked (PrintedAll asked ends found refused last_early) times start bytes text
