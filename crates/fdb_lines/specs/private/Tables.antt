-- The tables of a log.
use Rattle.std.specs.Prelude.{◌≡◌, ◌⊎◌, ℕ, ◌++◌, ◌∷◌, Bool, true, false, List, Option, None, Some, IfSome, length, map, option_map}
use Rattle.std.specs.List.{All, list_any}
use Rattle.fdb_lines.specs.declared.line.End.{End}
use Rattle.fdb_lines.specs.declared.fault.Fault.{Fault}
use Rattle.fdb_lines.specs.declared.fault.Fault.TheVariants.{NotAbove}
use Rattle.fdb_lines.specs.declared.line.Line.{Line}
use Rattle.fdb_lines.specs.declared.log.Log.{Log}
use Rattle.fdb_lines.specs.declared.log.AuditOpts.{AuditOpts}
use Rattle.fdb_lines.specs.declared.fault.Reason.{Reason}
use Rattle.fdb_lines.specs.declared.fault.Reason.TheVariants.{Drawn as DrawnBy, Undrawn}
use Rattle.fdb_lines.specs.declared.known.Exposure.{Exposure}
use Rattle.fdb_lines.specs.declared.known.Exposure.TheVariants.{Shown, Drawn}
use Rattle.fdb_lines.specs.declared.locators.LineKind.{LineKind}
use Rattle.fdb_lines.specs.declared.locators.LineKind.TheVariants.{Reports, Raises, Draws, Asks, Owned, Nameless}
use Rattle.fdb_lines.specs.declared.tables.DrawTables.{DrawTables}
use Rattle.fdb_lines.specs.declared.tables.LogTables.{LogTables}
use Rattle.fdb_lines.specs.declared.fault.Found.{Found}
use Rattle.fdb_lines.specs.declared.fault.Finding.{Finding}
use Rattle.fdb_lines.specs.declared.line.Locator.{Locator}
use Rattle.fdb_lines.specs.declared.locators.Locators.{Locators}
use Rattle.fdb_lines.specs.declared.fault.Witness.{Witness}
use Rattle.fdb_lines.specs.Audit.{case_of, start_of}
use Rattle.fdb_lines.specs.Before.{comes_before}
use Rattle.fdb_lines.specs.Faults.{stands}
use Rattle.fdb_lines.specs.Late.{HasLate}
use Rattle.fdb_lines.specs.Lines.{Case, Lines, is_ask, kind_of}
use Rattle.fdb_lines.specs.Listing.{faults_below}
use Rattle.fdb_lines.specs.Log.{lines_of}
use Rattle.fdb_lines.specs.Reasons.{found_of, HasReason, IsReason}
use Rattle.fdb_lines.specs.private.Known.{AreEnds, AreKnown, IsFound}
use Rattle.fdb_lines.specs.private.Late.{outdates_by, IsFirstEnd}
use Rattle.fdb_lines.specs.private.Locators.{AreLocators}

abbrev pub AreKnownIn : Lines → AuditOpts → Exposure → List (Option Witness) → Type 0
AreKnownIn log opts seen = AreKnown (comes_before log.timed opts.margin log.lines) opts.margin seen log.lines

abbrev pub AreLocatorsIn : Lines → AuditOpts → LineKind → List (Option Witness) → List Locator → Type 0
AreLocatorsIn log opts line_kind known = AreLocators line_kind (start_of opts.complete) log.lines known (length log.lines)

-- a table has the locators of all lines
abbrev pub AreLocated : ℕ → List Line → List (Option Witness) → LineKind → Locators → Type 0
AreLocated start lines known line_kind table = AreLocators line_kind start lines known (length lines) table.locators.items

abbrev pub has_ask : List Line → Bool
has_ask lines = list_any (λ (line : Line). is_ask (kind_of line.call)) lines

-- What is known of draws, and their ends; nothing is kept where no line is an ask.
abbrev pub AreDrawnIn : Lines → AuditOpts → Option DrawTables → Type 0
AreDrawnIn log opts None = has_ask log.lines ≡ false
AreDrawnIn log opts (Some drawn) =
    AreKnownIn log opts Drawn drawn.known.items
    × AreEnds false Drawn log.lines (length log.lines) drawn.firsts.ends.items

-- the first end of the draws that outdate a draw; none is named where no line is an ask
abbrev pub IsFirstDrawn : List Line → ℕ → Option End → Type 0
IsFirstDrawn lines version first =
    IsFirstEnd (outdates_by NotAbove Drawn lines version) lines first ⊎ ((has_ask lines ≡ false) × (first ≡ None))

-- what tables answer of: a log, and the options of its audit
pub record Subject : Type 0 where
  pub log : Log
  pub opts : AuditOpts

abbrev pub subject_of : Log → AuditOpts → Subject
subject_of log opts = record { log = log; opts = opts }

abbrev pub case_in : Subject → Case
case_in subject = case_of (lines_of subject.log) subject.opts

pub record AreTables (log : Lines) (opts : AuditOpts) (made : LogTables) : Type 0 where
  pub shown : AreKnownIn log opts Shown made.shown.items
  pub drawn : AreDrawnIn log opts made.drawn
  pub reports : AreLocatorsIn log opts Reports made.shown.items made.reports.locators.items
  pub raises : AreLocatorsIn log opts Raises made.shown.items made.raises.locators.items
  pub draws : AreLocatorsIn log opts Draws made.shown.items made.draws.locators.items
  pub asks : AreLocatorsIn log opts Asks made.shown.items made.asks.locators.items
  pub owned : AreLocatorsIn log opts Owned made.shown.items made.owned.locators.items
  pub nameless : AreLocatorsIn log opts Nameless made.shown.items made.nameless.locators.items
  pub firsts : AreEnds false Shown log.lines (length log.lines) made.firsts.ends.items

-- a line before one that lets a version be known, or none does
abbrev pub IsFoundIn : Lines → AuditOpts → Exposure → ℕ → ℕ → Option Witness → Type 0
IsFoundIn log opts seen = IsFound (comes_before log.timed opts.margin log.lines) opts.margin seen log.lines

abbrev pub drawn_by : Option ℕ → Reason
drawn_by None = Undrawn
drawn_by (Some place) = DrawnBy place

-- why a fault stands at a line; none where it does not
abbrev pub IsAnswer : Lines → AuditOpts → ℕ → Fault → Option Reason → Type 0
IsAnswer log opts k fault None = stands (case_of log opts) fault k ≡ false
IsAnswer log opts k fault (Some reason) = (stands (case_of log opts) fault k ≡ true) × IsReason log opts k fault reason

-- the first of the faults at the lines from one place on and before another; none where there is none
abbrev pub IsFirstBetween : Case → ℕ → ℕ → Option Found → Type 0
IsFirstBetween c from to None = faults_below c to ≡ faults_below c from
IsFirstBetween c from to (Some first) = (rest : List Found) × (faults_below c to ≡ faults_below c from ++ first ∷ rest)

-- the same with why it stands
pub record IsFirstIn (log : Lines) (opts : AuditOpts) (from to : ℕ) (first : Option Finding) : Type 0 where
  pub listed : IsFirstBetween (case_of log opts) from to (option_map found_of first)
  pub reason : IfSome first (HasReason log opts)
  pub late : IfSome first (HasLate log opts)

-- some findings, and these faults with why they stand
abbrev pub ListsMore : Lines → AuditOpts → List Finding → List Finding → List Found → Type 0
ListsMore log opts before after found =
    (map found_of after ≡ map found_of before ++ found) × (All (HasReason log opts) before → All (HasReason log opts) after)
    × (All (HasLate log opts) before → All (HasLate log opts) after)
