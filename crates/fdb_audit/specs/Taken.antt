-- The lines that a follower has taken, of those that were read, and what it has told of them. (this product's own)
use Rattle.std.specs.Prelude.{◌≡◌, ℕ, ◌+◌, ◌-◌, ◌<◌, ◌≤◌, ◌==◌, ◌^◌, ◌++◌, Bool, true, false, All, List, MatchOption, None, Option, Some, Result, drop, is_some, length, map, string_bytes, take, if◌then◌else◌}
use Rattle.std.specs.List.{AllPairs}
use Rattle.fdb_lines.specs.declared.fault.Found.{Found}
use Rattle.fdb_lines.specs.declared.line.Line.{Line}
use Rattle.fdb_lines.specs.KeyWatch.{HasSeenByKey}
use Rattle.fdb_lines.specs.Lines.{is_ask, is_commit, is_read, is_report}
use Rattle.fdb_lines.specs.Summary.{how_many}
use Rattle.fdb_lines.specs.ToldByKey.{HasTold}
use Rattle.fdb_log_reader.specs.declared.error.Why.{Why}
use Rattle.fdb_log_reader.specs.ReadLine.{SaidLine}
use Rattle.fdb_audit.specs.declared.progress.Carried.{Carried}
use Rattle.fdb_audit.specs.declared.progress.Counts.{Counts}
use Rattle.fdb_audit.specs.declared.members.Numbering.{Numbering}
use Rattle.fdb_audit.specs.declared.taken_lines.Taking.{Taking}
use Rattle.fdb_audit.specs.declared.teller.Teller.{Teller}
use Rattle.fdb_audit.specs.declared.members.Column.{Column}
use Rattle.fdb_audit.specs.declared.told_faults.ToldFaults.{ToldFaults}
use Rattle.fdb_audit.specs.Tallied.{HasKinds, HasTexts, HasTextsIn}
use Rattle.fdb_audit.specs.ToldFaults.{ToldFault, client_of}
use Rattle.fdb_audit.specs.Warned.{AreEarly, IsSaid}
use Rattle.fdb_audit.specs.Following.{Before, Counted, KeptBefore, Start, early_at, keys_taken, last_refused, lines_before, lines_since, lines_taken, taken, taken_above}
use Rattle.fdb_audit.specs.Came.{ahead_lines, told_when}
use Rattle.fdb_audit.specs.Clocks.{ClocksBefore, ahead_end, believed_end, certain_to, newest_end, others_known, out_of_reach}
use Rattle.fdb_audit.specs.declared.clocks.Clocks.{Clocks}
use Rattle.fdb_audit.specs.declared.clocks.Leader.{Leader}

-- which lines were kept of others and come first, and how many more there were
abbrev pub kept_by : Numbering → KeptBefore
kept_by numbering = record { lines = numbering.kept.items; more = numbering.more }

-- how many lines were taken above each that was refused; and each line can be counted, and the next one too
pub record AreNumbered (kept : KeptBefore) (taking : Taking) (read : List (Result SaidLine Why)) : Type 0 where
  pub above : taking.numbering.above.items ≡ taken_above 0 read
  pub front : kept_by taking.numbering ≡ kept
  pub few : length read + kept.more + 1 < 2 ^ 64

-- how many lines there are, and how many of each kind
pub record AreCounted (counts : Counts) (all : List Line) : Type 0 where
  pub lines : counts.lines ≡ length all
  pub reads : counts.reads ≡ how_many is_read all
  pub commits : counts.commits ≡ how_many is_commit all
  pub asks : counts.asks ≡ how_many is_ask all
  pub reports : counts.reports ≡ how_many is_report all

-- ---- the clocks of lines

-- whether a client is known to be this one
abbrev pub is_client : ℕ → Option ℕ → Bool
is_client one None = false
is_client one (Some other) = one == other

-- the newest end of others, by the client who leads and the newest end of the rest
abbrev pub others_by : Option Leader → Option ℕ → Option ℕ → Option ℕ
others_by None second client = second
others_by (Some leader) second client = if is_client leader.client client then second else Some leader.end

abbrev pub others_of : Clocks → Option ℕ → Option ℕ
others_of clocks client = others_by clocks.leader clocks.second client

-- what is known of clocks, for lines that come next
abbrev pub known_by : Clocks → ClocksBefore
known_by clocks = record { believed = clocks.believed; newest = clocks.newest; many = is_some clocks.second; ahead = clocks.ahead }

-- these lines have been heard, behind what was known before
pub record HasHeard (before : ClocksBefore) (clocks : Clocks) (lines : List Line) : Type 0 where
  pub newest : clocks.newest ≡ newest_end before.newest lines
  pub others : (client : Option ℕ) → others_of clocks client ≡ others_known before client lines

-- It has settled no further than to where lines that came after that might begin, and so no more have come early than began out of
-- reach; and so many are ahead: of lines that came since, behind those that had been kept.
pub record IsInReach (start : Start) (taking : Taking) (above since : List Line) : Type 0 where
  pub behind_is : taking.clocks.behind ≡ start.behind
  pub heard : HasHeard start.clocks taking.clocks (above ++ since)
  pub believed : taking.clocks.believed ≡ believed_end start.clocks start.behind above since
  pub ahead_to : taking.clocks.ahead ≡ ahead_end start.clocks start.behind above since
  pub from : taking.watch.from ≤ certain_to start.from start.behind (believed_end start.clocks start.behind above (take (taking.settled - length above) since))
  pub early : taking.counts.early ≤ out_of_reach start.clocks start.from start.behind above since

-- It has settled each time that so many lines had been taken, the last first, and up to when all might be told then.
pub record HasSettledAt (start : Start) (taking : Taking) (above since : List Line) : Type 0 where
  pub within : All (λ at. at ≤ length above + length since) taking.settlings.at
  pub order : AllPairs (λ one other. other ≤ one) taking.settlings.at
  pub from : taking.watch.from ≡ told_when start above since taking.settlings.at (length above + length since)

-- So many lines had come when it settled last; of those that came since no more began before that than came early.
pub record HasSettled (start : Start) (taking : Taking) (lines : List Line) : Type 0 where
  pub come : taking.settled ≤ length lines
  pub since : early_at taking.watch.from (drop taking.settled lines) ≤ start.early + taking.counts.early

-- The lines that were taken, of those that were read, and what was told of them: where none came early, each fault of a key once
-- that stands at a line that began before where it has settled. Each line that came since and began before that up to which all had
-- been told is counted as early.
pub record AreTaken (start : Start) (taking : Taking) (read : List (Result SaidLine Why)) (told : List Found) : Type 0 where
  pub seen : HasSeenByKey taking.watch (lines_taken read) (keys_taken read)
  pub numbered : AreNumbered start.kept taking read
  pub count : taking.taken ≡ length (taken read)
  pub refused : taking.refused ≡ last_refused (start.kept.more + 1) None read
  pub counted : AreCounted taking.counts (lines_since start read)
  pub few : start.lines ≤ length read
  pub before : start.early ≡ 0 → All (λ (found : Found). found.place < start.lines) start.told
  pub from : start.from ≤ taking.watch.from
  pub late : early_at start.from (lines_since start read) ≤ taking.counts.early
  pub settled : HasSettled start taking (lines_taken read)
  pub reach : IsInReach start taking (lines_before start read) (lines_since start read)
  pub settled_at : HasSettledAt start taking (lines_before start read) (lines_since start read)
  pub came : AreEarly start read taking.settlings.at taking.counts.early taking.counts.judged taking.counts.last_early
  pub ahead : taking.counts.ahead ≡ length (ahead_lines start read)
  pub once : start.early ≡ 0 → taking.counts.early ≡ 0 → HasTold taking.watch (lines_taken read) (keys_taken read) told

-- This was said on standard error of those that came since, but for what is said next.
abbrev pub HasWarned : Start → Taking → List (Result SaidLine Why) → List ℕ → Type 0
HasWarned start taking read warned = IsSaid start read taking.settlings.at (warned ++ string_bytes taking.warnings)

-- These faults are counted: in all, by their clients, and by what was printed of these members.
pub record HasCounted (members : List (List ℕ)) (faults : ToldFaults) (told : List ToldFault) : Type 0 where
  pub kinds : HasKinds faults.kinds (map (λ (it : ToldFault). it.kind) told)
  pub clients : HasTexts client_of told faults.clients
  pub texts : HasTextsIn members told faults.texts.items
  pub columns : map (λ (column : Column). string_bytes column.member) faults.columns.items ≡ members

-- and so they are where totals are wanted
abbrev pub HasTotalsIn : Bool → List (List ℕ) → Option ToldFaults → List ToldFault → Type 0
HasTotalsIn totals members counted told = MatchOption counted (totals ≡ false) (λ faults. (totals ≡ true) × HasCounted members faults told)

abbrev pub HasTotals : List (List ℕ) → Teller → List ToldFault → Type 0
HasTotals members teller told = HasTotalsIn teller.wanted.totals members teller.told told

-- how much was read
abbrev pub counted_in : Counts → ℕ → Counted
counted_in counts refused = record {
  lines = counts.lines;
  reads = counts.reads;
  commits = counts.commits;
  asks = counts.asks;
  reports = counts.reports;
  refused = refused;
  early = counts.early;
  judged = counts.judged;
  ahead = counts.ahead;
}

abbrev pub counted_of : Taking → Counted
counted_of taking = counted_in taking.counts (length taking.numbering.above.items)

-- This is carried of what an earlier piece has counted, but for the faults that were told.
pub record IsCarried (before : Before) (carried : Carried) : Type 0 where
  pub counts : counted_in carried.counts carried.refused ≡ before.counts
  pub refused : carried.last_refused ≡ before.refused
  pub last_early : carried.counts.last_early ≡ before.last_early
