-- What a token proves that its holder has seen of the live committed version, and of the chain.
use Rattle.std.specs.Prelude.{◌≡◌, ℕ, ◌+◌, ◌*◌, ◌<◌, ◌≤◌, ◌==◌, ◌&&◌, Bool, true, false, Option, None, Some, List, [], ◌∷◌, ◌++◌, All, map, length, if◌then◌else◌, nat_lt}
use mathlib.Core.List.{IsPrefix}
use Rattle.atomic_table.specs.Seated.{TableId}
use Rattle.fdb_chain.specs.ChainCore.{IsEpoch, IsProxyCount}
use Rattle.fdb_history.specs.declared.chain.Issued.{Issued}
use Rattle.fdb_history.specs.declared.register.Record.{Record}
use Rattle.fdb_history.specs.declared.register.TheConstants.{MAX_VERSION}
use Rattle.fdb_history.specs.Register.{after_report, after_reports, raises, changes}
use Rattle.fdb_live.specs.declared.view.Change.{Change}
use Rattle.fdb_live.specs.declared.view.Epoch.{Epoch}
use Rattle.fdb_live.specs.declared.live_record.LiveError.{LiveError}
use Rattle.fdb_live.specs.declared.live_record.LiveError.TheVariants.{TooLarge, MinAbove, Memory}

-- What its holder has seen: the reports that changed the record, and the answers by which versions
-- were drawn, each from the first on and in order. The token of a reporter has its number. There are
-- no answers where the service has no chain. (this product's own)
pub record Sight : Type 0 where
  pub reporter : Option ℕ
  pub changes : List Change
  pub answers : List Issued

-- The live record after these changes: what each in its drawer made of the one before it.
-- (updateLiveCommittedVersion of masterserver, FoundationDB 7.1)
abbrev pub last_record : Record → List Change → Record
last_record start changes = after_reports start (map (λ change. change.rec) changes)

-- A record that a live record takes: its version is not above the greatest one, and its minimum
-- known committed version not above that. (the latter is this product's own)
pub record IsRecord (rec : Record) : Type 0 where
  pub in_range : rec.version ≤ MAX_VERSION
  pub within : rec.min_known ≤ rec.version

-- Why a report is refused. No version of a chain is too large.
abbrev pub IsRefusedFor : Bool → Record → LiveError → Type 0
IsRefusedFor chained rec TooLarge = (chained ≡ false) × (MAX_VERSION < rec.version)
IsRefusedFor chained rec MinAbove =
    (rec.version ≤ MAX_VERSION) × (rec.version < rec.min_known)
IsRefusedFor chained rec Memory = ⊥

-- Each of these did change the record that it found.
abbrev pub all_change : Record → List Change → Bool
all_change start [] = true
all_change start (r ∷ rs) = changes start r.rec && all_change (after_report start r.rec) rs

-- The changes of a service: each did change the record, and was reported by one of its reporters.
-- The record before them and each that was reported is one that a live record takes.
pub record IsLog (start : Record) (reporters : ℕ) (log : List Change) : Type 0 where
  pub all_change : all_change start log ≡ true
  pub numbered : All (λ r. r.reporter < reporters) log
  pub taken : All (λ r. IsRecord r.rec) log
  pub start_taken : IsRecord start

-- The positions of the changes that carry this number. The position of a change is its place, the
-- first being `at`.
abbrev pub changed_by : ℕ → ℕ → List Change → List ℕ
changed_by number at [] = []
changed_by number at (r ∷ rs) =
    if r.reporter == number then (at ∷ changed_by number (at + 1) rs)
    else changed_by number (at + 1) rs

-- The positions of the changes that its own reporter made; none, where it is nobody's.
abbrev pub own_among : Option ℕ → List Change → List ℕ
own_among None changes = []
own_among (Some number) changes = changed_by number 1 changes

abbrev pub own_positions : Sight → List ℕ
own_positions sight = own_among sight.reporter sight.changes

-- The longer of two lists, the first where both are as long.
abbrev pub longer : {A : Type 0} → List A → List A → List A
longer these those = if nat_lt (length these) (length those) then those else these

-- A record is not behind another: neither its version nor its minimum known committed version is
-- below the other's.
pub record IsNotBehind (other rec : Record) : Type 0 where
  pub version : other.version ≤ rec.version
  pub minimum : other.min_known ≤ rec.min_known

-- A position is at most twice the version of its record. That version is not above the greatest
-- one, and the minimum known committed version not above that version.
pub record IsBounded (position : ℕ) (rec : Record) : Type 0 where
  pub below : position ≤ 2 * rec.version
  pub within : rec.min_known ≤ rec.version
  pub in_range : rec.version ≤ MAX_VERSION

-- The holder of a token reported a record, and changed the live record with it: this change is the
-- last that it has now seen, it made of the record what the rule says, and it is the one position
-- that became its own. Where it raised the record, its version is above all before it, and the
-- record is what was reported but for the minimum known committed version, which is the greater of
-- the two. Where it did not, the record is as it was but for that, which is what was reported.
pub record IsChangedBy (start rec : Record) (raised : Bool) (old new : Sight) : Type 0 where
  pub number : ℕ
  pub before : List Change
  pub reporter : old.reporter ≡ Some number
  pub seen : IsPrefix old.changes before
  pub last : new.changes ≡ before ++ record { reporter = number; rec = rec } ∷ []
  pub changes : changes (last_record start before) rec ≡ true
  pub raised_is : raised ≡ raises (last_record start before) rec
  pub becomes : last_record start new.changes ≡ after_report (last_record start before) rec
  pub stands : raised ≡ true → last_record start new.changes
      ≡ record rec { min_known = (last_record start new.changes).min_known }
  pub stays : raised ≡ false → last_record start new.changes
      ≡ record (last_record start before) { min_known = rec.min_known }
  pub above_start : raised ≡ true → start.version < rec.version
  pub above_all : raised ≡ true → All (λ r. r.rec.version < rec.version) before
  pub own : own_positions new ≡ own_positions old ++ length new.changes ∷ []

-- The holder of a token reported a record of which neither the version nor the minimum known
-- committed version is above that of the last that it has now seen: nothing was raised, and the
-- record stays as it is.
pub record IsNotChangedBy (start rec : Record) (raised : Bool) (old new : Sight) : Type 0 where
  pub changes : changes (last_record start new.changes) rec ≡ false
  pub raised_is : raised ≡ false
  pub stays : after_report (last_record start new.changes) rec ≡ last_record start new.changes
  pub not_above : rec.version ≤ (last_record start new.changes).version
  pub not_later : rec.min_known ≤ (last_record start new.changes).min_known
  pub own : own_positions new ≡ own_positions old

-- The epoch that begins with the recovery version of a service's chain.
abbrev pub epoch_from : ℕ → ℕ → Epoch
epoch_from before recovery = record { before = before; recovery = recovery }

-- The same, if the service has a chain.
abbrev pub epoch_of : Bool → ℕ → ℕ → Option Epoch
epoch_of true before recovery = Some (epoch_from before recovery)
epoch_of false before recovery = None

-- The numbers of an epoch, and 0 where there is none, for who picks a name.
abbrev pub before_of : Option Epoch → ℕ
before_of None = 0
before_of (Some epoch) = epoch.before

abbrev pub recovery_of : Option Epoch → ℕ
recovery_of None = 0
recovery_of (Some epoch) = epoch.recovery

-- A chain of this epoch may begin beside a live record with this first record and these reporters.
pub record MayBegin (epoch : Epoch) (start : Record) (reporters : ℕ) : Type 0 where
  pub legal : IsEpoch epoch.before epoch.recovery
  pub members : IsProxyCount reporters
  pub begins : start.version ≤ epoch.recovery

-- What a service was opened with, and the table of its cell.
pub record Origin : Type 0 where
  pub table : TableId
  pub start : Record
  pub reporters : ℕ
  pub epoch : Option Epoch

-- What a service was opened with that has these numbers, with an epoch if it has a chain.
abbrev pub origin_of : TableId → Record → ℕ → Bool → ℕ → ℕ → Origin
origin_of table start reporters chained before recovery =
    record { table = table; start = start; reporters = reporters; epoch = epoch_of chained before recovery }
