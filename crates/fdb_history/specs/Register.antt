-- The live committed version, as a register that takes reports.
use Rattle.std.specs.Prelude.{ℕ, Bool, List, fold, nat_lt, ◌||◌, if◌then◌else◌}
use Rattle.fdb_history.specs.declared.register.Record.{Record}

-- A report raises the register where its version is strictly greater.
-- (updateLiveCommittedVersion of masterserver, FoundationDB 7.1)
abbrev pub raises : Record → Record → Bool
raises current reported = nat_lt current.version reported.version

-- A report changes the register where it raises version or minimum. The minimum is the minimum
-- known committed version that it tells, and has to be strictly greater. (minKnownCommittedVersion
-- in updateLiveCommittedVersion of masterserver, FoundationDB 7.1)
abbrev pub changes : Record → Record → Bool
changes current reported = raises current reported || nat_lt current.min_known reported.min_known

-- The register after a report takes over all where that raises it. That is version, lock and
-- metadata version, which else stay; and the greater of the two minimum known committed versions.
-- (updateLiveCommittedVersion of masterserver, FoundationDB 7.1)
abbrev pub after_report : Record → Record → Record
after_report current reported =
    record (if raises current reported then reported else current) {
      min_known = if nat_lt current.min_known reported.min_known then reported.min_known
          else current.min_known;
    }

-- The register after some reports, each taken in turn.
-- (liveCommittedVersion of masterserver, FoundationDB 7.1)
abbrev pub after_reports : Record → List Record → Record
after_reports start reports = fold after_report start reports

-- The read version is the record's version, or its minimum where asked for. (the flag is this
-- product's own)
abbrev pub version_for : Bool → Record → ℕ
version_for use_min rec = if use_min then rec.min_known else rec.version
