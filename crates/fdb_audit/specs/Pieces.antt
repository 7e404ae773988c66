-- A log that is watched in pieces. (this product's own)
use Rattle.std.specs.Prelude.{◌≡◌, ℕ, ◌-◌, ◌++◌, false, true, List, [], ◌∷◌, Option, length, map}
use Rattle.std.specs.List.{range_with_len}
use Rattle.fdb_lines.specs.declared.fault.Found.{Found}
use Rattle.fdb_lines.specs.Keys.{placed_found}
use Rattle.fdb_lines.specs.ToldByKey.{audited}
use Rattle.fdb_log_reader.specs.Reading.{EndsALine}
use Rattle.fdb_log_reader.specs.ReadLine.{are_full}
use Rattle.fdb_audit.specs.declared.arguments.AuditArguments.{AuditArguments}
use Rattle.fdb_audit.specs.declared.printer.LogFault.{LogFault}
use Rattle.fdb_audit.specs.Following.{Start, keys_taken, lines_taken, told_in_all}
use Rattle.fdb_audit.specs.Kept.{IsStopped, start_of}
use Rattle.fdb_audit.specs.Watched.{IsFollowed, lines_asked, names_asked}

-- what an audit of all lines of a text finds, as it is asked for
abbrev pub audited_in : AuditArguments → List ℕ → List Found
audited_in asked text = audited asked.opts.margin (lines_taken (lines_asked asked text)) (keys_taken (lines_asked asked text))

-- One piece of a log ends where a line does; and there is room for the names of the next, behind the whole piece and behind the
-- lines that were kept of it.
pub record MayGoOn (asked : AuditArguments) (piece kept next : List ℕ) : Type 0 where
  pub ends : EndsALine piece
  pub room : are_full (names_asked asked (piece ++ next)) ≡ false
  pub room_too : are_full (names_asked asked (kept ++ next)) ≡ false

-- Where the lines that were kept of a piece, and those of the next behind them, stand among those of both pieces: the first at
-- these places, and the others in order.
abbrev pub places_beyond : AuditArguments → (piece next places : List ℕ) → List ℕ
places_beyond asked piece next places =
    let count = length (lines_taken (lines_asked asked piece)) in
    places ++ range_with_len count (length (lines_taken (lines_asked asked (piece ++ next))) - count)

-- a further piece of a log, and how far behind the newest end a line of it may begin
pub record Piece : Type 0 where
  pub behind : ℕ
  pub bytes : List ℕ

abbrev pub all_bytes : List Piece → List ℕ
all_bytes [] = []
all_bytes (piece ∷ pieces) = piece.bytes ++ all_bytes pieces

-- Some bytes and then further pieces are watched, one after another: each watch stops where a line ends, and what it kept says up to
-- when it had told all; the next goes on from that, over the next piece; and the last ends. No line came early to any. They tell
-- these faults, each at the place of its line among all lines.
abbrev pub AreWatched : AuditArguments → Start → List ℕ → List Piece → List Found → Type 0
AreWatched asked start bytes [] told =
    (text : List ℕ) × (found : Option LogFault) × (last_early : Option ℕ) × (last : IsFollowed asked start true bytes text found last_early)
    × (last.counts.early ≡ 0) × (told ≡ told_in_all (lines_asked asked bytes) last.windows)
AreWatched asked start bytes (piece ∷ pieces) told =
    (text kept : List ℕ) × (found : Option LogFault) × (last_early : Option ℕ) × (one : IsStopped asked start bytes text found last_early kept) × (one.followed.counts.early ≡ 0)
    × MayGoOn asked bytes kept (piece.bytes ++ all_bytes pieces) × ((start_of asked piece.behind kept).from ≡ one.taking.watch.from)
    × (rest : List Found) × AreWatched asked (start_of asked piece.behind kept) (kept ++ piece.bytes) pieces rest
    × (told ≡ told_in_all (lines_asked asked bytes) one.followed.windows ++ map (placed_found (places_beyond asked bytes (piece.bytes ++ all_bytes pieces) one.keeps.places)) rest)
