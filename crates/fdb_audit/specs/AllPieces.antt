-- What a watch that has gone on tells of all that it read. (this product's own)
use Rattle.std.specs.Prelude.{◌≡◌, ℕ, zero, suc, ◌++◌, Bool, List, Option, map, ⊤}
use Rattle.fdb_lines.specs.declared.fault.Found.{Found}
use Rattle.fdb_lines.specs.Keys.{placed_found}
use Rattle.fdb_log_reader.specs.declared.error.ReadError.{ReadError}
use Rattle.fdb_audit.specs.Following.{Start, told_in_all}
use Rattle.fdb_audit.specs.Pieces.{MayGoOn, places_beyond}
use Rattle.fdb_audit.specs.Progress.{ArePieces, PrintedAll}
use Rattle.fdb_audit.specs.Watched.{lines_asked}
use Rattle.fdb_audit.specs.declared.arguments.AuditArguments.{AuditArguments}
use Rattle.fdb_audit.specs.declared.printer.LogFault.{LogFault}

-- what is printed of a log that has ended, or is to be followed on, in pieces
abbrev pub Pieces : AuditArguments → (ends : Bool) → Option LogFault → Option ReadError → Option ℕ → ℕ → Start → (bytes text : List ℕ) → Type 0
Pieces asked ends found refused last_early times start bytes text = ArePieces asked (PrintedAll asked ends found refused last_early) times start bytes text

-- the faults that are told of them, each at the place of its line among all lines
abbrev pub told_of_pieces : (asked : AuditArguments) (ends : Bool) (found : Option LogFault) (refused : Option ReadError) (last_early : Option ℕ) (times : ℕ) (start : Start) (bytes text : List ℕ)
    → Pieces asked ends found refused last_early times start bytes text → List Found
told_of_pieces asked ends found refused last_early zero start bytes text last = told_in_all (lines_asked asked bytes) last.followed.windows
told_of_pieces asked ends found refused last_early (suc times) start bytes text (piece, rest, first, more, told, kept, bytes_are, text_is, next, goes, told_with, left) =
    told_in_all (lines_asked asked piece) goes.windows
    ++ map (placed_found (places_beyond asked piece rest goes.keeps.places)) (told_of_pieces asked ends found refused last_early times next (kept ++ rest) more left)

-- There is room for the names of each.
abbrev pub HaveRoom : (asked : AuditArguments) (ends : Bool) (found : Option LogFault) (refused : Option ReadError) (last_early : Option ℕ) (times : ℕ) (start : Start) (bytes text : List ℕ)
    → Pieces asked ends found refused last_early times start bytes text → Type 0
HaveRoom asked ends found refused last_early zero start bytes text last = ⊤
HaveRoom asked ends found refused last_early (suc times) start bytes text (piece, rest, first, more, told, kept, bytes_are, text_is, next, goes, told_with, left) =
    MayGoOn asked piece kept rest × HaveRoom asked ends found refused last_early times next (kept ++ rest) more left

-- No line came early to any of them, and there is room for the names of each.
abbrev pub AreInTime : (asked : AuditArguments) (ends : Bool) (found : Option LogFault) (refused : Option ReadError) (last_early : Option ℕ) (times : ℕ) (start : Start) (bytes text : List ℕ)
    → Pieces asked ends found refused last_early times start bytes text → Type 0
AreInTime asked ends found refused last_early zero start bytes text last = last.followed.counts.early ≡ 0
AreInTime asked ends found refused last_early (suc times) start bytes text (piece, rest, first, more, told, kept, bytes_are, text_is, next, goes, told_with, left) =
    (goes.taking.counts.early ≡ 0) × MayGoOn asked piece kept rest × AreInTime asked ends found refused last_early times next (kept ++ rest) more left
