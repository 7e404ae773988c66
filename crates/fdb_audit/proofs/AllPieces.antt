-- A watch that goes on tells all that there is to tell.
use Rattle.std.proofs.Common.{◌≡◌, ◌∙◌, ℕ, zero, suc, ◌++◌, true, List, IsPermutation, None, Option, ap, append_assoc, arith, map, subst, sym}
use Rattle.std.proofs.lemmas.List.Sorted.{IsPermutation-refl}
use Rattle.fdb_lines.specs.declared.fault.Found.{Found}
use Rattle.fdb_lines.specs.Keys.{placed_found}
use Rattle.fdb_log_reader.specs.declared.error.ReadError.{ReadError}
use Rattle.fdb_audit.specs.AllPieces.{AreInTime, Pieces, told_of_pieces}
use Rattle.fdb_audit.specs.Following.{Start, early_at, keys_taken, lines_since, told_in_all}
use Rattle.fdb_audit.specs.GoingOn.{places_staying}
use Rattle.fdb_audit.specs.Kept.{places_kept, start_of}
use Rattle.fdb_audit.specs.Pieces.{audited_in, places_beyond}
use Rattle.fdb_audit.specs.Watched.{lines_asked}
use Rattle.fdb_audit.specs.declared.arguments.AuditArguments.{AuditArguments}
use Rattle.fdb_audit.specs.declared.printer.LogFault.{LogFault}
use Rattle.fdb_audit.proofs.Forgotten.{keeps_all, stay_all}
use Rattle.fdb_audit.proofs.Pieces.{Known, still_in_time, told_as_by_one}
use Rattle.fdb_audit.proofs.SaysWhen.{none_early}

-- all is told of these bytes, and none of their lines came early
abbrev IsAllTold : AuditArguments → List ℕ → List Found → Start → Type 0
IsAllTold asked bytes told start = IsPermutation (start.told ++ told) (audited_in asked bytes) × (early_at start.from (lines_since start (lines_asked asked bytes)) ≡ 0)

all_told : (known : Known) (asked : AuditArguments) (found : Option LogFault) (refused : Option ReadError) (last_early : Option ℕ) (times : ℕ) (start : Start) (bytes text : List ℕ)
    → asked.forget ≡ None → start.early ≡ 0 → (pieces : Pieces asked true found refused last_early times start bytes text) → AreInTime asked true found refused last_early times start bytes text pieces
    → IsAllTold asked bytes (told_of_pieces asked true found refused last_early times start bytes text pieces) start
all_told known asked found refused last_early zero start bytes text none start_early last early =
    let late = last.followed.late in
    (last.followed.whole start_early early, omega (arith, late, early))
all_told known asked found refused last_early (suc times) start bytes text none start_early (piece, rest, first, more, told, kept, bytes_are, text_is, next, goes, told_with, left) (early, room, in_time) =
    let wanted = places_staying goes.stays (lines_asked asked piece) goes.taking in
    let all_kept : IsPermutation (places_kept goes.taking.watch) wanted =
    subst (λ places. IsPermutation places wanted) (stay_all goes.stays (goes.forgets.all none) (keys_taken (lines_asked asked piece)) (places_kept goes.taking.watch)) (IsPermutation-refl wanted) in
    let next_early : next.early ≡ 0 =
    ap (λ (start : Start). start.early) goes.next_is ∙ none_early known.stand asked start start.behind piece kept goes.taking goes.taken (keeps_all wanted all_kept goes.keeps) start_early early in
    let others = told_of_pieces asked true found refused last_early times next (kept ++ rest) more left in
    let from : (start_of asked start.behind kept).from ≡ goes.taking.watch.from = sym (ap (λ (start : Start). start.from) goes.next_is) ∙ goes.from in
    let (all, late) = subst (IsAllTold asked (kept ++ rest) others) goes.next_is
    (all_told known asked found refused last_early times next (kept ++ rest) more none next_early left in_time) in
    let here = told_in_all (lines_asked asked piece) goes.windows in
    let placed = map (placed_found (places_beyond asked piece rest goes.keeps.places)) others in
    subst (λ bytes. IsAllTold asked bytes (here ++ placed) start) (sym bytes_are) (
      subst (λ told. IsPermutation told (audited_in asked (piece ++ rest))) (append_assoc start.told here placed)
          (told_as_by_one known asked start start.behind piece kept rest goes.taking (start.told ++ here) others goes.taken wanted goes.keeps room all_kept goes.margin from start_early early late all),
      still_in_time known asked start start.behind piece kept rest goes.taking (start.told ++ here) others goes.taken wanted goes.keeps room all_kept goes.margin from start_early early late all,
    )

pub all_pieces_told : (known : Known) (asked : AuditArguments) (found : Option LogFault) (refused : Option ReadError) (last_early : Option ℕ) (times : ℕ) (start : Start) (bytes text : List ℕ)
    → asked.forget ≡ None → start.early ≡ 0 → (pieces : Pieces asked true found refused last_early times start bytes text) → AreInTime asked true found refused last_early times start bytes text pieces
    → IsPermutation (start.told ++ told_of_pieces asked true found refused last_early times start bytes text pieces) (audited_in asked bytes)
all_pieces_told known asked found refused last_early times start bytes text none start_early pieces in_time =
    (all_told known asked found refused last_early times start bytes text none start_early pieces in_time).0
