-- What a watch tells is true of all lines.
use Rattle.std.proofs.Common.{◌≡◌, ◌∙◌, ℕ, zero, suc, ◌<◌, Bool, List, [], ◌∷◌, ◌++◌, Option, Result, arith, drop, length, map, slice_index, slice_index_or, subst, sym, take}
use Rattle.std.specs.List.{All, Contains, range_with_len}
use Rattle.std.proofs.lemmas.List.{get_or-map, length-map, take-append-drop}
use Rattle.std.proofs.lemmas.List.Elements.{All-append, All-map, All-nil, All-weaker}
use Rattle.fdb_lines.specs.declared.fault.Found.{Found}
use Rattle.fdb_lines.specs.declared.line.Line.{Line}
use Rattle.fdb_lines.specs.declared.fault.Finding.{Finding}
use Rattle.fdb_lines.specs.KeyParts.{lines_of_one}
use Rattle.fdb_lines.specs.Keys.{placed_found, places_of}
use Rattle.fdb_lines.specs.Lines.{lines_in as lines_at}
use Rattle.fdb_lines.specs.Reasons.{found_of}
use Rattle.fdb_lines.specs.Renumbered.{AreSameButForNumbers}
use Rattle.fdb_lines.specs.StandByKey.{keys_in}
use Rattle.fdb_lines.specs.ToldByKey.{audited}
use Rattle.fdb_lines.specs.Watching.{is_due, told_of}
use Rattle.fdb_log_reader.specs.declared.error.ReadError.{ReadError}
use Rattle.fdb_log_reader.specs.declared.error.Why.{Why}
use Rattle.fdb_log_reader.specs.ReadLine.{SaidLine}
use Rattle.fdb_audit.specs.AllPieces.{HaveRoom, Pieces, told_of_pieces}
use Rattle.fdb_audit.specs.Following.{AreWindows, KeptBefore, TellsIn, Start, Window, keys_taken, lines_taken, places_in, taken, told_in, told_in_all}
use Rattle.fdb_audit.specs.GoingOn.{places_staying}
use Rattle.fdb_audit.specs.Pieces.{audited_in, places_beyond}
use Rattle.fdb_audit.specs.Watched.{lines_asked, names_asked}
use Rattle.fdb_audit.specs.declared.arguments.AuditArguments.{AuditArguments}
use Rattle.fdb_audit.specs.declared.printer.LogFault.{LogFault}
use Rattle.fdb_audit.specs.declared.judgement.Wanted.{Wanted}
use Rattle.fdb_audit.proofs.Pieces.{Known, again_on, both_on, many, read_next, same}
use Rattle.fdb_audit.proofs.ReadOn.{keys_taken_on, lines_taken_on}

-- what some lines tell is true of all
pub record IsTrueOfAll : Type 0 where
  pub first : (margin : ℕ) (lines more : List Line) (keys more_keys : List (Option ℕ)) → length keys ≡ length lines → length more_keys ≡ length more
      → All (Contains (audited margin (lines ++ more) (keys ++ more_keys))) (audited margin lines keys)
  pub of_key : (margin : ℕ) (due : ℕ → Line → Bool) (lines : List Line) (keys : List (Option ℕ)) (key : Option ℕ) → length keys ≡ length lines
      → All (λ (found : Found). Contains (audited margin lines keys) (placed_found (places_of keys key) found)) (told_of margin due (lines_of_one lines keys key))
  pub gone_on : (margin : ℕ) (lines more others : List Line) (keys more_keys other_keys : List (Option ℕ)) (places : List ℕ) → length keys ≡ length lines → length more_keys ≡ length more
      → ((i : ℕ) → i < length places → slice_index places i < length lines) → ((i j : ℕ) → i < j → j < length places → slice_index places i < slice_index places j)
      → AreSameButForNumbers (lines_at lines places ++ more) (keys_in keys places ++ more_keys) others other_keys
      → let beyond = places ++ range_with_len (length lines) (length more) in
      All (λ (found : Found). Contains (audited margin (lines ++ more) (keys ++ more_keys)) (placed_found beyond found)) (audited margin others other_keys)

holds : {X : Type 0} (P : X → Type 0) (xs : List X) (x : X) → All P xs → Contains xs x → P x
holds P xs x all (k, lt, is) = subst P is (all k x lt)

unmapped : {X Y : Type 0} (P : Y → Type 0) (f : X → Y) (xs : List X) → All P (map f xs) → All (λ x. P (f x)) xs
unmapped P f xs all = λ k d lt. subst P (get_or-map f xs k d (f d) lt) (all k (f d) (let size = length-map xs f in omega (arith, lt, size)))

keyed : (read : List (Result SaidLine Why)) → length (keys_taken read) ≡ length (lines_taken read)
keyed read = length-map (taken read) (λ (said : SaidLine). said.key) ∙ sym (length-map (taken read) (λ (said : SaidLine). said.line))

abbrev pub found_in_all : ℕ → List (Result SaidLine Why) → List Found
found_in_all margin read = audited margin (lines_taken read) (keys_taken read)

module _ (true : IsTrueOfAll) where
  -- of the first lines
  first_true : (margin : ℕ) (read more : List (Result SaidLine Why)) → All (Contains (found_in_all margin (read ++ more))) (found_in_all margin read)
  first_true margin read more =
      subst (λ (all : List Found). All (Contains all) (found_in_all margin read)) (λ i. audited margin (sym (lines_taken_on read more) i) (sym (keys_taken_on read more) i))
      (true.first margin (lines_taken read) (lines_taken more) (keys_taken read) (keys_taken more) (keyed read) (keyed more))

  -- of a window
  window_true : (margin : ℕ) (read : List (Result SaidLine Why)) (window : Window) → TellsIn margin (lines_of_one (lines_taken read) (keys_taken read) window.key) window
      → All (Contains (found_in_all margin read)) (told_in read window)
  window_true margin read window is =
      let keys = keys_taken read in
      let mine = places_of keys window.key in
      let all = found_in_all margin read in
      let each : All (λ (finding : Finding). Contains all (placed_found mine (placed_found window.kept (found_of finding)))) window.found =
      unmapped (λ (found : Found). Contains all (placed_found mine found)) (λ (finding : Finding). placed_found window.kept (found_of finding)) window.found
      (subst (All (λ (found : Found). Contains all (placed_found mine found))) (sym is.told)
      (true.of_key margin (is_due window.from window.early window.since window.to) (lines_taken read) keys window.key (keyed read))) in
      All-map (Contains all) (λ (finding : Finding). placed_found (places_in read window) (found_of finding)) window.found (λ k d lt.
      let finding = slice_index_or window.found k d in
      subst (λ place. Contains all (record { place = place; fault = finding.found.fault })) (sym (get_or-map (slice_index mine) window.kept finding.found.place 0 0 (is.within k d lt)))
      (each k d lt))

  windows_true : (kept : KeptBefore) (margin : ℕ) (wanted : Wanted) (read : List (Result SaidLine Why)) (names : List (List ℕ)) (windows : List Window) (text : List ℕ)
      → AreWindows kept margin wanted read names windows text → All (Contains (found_in_all margin read)) (told_in_all read windows)
  windows_true kept margin wanted read names [] text are = All-nil (Contains (found_in_all margin read))
  windows_true kept margin wanted read names (window ∷ windows) text are =
      let all = found_in_all margin read in
      let by_then = take window.read read in
      let whole : by_then ++ drop window.read read ≡ read = take-append-drop window.read read in
      let front : All (Contains all) (found_in_all margin by_then) =
      subst (λ list. All (Contains (found_in_all margin list)) (found_in_all margin by_then)) whole (first_true margin by_then (drop window.read read)) in
      All-append (Contains all) (told_in by_then window) (told_in_all read windows)
      (All-weaker (Contains (found_in_all margin by_then)) (Contains all) (λ found there. holds (Contains all) (found_in_all margin by_then) found front there)
      (told_in by_then window) (window_true margin by_then window are.5.found))
      (windows_true kept margin wanted read names windows are.1 are.6)

-- and of any number of pieces
pub all_pieces_true : (known : Known) → IsTrueOfAll → (asked : AuditArguments) (ends : Bool) (found : Option LogFault) (refused : Option ReadError) (last_early : Option ℕ) (times : ℕ) (start : Start) (bytes text : List ℕ)
    → (pieces : Pieces asked ends found refused last_early times start bytes text) → HaveRoom asked ends found refused last_early times start bytes text pieces
    → All (Contains (audited_in asked bytes)) (told_of_pieces asked ends found refused last_early times start bytes text pieces)
all_pieces_true known true asked ends found refused last_early zero start bytes text last room =
    windows_true true start.kept asked.opts.margin asked.wanted (lines_asked asked bytes) (names_asked asked bytes).clients last.followed.windows last.followed.told last.followed.tells
all_pieces_true known true asked ends found refused last_early (suc times) start bytes text (piece, rest, first, more, told, kept, bytes_are, text_is, next, goes, told_with, left) (room, rooms) =
    let margin = asked.opts.margin in
    let read = lines_asked asked piece in
    let wanted = places_staying goes.stays read goes.taking in
    let behind = read_next known asked piece rest room.ends in
    let here = told_in_all read goes.windows in
    let others = told_of_pieces asked ends found refused last_early times next (kept ++ rest) more left in
    let all = audited_in asked (piece ++ rest) in
    let again = audited_in asked (kept ++ rest) in
    let both = both_on known asked start start.behind piece kept rest goes.taking (start.told ++ here) others goes.taken wanted goes.keeps room margin in
    let places = goes.keeps.places in
    let beyond = places_beyond asked piece rest places in
    let front : All (Contains all) (audited margin (lines_taken read) (keys_taken read)) =
    subst (λ (all : List Found). All (Contains all) (audited margin (lines_taken read) (keys_taken read))) both
    (true.first margin (lines_taken read) (lines_taken behind) (keys_taken read) (keys_taken behind) (keyed read) (keyed behind)) in
    let here_true : All (Contains all) here =
    All-weaker (Contains (found_in_all margin read)) (Contains all) (λ found there. holds (Contains all) (found_in_all margin read) found front there) here
    (windows_true true start.kept margin asked.wanted read (names_asked asked piece).clients goes.windows told goes.tells) in
    let size = length-map (taken read) (λ (said : SaidLine). said.line) in
    let on : All (λ (found : Found). Contains all (placed_found beyond found)) again =
    subst (λ count. All (λ (found : Found). Contains all (placed_found (places ++ range_with_len (length (lines_taken read)) count) found)) again)
    (many known asked start start.behind piece kept rest goes.taking (start.told ++ here) others goes.taken wanted goes.keeps room)
    (subst (λ (all : List Found). All (λ (found : Found). Contains all (placed_found (places ++ range_with_len (length (lines_taken read)) (length (lines_taken behind))) found)) again) both
    (subst (All (λ (found : Found). Contains (audited margin (lines_taken read ++ lines_taken behind) (keys_taken read ++ keys_taken behind))
    (placed_found (places ++ range_with_len (length (lines_taken read)) (length (lines_taken behind))) found)))
    (sym (again_on known asked start start.behind piece kept rest goes.taking (start.told ++ here) others goes.taken wanted goes.keeps room margin))
    (true.gone_on margin (lines_taken read) (lines_taken behind) _ (keys_taken read) (keys_taken behind) _ places (keyed read) (keyed behind)
    (λ i lt. let is = goes.keeps.within i 0 lt in omega (arith, is, size)) goes.keeps.rise
    (same known asked start start.behind piece kept rest goes.taking (start.told ++ here) others goes.taken wanted goes.keeps room)))) in
    let others_true : All (Contains all) (map (placed_found beyond) others) =
    All-map (Contains all) (placed_found beyond) others
    (All-weaker (Contains again) (λ (found : Found). Contains all (placed_found beyond found)) (λ found there. holds (λ (found : Found). Contains all (placed_found beyond found)) again found on there)
    others (all_pieces_true known true asked ends found refused last_early times next (kept ++ rest) more left rooms)) in
    subst (λ bytes. All (Contains (audited_in asked bytes)) (here ++ map (placed_found beyond) others)) (sym bytes_are)
    (All-append (Contains all) here (map (placed_found beyond) others) here_true others_true)
