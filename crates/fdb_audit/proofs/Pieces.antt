-- A log that is watched in pieces is told as by one watch.
use Rattle.std.proofs.Common.{◌≡◌, ◌∙◌, ℕ, ◌-◌, ◌<◌, ◌≤◌, false, List, [], ◌∷◌, ◌++◌, IsPermutation, Option, Result, ap, append-nil, append_assoc, arith, drop, length, length-append, map, option_map, refl, slice_index, string_bytes, subst, sym, take}
use Rattle.std.specs.List.{All, flat_map, range_with_len}
use Rattle.std.specs.Prelude.{count_by, nat_lt, IfOk}
use Rattle.std.proofs.lemmas.List.{length-map, map-append, take-append-drop}
use Rattle.std.proofs.lemmas.List.Elements.{All-append, All-cons, All-nil}
use Rattle.std.proofs.lemmas.List.Sorted.{IsPermutation-refl, IsPermutation-trans}
use Rattle.fdb_lines.specs.declared.fault.Found.{Found}
use Rattle.fdb_lines.specs.declared.key_part.KeyPart.{KeyPart}
use Rattle.fdb_lines.specs.declared.key_watch.KeyWatch.{KeyWatch}
use Rattle.fdb_lines.specs.declared.line.Line.{Line}
use Rattle.fdb_lines.specs.Before.{began, began_of}
use Rattle.fdb_lines.specs.Keys.{placed_found}
use Rattle.fdb_lines.specs.KeyWatch.{HasSeenByKey}
use Rattle.fdb_lines.specs.Lines.{line_at}
use Rattle.fdb_lines.specs.Lines.{lines_in as lines_at}
use Rattle.fdb_lines.specs.Renumbered.{AreSameButForNumbers}
use Rattle.fdb_lines.specs.StandByKey.{keys_in}
use Rattle.fdb_lines.specs.ToldByKey.{HasTold, audited, audited_to}
use Rattle.fdb_log_reader.specs.declared.error.Why.{Why}
use Rattle.fdb_log_reader.specs.LineReader.{AreMore}
use Rattle.fdb_log_reader.specs.Named.{HaveOneNumber, Named, named_if, named_said}
use Rattle.fdb_log_reader.specs.ReadLine.{IsNumbered, LineNames, SaidLine, are_full, lines_read, member_in, names_behind, no_names}
use Rattle.fdb_log_reader.specs.Reading.{EndsALine, lines_in}
use Rattle.fdb_audit.specs.declared.arguments.AuditArguments.{AuditArguments}
use Rattle.fdb_audit.specs.declared.taken_lines.Taking.{Taking}
use Rattle.fdb_audit.specs.Following.{Start, early_at, keys_taken, lines_since, lines_taken, taken, told_in_all}
use Rattle.fdb_audit.specs.Kept.{KeepsLines, kept_said, lines_kept, named, named_at, places_kept, start_of}
use Rattle.fdb_audit.specs.Pieces.{AreWatched, MayGoOn, Piece, all_bytes, audited_in, places_beyond}
use Rattle.fdb_audit.specs.Taken.{AreTaken}
use Rattle.fdb_audit.specs.Watched.{lines_asked, names_asked}
use Rattle.fdb_audit.proofs.Forgotten.{keeps_all}
use Rattle.fdb_audit.proofs.KeptTexts.{StaysInOne, early_on, member_asked, taken_on}
use Rattle.fdb_audit.proofs.ReadOn.{all_front, all_grown, behind_on, drop_front, early_named, in_time, keys_taken_on, lines_taken_on, named_somes, numbered_at, read_on, somes, taken_all}
use Rattle.fdb_audit.proofs.SaysWhen.{StandsForAll, none_before, none_early}
use Rattle.fdb_audit.proofs.Settled.{drop_on}
use Rattle.fdb_audit.proofs.SameBut.{DifferInNumbers, key_is, key_of, line_is, line_of, said_at, same_but}

-- ---- what is known of lines and of watches

-- who goes on from what a watch kept tells the rest
abbrev pub TellsTheRest : Type 0
TellsTheRest = (watch : KeyWatch) (lines more first rest : List Line) (keys more_keys first_keys rest_keys : List (Option ℕ)) (places : List ℕ)
    (told was now : List Found) → HasSeenByKey watch lines keys → HasTold watch lines keys told
    → IsPermutation (flat_map (λ (part : KeyPart). part.numbers.items) watch.parts.items) places
    → ((i j : ℕ) → i < j → j < length places → slice_index places i < slice_index places j)
    → length more_keys ≡ length more → length first_keys ≡ length first → length rest_keys ≡ length rest
    → ((j : ℕ) → j < length more → watch.from ≤ began (line_at more j)) → ((j : ℕ) → j < length rest → watch.from ≤ began (line_at rest j))
    → AreSameButForNumbers (lines_at lines places ++ more) (keys_in keys places ++ more_keys) (first ++ rest) (first_keys ++ rest_keys)
    → IsPermutation was (audited_to watch.margin watch.from first first_keys) → IsPermutation (was ++ now) (audited watch.margin (first ++ rest) (first_keys ++ rest_keys))
    → let beyond = places ++ range_with_len (length lines) (length more) in
    IsPermutation (told ++ map (placed_found beyond) now) (audited watch.margin (lines ++ more) (keys ++ more_keys))

pub record Known : Type 0 where
  pub once : (shown : List (List ℕ)) (key : Option (List ℕ)) (lines : List (List ℕ)) → HaveOneNumber (names_behind shown (no_names key) lines)
  pub stays : StaysInOne
  pub differ : DifferInNumbers
  pub more : (shown : List (List ℕ)) (names : LineNames) (lines : List (List ℕ)) → AreMore names (names_behind shown names lines)
  pub numbered : (shown : List (List ℕ)) (names : LineNames) (lines : List (List ℕ)) → All (λ read. IfOk read (IsNumbered (names_behind shown names lines))) (lines_read shown names lines)
  pub apart : (text more : List ℕ) → EndsALine text → lines_in (text ++ more) ≡ lines_in text ++ lines_in more
  pub alike : (shown : List (List ℕ)) (names others : LineNames) (lines : List (List ℕ)) → member_in names ≡ member_in others
      → are_full (names_behind shown names lines) ≡ false → are_full (names_behind shown others lines) ≡ false
      → map (named_if (names_behind shown names lines)) (lines_read shown names lines) ≡ map (named_if (names_behind shown others lines)) (lines_read shown others lines)
  pub rest : TellsTheRest
  pub stand : StandsForAll

-- ---- what is read of a text that goes on behind another, which ends where a line does

module _ (known : Known) (asked : AuditArguments) (text next : List ℕ) (ends : EndsALine text) where
  abbrev pub shown_of : List (List ℕ)
  shown_of = map string_bytes asked.shown.items

  abbrev pub none_of : LineNames
  none_of = no_names (option_map string_bytes asked.key)

  -- what is read of the text that follows, and the names behind it
  abbrev pub read_next : List (Result SaidLine Why)
  read_next = lines_read shown_of (names_asked asked text) (lines_in next)

  abbrev pub names_next : LineNames
  names_next = names_behind shown_of (names_asked asked text) (lines_in next)

  pub read_both : lines_asked asked (text ++ next) ≡ lines_asked asked text ++ read_next
  read_both = ap (lines_read shown_of none_of) (known.apart text next ends) ∙ read_on shown_of none_of (lines_in text) (lines_in next)

  pub names_both : names_asked asked (text ++ next) ≡ names_next
  names_both = ap (names_behind shown_of none_of) (known.apart text next ends) ∙ behind_on shown_of none_of (lines_in text) (lines_in next)

  pub once_both : HaveOneNumber names_next
  once_both = subst HaveOneNumber names_both (known.once shown_of (option_map string_bytes asked.key) (lines_in (text ++ next)))

  pub numbered_text : All (IsNumbered (names_asked asked text)) (taken (lines_asked asked text))
  numbered_text = taken_all (IsNumbered (names_asked asked text)) (lines_asked asked text) (known.numbered shown_of none_of (lines_in text))

  pub numbered_next : All (IsNumbered names_next) (taken read_next)
  numbered_next = taken_all (IsNumbered names_next) read_next (known.numbered shown_of (names_asked asked text) (lines_in next))

  pub numbered_both : All (IsNumbered names_next) (taken (lines_asked asked text) ++ taken read_next)
  numbered_both =
      subst (λ said. All (IsNumbered names_next) said) (ap taken read_both ∙ taken_on (lines_asked asked text) read_next)
      (subst (λ names. All (IsNumbered names) (taken (lines_asked asked (text ++ next)))) names_both
      (taken_all (IsNumbered (names_asked asked (text ++ next))) (lines_asked asked (text ++ next)) (known.numbered shown_of none_of (lines_in (text ++ next)))))

  pub more_both : AreMore (names_asked asked text) names_next
  more_both = known.more shown_of (names_asked asked text) (lines_in next)

still_same : {lines lines_so others others_so : List Line} {keys keys_so other_keys other_keys_so : List (Option ℕ)} → lines ≡ lines_so → keys ≡ keys_so → others ≡ others_so
    → other_keys ≡ other_keys_so → AreSameButForNumbers lines keys others other_keys → AreSameButForNumbers lines_so keys_so others_so other_keys_so
still_same {lines} {lines_so} {others} {others_so} {keys} {keys_so} {other_keys} {other_keys_so} one two three four same =
    subst (λ lines. AreSameButForNumbers lines keys_so others_so other_keys_so) one
    (subst (λ keys. AreSameButForNumbers lines keys others_so other_keys_so) two
    (subst (λ others. AreSameButForNumbers lines keys others other_keys_so) three
    (subst (λ other_keys. AreSameButForNumbers lines keys others other_keys) four same)))

-- ---- what a watch kept of a piece, and what comes behind it

module _ (known : Known) (asked : AuditArguments) (start : Start) (behind : ℕ) (piece kept next : List ℕ) (taking : Taking) (told now : List Found)
    (are : AreTaken start taking (lines_asked asked piece) told)
    (wanted : List ℕ) (keeps : KeepsLines wanted (option_map string_bytes asked.key) (names_asked asked piece) start.kept taking (lines_asked asked piece) kept) (goes : MayGoOn asked piece kept next) where
  abbrev read : List (Result SaidLine Why)
  read = lines_asked asked piece

  abbrev again : List (Result SaidLine Why)
  again = lines_asked asked kept

  abbrev more : List (Result SaidLine Why)
  more = read_next known asked piece next goes.ends

  abbrev rest : List (Result SaidLine Why)
  rest = read_next known asked kept next keeps.ends

  abbrev names : LineNames
  names = names_next known asked piece next goes.ends

  abbrev others : LineNames
  others = names_next known asked kept next keeps.ends

  -- what comes behind them says the same
  next_alike : map (named_said names) (taken more) ≡ map (named_said others) (taken rest)
  next_alike =
      let same : member_in (names_asked asked piece) ≡ member_in (names_asked asked kept) = member_asked asked piece known.stays ∙ sym (member_asked asked kept known.stays) in
      let room = subst (λ names. are_full names ≡ false) (names_both known asked piece next goes.ends) goes.room in
      let room_too = subst (λ names. are_full names ≡ false) (names_both known asked kept next keeps.ends) goes.room_too in
      let alike = known.alike (map string_bytes asked.shown.items) (names_asked asked piece) (names_asked asked kept) (lines_in next) same room room_too in
      sym (named_somes names more) ∙ (ap somes alike ∙ named_somes others rest)

  -- and so does what was kept
  abbrev at_places : List SaidLine
  at_places = map (said_at (taken read)) keeps.places

  named_there : (places : List ℕ) → map (named_said (names_asked asked piece)) (map (said_at (taken read)) places) ≡ map (named_at (names_asked asked piece) read) places
  named_there [] = refl
  named_there (place ∷ places) =
      let line = sym (line_is (taken read) place) in
      let key = sym (key_is (taken read) place) in
      let rest = named_there places in
      (λ i. named (names_asked asked piece) (line i) (key i) ∷ rest i)

  all_there : (names : LineNames) → All (IsNumbered names) (taken read) → (places : List ℕ) → All (IsNumbered names) (map (said_at (taken read)) places)
  all_there names each [] = All-nil (IsNumbered names)
  all_there names each (place ∷ places) =
      All-cons (IsNumbered names) (said_at (taken read) place) (map (said_at (taken read)) places) (numbered_at names (taken read) each place) (all_there names each places)

  kept_alike : map (named_said names) at_places ≡ map (named_said others) (taken again)
  kept_alike =
      all_grown (names_asked asked piece) names at_places (more_both known asked piece next goes.ends)
      (all_there (names_asked asked piece) (numbered_text known asked piece next goes.ends) keeps.places)
      ∙ (named_there keeps.places
      ∙ (sym (keeps.lines (map string_bytes asked.shown.items))
      ∙ sym (all_grown (names_asked asked kept) others (taken again) (more_both known asked kept next keeps.ends) (numbered_text known asked kept next keeps.ends))))

  -- ---- of the lines that were kept, those that had come when it settled, and all others

  abbrev on : Start
  on = start_of asked behind kept

  abbrev count : ℕ
  count = (kept_said (lines_kept (option_map string_bytes asked.key) kept)).told

  abbrev front : List (Result SaidLine Why)
  front = take count again

  abbrev back : List (Result SaidLine Why)
  back = drop count again ++ rest

  in_parts : again ++ rest ≡ front ++ back
  in_parts = ap (λ (list : List (Result SaidLine Why)). list ++ rest) (sym (take-append-drop count again)) ∙ append_assoc front (drop count again) rest

  taken_parts : taken again ++ taken rest ≡ taken front ++ taken back
  taken_parts = sym (taken_on again rest) ∙ (ap taken in_parts ∙ taken_on front back)

  abbrev ours : List SaidLine
  ours = at_places ++ taken more

  abbrev theirs : List SaidLine
  theirs = taken front ++ taken back

  all_alike : map (named_said names) ours ≡ map (named_said others) theirs
  all_alike =
      map-append (named_said names) at_places (taken more)
      ∙ ((λ i. kept_alike i ++ next_alike i)
      ∙ (sym (map-append (named_said others) (taken again) (taken rest)) ∙ ap (map (named_said others)) taken_parts))

  all_same : AreSameButForNumbers (map line_of ours) (map key_of ours) (map line_of theirs) (map key_of theirs)
  all_same =
      let each = all_front (IsNumbered names) (taken read) (taken more) (numbered_both known asked piece next goes.ends) in
      same_but known.differ names others ours theirs all_alike (once_both known asked piece next goes.ends) (once_both known asked kept next keeps.ends)
      (All-append (IsNumbered names) at_places (taken more) (all_there names each keeps.places) (numbered_next known asked piece next goes.ends))
      (subst (All (IsNumbered others)) taken_parts (numbered_both known asked kept next keeps.ends))

  lines_there : (places : List ℕ) → map line_of (map (said_at (taken read)) places) ≡ lines_at (lines_taken read) places
  lines_there [] = refl
  lines_there (place ∷ places) = let rest = lines_there places in (λ i. sym (line_is (taken read) place) i ∷ rest i)

  keys_there : (places : List ℕ) → map key_of (map (said_at (taken read)) places) ≡ keys_in (keys_taken read) places
  keys_there [] = refl
  keys_there (place ∷ places) = let rest = keys_there places in (λ i. sym (key_is (taken read) place) i ∷ rest i)

  pub same : AreSameButForNumbers (lines_at (lines_taken read) keeps.places ++ lines_taken more) (keys_in (keys_taken read) keeps.places ++ keys_taken more)
      (lines_taken front ++ lines_taken back) (keys_taken front ++ keys_taken back)
  same =
      let lines = map-append line_of at_places (taken more) ∙ ap (λ (list : List Line). list ++ lines_taken more) (lines_there keeps.places) in
      let keys = map-append key_of at_places (taken more) ∙ ap (λ (list : List (Option ℕ)). list ++ keys_taken more) (keys_there keeps.places) in
      let lines_too = map-append line_of (taken front) (taken back) in
      let keys_too = map-append key_of (taken front) (taken back) in
      still_same lines keys lines_too keys_too all_same

  -- what an audit finds of them, and of both pieces
  pub again_on : (margin : ℕ) → audited margin (lines_taken (lines_asked asked (kept ++ next))) (keys_taken (lines_asked asked (kept ++ next)))
      ≡ audited margin (lines_taken front ++ lines_taken back) (keys_taken front ++ keys_taken back)
  again_on margin =
      let lines = lines_taken_on front back in
      let keys = keys_taken_on front back in
      ap (λ (list : List (Result SaidLine Why)). audited margin (lines_taken list) (keys_taken list)) (read_both known asked kept next keeps.ends ∙ in_parts)
      ∙ (λ i. audited margin (lines i) (keys i))

  pub both_on : (margin : ℕ) → audited margin (lines_taken read ++ lines_taken more) (keys_taken read ++ keys_taken more)
      ≡ audited margin (lines_taken (lines_asked asked (piece ++ next))) (keys_taken (lines_asked asked (piece ++ next)))
  both_on margin =
      let lines = sym (lines_taken_on read more) in
      let keys = sym (keys_taken_on read more) in
      (λ i. audited margin (lines i) (keys i))
      ∙ ap (λ (list : List (Result SaidLine Why)). audited margin (lines_taken list) (keys_taken list)) (sym (read_both known asked piece next goes.ends))

  pub many : length (lines_taken more) ≡ length (lines_taken (lines_asked asked (piece ++ next))) - length (lines_taken read)
  many =
      let all = ap (λ (list : List (Result SaidLine Why)). length (lines_taken list)) (read_both known asked piece next goes.ends) in
      let both = ap length (lines_taken_on read more) ∙ length-append (lines_taken read) (lines_taken more) in
      omega (arith, all, both)

  -- ---- where no line came early

  module _ (all : IsPermutation (places_kept taking.watch) wanted) (margin : taking.watch.margin ≡ asked.opts.margin) (from : on.from ≡ taking.watch.from) (start_early : start.early ≡ 0) (early : taking.counts.early ≡ 0)
      (late : early_at on.from (lines_since on (lines_asked asked (kept ++ next))) ≡ 0)
      (whole : IsPermutation (on.told ++ now) (audited_in asked (kept ++ next))) where
    rest_in_time : early_at on.from (lines_taken rest) ≡ 0
    rest_in_time =
        ap (early_at on.from)
        (sym (ap (λ (list : List (Result SaidLine Why)). lines_taken (drop (length again) list)) (read_both known asked kept next keeps.ends) ∙ ap lines_taken (drop_front again rest)))
        ∙ late

    back_in_time : early_at on.from (lines_taken back) ≡ 0
    back_in_time =
        let both = early_on on.from (drop count again) rest in
        let one = none_early known.stand asked start behind piece kept taking are (keeps_all wanted all keeps) start_early early in
        let other = rest_in_time in
        omega (arith, both, one, other)

    more_in_time : early_at on.from (lines_taken more) ≡ 0
    more_in_time =
        early_named on.from names (taken more)
        ∙ (ap (count_by (λ (one : Named). nat_lt (began_of one.times) on.from)) next_alike ∙ (sym (early_named on.from others (taken rest)) ∙ rest_in_time))

    was_told : IsPermutation on.told (audited_to taking.watch.margin taking.watch.from (lines_taken front) (keys_taken front))
    was_told =
        subst (λ margin. IsPermutation on.told (audited_to margin taking.watch.from (lines_taken front) (keys_taken front))) (sym margin)
        (subst (λ at. IsPermutation on.told (audited_to asked.opts.margin at (lines_taken front) (keys_taken front))) from (IsPermutation-refl on.told))

    is_told : IsPermutation (on.told ++ now) (audited taking.watch.margin (lines_taken front ++ lines_taken back) (keys_taken front ++ keys_taken back))
    is_told = subst (IsPermutation (on.told ++ now)) (again_on asked.opts.margin ∙ ap (λ margin. audited margin (lines_taken front ++ lines_taken back) (keys_taken front ++ keys_taken back)) (sym margin)) whole

    told_there : let beyond = keeps.places ++ range_with_len (length (lines_taken read)) (length (lines_taken more)) in
        IsPermutation (told ++ map (placed_found beyond) now) (audited taking.watch.margin (lines_taken read ++ lines_taken more) (keys_taken read ++ keys_taken more))
    told_there =
        let line_size = λ (list : List (Result SaidLine Why)). length-map (taken list) line_of in
        let key_size = λ (list : List (Result SaidLine Why)). length-map (taken list) key_of in
        known.rest taking.watch (lines_taken read) (lines_taken more) (lines_taken front) (lines_taken back)
        (keys_taken read) (keys_taken more) (keys_taken front) (keys_taken back) keeps.places told on.told now are.seen (are.once start_early early) (IsPermutation-trans (places_kept taking.watch) wanted keeps.places all keeps.all) keeps.rise
        (key_size more ∙ sym (line_size more)) (key_size front ∙ sym (line_size front)) (key_size back ∙ sym (line_size back))
        (λ j lt. subst (λ at. at ≤ began (line_at (lines_taken more) j)) from (in_time on.from (lines_taken more) more_in_time j lt))
        (λ j lt. subst (λ at. at ≤ began (line_at (lines_taken back) j)) from (in_time on.from (lines_taken back) back_in_time j lt))
        same was_told is_told

    pub told_as_by_one : IsPermutation (told ++ map (placed_found (places_beyond asked piece next keeps.places)) now) (audited_in asked (piece ++ next))
    told_as_by_one =
        subst (λ count. IsPermutation (told ++ map (placed_found (keeps.places ++ range_with_len (length (lines_taken read)) count)) now) (audited_in asked (piece ++ next))) many
        (subst (IsPermutation (told ++ map (placed_found (keeps.places ++ range_with_len (length (lines_taken read)) (length (lines_taken more)))) now))
        (ap (λ margin. audited margin (lines_taken read ++ lines_taken more) (keys_taken read ++ keys_taken more)) margin ∙ both_on asked.opts.margin) told_there)

    -- nor has any line of both pieces come early
    pub still_in_time : early_at start.from (lines_since start (lines_asked asked (piece ++ next))) ≡ 0
    still_in_time =
        let low = are.from in
        let le : start.from ≤ on.from = omega (arith, low, from) in
        let all : lines_since start (lines_asked asked (piece ++ next)) ≡ lines_taken (drop start.lines read ++ more) =
        ap (λ (list : List (Result SaidLine Why)). lines_taken (drop start.lines list)) (read_both known asked piece next goes.ends) ∙ ap lines_taken (drop_on start.lines read more are.few) in
        let both = ap (early_at start.from) all ∙ early_on start.from (drop start.lines read) more in
        let none : early_at start.from (lines_taken more) ≡ 0 =
        none_before start.from (lines_taken more) (λ j lt. let late = in_time on.from (lines_taken more) more_in_time j lt in omega (arith, le, late)) in
        let was = are.late in
        omega (arith, both, none, was, early)

-- ---- any number of pieces

abbrev AllTold : AuditArguments → Start → List ℕ → List Piece → List Found → Type 0
AllTold asked start bytes pieces told =
    IsPermutation (start.told ++ told) (audited_in asked (bytes ++ all_bytes pieces)) × (early_at start.from (lines_since start (lines_asked asked (bytes ++ all_bytes pieces))) ≡ 0)

all_told : (known : Known) (asked : AuditArguments) (pieces : List Piece) (start : Start) (bytes : List ℕ) (told : List Found) → start.early ≡ 0
    → AreWatched asked start bytes pieces told → AllTold asked start bytes pieces told
all_told known asked [] start bytes told start_early (text, found, last_early, last, early, is) =
    let whole = sym (append-nil bytes) in
    let late = last.late in
    let none : early_at start.from (lines_since start (lines_asked asked bytes)) ≡ 0 = omega (arith, late, early) in (
      subst (λ bytes. IsPermutation (start.told ++ told) (audited_in asked bytes)) whole
          (subst (λ told. IsPermutation (start.told ++ told) (audited_in asked bytes)) (sym is) (last.whole start_early early)),
      subst (λ bytes. early_at start.from (lines_since start (lines_asked asked bytes)) ≡ 0) whole none,
    )
all_told known asked (piece ∷ pieces) start bytes told start_early (text, kept, found, last_early, one, early, goes, from, rest, others, is) =
    let on = start_of asked piece.behind kept in
    let next = piece.bytes ++ all_bytes pieces in
    let none = sym one.early ∙ early in
    let kept_early = none_early known.stand asked start piece.behind bytes kept one.taking one.taken one.keeps start_early none in
    let (permuted, in_time) = all_told known asked pieces on (kept ++ piece.bytes) rest kept_early others in
    let whole = append_assoc kept piece.bytes (all_bytes pieces) in
    let late : early_at on.from (lines_since on (lines_asked asked (kept ++ next))) ≡ 0 = subst (λ bytes. early_at on.from (lines_since on (lines_asked asked bytes)) ≡ 0) whole in_time in
    let all : IsPermutation (on.told ++ rest) (audited_in asked (kept ++ next)) = subst (λ bytes. IsPermutation (on.told ++ rest) (audited_in asked bytes)) whole permuted in
    let first = told_in_all (lines_asked asked bytes) one.followed.windows in
    let others_told = map (placed_found (places_beyond asked bytes next one.keeps.places)) rest in (
      subst (λ told. IsPermutation told (audited_in asked (bytes ++ next))) (append_assoc start.told first others_told ∙ ap (λ (told : List Found). start.told ++ told) (sym is))
          (told_as_by_one known asked start piece.behind bytes kept next one.taking (start.told ++ first) rest one.taken (places_kept one.taking.watch) one.keeps goes (IsPermutation-refl (places_kept one.taking.watch)) one.margin from start_early none late all),
      still_in_time known asked start piece.behind bytes kept next one.taking (start.told ++ first) rest one.taken (places_kept one.taking.watch) one.keeps goes (IsPermutation-refl (places_kept one.taking.watch)) one.margin from start_early none late all,
    )

pub pieces_told : (known : Known) (asked : AuditArguments) (start : Start) (bytes : List ℕ) (pieces : List Piece) (told : List Found) → start.early ≡ 0
    → AreWatched asked start bytes pieces told → IsPermutation (start.told ++ told) (audited_in asked (bytes ++ all_bytes pieces))
pieces_told known asked start bytes pieces told start_early are = (all_told known asked pieces start bytes told start_early are).0
