-- What is told of a log that is followed, window by window: windows follow one another, and stay as they are while more is read.
use Rattle.std.specs.Prelude.{◌==◌}
use Rattle.std.proofs.Common.{◌≡◌, ◌∙◌, ℕ, zero, suc, ◌-◌, ◌<◌, ◌≤◌, Bool, true, false, cond, List, [], ◌∷◌, ◌++◌, All, ap, append-nil, append_assoc, arith, inl, inr, length, length-append, map, option_map, refl, slice_get, slice_index, slice_index_or, string_bytes, subst, sym, take, Option, None, Some, Result}
use Rattle.std.proofs.lemmas.Bool.{cases_lt}
use Rattle.std.proofs.lemmas.List.{get_or_append_left, get_or_past, get_or_push, length-map, map-append, take_all, take-append-le}
use Rattle.std.proofs.lemmas.List.Elements.{All-append, All-cons, All-map, All-nil}
use Rattle.std.proofs.lemmas.Grind.{flat_map-append}
use Rattle.std.specs.List.{flat_map}
use Rattle.std.specs.Option.{option_or, option_eq}
use Rattle.fdb_lines.specs.declared.fault.Found.{Found}
use Rattle.fdb_lines.specs.declared.key_part.KeyPart.{KeyPart}
use Rattle.fdb_lines.specs.declared.key_part.SettledKey.{SettledKey}
use Rattle.fdb_lines.specs.declared.line.Line.{Line}
use Rattle.fdb_lines.specs.declared.fault.Finding.{Finding}
use Rattle.fdb_lines.specs.KeyParts.{lines_of_one}
use Rattle.fdb_lines.specs.Keys.{key_at, placed_found, places_below, places_of}
use Rattle.fdb_lines.specs.KeyWatch.{AreTold, IsToldOf, SettledTo, settled_in, settled_of}
use Rattle.fdb_lines.specs.Lines.{lines_in}
use Rattle.fdb_lines.specs.Log.{lines_of}
use Rattle.fdb_lines.specs.Reasons.{found_of}
use Rattle.fdb_lines.specs.ToldByKey.{told_by, told_by_all}
use Rattle.fdb_lines.specs.Watch.{judged_from}
use Rattle.fdb_log_reader.specs.declared.error.Why.{Why}
use Rattle.fdb_log_reader.specs.Numbers.{IsMore}
use Rattle.fdb_log_reader.specs.Printed.{printed}
use Rattle.fdb_log_reader.specs.ReadLine.{SaidLine}
use Rattle.fdb_audit.specs.declared.printer.LogFault.{LogFault}
use Rattle.fdb_audit.specs.declared.judgement.Wanted.{Wanted}
use Rattle.fdb_audit.specs.declared.teller.Teller.{Teller}
use Rattle.fdb_audit.specs.Following.{AreWindows, IsWindow, TellsIn, KeptBefore, Window, faults_at, faults_told, first_in, first_told, keys_taken, lines_taken, lists, taken_line, printed_in, taken, told_in, told_in_all, told_text}
use Rattle.fdb_audit.specs.Text.{Beside, PrintedLog, fault_of}
use Rattle.fdb_audit.specs.ToldFaults.{ToldFault, told_at}
use Rattle.fdb_audit.specs.private.Followed.{CountsOn, HasTotals, IsSameTeller, IsWatchedBy, IsWindowOf, TellsOn}
use Rattle.fdb_audit.proofs.InTurn.{entry_key, window_key}

-- ---- windows that follow others

pub windows_on : (kept : KeptBefore) (margin : ℕ) (wanted : Wanted) (read : List (Result SaidLine Why)) (names : List (List ℕ)) (ws vs : List Window) (text more : List ℕ)
    → AreWindows kept margin wanted read names ws text → AreWindows kept margin wanted read names vs more
    → AreWindows kept margin wanted read names (ws ++ vs) (text ++ more)
windows_on kept margin wanted read names [] vs text more are other =
    subst (AreWindows kept margin wanted read names vs) (sym (ap (λ (bytes : List ℕ). bytes ++ more) are)) other
windows_on kept margin wanted read names (w ∷ ws) vs text more are other = (
  are.0,
  are.1 ++ more,
  ap (λ (bytes : List ℕ). bytes ++ more) are.2 ∙ append_assoc are.0 are.1 more,
  are.3,
  are.4,
  are.5,
  windows_on kept margin wanted read names ws vs are.1 more are.6 other,
)

-- ---- windows stay while more is read

names_yet : (a b c : List (List ℕ)) → IsMore a b → IsMore b c → IsMore a c
names_yet a b c one two = (one.0 ++ two.0, two.1 ∙ (ap (λ (names : List (List ℕ)). names ++ two.0) one.1 ∙ append_assoc a one.0 two.0))

same_taken : (read further : List (Result SaidLine Why)) (n : ℕ) → n ≤ length read → take n (read ++ further) ≡ take n read
same_taken read further n within = take-append-le n read further within

pub windows_stay : (kept : KeptBefore) (margin : ℕ) (wanted : Wanted) (read further : List (Result SaidLine Why)) (names more : List (List ℕ)) (ws : List Window) (text : List ℕ)
    → AreWindows kept margin wanted read names ws text → IsMore names more → AreWindows kept margin wanted (read ++ further) more ws text
windows_stay kept margin wanted read further names more [] text are is = are
windows_stay kept margin wanted read further names more (w ∷ ws) text are is =
    let within = are.3 in
    let size = length-append read further in
    let still : w.read ≤ length (read ++ further) = omega arith in (
      are.0,
      are.1,
      are.2,
      still,
      names_yet w.names names more are.4 is,
      subst (λ (those : List (Result SaidLine Why)). IsWindow kept margin wanted those w are.0) (sym (same_taken read further w.read within)) are.5,
      windows_stay kept margin wanted read further names more ws are.1 are.6 is,
    )

-- ---- the first fault that is told

or_else : {X : Type 0} (a b c : Option X) → option_or (option_or a b) c ≡ option_or a (option_or b c)
or_else None b c = refl
or_else (Some a) b c = refl

or_none : {X : Type 0} (a : Option X) → option_or a None ≡ a
or_none None = refl
or_none (Some a) = refl

pub first_on : (kept : KeptBefore) (read : List (Result SaidLine Why)) (ws vs : List Window) → first_told kept read (ws ++ vs) ≡ option_or (first_told kept read ws) (first_told kept read vs)
first_on kept read [] vs = refl
first_on kept read (w ∷ ws) vs =
    let first = first_in kept (take w.read read) w in
    ap (option_or first) (first_on kept read ws vs) ∙ sym (or_else first (first_told kept read ws) (first_told kept read vs))

pub first_stays : (kept : KeptBefore) (read further : List (Result SaidLine Why)) (ws : List Window) → All (λ (w : Window). w.read ≤ length read) ws
    → first_told kept (read ++ further) ws ≡ first_told kept read ws
first_stays kept read further [] within = refl
first_stays kept read further (w ∷ ws) within =
    let here : w.read ≤ length read = within 0 w (omega arith) in
    let rest : All (λ (w : Window). w.read ≤ length read) ws = λ k d lt. within (suc k) d (omega arith) in
    ap (λ (those : List (Result SaidLine Why)). option_or (first_in kept those w) (first_told kept (read ++ further) ws)) (same_taken read further w.read here)
    ∙ ap (option_or (first_in kept (take w.read read) w)) (first_stays kept read further ws rest)

-- ---- the faults that are told

pub told_on : (read : List (Result SaidLine Why)) (ws vs : List Window) → told_in_all read (ws ++ vs) ≡ told_in_all read ws ++ told_in_all read vs
told_on read ws vs = flat_map-append (λ (window : Window). told_in (take window.read read) window) ws vs

pub faults_on : (read : List (Result SaidLine Why)) (ws vs : List Window) → faults_told read (ws ++ vs) ≡ faults_told read ws ++ faults_told read vs
faults_on read ws vs = flat_map-append (λ (window : Window). faults_at (take window.read read) window) ws vs

each_stays : {X : Type 0} (f : List (Result SaidLine Why) → Window → List X) (read further : List (Result SaidLine Why)) (ws : List Window) → All (λ (w : Window). w.read ≤ length read) ws
    → flat_map (λ (window : Window). f (take window.read (read ++ further)) window) ws ≡ flat_map (λ (window : Window). f (take window.read read) window) ws
each_stays f read further [] within = refl
each_stays {X} f read further (w ∷ ws) within =
    let here : w.read ≤ length read = within 0 w (omega arith) in
    ap (λ (those : List (Result SaidLine Why)). f those w ++ flat_map (λ (window : Window). f (take window.read (read ++ further)) window) ws) (same_taken read further w.read here)
    ∙ ap (λ (rest : List X). f (take w.read read) w ++ rest) (each_stays f read further ws (λ k d lt. within (suc k) d (omega (arith, lt))))

pub told_stays : (read further : List (Result SaidLine Why)) (ws : List Window) → All (λ (w : Window). w.read ≤ length read) ws → told_in_all (read ++ further) ws ≡ told_in_all read ws
told_stays read further ws within = each_stays told_in read further ws within

pub faults_stay : (read further : List (Result SaidLine Why)) (ws : List Window) → All (λ (w : Window). w.read ≤ length read) ws → faults_told (read ++ further) ws ≡ faults_told read ws
faults_stay read further ws within = each_stays faults_at read further ws within

-- windows are of lines that were read
pub windows_within : (kept : KeptBefore) (margin : ℕ) (wanted : Wanted) (read : List (Result SaidLine Why)) (names : List (List ℕ)) (ws : List Window) (text : List ℕ)
    → AreWindows kept margin wanted read names ws text → All (λ (w : Window). w.read ≤ length read) ws
windows_within kept margin wanted read names [] text are = All-nil (λ (w : Window). w.read ≤ length read)
windows_within kept margin wanted read names (w ∷ ws) text are =
    All-cons (λ (w : Window). w.read ≤ length read) w ws are.3 (windows_within kept margin wanted read names ws are.1 are.6)

-- ---- what is told more

pub tells_nothing : (kept : KeptBefore) (teller : Teller) (margin behind : ℕ) (read : List (Result SaidLine Why)) (names : List (List ℕ)) (far : Option ℕ → SettledTo) (to : Option ℕ)
    → TellsOn kept teller teller margin behind read names far to []
tells_nothing kept teller margin behind read names far to = record {
  windows = [];
  each = All-nil (IsWindowOf behind read names far to);
  keys = refl;
  text = [];
  told = refl;
  appended = sym (append-nil (string_bytes teller.text));
  first = sym (or_none teller.first);
  faults_are = refl;
  counts = λ members told has. subst (HasTotals members teller) (sym (append-nil told)) has;
  same = record { wanted = refl; margin = refl; key = refl };
}

pub tells_yet : (kept : KeptBefore) (old mid new : Teller) (margin behind : ℕ) (read : List (Result SaidLine Why)) (names : List (List ℕ)) (far : Option ℕ → SettledTo) (to : Option ℕ)
    (entries more : List SettledKey) → TellsOn kept old mid margin behind read names far to entries → TellsOn kept mid new margin behind read names far to more
    → TellsOn kept old new margin behind read names far to (entries ++ more)
tells_yet kept old mid new margin behind read names far to entries more one two = record {
  windows = one.windows ++ two.windows;
  each = All-append (IsWindowOf behind read names far to) one.windows two.windows one.each two.each;
  keys = map-append window_key one.windows two.windows
      ∙ (ap (λ (keys : List (Option ℕ)). keys ++ map window_key two.windows) one.keys ∙ (ap (λ (keys : List (Option ℕ)). map entry_key entries ++ keys) two.keys
      ∙ sym (map-append entry_key entries more)));
  text = one.text ++ two.text;
  told = windows_on kept margin new.wanted read names one.windows two.windows one.text two.text
      (subst (λ (wanted : Wanted). AreWindows kept margin wanted read names one.windows one.text) (sym two.same.wanted) one.told) two.told;
  appended = two.appended ∙ (ap (λ (bytes : List ℕ). bytes ++ two.text) one.appended ∙ append_assoc (string_bytes old.text) one.text two.text);
  first = two.first ∙ (ap (λ (first : Option LogFault). option_or first (first_told kept read two.windows)) one.first
      ∙ (or_else old.first (first_told kept read one.windows) (first_told kept read two.windows)
      ∙ ap (option_or old.first) (sym (first_on kept read one.windows two.windows))));
  faults_are = told_on read one.windows two.windows
      ∙ (ap (λ (list : List Found). list ++ told_in_all read two.windows) one.faults_are ∙ (ap (λ (list : List Found). told_by_all entries ++ list) two.faults_are
      ∙ sym (flat_map-append told_by entries more)));
  counts = λ members told has.
      subst (HasTotals members new)
      (append_assoc told (faults_told read one.windows) (faults_told read two.windows) ∙ ap (λ (those : List ToldFault). told ++ those) (sym (faults_on read one.windows two.windows)))
      (two.counts members (told ++ faults_told read one.windows) (one.counts members told has));
  same = record { wanted = two.same.wanted ∙ one.same.wanted; margin = two.same.margin ∙ one.same.margin; key = two.same.key ∙ one.same.key };
}

-- ---- the places of the lines of a key

place_more : (before : List ℕ) (n i : ℕ) (b : Bool) → slice_index before i ≤ n → slice_index (before ++ cond b (n ∷ []) []) i ≤ suc n
place_more before n i true within = elim (cases_lt i (length before)) [
  | inl old ↦ rw (get_or_append_left before (n ∷ []) 0 i old) (omega arith)
  | inr ge ↦ elim (cases_lt (length before) i) [
    | inl past ↦
        let size : length (before ++ n ∷ []) ≤ i = let sum = length-append before (n ∷ []) in omega arith in
        rw (get_or_past (before ++ n ∷ []) i 0 size) (omega arith)
    | inr le ↦
        let at : length before ≡ i = omega arith in
        rw (get_or_push before n 0 i at) (omega arith)
  ]
]
place_more before n i false within = rw append-nil (omega arith)

place_within : (keys : List (Option ℕ)) (key : Option ℕ) (n i : ℕ) → slice_index (places_below keys key n) i ≤ n
place_within keys key zero i = let past : slice_index (places_below keys key zero) i ≡ 0 = get_or_past {X = ℕ} [] i 0 (omega arith) in omega (arith, past)
place_within keys key (suc n) i = place_more (places_below keys key n) n i (option_eq ◌==◌ (key_at keys n) key) (place_within keys key n i)

-- ---- what is told of a key

-- each line that had been kept was taken
pub kept_within : (to : Option ℕ) (read : List (Result SaidLine Why)) (entry : SettledKey) (part : KeyPart)
    → IsToldOf to (lines_taken read) (keys_taken read) entry part → All (λ (place : ℕ). place ≤ length (taken read)) entry.settled.numbers.items
kept_within to read entry part told =
    let keys = keys_taken read in
    let kept = part.watch.numbers.items in
    let size : length keys ≡ length (taken read) = length-map (taken read) (λ (said : SaidLine). said.key) in
    let within : (i : ℕ) → slice_index (places_of keys part.key) i ≤ length (taken read) =
    λ i. subst (λ n. slice_index (places_of keys part.key) i ≤ n) size (place_within keys part.key (length keys) i) in
    subst (All (λ (place : ℕ). place ≤ length (taken read))) (sym told.numbers)
    (All-map (λ (place : ℕ). place ≤ length (taken read)) (slice_index (places_of keys part.key)) kept (λ k d lt. within (slice_index_or kept k d)))

-- what is told of a key at a moment
abbrev pub window_of : Option ℕ → List (Result SaidLine Why) → List (List ℕ) → SettledKey → KeyPart → List Beside → Window
window_of to read names entry part beside = record {
  read = length read;
  names = names;
  key = part.key;
  kept = part.watch.numbers.items;
  from = part.watch.from;
  early = judged_from part.watch;
  since = part.watch.settled;
  to = to;
  found = entry.settled.found.items;
  beside = beside;
}

found_in : (margin : ℕ) (to : Option ℕ) (read : List (Result SaidLine Why)) (names : List (List ℕ)) (entry : SettledKey) (part : KeyPart) (beside : List Beside)
    → part.watch.margin ≡ margin → IsToldOf to (lines_taken read) (keys_taken read) entry part
    → TellsIn margin (lines_of_one (lines_taken read) (keys_taken read) part.key) (window_of to read names entry part beside)
found_in margin to read names entry part beside same told =
    subst (λ m. TellsIn m (lines_of_one (lines_taken read) (keys_taken read) part.key) (window_of to read names entry part beside)) same told.told.tells

-- what is shown of lines
abbrev pub log_with : List Line → List (List ℕ) → List ℕ → List Beside → PrintedLog
log_with lines names numbers beside = record { lines = lines; names = names; own = numbers; beside = beside }

pub same_log : (lines : List Line) (names other : List (List ℕ)) (numbers those : List ℕ) (beside : List Beside)
    → names ≡ other → numbers ≡ those → log_with lines names numbers beside ≡ log_with lines other those beside
same_log lines names other numbers those beside one two =
    ap (λ (names : List (List ℕ)). log_with lines names numbers beside) one ∙ ap (λ (numbers : List ℕ). log_with lines other numbers beside) two

-- and of the lines of a key that had been kept
abbrev pub shown_of : KeptBefore → List (Result SaidLine Why) → List (List ℕ) → SettledKey → List Beside → PrintedLog
shown_of kept read names entry beside = record {
  lines = (lines_of entry.settled.log).lines;
  names = map printed names;
  own = map (taken_line kept read) entry.settled.numbers.items;
  beside = beside;
}

shown_is : (kept : KeptBefore) (to : Option ℕ) (read : List (Result SaidLine Why)) (names : List (List ℕ)) (entry : SettledKey) (part : KeyPart) (beside : List Beside)
    → IsToldOf to (lines_taken read) (keys_taken read) entry part → shown_of kept read names entry beside ≡ printed_in kept read (window_of to read names entry part beside)
shown_is kept to read names entry part beside told =
    ap (λ (lines : List Line). log_with lines (map printed names) (map (taken_line kept read) entry.settled.numbers.items) beside) told.log
    ∙ ap (λ (places : List ℕ). log_with (lines_in (lines_taken read) places) (map printed names) (map (taken_line kept read) places) beside) told.numbers

-- the first of some faults, by its line
abbrev pub first_of : PrintedLog → List Finding → Option LogFault
first_of it found = option_map (λ (finding : Finding). fault_of it.own (found_of finding)) (slice_get found 0)

-- faults as they are counted
abbrev pub faults_of : PrintedLog → List Finding → List ToldFault
faults_of it found = map (λ (finding : Finding). told_at it.lines it.names it.beside finding.found) found

pub tells_of : (kept : KeptBefore) (old new : Teller) (margin behind : ℕ) (far : Option ℕ → SettledTo) (to : Option ℕ) (read : List (Result SaidLine Why)) (names : List (List ℕ)) (entry : SettledKey) (part : KeyPart) (beside : List Beside) (it : PrintedLog)
    → IsWatchedBy margin behind to part → far part.key ≡ settled_of part → IsToldOf to (lines_taken read) (keys_taken read) entry part → it ≡ shown_of kept read names entry beside
    → string_bytes new.text ≡ string_bytes old.text ++ told_text old.wanted it entry.settled.found.items
    → new.first ≡ option_or old.first (first_of it entry.settled.found.items)
    → CountsOn old new (faults_of it entry.settled.found.items) → IsSameTeller old new
    → TellsOn kept old new margin behind read names far to (entry ∷ [])
tells_of kept old new margin behind far to read names entry part beside it watched so_far told is added first counts still =
    let wanted = still.wanted in
    let found = entry.settled.found.items in
    let window = window_of to read names entry part beside in
    let log = printed_in kept read window in
    let shown : it ≡ log = is ∙ shown_is kept to read names entry part beside told in
    let text = told_text new.wanted log found in
    let all : take (length read) read ≡ read = take_all (length read) read (omega arith) in
    let one : IsWindow kept margin new.wanted read window text = record { found = found_in margin to read names entry part beside watched.its_margin told; printed = refl } in
    let here : window.read ≤ length read = omega arith in
    record {
      windows = window ∷ [];
      each = All-cons (IsWindowOf behind read names far to) window [] (record {
        all = refl;
        names_are = refl;
        to_is = refl;
        from = so_far;
        early = ap (λ horizon. part.watch.from - horizon) watched.its_horizon;
        not_before = watched.its_from;
      }) (All-nil (IsWindowOf behind read names far to));
      keys = ap (λ (key : Option ℕ). key ∷ []) (sym told.key);
      text = text;
      told = (
        text,
        [],
        sym (append-nil text),
        here,
        ([], sym (append-nil names)),
        subst (λ (those : List (Result SaidLine Why)). IsWindow kept margin new.wanted those window text) (sym all) one,
        refl,
      );
      appended = added ∙ (ap (λ (it : PrintedLog). string_bytes old.text ++ told_text old.wanted it found) shown
          ∙ ap (λ (wanted : Wanted). string_bytes old.text ++ told_text wanted log found) (sym wanted));
      first = first ∙ (ap (λ (it : PrintedLog). option_or old.first (first_of it found)) shown
          ∙ ap (option_or old.first) (sym (or_none (first_in kept (take (length read) read) window)
          ∙ ap (λ (those : List (Result SaidLine Why)). first_in kept those window) all)));
      faults_are = append-nil (told_in (take (length read) read) window)
          ∙ (ap (λ (those : List (Result SaidLine Why)). told_in those window) all
          ∙ (ap (λ (places : List ℕ). map (λ (finding : Finding). placed_found places (found_of finding)) found) (sym told.numbers) ∙ sym (append-nil (told_by entry))));
      counts = λ members told has.
          let those : faults_of it found ≡ faults_told read (window ∷ []) =
          ap (λ (it : PrintedLog). faults_of it found) shown ∙ (ap (λ (those : List (Result SaidLine Why)). faults_at those window) (sym all) ∙ sym (append-nil (faults_at (take (length read) read) window))) in
          subst (λ (those : List ToldFault). HasTotals members new (told ++ those)) those (counts members told has);
      same = still;
    }

pub tells_for : (kept : KeptBefore) (old new : Teller) (margin behind : ℕ) (far : Option ℕ → SettledTo) (to : Option ℕ) (read : List (Result SaidLine Why)) (names : List (List ℕ)) (entry : SettledKey) (part : KeyPart)
    (texts : List (List ℕ)) (numbers : List ℕ) (beside : List Beside) (found : List Finding)
    → texts ≡ map printed names → numbers ≡ map (taken_line kept read) entry.settled.numbers.items → found ≡ entry.settled.found.items
    → IsWatchedBy margin behind to part → far part.key ≡ settled_of part → IsToldOf to (lines_taken read) (keys_taken read) entry part
    → string_bytes new.text ≡ string_bytes old.text ++ told_text old.wanted (log_with (lines_of entry.settled.log).lines texts numbers beside) found
    → new.first ≡ option_or old.first (first_of (log_with (lines_of entry.settled.log).lines texts numbers beside) found)
    → CountsOn old new (faults_of (log_with (lines_of entry.settled.log).lines texts numbers beside) found) → IsSameTeller old new
    → TellsOn kept old new margin behind read names far to (entry ∷ [])
tells_for kept old new margin behind far to read names entry part texts numbers beside found named numbered is watched so_far told added first counts still =
    let lines = (lines_of entry.settled.log).lines in
    let it = log_with lines texts numbers beside in
    tells_of kept old new margin behind far to read names entry part beside it watched so_far told
    (same_log lines texts (map printed names) numbers (map (taken_line kept read) entry.settled.numbers.items) beside named numbered)
    (added ∙ ap (λ (found : List Finding). string_bytes old.text ++ told_text old.wanted it found) is)
    (first ∙ ap (λ (found : List Finding). option_or old.first (first_of it found)) is)
    (subst (λ (found : List Finding). CountsOn old new (faults_of it found)) is counts)
    still

-- where nothing was found
pub tells_none : (kept : KeptBefore) (teller : Teller) (margin behind : ℕ) (far : Option ℕ → SettledTo) (to : Option ℕ) (read : List (Result SaidLine Why)) (names : List (List ℕ)) (entry : SettledKey) (part : KeyPart)
    → IsWatchedBy margin behind to part → far part.key ≡ settled_of part → IsToldOf to (lines_taken read) (keys_taken read) entry part → entry.settled.found.items ≡ []
    → TellsOn kept teller teller margin behind read names far to (entry ∷ [])
tells_none kept teller margin behind far to read names entry part watched so_far told none =
    let it = shown_of kept read names entry [] in
    tells_of kept teller teller margin behind far to read names entry part [] it watched so_far told refl
    (sym (ap (λ (found : List Finding). string_bytes teller.text ++ told_text teller.wanted it found) none
    ∙ (ap (λ (text : List ℕ). string_bytes teller.text ++ text) (either (lists teller.wanted) []) ∙ append-nil (string_bytes teller.text))))
    (sym (ap (λ (found : List Finding). option_or teller.first (first_of it found)) none ∙ or_none teller.first))
    (subst (λ (found : List Finding). CountsOn teller teller (faults_of it found)) (sym none) (λ members told has. subst (HasTotals members teller) (sym (append-nil told)) has))
    (record { wanted = refl; margin = refl; key = refl })
  where
    either : (b : Bool) (text : List ℕ) → cond b text text ≡ text
    either true text = refl
    either false text = refl

-- ---- what is told of each key

some_of : {X : Type 0} (xs : List X) (i : ℕ) → i < length xs → X
some_of [] i within = absurd (omega arith)
some_of (x ∷ xs) i within = x

-- an entry tells of a part
pub part_told : (margin behind : ℕ) (to : Option ℕ) (lines : List Line) (keys : List (Option ℕ)) (parts : List KeyPart) (entries : List SettledKey) (k : ℕ) (entry : SettledKey)
    → All (IsWatchedBy margin behind to) parts → AreTold to lines keys parts entries
    → k < length entries → slice_index_or entries k entry ≡ entry
    → (part : KeyPart) × IsWatchedBy margin behind to part × (settled_in parts part.key ≡ settled_of part) × IsToldOf to lines keys entry part
part_told margin behind to lines keys parts entries k entry watched told within is =
    let one = told.each k entry within in
    let d = some_of parts one.0 one.1 in
    let part = slice_index_or parts one.0 d in
    (part, watched one.0 d one.1, told.far one.0 d one.1, subst (λ (entry : SettledKey). IsToldOf to lines keys entry part) is (one.2 d))
