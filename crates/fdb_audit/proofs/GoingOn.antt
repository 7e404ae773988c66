-- A watch goes on from what it keeps, with what it has counted and told.
use Rattle.std.specs.Prelude.{◌&&◌}
use Rattle.std.proofs.lemmas.List.{drop_all, length-append}
use Rattle.std.proofs.lemmas.List.Elements.{All-nil}
use Rattle.std.proofs.Common.{false, All, ◌≡◌, ◌∙◌, ◌+◌, ◌<◌, ◌≤◌, ◌++◌, ◌∷◌, [], ℕ, Bool, IsPermutation, List, None, Option, Some, Result, ap, append-nil, arith, drop, is_some, length, map, option_map, option_to_list, refl, string_bytes, subst, sym}
use Rattle.std.specs.Option.{option_or}
use Rattle.fdb_lines.specs.declared.fault.Found.{Found}
use Rattle.fdb_lines.specs.declared.key_watch.KeyWatch.{KeyWatch}
use Rattle.fdb_lines.specs.declared.line.Line.{Line}
use Rattle.fdb_lines.specs.declared.log.AuditOpts.{AuditOpts}
use Rattle.fdb_lines.specs.KeyWatch.{settled_in}
use Rattle.fdb_log_reader.specs.declared.error.ReadError.{ReadError}
use Rattle.fdb_log_reader.specs.declared.error.Why.{Why}
use Rattle.fdb_log_reader.specs.LineReader.{line_names, lines_on, names_on}
use Rattle.fdb_log_reader.specs.Printed.{printed}
use Rattle.fdb_log_reader.specs.ReadLine.{LineNames, SaidLine, lines_read, member_in, names_behind, no_names}
use Rattle.fdb_log_reader.specs.Reading.{EndsALine, lines_in}
use Rattle.fdb_audit.specs.Following.{AreInTurn, AreNamed, AreWindows, Before, Counted, Start, Window, counted_on, faults_told, lines_before, lines_since, lines_taken, told_in_all, told_to}
use Rattle.fdb_audit.specs.GoingOn.{GoesOnBy, MayForget, counted_before, places_staying}
use Rattle.fdb_audit.specs.Kept.{KeepsLines, KeptSaid, kept_said, lines_kept, start_from, start_of}
use Rattle.fdb_audit.specs.Came.{ahead_then, early_by, early_lines, last_line}
use Rattle.fdb_audit.specs.declared.taken_lines.Settlings.{Settlings}
use Rattle.fdb_audit.specs.Taken.{AreTaken, HasTotals, HasTotalsIn, IsCarried, IsInReach, counted_of, known_by}
use Rattle.fdb_audit.specs.Watched.{AskForTheSame, HasFollowed, IsAt, lines_asked, members_asked, names_asked}
use Rattle.fdb_audit.specs.Recent.{KnowsTimes}
use Rattle.fdb_audit.specs.declared.arguments.AuditArguments.{AuditArguments}
use Rattle.fdb_audit.specs.declared.clocks.KeyTimes.{KeyTimes}
use Rattle.fdb_audit.specs.declared.progress.Carried.{Carried}
use Rattle.fdb_audit.specs.declared.progress.Counts.{Counts}
use Rattle.fdb_audit.specs.declared.follower.Follower.{Follower}
use Rattle.fdb_audit.specs.declared.judgement.Wanted.{Wanted}
use Rattle.fdb_audit.specs.declared.taken_lines.Taking.{Taking}
use Rattle.fdb_audit.specs.declared.teller.Teller.{Teller}
use Rattle.fdb_audit.specs.declared.told_faults.ToldFaults.{ToldFaults}
use Rattle.fdb_audit.specs.private.Clocks.{Carries}
use Rattle.fdb_audit.specs.private.Followed.{CountsBehind, HasGoneOn, IsQuiet, TakesPlace}
use Rattle.fdb_audit.proofs.Following.{last_on}
use Rattle.fdb_audit.proofs.Forgotten.{keeps_all}
use Rattle.fdb_audit.proofs.KeptTexts.{StaysInOne, all_read, ends_so, member_followed}
use Rattle.fdb_audit.proofs.Believed.{carried_on as heard_on}
use Rattle.fdb_audit.proofs.SettledOn.{held_else, settled_anew}
use Rattle.fdb_audit.proofs.Warned.{none_ahead, none_early, none_odd}
use Rattle.fdb_audit.proofs.Recent.{none_known}

-- ---- who asks for the same

fused : {X : Type 0} (f : X → List ℕ) (g : List ℕ → List ℕ) (it : Option X) → option_map (λ x. g (f x)) it ≡ option_map g (option_map f it)
fused f g None = refl
fused f g (Some x) = refl

fused_all : {X : Type 0} (f : X → List ℕ) (g : List ℕ → List ℕ) (xs : List X) → map (λ x. g (f x)) xs ≡ map g (map f xs)
fused_all f g [] = refl
fused_all f g (x ∷ xs) = ap (λ (rest : List (List ℕ)). g (f x) ∷ rest) (fused_all f g xs)

some_of : {X : Type 0} (f : X → List ℕ) (it : Option X) → is_some it ≡ is_some (option_map f it)
some_of f None = refl
some_of f (Some x) = refl

module _ (asked other : AuditArguments) (same : AskForTheSame asked other) where
  pub lines_same : (text : List ℕ) → lines_asked other text ≡ lines_asked asked text
  lines_same text =
      ap (λ (shown : List (List ℕ)). lines_read shown (no_names (option_map string_bytes other.key)) (lines_in text)) same.shown
      ∙ ap (λ (key : Option (List ℕ)). lines_read (map string_bytes asked.shown.items) (no_names key) (lines_in text)) same.key

  names_same : (text : List ℕ) → names_asked other text ≡ names_asked asked text
  names_same text =
      ap (λ (shown : List (List ℕ)). names_behind shown (no_names (option_map string_bytes other.key)) (lines_in text)) same.shown
      ∙ ap (λ (key : Option (List ℕ)). names_behind (map string_bytes asked.shown.items) (no_names key) (lines_in text)) same.key

  members_same : members_asked other ≡ members_asked asked
  members_same =
      ap (λ (key : Option (List ℕ)). option_to_list key ++ map (λ name. printed (string_bytes name)) other.shown.items)
      (fused string_bytes printed other.key ∙ (ap (option_map printed) same.key ∙ sym (fused string_bytes printed asked.key)))
      ∙ ap (λ (shown : List (List ℕ)). option_to_list (option_map (λ name. printed (string_bytes name)) asked.key) ++ shown)
      (fused_all string_bytes printed other.shown.items ∙ (ap (map printed) same.shown ∙ sym (fused_all string_bytes printed asked.shown.items)))

  keyed_same : is_some other.key ≡ is_some asked.key
  keyed_same = some_of string_bytes other.key ∙ (ap is_some same.key ∙ sym (some_of string_bytes asked.key))

  margin_same : other.opts.margin ≡ asked.opts.margin
  margin_same = ap (λ (opts : AuditOpts). opts.margin) same.opts

  -- goes on from the same
  pub start_same : (behind : ℕ) (text : List ℕ) → start_of other behind text ≡ start_of asked behind text
  start_same behind text =
      ap (λ (key : Option (List ℕ)). start_from behind other.opts.margin (kept_said (lines_kept key text)) (lines_asked other text)) same.key
      ∙ (ap (λ (margin : ℕ). start_from behind margin (kept_said (lines_kept (option_map string_bytes asked.key) text)) (lines_asked other text)) margin_same
      ∙ ap (start_from behind asked.opts.margin (kept_said (lines_kept (option_map string_bytes asked.key) text))) (lines_same text))

  -- and has followed the same
  pub followed_same : (start : Start) (follower : Follower) (bytes told : List ℕ) (has : HasFollowed other start follower bytes told)
      → (so : HasFollowed asked start follower bytes told) × (so.telling.windows ≡ has.telling.windows)
  followed_same start follower bytes told has =
      let is = has.telling in
      let names = (line_names follower.reader).clients in
      let text = told ++ string_bytes follower.teller.text in (
        record {
          read = has.read;
          goes = λ text. sym (lines_same (bytes ++ text)) ∙ has.goes text;
          behind = λ text. sym (names_same (bytes ++ text)) ∙ has.behind text;
          telling = record {
            behind = is.behind;
            carried = is.carried;
            windows = is.windows;
            taken = is.taken;
            margin = is.margin ∙ margin_same;
            horizon = is.horizon;
            far = is.far;
            named = is.named;
            in_turn = is.in_turn;
            at = is.at;
            times = subst (λ (forget : Option ℕ). KnowsTimes forget start follower.taking.times has.read) same.forget is.times;
            tells = subst (λ (wanted : Wanted). AreWindows start.kept asked.opts.margin wanted has.read names is.windows text) same.wanted
                (subst (λ (margin : ℕ). AreWindows start.kept margin other.wanted has.read names is.windows text) margin_same is.tells);
            are = record {
              wanted = is.are.wanted ∙ same.wanted;
              margin = is.are.margin ∙ margin_same;
              by_key = is.are.by_key ∙ keyed_same;
              first = is.are.first;
              totals = subst (λ (members : List (List ℕ)). HasTotals members follower.teller (start.before.told ++ faults_told has.read is.windows)) members_same is.are.totals;
            };
          };
        },
        refl,
      )

-- ---- with what was counted before

-- and knows of clocks what this one knew: of lines that were kept, none has come since
goes_in_reach : (begun : Start) (before : Before) (old next new : Taking) (some : Bool) (above since : List Line) → since ≡ [] → begun.clocks.newest ≡ 0
    → begun.clocks.many ≡ (some && is_some old.clocks.second) → IsInReach begun next above since → Carries old.clocks next.clocks new.clocks
    → new.watch ≡ next.watch → new.counts ≡ next.counts → next.watch.from ≡ begun.from
    → IsInReach (record begun { clocks = known_by old.clocks; before = before }) new above since
goes_in_reach begun before old next new some above since none newest many is carries watch counts moment =
    subst (IsInReach (record begun { clocks = known_by old.clocks; before = before }) new above) (sym none) (at (subst (IsInReach begun next above) none is))
  where
    at : IsInReach begun next above [] → IsInReach (record begun { clocks = known_by old.clocks; before = before }) new above []
    at is =
        let few : next.counts.early ≤ 0 = is.early in
        let early = ap (λ (counts : Counts). counts.early) counts in
        let from = ap (λ (watch : KeyWatch). watch.from) watch in
        record {
          behind_is = carries.behind ∙ is.behind_is;
          heard = heard_on begun.clocks old.clocks next.clocks new.clocks some (above ++ []) newest many is.heard carries;
          believed = carries.believed;
          ahead_to = carries.ahead;
          from = omega (arith, from, moment);
          early = omega (arith, few, early);
        }

-- what a watch has counted is carried to the next
carried_on : (start : Start) (old : Follower) (read : List (Result SaidLine Why)) (windows : List Window) (told : List Found) (all : Carried) → AreTaken start old.taking read told
    → IsCarried start.before old.before → CountsBehind old.before old.taking all → IsCarried (counted_before start read windows old.taking) all
carried_on start old read windows told all are carried counts = record {
  counts = counts.counts ∙ ap (λ (before : Counted). counted_on before (counted_of old.taking)) carried.counts;
  refused = counts.refused
      ∙ (ap (λ (refused : Option ReadError). option_or refused old.before.last_refused) are.refused
      ∙ (ap (option_or _) carried.refused ∙ sym (last_on (start.kept.more + 1) start.before.refused read)));
  last_early = counts.last_early ∙ ap (option_or old.taking.counts.last_early) carried.last_early;
}

module _ (asked : AuditArguments) (start : Start) (old next new : Follower) (bytes told kept : List ℕ) (has : HasFollowed asked start old bytes told) (quiet : IsQuiet old) where
  -- all that was read are the lines of the bytes
  whole : lines_asked asked bytes ≡ has.read
  whole = all_read (map string_bytes asked.shown.items) (no_names (option_map string_bytes asked.key)) old.reader bytes has.read (has.goes []) quiet.line

  named : names_asked asked bytes ≡ line_names old.reader
  named = ap (names_asked asked) (sym (append-nil bytes)) ∙ (has.behind [] ∙ quiet.names)

  abbrev on : Start
  on = record (start_of asked start.behind kept) { clocks = known_by old.taking.clocks; before = counted_before start has.read has.telling.windows old.taking }

  goes_on : (stays : Option ℕ → Bool) → MayForget asked.forget start has.read stays
      → KeepsLines (places_staying stays has.read old.taking) (option_map string_bytes asked.key) (line_names old.reader) start.kept old.taking has.read kept → EndsALine bytes
      → (start_of asked start.behind kept).from ≡ old.taking.watch.from → 0 < length (places_staying stays has.read old.taking) → GoesOnBy asked start bytes told kept on
  goes_on stays forgets keeps ends from some =
      let is = has.telling in
      let Its = λ (read : List (Result SaidLine Why)) (names : LineNames). AreTaken start old.taking read (start.told ++ told_in_all read is.windows)
      × (AreWindows start.kept asked.opts.margin asked.wanted read names.clients is.windows told
      × (AreInTurn start.behind read start.far is.windows
      × (((key : Option ℕ) → settled_in old.taking.watch.parts.items key ≡ told_to read start.far is.windows key)
      × (All (IsAt start false read old.taking.settlings.at) is.windows
      × (MayForget asked.forget start read stays
      × (KeepsLines (places_staying stays read old.taking) (option_map string_bytes asked.key) names start.kept old.taking read kept
      × (on ≡ record (start_of asked start.behind kept) { clocks = known_by old.taking.clocks; before = counted_before start read is.windows old.taking }))))))) in
      let silent : told ++ string_bytes old.teller.text ≡ told = ap (λ text. told ++ text) quiet.text ∙ append-nil told in
      let all : Its (lines_asked asked bytes) (names_asked asked bytes) =
      subst (λ names. Its (lines_asked asked bytes) names) (sym named)
      (subst (λ read. Its read (line_names old.reader)) (sym whole)
      (is.taken, (subst (AreWindows start.kept asked.opts.margin asked.wanted has.read (line_names old.reader).clients is.windows) silent is.tells, (is.in_turn, (is.far, (is.at, (forgets, (keeps, refl)))))))) in
      record {
        taking = old.taking;
        windows = is.windows;
        margin = is.margin;
        horizon = is.horizon;
        taken = all.0;
        tells = all.1.0;
        in_turn = all.1.1.0;
        far = all.1.1.1.0;
        at = all.1.1.1.1.0;
        stays = stays;
        forgets = all.1.1.1.1.1.0;
        some = subst (λ (read : List (Result SaidLine Why)). 0 < length (places_staying stays read old.taking)) (sym whole) some;
        keeps = all.1.1.1.1.1.1.0;
        ends = ends;
        from = from;
        next_is = all.1.1.1.1.1.1.1;
      }

  -- the next has read what the text keeps, and told nothing
  followed_on : (stays : Option ℕ → Bool) (times : KeyTimes) → times.are_wanted ≡ old.taking.times.are_wanted
      → KeepsLines (places_staying stays has.read old.taking) (option_map string_bytes asked.key) (line_names old.reader) start.kept old.taking has.read kept
      → (restored : HasFollowed asked (start_of asked start.behind kept) next kept []) → restored.telling.windows ≡ [] → next.taking.settlings.at ≡ []
      → next.taking.watch.from ≡ (start_of asked start.behind kept).from → TakesPlace old next new times → HasFollowed asked on new kept []
  followed_on stays times wanted keeps restored none settled moment place =
      let is = restored.telling in
      let begun = start_of asked start.behind kept in
      let read = restored.read in
      let taken : AreTaken begun next.taking read begun.told =
      subst (AreTaken begun next.taking read) (ap (λ (windows : List Window). begun.told ++ told_in_all read windows) none ∙ append-nil begun.told) is.taken in
      let nothing : drop begun.lines read ≡ [] =
      drop_all begun.lines read
      (let all = ap length (restored.goes []) ∙ length-append read (lines_on next.reader []) in
      let same = ap (λ text. length (lines_asked asked text)) (append-nil kept) in omega (arith, all, same)) in
      let since : lines_since begun read ≡ [] = ap lines_taken nothing in
      let unsettled : new.taking.settlings.at ≡ [] = ap (λ (settlings : Settlings). settlings.at) place.settlings ∙ settled in
      let those : early_lines begun read next.taking.settlings.at ≡ [] = none_odd (λ above since. early_by begun above since next.taking.settlings.at) begun read nothing in
      let no_early : next.taking.counts.early ≡ 0 = taken.came.count ∙ ap length those in
      let tells : AreWindows begun.kept asked.opts.margin asked.wanted read (line_names next.reader).clients [] (string_bytes next.teller.text) =
      subst (λ windows. AreWindows begun.kept asked.opts.margin asked.wanted read (line_names next.reader).clients windows (string_bytes next.teller.text)) none is.tells in
      record {
        read = read;
        goes = λ text. restored.goes text ∙ ap (λ reader. read ++ lines_on reader text) (sym place.reader);
        behind = λ text. restored.behind text ∙ ap (λ reader. names_on reader text) (sym place.reader);
        telling = record {
          behind = place.behind ∙ is.behind;
          carried = carried_on start old has.read has.telling.windows _ new.before has.telling.taken has.telling.carried place.before;
          windows = [];
          taken = subst (AreTaken on new.taking read) (sym (append-nil begun.told))
              (held_else begun on.clocks on.before next.taking new.taking read begun.told taken
              (goes_in_reach begun on.before old.taking next.taking new.taking _ (lines_before begun read) (lines_since begun read) since refl
              (ap (λ (said : KeptSaid). said.many) keeps.said) taken.reach place.clocks place.watch place.counts moment)
              (settled_anew on new.taking (lines_before begun read) (lines_since begun read) unsettled (ap (λ (watch : KeyWatch). watch.from) place.watch ∙ moment))
              (none_early on read new.taking.settlings.at new.taking.counts nothing (ap (λ (counts : Counts). counts.early) place.counts ∙ no_early)
              (let few = taken.came.few in let same = ap (λ (counts : Counts). counts.judged) place.counts in omega (arith, few, same, no_early))
              (ap (λ (counts : Counts). counts.last_early) place.counts ∙ (taken.came.last_is ∙ ap (last_line None) those)))
              (none_ahead on read new.taking.counts.ahead nothing (ap (λ (counts : Counts). counts.ahead) place.counts ∙ (taken.ahead ∙ ap length (none_odd (ahead_then begun) begun read nothing))))
              place.watch place.numbering place.taken place.refused place.counts place.settled);
          margin = ap (λ (watch : KeyWatch). watch.margin) place.watch ∙ is.margin;
          horizon = ap (λ (watch : KeyWatch). watch.horizon) place.watch ∙ is.horizon;
          far = λ key. ap (λ (watch : KeyWatch). settled_in watch.parts.items key) place.watch ∙ (is.far key ∙ ap (λ windows. told_to read begun.far windows key) none);
          named = subst (λ reader. AreNamed (lines_taken read) (line_names reader).clients) (sym place.reader) is.named;
          in_turn = tt;
          at = All-nil (IsAt on false read new.taking.settlings.at);
          times = none_known asked.forget on new.taking.times read (ap (λ (times : KeyTimes). times.are_wanted) place.times_are ∙ (wanted ∙ has.telling.times.wanted)) nothing;
          tells = ap string_bytes (ap (λ (teller : Teller). teller.text) place.teller) ∙ tells;
          are = record {
            wanted = ap (λ (teller : Teller). teller.wanted) place.teller ∙ is.are.wanted;
            margin = ap (λ (teller : Teller). teller.margin) place.teller ∙ is.are.margin;
            by_key = ap is_some (ap (λ (teller : Teller). teller.key) place.teller) ∙ is.are.by_key;
            first = ap (λ (teller : Teller). teller.first) place.teller ∙ (has.telling.are.first ∙ sym (first_alone on.before.first));
            totals = subst (HasTotals (members_asked asked) new.teller) (sym (append-nil on.before.told)) totals;
          };
        };
      }
    where
      first_alone : {X : Type 0} (one : Option X) → option_or one None ≡ one
      first_alone None = refl
      first_alone (Some one) = refl

      totals : HasTotals (members_asked asked) new.teller (start.before.told ++ faults_told has.read has.telling.windows)
      totals =
          let told_all = start.before.told ++ faults_told has.read has.telling.windows in
          let wanted : new.teller.wanted ≡ old.teller.wanted =
          ap (λ (teller : Teller). teller.wanted) place.teller ∙ (restored.telling.are.wanted ∙ sym has.telling.are.wanted) in
          subst (λ (counted : Option ToldFaults). HasTotalsIn new.teller.wanted.totals (members_asked asked) counted told_all) (sym (ap (λ (teller : Teller). teller.told) place.teller))
          (subst (λ (wanted : Wanted). HasTotalsIn wanted.totals (members_asked asked) old.teller.told told_all) (sym wanted) has.telling.are.totals)

  pub gone_on : (stays : Option ℕ → Bool) (times : KeyTimes) → times.are_wanted ≡ old.taking.times.are_wanted → MayForget asked.forget start has.read stays
      → KeepsLines (places_staying stays has.read old.taking) (option_map string_bytes asked.key) (line_names old.reader) start.kept old.taking has.read kept → EndsALine bytes
      → (start_of asked start.behind kept).from ≡ old.taking.watch.from
      → (restored : HasFollowed asked (start_of asked start.behind kept) next kept []) → restored.telling.windows ≡ [] → next.taking.settlings.at ≡ []
      → next.taking.watch.from ≡ (start_of asked start.behind kept).from → TakesPlace old next new times → 0 < length (places_staying stays has.read old.taking) → HasGoneOn asked start new bytes told
  gone_on stays times wanted forgets keeps ends from restored none settled moment place some =
      (kept, on, goes_on stays forgets keeps ends from some, followed_on stays times wanted keeps restored none settled moment place)

-- by one that was restored as this one is asked for
pub gone_on_by : (asked given : AuditArguments) → AskForTheSame asked given → (start : Start) (old next new : Follower) (bytes told kept : List ℕ) (has : HasFollowed asked start old bytes told) → IsQuiet old
    → (stays : Option ℕ → Bool) (times : KeyTimes) → times.are_wanted ≡ old.taking.times.are_wanted → MayForget given.forget start has.read stays
    → KeepsLines (places_staying stays has.read old.taking) (option_map string_bytes asked.key) (line_names old.reader) start.kept old.taking has.read kept → EndsALine bytes
    → (restored : HasFollowed given (start_of given old.behind kept) next kept []) × (restored.telling.windows ≡ []) × (next.taking.settlings.at ≡ []) → next.taking.watch.from ≡ (start_of given old.behind kept).from
    → next.taking.watch.from ≡ old.taking.watch.from → TakesPlace old next new times
    → 0 < length (places_staying stays has.read old.taking) → HasGoneOn asked start new bytes told
gone_on_by asked given same start old next new bytes told kept has quiet stays times wanted forgets keeps ends restored moment still place some =
    let begun : start_of given old.behind kept ≡ start_of asked start.behind kept =
    start_same asked given same old.behind kept ∙ ap (λ behind. start_of asked behind kept) has.telling.behind in
    let (so, none, settled) : (has : HasFollowed given (start_of asked start.behind kept) next kept []) × (has.telling.windows ≡ []) × (next.taking.settlings.at ≡ []) =
    subst (λ start. (has : HasFollowed given start next kept []) × (has.telling.windows ≡ []) × (next.taking.settlings.at ≡ [])) begun restored in
    let (as_asked, windows) = followed_same asked given same (start_of asked start.behind kept) next kept [] so in
    gone_on asked start old next new bytes told kept has quiet stays times wanted
    (subst (λ (forget : Option ℕ). MayForget forget start has.read stays) same.forget forgets) keeps ends (sym (ap (λ (start : Start). start.from) begun) ∙ (sym moment ∙ still)) as_asked (windows ∙ none) settled
    (moment ∙ ap (λ (start : Start). start.from) begun) place some

-- the text that keeps lines keeps those that were read, by the member that has the keys, in whatever order they are named
pub kept_so : (asked : AuditArguments) (start : Start) (old : Follower) (bytes told kept : List ℕ) (has : HasFollowed asked start old bytes told) → StaysInOne
    → (wanted are : List ℕ) → IsPermutation wanted are
    → KeepsLines are (member_in (line_names old.reader)) (line_names old.reader) start.kept old.taking has.read kept
    → KeepsLines wanted (option_map string_bytes asked.key) (line_names old.reader) start.kept old.taking has.read kept
kept_so asked start old bytes told kept has stays wanted are same keeps =
    subst (λ key. KeepsLines wanted key (line_names old.reader) start.kept old.taking has.read kept) (member_followed asked start old bytes told has stays) (keeps_all are same keeps)

-- and a text of which nothing is pending ends where a line does
pub ends_there : (asked : AuditArguments) (start : Start) (old : Follower) (bytes told : List ℕ) → HasFollowed asked start old bytes told → length (lines_on old.reader (32 ∷ [])) ≡ 1
    → IsQuiet old → EndsALine bytes
ends_there asked start old bytes told has one quiet =
    ends_so (map string_bytes asked.shown.items) (no_names (option_map string_bytes asked.key)) old.reader bytes has.read has.goes one quiet.line
