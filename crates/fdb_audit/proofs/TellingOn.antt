-- What a follower has told stays told while it reads on, and what it tells next comes behind it.
use Rattle.std.proofs.Common.{◌≡◌, ◌≢◌, ◌∙◌, ◌<◌, ◌≤◌, ℕ, List, [], ◌∷◌, ◌++◌, Bool, false, IsPermutation, ap, append-nil, append_assoc, arith, drop, is_some, true, length, map, not, refl, string_bytes, subst, sym, ◌&&◌, None, Option, Result, Some}
use Rattle.std.specs.Prelude.{IfSome}
use Rattle.std.specs.List.{All, AllPairs, Contains}
use Rattle.std.specs.Option.{option_or}
use Rattle.std.proofs.lemmas.List.Elements.{All-nil}
use Rattle.fdb_lines.specs.declared.fault.Found.{Found}
use Rattle.fdb_lines.specs.declared.key_watch.KeyWatch.{KeyWatch}
use Rattle.fdb_lines.specs.declared.line.Line.{Line}
use Rattle.fdb_lines.specs.declared.key_part.SettledKey.{SettledKey}
use Rattle.fdb_lines.specs.KeyParts.{lines_of_one}
use Rattle.fdb_lines.specs.KeyWatch.{GoesTo, HasSeenByKey, SettledTo, settled_in}
use Rattle.fdb_lines.specs.ToldByKey.{HasTold, audited_to, told_by_all}
use Rattle.fdb_log_reader.specs.declared.error.Why.{Why}
use Rattle.fdb_log_reader.specs.LineReader.{AreMore, line_names, lines_on, names_on}
use Rattle.fdb_log_reader.specs.ReadLine.{SaidLine}
use Rattle.fdb_audit.specs.declared.clocks.KeyTimes.{KeyTimes}
use Rattle.fdb_audit.specs.declared.progress.Counts.{Counts}
use Rattle.fdb_audit.specs.declared.members.Numbering.{Numbering}
use Rattle.fdb_audit.specs.declared.arguments.AuditArguments.{AuditArguments}
use Rattle.fdb_audit.specs.declared.printer.LogFault.{LogFault}
use Rattle.fdb_audit.specs.declared.follower.Follower.{Follower}
use Rattle.fdb_audit.specs.declared.teller.Teller.{Teller}
use Rattle.fdb_audit.specs.Following.{AreNamed, AreWindows, Before, Counted, FollowArguments, IsCounted, IsEnd, IsToldOff, Start, Window, certain_in, counted_on, early_at, faults_told, first_told, keys_taken, lines_since, lines_taken, out_of_reach_in, told_in_all, told_to}
use Rattle.fdb_audit.specs.Watched.{HasFollowed, HasToldAll, IsAt, IsComplete, IsFollowed, IsTelling, IsTellerOf, followed_by, lines_asked, members_asked, names_asked}
use Rattle.fdb_audit.specs.private.Followed.{AreTaken, HasTotals, IsCarried, IsUnread, StaysAsFar, TellsOn, counted_in, counted_of, told_with}
use Rattle.fdb_audit.specs.Came.{ahead_lines}
use Rattle.fdb_audit.specs.declared.taken_lines.Settlings.{Settlings}
use Rattle.fdb_audit.proofs.AtSettlings.{at_end, at_now, at_stays}
use Rattle.fdb_audit.proofs.OddLines.{early_still}
use Rattle.fdb_audit.proofs.InTurn.{entry_key, far_now, in_turn_stays, keys_apart, named_on, to_on, to_stays, turns_on, window_key}
use Rattle.fdb_audit.specs.Recent.{KnowsTimes}
use Rattle.fdb_audit.proofs.Recent.{none_known, none_read}
use Rattle.fdb_audit.proofs.Windows.{first_on, faults_on as all_faults_on, faults_stay, first_stays, told_on, told_stays, windows_on, windows_stay, windows_within}

-- nothing has been read
pub unread : (asked : AuditArguments) (start : Start) (follower : Follower) → IsUnread asked start follower → HasFollowed asked start follower [] []
unread asked start follower is = record {
  read = [];
  goes = is.goes;
  behind = is.names;
  telling = record {
    behind = is.at;
    carried = is.carried;
    times = none_read asked.forget start follower.taking.times is.times;
    windows = [];
    taken = subst (AreTaken start follower.taking []) (sym (append-nil start.told)) is.taken;
    margin = is.margin;
    horizon = is.horizon;
    far = is.far;
    named = All-nil (λ (line : Line). IfSome line.client (λ client. client < length (line_names follower.reader).clients));
    tells = is.text;
    in_turn = tt;
    at = All-nil (IsAt start false [] follower.taking.settlings.at);
    are = is.are;
  };
}

-- with some lines more
pub takes_on : (start : Start) (asked : AuditArguments) (old new : Follower) (read further : List (Result SaidLine Why)) (told : List ℕ) → IsTelling asked start old read told
    → AreMore (line_names old.reader) (line_names new.reader)
    → AreNamed (lines_taken further) (line_names new.reader).clients
    → ((told : List Found) → AreTaken start old.taking read told → AreTaken start new.taking (read ++ further) told)
    → ((told : List Found) → AreTaken start old.taking read told → KnowsTimes asked.forget start old.taking.times read → KnowsTimes asked.forget start new.taking.times (read ++ further))
    → StaysAsFar old.taking.watch new.taking.watch
    → new.taking.watch.margin ≡ old.taking.watch.margin → new.taking.settlings ≡ old.taking.settlings → new.teller ≡ old.teller → new.behind ≡ old.behind → new.before ≡ old.before
    → IsTelling asked start new (read ++ further) told
takes_on start asked old new read further told has more named takes hears stays margin settlings teller behind before =
    let margin_asked = asked.opts.margin in
    let names = (line_names old.reader).clients in
    let text = told ++ string_bytes old.teller.text in
    let windows = has.windows in
    let within = windows_within start.kept margin_asked asked.wanted read names windows text has.tells in
    record {
      behind = behind ∙ has.behind;
      carried = subst (IsCarried start.before) (sym before) has.carried;
      windows = windows;
      taken = subst (λ list. AreTaken start new.taking (read ++ further) (start.told ++ list)) (sym (told_stays read further windows within)) (takes (start.told ++ told_in_all read windows) has.taken);
      margin = margin ∙ has.margin;
      horizon = stays.horizon ∙ has.horizon;
      far = λ key. stays.far key ∙ (has.far key ∙ ap (λ (far : Option ℕ → SettledTo). far key) (sym (to_stays read further start.far windows within)));
      named = named_on read further names (line_names new.reader).clients has.named more.0 named;
      in_turn = in_turn_stays start.behind read further start.far windows within has.in_turn;
      at = subst (λ (settlings : Settlings). All (IsAt start false (read ++ further) settlings.at) windows) (sym settlings)
          (at_stays start read further old.taking.settlings.at windows has.taken.few within has.at);
      times = hears (start.told ++ told_in_all read windows) has.taken has.times;
      tells = subst (λ teller. AreWindows start.kept margin_asked asked.wanted (read ++ further) (line_names new.reader).clients windows (told ++ string_bytes teller.text)) (sym teller)
          (windows_stay start.kept margin_asked asked.wanted read further names (line_names new.reader).clients windows text has.tells more.0);
      are = subst (λ teller. IsTellerOf asked start teller (read ++ further) windows) (sym teller) (record {
        wanted = has.are.wanted;
        margin = has.are.margin;
        by_key = has.are.by_key;
        first = has.are.first ∙ ap (option_or start.before.first) (sym (first_stays start.kept read further windows within));
        totals = subst (λ faults. HasTotals (members_asked asked) old.teller (start.before.told ++ faults)) (sym (faults_stay read further windows within)) has.are.totals;
      });
    }

-- with those of the next bytes
pub fed : (start : Start) (asked : AuditArguments) (old new : Follower) (before bytes told : List ℕ) (further : List (Result SaidLine Why)) → HasFollowed asked start old before told
    → ((text : List ℕ) → lines_on old.reader (bytes ++ text) ≡ further ++ lines_on new.reader text)
    → ((text : List ℕ) → names_on old.reader (bytes ++ text) ≡ names_on new.reader text)
    → AreMore (line_names old.reader) (line_names new.reader) → AreNamed (lines_taken further) (line_names new.reader).clients
    → ((read : List (Result SaidLine Why)) (told : List Found) → AreTaken start old.taking read told → AreTaken start new.taking (read ++ further) told)
    → ((read : List (Result SaidLine Why)) (told : List Found) → AreTaken start old.taking read told → KnowsTimes asked.forget start old.taking.times read → KnowsTimes asked.forget start new.taking.times (read ++ further))
    → StaysAsFar old.taking.watch new.taking.watch
    → new.taking.watch.margin ≡ old.taking.watch.margin → new.taking.settlings ≡ old.taking.settlings → new.teller ≡ old.teller → new.behind ≡ old.behind → new.before ≡ old.before
    → HasFollowed asked start new (before ++ bytes) told
fed start asked old new before bytes told further has goes behind more named takes hears stays margin settlings teller far carries =
    let read = has.read in
    record {
      read = read ++ further;
      goes = λ text. ap (lines_asked asked) (append_assoc before bytes text)
          ∙ (has.goes (bytes ++ text) ∙ (ap (λ l. read ++ l) (goes text) ∙ sym (append_assoc read further (lines_on new.reader text))));
      behind = λ text. ap (names_asked asked) (append_assoc before bytes text) ∙ (has.behind (bytes ++ text) ∙ behind text);
      telling = takes_on start asked old new read further told has.telling more named (takes read) (hears read) stays margin settlings teller far carries;
    }

-- with lines that were kept, the first of all
pub fed_first : (before start : Start) (asked : AuditArguments) (old new : Follower) (bytes : List ℕ) (lines : List (Result SaidLine Why)) → IsUnread asked before old
    → start.behind ≡ before.behind → start.kept ≡ before.kept → start.before ≡ before.before → drop start.lines lines ≡ [] → new.taking.times.are_wanted ≡ old.taking.times.are_wanted
    → ((text : List ℕ) → lines_on old.reader (bytes ++ text) ≡ lines ++ lines_on new.reader text)
    → ((text : List ℕ) → names_on old.reader (bytes ++ text) ≡ names_on new.reader text)
    → AreNamed (lines_taken lines) (line_names new.reader).clients
    → AreTaken start new.taking lines start.told → ((key : Option ℕ) → settled_in new.taking.watch.parts.items key ≡ start.far key) → new.taking.watch.horizon ≡ old.taking.watch.horizon
    → new.taking.watch.margin ≡ old.taking.watch.margin → new.teller ≡ old.teller → new.behind ≡ old.behind → new.before ≡ old.before
    → (has : HasFollowed asked start new bytes []) × (has.telling.windows ≡ [])
fed_first before start asked old new bytes lines is far numbers same none wanted goes behind named takes so_far horizon margin teller still carries = (
  record {
    read = lines;
    goes = λ text. is.goes (bytes ++ text) ∙ goes text;
    behind = λ text. is.names (bytes ++ text) ∙ behind text;
    telling = record {
      behind = still ∙ (is.at ∙ sym far);
      carried = subst (IsCarried start.before) (sym carries) (subst (λ (before : Before). IsCarried before old.before) (sym same) is.carried);
      windows = [];
      taken = subst (AreTaken start new.taking lines) (sym (append-nil start.told)) takes;
      margin = margin ∙ is.margin;
      horizon = horizon ∙ (is.horizon ∙ sym far);
      far = so_far;
      times = none_known asked.forget start new.taking.times lines (wanted ∙ is.times) none;
      named = named;
      in_turn = tt;
      at = All-nil (IsAt start false lines new.taking.settlings.at);
      tells = ap (λ (teller : Teller). string_bytes teller.text) teller ∙ is.text;
      are = subst (λ teller. IsTellerOf asked start teller lines []) (sym teller)
          (record {
            wanted = is.are.wanted;
            margin = is.are.margin;
            by_key = is.are.by_key;
            first = is.are.first ∙ ap (λ (before : Before). option_or before.first None) (sym same);
            totals = subst (λ (before : Before). HasTotals (members_asked asked) old.teller (before.told ++ [])) (sym same) is.are.totals;
          });
    };
  },
  refl,
)

-- with the line that had not ended, or none
pub ended : (start : Start) (asked : AuditArguments) (old new : Follower) (bytes told : List ℕ) (further : List (Result SaidLine Why)) → HasFollowed asked start old bytes told
    → lines_on old.reader [] ≡ further → AreMore (line_names old.reader) (line_names new.reader) → AreNamed (lines_taken further) (line_names new.reader).clients
    → ((read : List (Result SaidLine Why)) (told : List Found) → AreTaken start old.taking read told → AreTaken start new.taking (read ++ further) told)
    → ((read : List (Result SaidLine Why)) (told : List Found) → AreTaken start old.taking read told → KnowsTimes asked.forget start old.taking.times read → KnowsTimes asked.forget start new.taking.times (read ++ further))
    → StaysAsFar old.taking.watch new.taking.watch
    → new.taking.watch.margin ≡ old.taking.watch.margin → new.taking.settlings ≡ old.taking.settlings → new.teller ≡ old.teller → new.behind ≡ old.behind → new.before ≡ old.before
    → IsTelling asked start new (lines_asked asked bytes) told
ended start asked old new bytes told further has last more named takes hears stays margin settlings teller far carries =
    let read = has.read in
    let all : read ++ further ≡ lines_asked asked bytes = sym (ap (lines_asked asked) (sym (append-nil bytes)) ∙ (has.goes [] ∙ ap (λ l. read ++ l) last)) in
    subst (λ read. IsTelling asked start new read told) all (takes_on start asked old new read further told has.telling more named (takes read) (hears read) stays margin settlings teller far carries)

-- with what is told more
tells_on : (start : Start) (asked : AuditArguments) (old : Follower) (new : Teller) (read : List (Result SaidLine Why)) (far : Option ℕ → SettledTo) (to : Option ℕ) (told : List ℕ) (windows : List Window)
    (entries : List SettledKey)
    → AreWindows start.kept asked.opts.margin asked.wanted read (line_names old.reader).clients windows (told ++ string_bytes old.teller.text)
    → (more : TellsOn start.kept old.teller new asked.opts.margin start.behind read (line_names old.reader).clients far to entries) → old.teller.wanted ≡ asked.wanted
    → AreWindows start.kept asked.opts.margin asked.wanted read (line_names old.reader).clients (windows ++ more.windows) (told ++ string_bytes new.text)
tells_on start asked old new read far to told windows entries tells more is =
    let names = (line_names old.reader).clients in
    let margin = asked.opts.margin in
    subst (λ text. AreWindows start.kept margin asked.wanted read names (windows ++ more.windows) text)
    (append_assoc told (string_bytes old.teller.text) more.text ∙ ap (λ text. told ++ text) (sym more.appended))
    (windows_on start.kept margin asked.wanted read names windows more.windows (told ++ string_bytes old.teller.text) more.text tells
    (subst (λ wanted. AreWindows start.kept margin wanted read names more.windows more.text) (more.same.wanted ∙ is) more.told))

-- the first of all, where one was told before
first_of_three : {X : Type 0} (one two three : Option X) → option_or (option_or one two) three ≡ option_or one (option_or two three)
first_of_three None two three = refl
first_of_three (Some one) two three = refl

are_on : (start : Start) (asked : AuditArguments) (old new : Teller) (margin : ℕ) (read : List (Result SaidLine Why)) (names : List (List ℕ)) (far : Option ℕ → SettledTo) (to : Option ℕ) (windows : List Window)
    (entries : List SettledKey) → IsTellerOf asked start old read windows → (more : TellsOn start.kept old new margin start.behind read names far to entries) → IsTellerOf asked start new read (windows ++ more.windows)
are_on start asked old new margin read names far to windows entries are more = record {
  wanted = more.same.wanted ∙ are.wanted;
  margin = more.same.margin ∙ are.margin;
  by_key = ap is_some more.same.key ∙ are.by_key;
  first =
      let its = first_told start.kept read in
      more.first ∙ (ap (λ first. option_or first (its more.windows)) are.first
      ∙ (first_of_three start.before.first (its windows) (its more.windows) ∙ ap (option_or start.before.first) (sym (first_on start.kept read windows more.windows))));
  totals = subst (HasTotals (members_asked asked) new)
      (append_assoc start.before.told (faults_told read windows) (faults_told read more.windows) ∙ ap (λ faults. start.before.told ++ faults) (sym (all_faults_on read windows more.windows)))
      (more.counts (members_asked asked) (start.before.told ++ faults_told read windows) are.totals);
}

faults_on : (start : Start) (old new : Teller) (margin : ℕ) (read : List (Result SaidLine Why)) (names : List (List ℕ)) (far : Option ℕ → SettledTo) (to : Option ℕ) (windows : List Window)
    (entries : List SettledKey) → (more : TellsOn start.kept old new margin start.behind read names far to entries)
    → (start.told ++ told_in_all read windows) ++ told_by_all entries ≡ start.told ++ told_in_all read (windows ++ more.windows)
faults_on start old new margin read names far to windows entries more =
    append_assoc start.told (told_in_all read windows) (told_by_all entries)
    ∙ ap (λ list. start.told ++ list) (ap (λ list. told_in_all read windows ++ list) (sym more.faults_are) ∙ sym (told_on read windows more.windows))

-- with what is told when a watch settles up to a moment
pub settled : (start : Start) (asked : AuditArguments) (old new : Follower) (read : List (Result SaidLine Why)) (to : ℕ) (told : List ℕ) (entries : List SettledKey) → (is : IsTelling asked start old read told)
    → new.reader ≡ old.reader → AreTaken start new.taking read ((start.told ++ told_in_all read is.windows) ++ told_by_all entries) → new.taking.watch.margin ≡ old.taking.watch.margin
    → new.taking.watch.horizon ≡ old.taking.watch.horizon
    → ((key : Option ℕ) → GoesTo to (length (lines_of_one (lines_taken read) (keys_taken read) key)) entries key (settled_in old.taking.watch.parts.items key) (settled_in new.taking.watch.parts.items key))
    → AllPairs (λ (one other : SettledKey). one.key ≢ other.key) entries
    → TellsOn start.kept old.teller new.teller asked.opts.margin start.behind read (line_names old.reader).clients (settled_in old.taking.watch.parts.items) (Some to) entries
    → new.behind ≡ old.behind → new.before ≡ old.before → new.taking.times ≡ old.taking.times → new.taking.settlings.at ≡ old.taking.taken ∷ old.taking.settlings.at → to ≡ certain_in start read
    → IsTelling asked start new read told
settled start asked old new read to told entries is reader takes margin horizon goes once more behind before times settlings certain =
    let names = (line_names old.reader).clients in
    let far = settled_in old.taking.watch.parts.items in
    let within = windows_within start.kept asked.opts.margin asked.wanted read names is.windows (told ++ string_bytes old.teller.text) is.tells in
    record {
      behind = behind ∙ is.behind;
      carried = subst (IsCarried start.before) (sym before) is.carried;
      windows = is.windows ++ more.windows;
      taken = subst (AreTaken start new.taking read) (faults_on start old.teller new.teller asked.opts.margin read names far (Some to) is.windows entries more) takes;
      margin = margin ∙ is.margin;
      horizon = horizon ∙ is.horizon;
      far = λ key.
          far_now read to entries (told_to read start.far is.windows) more.windows key (far key) _ (λ k d lt. let it = more.each k d lt in (it.all, it.to_is)) more.keys (is.far key) (goes key)
          ∙ ap (λ (far : Option ℕ → SettledTo). far key) (sym (to_on read start.far is.windows more.windows));
      named = subst (λ reader. AreNamed (lines_taken read) (line_names reader).clients) (sym reader) is.named;
      tells = subst (λ reader. AreWindows start.kept asked.opts.margin asked.wanted read (line_names reader).clients (is.windows ++ more.windows) (told ++ string_bytes new.teller.text)) (sym reader)
          (tells_on start asked old new.teller read far (Some to) told is.windows entries is.tells more is.are.wanted);
      in_turn = turns_on start.behind read names (Some to) start.far far is.windows more.windows is.in_turn within is.named is.far more.each (keys_apart entries more.windows more.keys once);
      at = subst (λ at. All (IsAt start false read at) (is.windows ++ more.windows)) (sym settlings)
          (at_now start read old.taking.settlings.at old.taking.taken to start.behind names far is.windows more.windows is.taken.count certain is.at more.each);
      are = are_on start asked old.teller new.teller asked.opts.margin read names far (Some to) is.windows entries is.are more;
      times = subst (λ (times : KeyTimes). KnowsTimes asked.forget start times read) (sym times) is.times;
    }

pub counted_for : (start : Start) (old : Follower) (read : List (Result SaidLine Why)) {told : List Found} → AreTaken start old.taking read told → (new : Follower)
    → new.taking.counts ≡ old.taking.counts → new.taking.numbering ≡ old.taking.numbering → IsCounted start read (counted_of new.taking)
counted_for start old read are new counts numbering = record {
  lines = ap (λ (counts : Counts). counts.lines) counts ∙ are.counted.lines;
  reads = ap (λ (counts : Counts). counts.reads) counts ∙ are.counted.reads;
  commits = ap (λ (counts : Counts). counts.commits) counts ∙ are.counted.commits;
  asks = ap (λ (counts : Counts). counts.asks) counts ∙ are.counted.asks;
  reports = ap (λ (counts : Counts). counts.reports) counts ∙ are.counted.reports;
  refused = ap (λ (numbering : Numbering). length numbering.above.items) numbering ∙ ap length are.numbered.above;
}

early_for : (start : Start) (old : Follower) (read : List (Result SaidLine Why)) {told : List Found} → AreTaken start old.taking read told → (new : Follower)
    → new.taking.counts ≡ old.taking.counts → new.taking.counts.early ≤ out_of_reach_in start read
early_for start old read are new counts =
    let le = are.reach.early in
    let same = ap (λ (counts : Counts). counts.early) counts in
    omega (arith, le, same)

ahead_for : (start : Start) (old : Follower) (read : List (Result SaidLine Why)) {told : List Found} → AreTaken start old.taking read told → (new : Follower)
    → new.taking.counts ≡ old.taking.counts → new.taking.counts.ahead ≡ length (ahead_lines start read)
ahead_for start old read are new counts = ap (λ (counts : Counts). counts.ahead) counts ∙ are.ahead

late_for : (start : Start) (old : Follower) (read : List (Result SaidLine Why)) {told : List Found} → AreTaken start old.taking read told → (new : Follower)
    → new.taking.counts ≡ old.taking.counts → early_at start.from (lines_since start read) ≤ new.taking.counts.early
late_for start old read are new counts =
    let le = are.late in
    let same = ap (λ (counts : Counts). counts.early) counts in
    omega (arith, le, same)

-- and when it settles for good
pub settled_all : (start : Start) (asked : AuditArguments) (old new : Follower) (read : List (Result SaidLine Why)) (told : List ℕ) (entries : List SettledKey) → (is : IsTelling asked start old read told)
    → new.reader ≡ old.reader → AllPairs (λ (one other : SettledKey). one.key ≢ other.key) entries
    → TellsOn start.kept old.teller new.teller asked.opts.margin start.behind read (line_names old.reader).clients (settled_in old.taking.watch.parts.items) None entries → new.behind ≡ old.behind → new.before ≡ old.before
    → new.taking.counts ≡ old.taking.counts → new.taking.numbering ≡ old.taking.numbering → new.taking.settlings ≡ old.taking.settlings
    → ((windows : List Window) → All (λ (window : Window). (window.read ≡ length read) × (window.to ≡ None)) windows → map window_key windows ≡ map entry_key entries → (key : Option ℕ)
    → Contains (keys_taken read) key → IsToldOff asked.opts.margin start.behind None (lines_of_one (lines_taken read) (keys_taken read) key) (told_to read (told_to read start.far is.windows) windows key))
    → (start.early ≡ 0 → old.taking.counts.early ≡ 0 → IsComplete true asked.opts.margin start read ((start.told ++ told_in_all read is.windows) ++ told_by_all entries))
    → HasToldAll asked start true new read told
settled_all start asked old new read told entries is reader once more behind before counts numbering settlings off whole =
    let names = (line_names old.reader).clients in
    let far = settled_in old.taking.watch.parts.items in
    let within = windows_within start.kept asked.opts.margin asked.wanted read names is.windows (told ++ string_bytes old.teller.text) is.tells in
    record {
      behind = behind ∙ is.behind;
      carried = subst (IsCarried start.before) (sym before) is.carried;
      windows = is.windows ++ more.windows;
      tells = subst (λ reader. AreWindows start.kept asked.opts.margin asked.wanted read (line_names reader).clients (is.windows ++ more.windows) (told ++ string_bytes new.teller.text)) (sym reader)
          (tells_on start asked old new.teller read far None told is.windows entries is.tells more is.are.wanted);
      in_turn = turns_on start.behind read names None start.far far is.windows more.windows is.in_turn within is.named is.far more.each (keys_apart entries more.windows more.keys once);
      all = λ key has.
          subst (IsToldOff asked.opts.margin start.behind None (lines_of_one (lines_taken read) (keys_taken read) key))
          (ap (λ (far : Option ℕ → SettledTo). far key) (sym (to_on read start.far is.windows more.windows)))
          (off more.windows (λ k d lt. let it = more.each k d lt in (it.all, it.to_is)) more.keys key has);
      are = are_on start asked old.teller new.teller asked.opts.margin read names far None is.windows entries is.are more;
      counted = counted_for start old read is.taken new counts numbering;
      before = is.taken.before;
      early = early_for start old read is.taken new counts;
      ahead = ahead_for start old read is.taken new counts;
      came = early_still start old.taking new.taking read read is.taken.came settlings counts (λ settled. refl);
      order = subst (λ (settlings : Settlings). AllPairs (λ one other. other ≤ one) settlings.at) (sym settlings) is.taken.settled_at.order;
      at = subst (λ (settlings : Settlings). All (IsAt start true read settlings.at) (is.windows ++ more.windows)) (sym settlings)
          (at_end start read old.taking.settlings.at start.behind names far is.windows more.windows is.at more.each);
      late = late_for start old read is.taken new counts;
      whole = λ none_before none. subst (IsComplete true asked.opts.margin start read) (faults_on start old.teller new.teller asked.opts.margin read names far None is.windows entries more)
          (whole none_before (sym (ap (λ (counts : Counts). counts.early) counts) ∙ none));
    }

-- and where it is to be followed on, and has settled as far as all may be told
pub told_so_far : (start : Start) (asked : AuditArguments) (old : Follower) (read : List (Result SaidLine Why)) (told : List ℕ) → (is : IsTelling asked start old read told)
    → old.taking.watch.from ≡ certain_in start read
    → ((key : Option ℕ) → Contains (keys_taken read) key
    → IsToldOff asked.opts.margin start.behind (Some old.taking.watch.from) (lines_of_one (lines_taken read) (keys_taken read) key) (settled_in old.taking.watch.parts.items key))
    → ((watch : KeyWatch) (lines : List Line) (keys : List (Option ℕ)) (told : List Found) → HasSeenByKey watch lines keys → HasTold watch lines keys told
    → IsPermutation told (audited_to watch.margin watch.from lines keys))
    → (all : HasToldAll asked start false old read told) × (all.windows ≡ is.windows)
told_so_far start asked old read told is to off each_once = (
  record {
    behind = is.behind;
    carried = is.carried;
    windows = is.windows;
    tells = is.tells;
    in_turn = is.in_turn;
    all = λ key has.
        subst (λ (at : ℕ). IsToldOff asked.opts.margin start.behind (Some at) (lines_of_one (lines_taken read) (keys_taken read) key) (told_to read start.far is.windows key)) to
        (subst (IsToldOff asked.opts.margin start.behind (Some old.taking.watch.from) (lines_of_one (lines_taken read) (keys_taken read) key)) (is.far key) (off key has));
    are = is.are;
    counted = counted_for start old read is.taken old refl refl;
    whole = λ none_before none.
        let watch = old.taking.watch in
        let all = start.told ++ told_in_all read is.windows in
        subst (λ from. IsPermutation all (audited_to asked.opts.margin from (lines_taken read) (keys_taken read))) to
        (subst (λ margin. IsPermutation all (audited_to margin watch.from (lines_taken read) (keys_taken read))) is.margin
        (each_once watch (lines_taken read) (keys_taken read) all is.taken.seen (is.taken.once none_before none)));
    before = is.taken.before;
    early = early_for start old read is.taken old refl;
    ahead = ahead_for start old read is.taken old refl;
    order = is.taken.settled_at.order;
    at = is.at;
    came = is.taken.came;
    late = late_for start old read is.taken old refl;
  },
  refl,
)

same_arguments : (asked : AuditArguments) (start : Start) (last : Follower) → last.behind ≡ start.behind → last.teller.margin ≡ asked.opts.margin
    → is_some last.teller.key ≡ is_some asked.key → told_with last.behind last.teller (members_asked asked) ≡ followed_by asked start.behind
same_arguments asked start last behind margin by_key =
    let make = λ (behind margin : ℕ) (by_key : Bool). let it : FollowArguments = record { behind = behind; margin = margin; by_key = by_key; members = members_asked asked } in it in
    ap (λ n. make n last.teller.margin (is_some last.teller.key)) behind
    ∙ (ap (λ n. make start.behind n (is_some last.teller.key)) margin ∙ ap (make start.behind asked.opts.margin) by_key)

-- what is told of lines is told of a text that has them
pub all_told : (asked : AuditArguments) (start : Start) (ends : Bool) (last : Follower) (bytes told text end : List ℕ) (all : Counted) (found : Option LogFault) (last_early : Option ℕ)
    → (is : HasToldAll asked start ends last (lines_asked asked bytes) told) → names_asked asked bytes ≡ line_names last.reader
    → text ≡ string_bytes last.teller.text ++ end → found ≡ last.teller.first
    → all ≡ counted_on (counted_in last.before.counts last.before.refused) (counted_of last.taking)
    → last_early ≡ option_or last.taking.counts.last_early last.before.counts.last_early
    → IsEnd (not (is_some last.teller.first) && not last.teller.wanted.json) last.teller.wanted.totals last.teller.wanted.json all (told_with last.behind last.teller (members_asked asked))
    (start.before.told ++ faults_told (lines_asked asked bytes) is.windows) end
    → (followed : IsFollowed asked start ends bytes (told ++ text) found last_early) × (followed.windows ≡ is.windows) × (followed.counts ≡ counted_of last.taking)
    × (followed.settled ≡ last.taking.settlings.at)
all_told asked start ends last bytes told text end all found last_early is names texts first counts early end_is =
    let read = lines_asked asked bytes in
    let faults = start.before.told ++ faults_told read is.windows in
    let so : all ≡ counted_on start.before.counts (counted_of last.taking) = counts ∙ ap (λ (before : Counted). counted_on before (counted_of last.taking)) is.carried.counts in (
      record {
        windows = is.windows;
        told = told ++ string_bytes last.teller.text;
        counts = counted_of last.taking;
        end = end;
        text_is = ap (λ text. told ++ text) texts ∙ sym (append_assoc told (string_bytes last.teller.text) end);
        tells = subst (λ names. AreWindows start.kept asked.opts.margin asked.wanted read names.clients is.windows (told ++ string_bytes last.teller.text)) (sym names) is.tells;
        in_turn = is.in_turn;
        all = is.all;
        first = first ∙ is.are.first;
        counted = is.counted;
        end_is =
            subst (λ found. IsEnd (not (is_some found) && not asked.wanted.json) asked.wanted.totals asked.wanted.json (counted_on start.before.counts (counted_of last.taking)) (followed_by asked start.behind) faults end) (sym first)
            (subst (λ arguments. IsEnd (not (is_some last.teller.first) && not asked.wanted.json) asked.wanted.totals asked.wanted.json (counted_on start.before.counts (counted_of last.taking)) arguments faults end)
            (same_arguments asked start last is.behind is.are.margin is.are.by_key)
            (subst (λ wanted. IsEnd (not (is_some last.teller.first) && not wanted.json) wanted.totals wanted.json (counted_on start.before.counts (counted_of last.taking)) (told_with last.behind last.teller (members_asked asked)) faults end)
            is.are.wanted
            (subst (λ (all : Counted). IsEnd (not (is_some last.teller.first) && not last.teller.wanted.json) last.teller.wanted.totals last.teller.wanted.json all (told_with last.behind last.teller (members_asked asked)) faults end)
            so end_is)));
        whole = is.whole;
        before = is.before;
        early = is.early;
        ahead = is.ahead;
        settled = last.taking.settlings.at;
        order = is.order;
        at = is.at;
        last = last.taking.counts.last_early;
        came = is.came;
        last_is = early ∙ ap (option_or last.taking.counts.last_early) is.carried.last_early;
        late = is.late;
      },
      refl,
      refl,
      refl,
    )
