-- What is said of lines on standard error, with one line more.
use Rattle.std.proofs.Common.{◌≡◌, ◌∙◌, ℕ, ◌+◌, ◌-◌, ◌^◌, ◌<◌, ◌≤◌, Bool, true, false, List, [], ◌∷◌, ◌++◌, Option, None, Some, Result, Ok, Err, add-zero, ap, append-nil, append_assoc, arith, drop, length, length-drop, nat_lt, refl, string_bytes, sym}
use Rattle.std.specs.Prelude.{◌&&◌, if◌then◌else◌}
use Rattle.std.specs.List.{cons_option, filter, filter_map, flat_map}
use Rattle.std.specs.Int.{is_power_of_two}
use Rattle.std.proofs.lemmas.Bool.Decides.{nat_tests}
use Rattle.std.proofs.lemmas.Grind.{flat_map-append}
use Rattle.std.proofs.lemmas.List.Elements.{filter-append, filter_map-append}
use Rattle.fdb_lines.specs.Before.{began}
use Rattle.fdb_lines.specs.declared.fault.Found.{Found}
use Rattle.fdb_lines.specs.declared.line.Line.{Line}
use Rattle.fdb_log_reader.specs.declared.error.ReadError.{ReadError}
use Rattle.fdb_log_reader.specs.declared.error.Why.{Why}
use Rattle.fdb_log_reader.specs.ReadLine.{SaidLine}
use Rattle.fdb_audit.specs.declared.progress.Counts.{Counts}
use Rattle.fdb_audit.specs.declared.taken_lines.Settlings.{Settlings}
use Rattle.fdb_audit.specs.declared.taken_lines.Taking.{Taking}
use Rattle.fdb_audit.specs.declared.refusal.CountedLine.{CountedLine}
use Rattle.fdb_audit.specs.declared.refusal.Warning.{Warning}
use Rattle.fdb_audit.specs.declared.refusal.Warning.TheVariants.{Ahead, Early, Refused}
use Rattle.fdb_audit.specs.Came.{ahead_lines, ahead_then, early_by, early_lines, last_line, odd_line, odd_lines, odd_since, told_when}
use Rattle.fdb_audit.specs.Clocks.{ahead_by, ahead_end}
use Rattle.fdb_audit.specs.Following.{Start, lines_before, lines_since}
use Rattle.fdb_audit.specs.Taken.{AreTaken, HasWarned}
use Rattle.fdb_audit.specs.Warned.{IsSaid, all_refused, as_ahead, as_early, as_refused, doubled, warning_line}
use Rattle.fdb_audit.specs.private.Clocks.{ahead_of}
use Rattle.fdb_audit.specs.private.Followed.{AreEarlyIn, NotesLine, counted_line, doubled_text, one_more}
use Rattle.fdb_audit.proofs.Believed.{ahead_is}
use Rattle.fdb_audit.proofs.Following.{few_read, line_number}
use Rattle.fdb_audit.proofs.OddLines.{ahead_push, early_push, early_settled, last_push, odd_count, since_ahead, since_early, since_left}
use Rattle.fdb_audit.proofs.SettledOn.{taken_count}
use Rattle.fdb_audit.proofs.Settled.{drop_on}

-- ---- the lines that are refused

all_more : (number : ℕ) (read : List (Result SaidLine Why)) (why : Why)
    → all_refused number (read ++ Err why ∷ []) ≡ all_refused number read ++ record { line = number + length read; why = why } ∷ []
all_more number [] why = ap (λ n. let it : ReadError = record { line = n; why = why } in it ∷ []) (sym (add-zero number))
all_more number (Ok said ∷ read) why =
    let same : (number + 1) + length read ≡ number + length (Ok said ∷ read) = omega arith in
    all_more (number + 1) read why ∙ ap (λ n. let it : ReadError = record { line = n; why = why } in all_refused (number + 1) read ++ it ∷ []) same
all_more number (Err other ∷ read) why =
    let same : (number + 1) + length read ≡ number + length (Err other ∷ read) = omega arith in
    ap (λ rest. let it : ReadError = record { line = number; why = other } in it ∷ rest)
    (all_more (number + 1) read why ∙ ap (λ n. let it : ReadError = record { line = n; why = why } in all_refused (number + 1) read ++ it ∷ []) same)

all_same : (number : ℕ) (read : List (Result SaidLine Why)) (said : SaidLine) → all_refused number (read ++ Ok said ∷ []) ≡ all_refused number read
all_same number [] said = refl
all_same number (Ok other ∷ read) said = all_same (number + 1) read said
all_same number (Err why ∷ read) said = ap (λ rest. let it : ReadError = record { line = number; why = why } in it ∷ rest) (all_same (number + 1) read said)

-- ---- one line that is counted, of which something is said or not

filter_on : {X : Type 0} (test : X → Bool) (xs : List X) (x : X) → filter test (xs ++ x ∷ []) ≡ filter test xs ++ (if test x then x ∷ [] else [])
filter_on test [] x = alone (test x) refl
  where
    alone : (b : Bool) → test x ≡ b → filter test (x ∷ []) ≡ (if test x then x ∷ [] else [])
    alone true is = grind (arith, is)
    alone false is = grind (arith, is)
filter_on test (y ∷ xs) x = on (test y) refl (filter_on test xs x)
  where
    on : (b : Bool) → test y ≡ b → filter test (xs ++ x ∷ []) ≡ filter test xs ++ (if test x then x ∷ [] else [])
        → filter test (y ∷ xs ++ x ∷ []) ≡ filter test (y ∷ xs) ++ (if test x then x ∷ [] else [])
    on true is rest = grind (arith, is, rest)
    on false is rest = grind (arith, is, rest)

-- what is said more is told among what is of one kind
kind_more : {X : Type 0} (kind : Warning → Option X) (warnings : List Warning) (warning : Warning) (it : X) → kind warning ≡ Some it
    → filter_map kind warnings ++ it ∷ [] ≡ filter_map kind (warnings ++ warning ∷ [])
kind_more kind warnings warning it is = ap (λ (one : Option _). filter_map kind warnings ++ cons_option one []) (sym is) ∙ sym (filter_map-append kind warnings (warning ∷ []))

-- or is of another
kind_same : {X : Type 0} (kind : Warning → Option X) (warnings : List Warning) (warning : Warning) → kind warning ≡ None → filter_map kind warnings ≡ filter_map kind (warnings ++ warning ∷ [])
kind_same kind warnings warning is =
    sym (append-nil (filter_map kind warnings))
    ∙ (ap (λ (one : Option _). filter_map kind warnings ++ cons_option one []) (sym is) ∙ sym (filter_map-append kind warnings (warning ∷ [])))

texts_more : (warnings : List Warning) (warning : Warning) (text : List ℕ) → text ≡ flat_map warning_line warnings → text ++ warning_line warning ≡ flat_map warning_line (warnings ++ warning ∷ [])
texts_more warnings warning text is =
    ap (λ part. part ++ warning_line warning) is
    ∙ sym (flat_map-append warning_line warnings (warning ∷ []) ∙ ap (λ part. flat_map warning_line warnings ++ part) (append-nil (warning_line warning)))

-- what is said of it, if it is
abbrev said_if : Bool → Warning → List Warning
said_if true warning = warning ∷ []
said_if false warning = []

abbrev is_said : CountedLine → Bool
is_said it = nat_lt 0 it.by && is_power_of_two it.count

text_if : (b : Bool) (warning : Warning) → (if b then warning_line warning else []) ≡ flat_map warning_line (said_if b warning)
text_if true warning = sym (append-nil (warning_line warning))
text_if false warning = refl

-- it is no other kind
no_kind : {X : Type 0} (kind : Warning → Option X) (b : Bool) (warning : Warning) → kind warning ≡ None → filter_map kind (said_if b warning) ≡ []
no_kind kind true warning is = ap (λ (one : Option _). cons_option one []) is
no_kind kind false warning is = refl

its_kind : (kind : Warning → Option CountedLine) (b : Bool) (warning : Warning) (it : CountedLine) → kind warning ≡ Some it → filter_map kind (said_if b warning) ≡ (if b then it ∷ [] else [])
its_kind kind true warning it is = ap (λ (one : Option CountedLine). cons_option one []) is
its_kind kind false warning it is = refl

alone : (it : CountedLine) → doubled (it ∷ []) ≡ (if is_power_of_two it.count then it ∷ [] else [])
alone it = filter_on (λ (it : CountedLine). is_power_of_two it.count) [] it

-- of the lines of its kind it is one more, where it is said
one_doubled : (it : CountedLine) (n : ℕ) → (nat_lt 0 it.by ≡ true → it.count ≡ n) → (if is_said it then it ∷ [] else []) ≡ doubled (odd_line it.line it.by n)
one_doubled it n count = by (nat_lt 0 it.by) refl
  where
    by : (b : Bool) → nat_lt 0 it.by ≡ b → (if is_said it then it ∷ [] else []) ≡ doubled (odd_line it.line it.by n)
    by true is =
        ap (λ b. if b && is_power_of_two it.count then it ∷ [] else []) is
        ∙ (sym (alone it) ∙ (ap (λ m. doubled (counted_line it.line it.by m ∷ [])) (count is)
        ∙ sym (ap (λ b. doubled (if b then counted_line it.line it.by n ∷ [] else [])) is)))
    by false is =
        ap (λ b. if b && is_power_of_two it.count then it ∷ [] else []) is
        ∙ sym (ap (λ b. doubled (if b then counted_line it.line it.by n ∷ [] else [])) is)

-- what is said of one line more, of one kind
kind_on : (kind : Warning → Option CountedLine) (warnings : List Warning) (found : List CountedLine) (it : CountedLine) (warning : Warning) → kind warning ≡ Some it
    → filter_map kind warnings ≡ doubled found → (nat_lt 0 it.by ≡ true → it.count ≡ length found + 1)
    → filter_map kind (warnings ++ said_if (is_said it) warning) ≡ doubled (found ++ odd_line it.line it.by (length found + 1))
kind_on kind warnings found it warning is are count =
    let its = odd_line it.line it.by (length found + 1) in
    filter_map-append kind warnings (said_if (is_said it) warning)
    ∙ (ap (λ list. list ++ filter_map kind (said_if (is_said it) warning)) are
    ∙ (ap (λ list. doubled found ++ list) (its_kind kind (is_said it) warning it is ∙ one_doubled it (length found + 1) count)
    ∙ sym (filter-append (λ (it : CountedLine). is_power_of_two it.count) found its)))

-- and of all others
kind_beside : {X : Type 0} (kind : Warning → Option X) (warnings : List Warning) (b : Bool) (warning : Warning) → kind warning ≡ None
    → filter_map kind (warnings ++ said_if b warning) ≡ filter_map kind warnings
kind_beside kind warnings b warning is =
    filter_map-append kind warnings (said_if b warning) ∙ (ap (λ list. filter_map kind warnings ++ list) (no_kind kind b warning is) ∙ append-nil (filter_map kind warnings))

text_on : (warnings : List Warning) (it : CountedLine) (warning : Warning) (text : List ℕ) → text ≡ flat_map warning_line warnings
    → text ++ doubled_text it warning ≡ flat_map warning_line (warnings ++ said_if (is_said it) warning)
text_on warnings it warning text is =
    ap (λ part. part ++ doubled_text it warning) is
    ∙ (ap (λ part. flat_map warning_line warnings ++ part) (text_if (is_said it) warning) ∙ sym (flat_map-append warning_line warnings (said_if (is_said it) warning)))

-- a line began before a moment that is some time above it
some_time : (began from : ℕ) → nat_lt began from ≡ nat_lt 0 (from - began)
some_time start from = by (nat_lt start from) refl
  where
    by : (b : Bool) → nat_lt start from ≡ b → nat_lt start from ≡ nat_lt 0 (from - start)
    by true is = let some : 0 < from - start = (let lt : start < from = grind (arith, nat_tests) in omega (arith, lt)) in grind (arith, nat_tests, is, some)
    by false is = let none : from - start ≡ 0 = (let le : from ≤ start = grind (arith, nat_tests) in omega (arith, le)) in is ∙ ap (nat_lt 0) (sym none)

-- ---- a line more that is taken

fewer : (is_early judged : Bool) (old_early old_judged : ℕ) → old_judged ≤ old_early → old_early + 1 < 2 ^ 64 - 1 → one_more (is_early && judged) old_judged ≤ one_more is_early old_early
fewer true true early judged le few = omega (arith, le)
fewer true false early judged le few = omega (arith, le, few)
fewer false judged early some le few = le

-- what a line more is counted as
one_if : (b : Bool) (count size : ℕ) → count ≡ size → size + 1 < 2 ^ 64 → one_more b count ≡ (if b then size + 1 else size)
one_if true count size same few = omega (arith, same, few)
one_if false count size same few = same

module _ (start : Start) (old new : Taking) (read : List (Result SaidLine Why)) (said : SaidLine) (told : List Found) (are : AreTaken start old read told)
    (room : old.taken + old.numbering.more + length old.numbering.above.items < 18446744073709551614) (notes : NotesLine old.watch.from old new said.line) where
  abbrev more : List (Result SaidLine Why)
  more = read ++ Ok said ∷ []

  abbrev come : ℕ
  come = length (lines_before start read) + length (lines_since start read)

  abbrev early : List CountedLine
  early = early_lines start read old.settlings.at

  abbrev ahead : List CountedLine
  ahead = ahead_lines start read

  abbrev early_it : CountedLine
  early_it = counted_line notes.its_line (old.watch.from - began said.line) new.counts.early

  abbrev ahead_it : CountedLine
  ahead_it = counted_line notes.its_line (ahead_of old.clocks said.line) new.counts.ahead

  few : length read + 1 < 2 ^ 64 - 1
  few = few_read start old read told are room

  early_few : length early ≤ length read
  early_few = since_early start read old.settlings.at

  ahead_few : length ahead ≤ length read
  ahead_few = since_ahead start read

  -- the lines that came early are one more, or none
  early_are : early_lines start more new.settlings.at ≡ early ++ odd_line early_it.line early_it.by (length early + 1)
  early_are =
      let number = line_number start old new read said told are room notes in
      ap (λ (settlings : Settlings). early_lines start more settlings.at) notes.settlings
      ∙ (early_push start read old.settlings.at said are.few are.settled_at.within
      ∙ (ap (λ n. early ++ odd_line n (told_when start (lines_before start read) (lines_since start read) old.settlings.at come - began said.line) (length early + 1))
      (let same : start.kept.more + length read + 1 ≡ notes.its_line = sym number in same)
      ∙ ap (λ n. early ++ odd_line notes.its_line (n - began said.line) (length early + 1)) (sym are.settled_at.from)))

  -- and so are those of which others are ahead
  ahead_are : ahead_lines start more ≡ ahead ++ odd_line ahead_it.line ahead_it.by (length ahead + 1)
  ahead_are =
      let above = lines_before start read in
      let since = lines_since start read in
      let number = line_number start old new read said told are room notes in
      ahead_push start read said are.few
      ∙ (ap (λ n. ahead ++ odd_line n (ahead_by start.clocks start.behind (ahead_end start.clocks start.behind above since) (above ++ since) said.line) (length ahead + 1)) (sym number)
      ∙ ap (λ n. ahead ++ odd_line notes.its_line n (length ahead + 1))
      (sym (ahead_is start.clocks start.behind (ahead_end start.clocks start.behind above since) old.clocks (above ++ since) said.line are.reach.heard are.reach.behind_is are.reach.ahead_to)))

  early_count : new.counts.early ≡ (if nat_lt 0 early_it.by then length early + 1 else length early)
  early_count =
      notes.came.early ∙ (ap (λ b. one_more b old.counts.early) (some_time (began said.line) old.watch.from)
      ∙ one_if (nat_lt 0 early_it.by) old.counts.early (length early) are.came.count (omega (arith, few, early_few)))

  ahead_count : new.counts.ahead ≡ (if nat_lt 0 ahead_it.by then length ahead + 1 else length ahead)
  ahead_count = notes.ahead ∙ one_if (nat_lt 0 ahead_it.by) old.counts.ahead (length ahead) are.ahead (omega (arith, few, ahead_few))

  pub early_more : AreEarlyIn start more new.settlings.at new.counts
  early_more = record {
    count = early_count ∙ (sym (odd_count early early_it.line early_it.by (length early + 1)) ∙ sym (ap length early_are));
    few = (let was = are.came.few in let least = are.came.count in let early = notes.came.early in let judged = notes.came.judged in let low = early_few in let room = few in
        let le = fewer (nat_lt (began said.line) old.watch.from) notes.judged old.counts.early old.counts.judged was (omega (arith, least, low, room)) in omega (arith, le, early, judged));
    last_is = notes.came.last
        ∙ (ap (λ b. if b then Some notes.its_line else old.counts.last_early) (some_time (began said.line) old.watch.from)
        ∙ (ap (λ last. if nat_lt 0 early_it.by then Some notes.its_line else last) are.came.last_is
        ∙ (sym (last_push None early early_it.line early_it.by (length early + 1)) ∙ sym (ap (last_line None) early_are))));
  }

  pub ahead_more : new.counts.ahead ≡ length (ahead_lines start more)
  ahead_more = ahead_count ∙ (sym (odd_count ahead ahead_it.line ahead_it.by (length ahead + 1)) ∙ sym (ap length ahead_are))

  pub noted_more : (warned : List ℕ) → HasWarned start old read warned → HasWarned start new more warned
  noted_more warned (warnings, were, texts) =
      let first = warnings ++ said_if (is_said early_it) (Early early_it) in
      let all = first ++ said_if (is_said ahead_it) (Ahead ahead_it) in
      let front = start.kept.more + start.lines + 1 in
      let text = warned ++ string_bytes old.warnings in (
        all,
        record {
          refused = kind_beside as_refused first (is_said ahead_it) (Ahead ahead_it) refl
              ∙ (kind_beside as_refused warnings (is_said early_it) (Early early_it) refl
              ∙ (were.refused ∙ (sym (all_same front (drop start.lines read) said) ∙ ap (all_refused front) (sym (drop_on start.lines read (Ok said ∷ []) are.few)))));
          early_are = kind_beside as_early first (is_said ahead_it) (Ahead ahead_it) refl
              ∙ (kind_on as_early warnings early early_it (Early early_it) refl were.early_are
              (λ some. early_count ∙ ap (λ b. if b then length early + 1 else length early) some) ∙ ap doubled (sym early_are));
          ahead_are = kind_on as_ahead first ahead ahead_it (Ahead ahead_it) refl (kind_beside as_ahead warnings (is_said early_it) (Early early_it) refl ∙ were.ahead_are)
              (λ some. ahead_count ∙ ap (λ b. if b then length ahead + 1 else length ahead) some) ∙ ap doubled (sym ahead_are);
        },
        ap (λ part. warned ++ part) notes.warned
            ∙ (sym (append_assoc warned (string_bytes old.warnings ++ doubled_text early_it (Early early_it)) (doubled_text ahead_it (Ahead ahead_it)))
            ∙ (ap (λ part. part ++ doubled_text ahead_it (Ahead ahead_it)) (sym (append_assoc warned (string_bytes old.warnings) (doubled_text early_it (Early early_it))))
            ∙ text_on first ahead_it (Ahead ahead_it) (text ++ doubled_text early_it (Early early_it)) (text_on warnings early_it (Early early_it) text texts))),
      )

-- ---- a line more that is left out

pub left_more : (start : Start) (old : Taking) (read : List (Result SaidLine Why)) (why : Why) (warned warnings : List ℕ) (error : ReadError) → start.lines ≤ length read
    → error ≡ record { line = start.kept.more + 1 + length read; why = why }
    → warnings ≡ string_bytes old.warnings ++ warning_line (Refused error)
    → HasWarned start old read warned → IsSaid start (read ++ Err why ∷ []) old.settlings.at (warned ++ warnings)
left_more start old read why warned warnings error less is text (list, were, texts) =
    let front = start.kept.more + start.lines + 1 in
    let since = drop start.lines read in
    let warning = Refused error in
    let here : start.kept.more + 1 + length read ≡ front + length since = (let size = length-drop start.lines read in omega (arith, size, less)) in (
      list ++ warning ∷ [],
      record {
        refused = sym (kind_more as_refused list warning error refl)
            ∙ (ap (λ list. list ++ error ∷ []) were.refused
            ∙ (ap (λ it. all_refused front since ++ it ∷ []) (is ∙ ap (λ n. let it : ReadError = record { line = n; why = why } in it) here)
            ∙ (sym (all_more front since why) ∙ ap (all_refused front) (sym (drop_on start.lines read (Err why ∷ []) less)))));
        early_are = sym (kind_same as_early list warning refl) ∙ (were.early_are ∙ ap doubled (sym (since_left start read (λ above since. early_by start above since old.settlings.at) why less)));
        ahead_are = sym (kind_same as_ahead list warning refl) ∙ (were.ahead_are ∙ ap doubled (sym (since_left start read (ahead_then start) why less)));
      },
      ap (λ part. warned ++ part) text ∙ (sym (append_assoc warned (string_bytes old.warnings) (warning_line warning)) ∙ texts_more list warning (warned ++ string_bytes old.warnings) texts),
    )

-- ---- no line, and where it settles

pub none_odd : (by : (above since : List Line) → ℕ → Line → ℕ) (start : Start) (read : List (Result SaidLine Why)) → drop start.lines read ≡ [] → odd_since by start read ≡ []
none_odd by start read none =
    let above = lines_before start read in ap (odd_lines (by above (lines_since start read)) (start.kept.more + start.lines + 1) (length above) []) none

-- nothing is said of no lines
pub none_said : (start : Start) (read : List (Result SaidLine Why)) (settled text : List ℕ) → drop start.lines read ≡ [] → text ≡ [] → IsSaid start read settled text
none_said start read settled text none empty = (
  [],
  record {
    refused = ap (all_refused (start.kept.more + start.lines + 1)) (sym none);
    early_are = ap doubled (sym (none_odd (λ above since. early_by start above since settled) start read none));
    ahead_are = ap doubled (sym (none_odd (ahead_then start) start read none));
  },
  empty,
)

-- and none came early, or has others ahead
pub none_early : (start : Start) (read : List (Result SaidLine Why)) (settled : List ℕ) (counts : Counts) → drop start.lines read ≡ [] → counts.early ≡ 0 → counts.judged ≡ 0 → counts.last_early ≡ None
    → AreEarlyIn start read settled counts
none_early start read settled counts none early judged last =
    let those = none_odd (λ above since. early_by start above since settled) start read none in
    record {
      count = early ∙ sym (ap length those);
      few = omega (arith, early, judged);
      last_is = last ∙ sym (ap (last_line None) those);
    }

pub none_ahead : (start : Start) (read : List (Result SaidLine Why)) (count : ℕ) → drop start.lines read ≡ [] → count ≡ 0 → count ≡ length (ahead_lines start read)
none_ahead start read count none is = is ∙ sym (ap length (none_odd (ahead_then start) start read none))

-- what was said stays so once it has settled
pub said_settled : (start : Start) (old new : Taking) (read : List (Result SaidLine Why)) (told : List Found) (warned : List ℕ) → AreTaken start old read told → new.settlings.at ≡ old.taken ∷ old.settlings.at
    → new.warnings ≡ old.warnings → HasWarned start old read warned → HasWarned start new read warned
said_settled start old new read told warned are settled same (warnings, were, texts) = (
  warnings,
  record {
    refused = were.refused;
    early_are = were.early_are ∙ ap doubled (sym (ap (early_lines start read) settled ∙ early_settled start read old.settlings.at old.taken (taken_count start old read told are)));
    ahead_are = were.ahead_are;
  },
  (λ i. warned ++ string_bytes (same i)) ∙ texts,
)
