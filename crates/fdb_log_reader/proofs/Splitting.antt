-- The lines of a text, piece by piece.
use Rattle.std.proofs.Common.{◌≡◌, ℕ, ◌+◌, suc, ◌<◌, ◌==◌, nat_lt, true, false, List, [], ◌∷◌, ◌++◌, length, length-append, Err, refl, ap, sym, ◌∙◌, arith, append_assoc, if◌then◌else◌}
use Rattle.std.proofs.lemmas.Bool.Decides.{nat_tests}
use Rattle.std.proofs.lemmas.List.{append-nil}
use Rattle.std.proofs.lemmas.List.Elements.{All-append}
use Rattle.std.proofs.lemmas.List.Splits.{length-slice_split, slice_split-cons_no, slice_split_at, slice_split_none}
use Rattle.std.specs.List.{onto_first, slice_split}
use Rattle.fdb_log_reader.specs.private.{IsOneLine}
use Rattle.fdb_log_reader.specs.declared.error.Why.TheVariants.{TooLong}
use Rattle.fdb_log_reader.specs.declared.reader.LogReader.{LogReader}
use Rattle.fdb_log_reader.specs.Columns.{most_bytes}
use Rattle.fdb_log_reader.specs.Reader.{reads_on}
use Rattle.fdb_log_reader.specs.Reading.{Reading, is_line_feed, lines_in, or_refused, reading_of, with_line, with_lines, without_empty_end}

first_of : (parts : List (List ℕ)) → 0 < length parts → (first : List ℕ) × (more : List (List ℕ)) × (parts ≡ first ∷ more)
first_of [] some = absurd (omega arith)
first_of (first ∷ more) some = (first, more, refl)

-- a text always has a first part
pub parts : (text : List ℕ) → (first : List ℕ) × (more : List (List ℕ)) × (slice_split is_line_feed text ≡ first ∷ more)
parts text = let count = length-slice_split is_line_feed text in first_of (slice_split is_line_feed text) (omega arith)

-- a line and its feed come before the other lines
pub first_line : (line text : List ℕ) → IsOneLine line → lines_in (line ++ 10 ∷ text) ≡ line ∷ lines_in text
first_line line text one =
    let are = (parts text).2 in
    ap without_empty_end (slice_split_at is_line_feed line 10 text one refl)
    ∙ (ap (λ more. without_empty_end (line ∷ more)) are ∙ ap (λ more. line ∷ without_empty_end more) (sym are))

-- a last line needs no feed
pub last_line : (line : List ℕ) → IsOneLine line → 0 < length line → lines_in (line ++ []) ≡ line ∷ []
last_line line one some =
    let is : (length line == 0) ≡ false = grind (arith, nat_tests) in
    ap lines_in (append-nil line)
    ∙ (ap without_empty_end (slice_split_none is_line_feed line one) ∙ ap (λ b. if b then [] else line ∷ []) is)

-- a reader's line that ends is read, and then what comes after it
pub ends_line : (reader : LogReader) (text : List ℕ)
    → reads_on reader (10 ∷ text) ≡ or_refused (length (reading_of reader.named).log.lines + 1) (with_line (reading_of reader.named) reader.front.items) (λ more. with_lines more (lines_in text))
ends_line reader text = ap (with_lines (reading_of reader.named)) (first_line reader.front.items text reader.one_line)

-- a whole line is read where it lies, and then what comes after it
pub whole_line : (reader : LogReader) (line text : List ℕ) → reader.front.items ≡ [] → IsOneLine line
    → reads_on reader (line ++ 10 ∷ text) ≡ or_refused (length (reading_of reader.named).log.lines + 1) (with_line (reading_of reader.named) line) (λ more. with_lines more (lines_in text))
whole_line reader line text none one =
    ap (λ front. with_lines (reading_of reader.named) (lines_in (front ++ (line ++ 10 ∷ text)))) none
    ∙ ap (with_lines (reading_of reader.named)) (first_line line text one)

-- a text that ends within a line may end behind that line's feed
pub fed_last : (reader : LogReader) → 0 < length reader.front.items → reads_on reader [] ≡ reads_on reader (10 ∷ [])
fed_last reader some =
    ap (with_lines (reading_of reader.named)) (last_line reader.front.items reader.one_line some) ∙ sym (ends_line reader [])

-- what a reader that was fed some bytes is to read on with, up to the end of a line
pub goes_on : (fed now : LogReader) (bytes rest line after : List ℕ) → ((text : List ℕ) → reads_on fed (bytes ++ text) ≡ reads_on now (rest ++ text))
    → rest ≡ line ++ 10 ∷ after → (text : List ℕ) → reads_on fed (bytes ++ text) ≡ reads_on now (line ++ 10 ∷ (after ++ text))
goes_on fed now bytes rest line after on is text = on text ∙ ap (reads_on now) (ap (λ r. r ++ text) is ∙ append_assoc line (10 ∷ after) text)

-- ---- a line that gets too long

-- what is put before a text without a line feed is put before its first part
pub front_stays : (front text : List ℕ) → IsOneLine front → slice_split is_line_feed (front ++ text) ≡ (front ++ (parts text).0) ∷ (parts text).1
front_stays [] text one = (parts text).2
front_stays (b ∷ front) text one =
    slice_split-cons_no is_line_feed b (front ++ text) (one 0 b (omega arith)) ∙ ap (onto_first b) (front_stays front text (λ k d lt. one (suc k) d (omega arith)))

long_first : (reading : Reading) (line : List ℕ) (more : List (List ℕ)) → most_bytes reading.numbers < length line
    → with_lines reading (without_empty_end (line ∷ more)) ≡ Err (record { line = length reading.log.lines + 1; why = TooLong })
long_first reading line [] long =
    let some : (length line == 0) ≡ false = grind (arith, nat_tests) in
    let is : nat_lt (most_bytes reading.numbers) (length line) ≡ true = grind (arith, nat_tests) in
    rw (some, is)
long_first reading line (next ∷ more) long =
    let is : nat_lt (most_bytes reading.numbers) (length line) ≡ true = grind (arith, nat_tests) in
    rw is

-- a line that is too long is refused before it has ended
pub too_long : (reader : LogReader) (more text : List ℕ) → IsOneLine more → most_bytes (reading_of reader.named).numbers < length reader.front.items + length more
    → reads_on reader (more ++ text) ≡ Err (record { line = length (reading_of reader.named).log.lines + 1; why = TooLong })
too_long reader more text one long =
    let front = reader.front.items ++ more in
    let first = (parts text).0 in
    let stays = front_stays front text (All-append (λ byte. is_line_feed byte ≡ false) reader.front.items more reader.one_line one) in
    let lengths = length-append front first in
    let whole = length-append reader.front.items more in
    ap (λ bytes. with_lines (reading_of reader.named) (lines_in bytes)) (sym (append_assoc reader.front.items more text))
    ∙ (ap (λ parts. with_lines (reading_of reader.named) (without_empty_end parts)) stays ∙ long_first (reading_of reader.named) (front ++ first) (parts text).1 (omega arith))
