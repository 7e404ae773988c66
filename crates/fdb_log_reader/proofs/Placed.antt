-- Lines come to the parts of a log one by one, wherever its text is cut.
use Rattle.std.proofs.Common.{◌≡◌, ◌∙◌, ◌⊎◌, ℕ, ◌+◌, ◌<◌, ◌==◌, true, false, cond, get_or, nat_lt, set, List, [], ◌∷◌, ◌++◌, length, length-append, string_bytes, slice_index, slice_index_or, IfOk, MatchResult, Result, Ok, Err, refl, ap, sym, subst, inl, inr, arith, append_assoc, append-nil}
use Rattle.std.proofs.lemmas.Bool.{cases_eq}
use Rattle.std.proofs.lemmas.Bool.Decides.{nat_tests}
use Rattle.std.proofs.lemmas.List.{get_or-map, get_or-set_other, get_or-set_same, length-map, length-set, map-set}
use Rattle.std.proofs.lemmas.List.Concat.{flat_map-append}
use Rattle.std.proofs.lemmas.List.Elements.{All-append, filter-append}
use Rattle.std.specs.List.{flat_map}
use Rattle.fdb_log_reader.specs.declared.error.ReadError.{ReadError}
use Rattle.fdb_log_reader.specs.declared.error.Why.{Why}
use Rattle.fdb_log_reader.specs.declared.error.Why.TheVariants.{Memory, TooLong}
use Rattle.fdb_log_reader.specs.declared.part_text.PartText.{PartText}
use Rattle.fdb_log_reader.specs.declared.splitter.Placer.{Placer}
use Rattle.fdb_log_reader.specs.declared.reader.TheConstants.{MAX_LINE_BYTES}
use Rattle.fdb_log_reader.specs.declared.splitter.Splitter.{Splitter}
use Rattle.fdb_log_reader.specs.Reading.{is_line_feed, lines_in, without_empty_end}
use Rattle.fdb_log_reader.specs.Split.{AllPlaced, Placed, in_front, line_placed, line_below, of_part, placed_lines, placed_text, refused_below, text_of_part, with_split_line}
use Rattle.fdb_log_reader.specs.Splitter.{HasPlaced, HasPlacedAll, HaveCome, counts_in, lines_placed, placed_on, texts_in}
use Rattle.fdb_log_reader.specs.private.{IsOneLine}
use Rattle.fdb_log_reader.specs.private.Placing.{Goes, KeepsBytes, PlacesLine, PlacesOne}
use Rattle.fdb_log_reader.proofs.Splitting.{first_line, front_stays, last_line, parts}

-- ---- lines in front of lines

pub both_in_front : (first next : List Placed) (placed : AllPlaced) → in_front first (in_front next placed) ≡ in_front (first ++ next) placed
both_in_front first next (Ok more) = ap (λ (l : List Placed). let it : AllPlaced = Ok (l, more.1) in it) (sym (append_assoc first next more.0))
both_in_front first next (Err error) = refl

-- ---- what has come to parts

part_append : (part : ℕ) (one other : List Placed) → of_part part (one ++ other) ≡ of_part part one ++ of_part part other
part_append part one other = filter-append (λ (it : Placed). it.part == part) one other

text_append : (part : ℕ) (one other : List Placed) → text_of_part part (one ++ other) ≡ text_of_part part one ++ text_of_part part other
text_append part one other = ap (flat_map placed_text) (part_append part one other) ∙ flat_map-append placed_text (of_part part one) (of_part part other)

pub none_come : (parts : List PartText) → HaveCome [] parts parts
none_come parts = record {
  as_many = refl;
  texts = λ part lt. sym (append-nil (slice_index_or (texts_in parts) part []));
  counts = λ part lt. omega arith;
}

pub come_on : (placed more : List Placed) (old mid new : List PartText) → HaveCome placed old mid → HaveCome more mid new → HaveCome (placed ++ more) old new
come_on placed more old mid new first next = record {
  as_many = next.as_many ∙ first.as_many;
  texts = λ part lt.
      let inside : part < length mid = (let size = first.as_many in omega arith) in
      next.texts part inside
      ∙ (ap (λ (text : List ℕ). text ++ text_of_part part more) (first.texts part lt)
      ∙ (append_assoc (slice_index_or (texts_in old) part []) (text_of_part part placed) (text_of_part part more)
      ∙ ap (λ (text : List ℕ). slice_index_or (texts_in old) part [] ++ text) (sym (text_append part placed more))));
  counts = λ part lt.
      let inside : part < length mid = (let size = first.as_many in omega arith) in
      let sum = length-append (of_part part placed) (of_part part more) in
      let both = ap length (part_append part placed more) in
      let one = first.counts part lt in
      let two = next.counts part inside in
      omega arith;
}

pub one_come : (parts : List PartText) (part split_line : ℕ) (line : List ℕ) (was new : PartText) → part < length parts → was ≡ get_or parts part was
    → new.text.items ≡ was.text.items ++ (with_split_line line split_line ++ 10 ∷ []) → new.lines ≡ was.lines + 1
    → HaveCome (record { part = part; line = split_line; bytes = line } ∷ []) parts (set parts part new)
one_come parts part split_line line was new lt is text lines = record {
  as_many = length-set parts part new;
  texts = λ p less. elim (cases_eq p part) [
    | inl here ↦ subst (λ q. slice_index_or (texts_in (set parts part new)) q [] ≡ slice_index_or (texts_in parts) q [] ++ text_of_part q (one ∷ [])) (sym here) mine
    | inr other ↦
        let none : (part == p) ≡ false = grind (arith, nat_tests) in
        ap (λ (texts : List (List ℕ)). slice_index_or texts p []) (map-set text_in parts part new)
        ∙ (get_or-set_other (texts_in parts) part p new.text.items [] other
        ∙ (sym (append-nil (slice_index_or (texts_in parts) p []))
        ∙ ap (λ b. slice_index_or (texts_in parts) p [] ++ flat_map placed_text (cond {A = List Placed} b (one ∷ []) [])) (sym none)))
  ];
  counts = λ p less. elim (cases_eq p part) [
    | inl here ↦ subst (λ q. slice_index (counts_in (set parts part new)) q ≡ slice_index (counts_in parts) q + length (of_part q (one ∷ []))) (sym here) its
    | inr other ↦
        let none : (part == p) ≡ false = grind (arith, nat_tests) in
        let same = ap (λ (counts : List ℕ). slice_index counts p) (map-set lines_in_one parts part new) ∙ get_or-set_other (counts_in parts) part p new.lines 0 other in
        let left = ap (λ b. length (cond {A = List Placed} b (one ∷ []) [])) none in
        omega (arith, same, left)
  ];
}
  where
    one : Placed
    one = record { part = part; line = split_line; bytes = line }

    text_in : PartText → List ℕ
    text_in it = it.text.items

    lines_in_one : PartText → ℕ
    lines_in_one it = it.lines

    self : (part == part) ≡ true
    self = grind (arith, nat_tests)

    inside : part < length (texts_in parts)
    inside = omega (arith, length-map parts text_in)

    there : part < length (counts_in parts)
    there = omega (arith, length-map parts lines_in_one)

    mine : slice_index_or (texts_in (set parts part new)) part [] ≡ slice_index_or (texts_in parts) part [] ++ text_of_part part (one ∷ [])
    mine =
        ap (λ (texts : List (List ℕ)). slice_index_or texts part []) (map-set text_in parts part new)
        ∙ (get_or-set_same (texts_in parts) part new.text.items [] inside
        ∙ (text
        ∙ (ap (λ (text : List ℕ). text ++ (with_split_line line split_line ++ 10 ∷ [])) (ap text_in is ∙ sym (get_or-map text_in parts part was [] lt))
        ∙ (ap (λ (text : List ℕ). slice_index_or (texts_in parts) part [] ++ text) (sym (append-nil (placed_text one)))
        ∙ ap (λ b. slice_index_or (texts_in parts) part [] ++ flat_map placed_text (cond {A = List Placed} b (one ∷ []) [])) (sym self)))))

    its : slice_index (counts_in (set parts part new)) part ≡ slice_index (counts_in parts) part + length (of_part part (one ∷ []))
    its =
        let same = ap (λ (counts : List ℕ). slice_index counts part) (map-set lines_in_one parts part new) ∙ get_or-set_same (counts_in parts) part new.lines 0 there in
        let was_it = ap lines_in_one is ∙ sym (get_or-map lines_in_one parts part was 0 lt) in
        let added = ap (λ b. length (cond {A = List Placed} b (one ∷ []) [])) self in
        omega (arith, same, was_it, lines, added)

-- ---- a line

-- further lines are placed behind one that has come to its part
placed_behind : (old new : Placer) (line : List ℕ) (one : Placed) (lines : List (List ℕ)) → PlacesOne old line one new
    → lines_placed old (line ∷ lines) ≡ in_front (one ∷ []) (lines_placed new lines)
placed_behind old new line one lines is =
    ap (λ read. refused_below old.above read (λ it. in_front (it.0 ∷ []) (placed_lines (string_bytes old.member) (length old.parts.items) it.1 lines))) is.placed
    ∙ (λ i. in_front (one ∷ []) (placed_lines (sym is.member i) (sym is.come.as_many i) new.above lines))

refused_first : (old : Placer) (line : List ℕ) (lines : List (List ℕ)) (why : Why) → line_placed (string_bytes old.member) (length old.parts.items) old.above line ≡ Err why
    → lines_placed old (line ∷ lines) ≡ Err (record { line = line_below old.above.count; why = why })
refused_first old line lines why is =
    ap (λ read. refused_below old.above read (λ it. in_front (it.0 ∷ []) (placed_lines (string_bytes old.member) (length old.parts.items) it.1 lines))) is

-- the line that has been kept, and its feed
pub ended : (splitter : Splitter) (rest : List ℕ) → placed_on splitter (10 ∷ rest) ≡ lines_placed splitter.placer (splitter.front.items ∷ lines_in rest)
ended splitter rest = ap (lines_placed splitter.placer) (first_line splitter.front.items rest splitter.one_line)

-- a whole line, where it lies
pub whole : (splitter : Splitter) (line rest : List ℕ) → splitter.front.items ≡ [] → IsOneLine line
    → placed_on splitter (line ++ 10 ∷ rest) ≡ lines_placed splitter.placer (line ∷ lines_in rest)
whole splitter line rest none one =
    ap (λ front. lines_placed splitter.placer (lines_in (front ++ (line ++ 10 ∷ rest)))) none ∙ ap (lines_placed splitter.placer) (first_line line rest one)

-- what follows where nothing has been kept of a line
anew : (placer : Placer) (front rest : List ℕ) → front ≡ [] → lines_placed placer (lines_in (front ++ rest)) ≡ lines_placed placer (lines_in rest)
anew placer front rest none = ap (λ (front : List ℕ). lines_placed placer (lines_in (front ++ rest))) none

pub ended_placed : (old : Splitter) (placer : Placer) (front : List ℕ) (one : Placed) → PlacesOne old.placer old.front.items one placer → front ≡ []
    → (one : Placed) × ((rest : List ℕ) → placed_on old (10 ∷ rest) ≡ in_front (one ∷ []) (lines_placed placer (lines_in (front ++ rest)))) × HaveCome (one ∷ []) old.placer.parts.items placer.parts.items
ended_placed old placer front one is none = (
  one,
  λ rest. ended old rest ∙ (placed_behind old.placer placer old.front.items one (lines_in rest) is ∙ ap (in_front (one ∷ [])) (sym (anew placer front rest none))),
  is.come,
)

pub whole_placed : (old : Splitter) (placer : Placer) (front line : List ℕ) (one : Placed) → old.front.items ≡ [] → IsOneLine line → PlacesOne old.placer line one placer → front ≡ []
    → (one : Placed) × ((rest : List ℕ) → placed_on old (line ++ 10 ∷ rest) ≡ in_front (one ∷ []) (lines_placed placer (lines_in (front ++ rest)))) × HaveCome (one ∷ []) old.placer.parts.items placer.parts.items
whole_placed old placer front line one empty single is none = (
  one,
  λ rest. whole old line rest empty single ∙ (placed_behind old.placer placer line one (lines_in rest) is ∙ ap (in_front (one ∷ [])) (sym (anew placer front rest none))),
  is.come,
)

pub ended_refused : (old : Splitter) (why : Why) (error : ReadError)
    → (why ≡ Memory) ⊎ (line_placed (string_bytes old.placer.member) (length old.placer.parts.items) old.placer.above old.front.items ≡ Err why)
    → error ≡ record { line = line_below old.placer.above.count; why = why } → PlacesLine old [] (Err error)
ended_refused old why error (inl memory) is = inl (ap (λ (error : ReadError). error.why) is ∙ memory)
ended_refused old why error (inr refused) is = inr (λ rest.
    ended old rest ∙ (refused_first old.placer old.front.items (lines_in rest) why refused ∙ ap (λ (e : ReadError). let it : AllPlaced = Err e in it) (sym is)))

pub whole_refused : (old : Splitter) (line : List ℕ) (why : Why) (error : ReadError) → old.front.items ≡ [] → IsOneLine line
    → (why ≡ Memory) ⊎ (line_placed (string_bytes old.placer.member) (length old.placer.parts.items) old.placer.above line ≡ Err why)
    → error ≡ record { line = line_below old.placer.above.count; why = why } → PlacesLine old line (Err error)
whole_refused old line why error empty single (inl memory) is = inl (ap (λ (error : ReadError). error.why) is ∙ memory)
whole_refused old line why error empty single (inr refused) is = inr (λ rest.
    whole old line rest empty single ∙ (refused_first old.placer line (lines_in rest) why refused ∙ ap (λ (e : ReadError). let it : AllPlaced = Err e in it) (sym is)))

-- ---- what is kept of a line

long_first : (placer : Placer) (line : List ℕ) (more : List (List ℕ)) → MAX_LINE_BYTES < length line
    → lines_placed placer (without_empty_end (line ∷ more)) ≡ Err (record { line = line_below placer.above.count; why = TooLong })
long_first placer line [] long =
    let some : (length line == 0) ≡ false = grind (arith, nat_tests) in
    let is : nat_lt MAX_LINE_BYTES (length line) ≡ true = grind (arith, nat_tests) in
    rw (some, is)
long_first placer line (next ∷ more) long =
    let is : nat_lt MAX_LINE_BYTES (length line) ≡ true = grind (arith, nat_tests) in
    rw is

-- a line that is too long is refused before it has ended
pub too_long : (old : Splitter) (bytes rest : List ℕ) → IsOneLine bytes → MAX_LINE_BYTES < length old.front.items + length bytes
    → placed_on old (bytes ++ rest) ≡ Err (record { line = line_below old.placer.above.count; why = TooLong })
too_long old bytes rest one long =
    let front = old.front.items ++ bytes in
    let first = (parts rest).0 in
    let stays = front_stays front rest (All-append (λ byte. is_line_feed byte ≡ false) old.front.items bytes old.one_line one) in
    let lengths = length-append front first in
    let whole = length-append old.front.items bytes in
    ap (λ (text : List ℕ). lines_placed old.placer (lines_in text)) (sym (append_assoc old.front.items bytes rest))
    ∙ (ap (λ parts. lines_placed old.placer (without_empty_end parts)) stays ∙ long_first old.placer (front ++ first) (parts rest).1 (omega arith))

-- ---- some bytes

behind_line : (now : Splitter) (rest line after more : List ℕ) → rest ≡ line ++ 10 ∷ after → placed_on now (rest ++ more) ≡ placed_on now (line ++ 10 ∷ (after ++ more))
behind_line now rest line after more is = ap (placed_on now) (ap (λ (r : List ℕ). r ++ more) is ∙ append_assoc line (10 ∷ after) more)

pub goes_on : (old now new : Splitter) (bytes rest line after : List ℕ) (placed : List Placed) → Goes old bytes placed now rest → rest ≡ line ++ 10 ∷ after
    → (read : PlacesLine now line (Ok new)) → Goes old bytes (placed ++ read.0 ∷ []) new after
goes_on old now new bytes rest line after placed so is read = record {
  goes = λ more.
      so.goes more
      ∙ (ap (in_front placed) (behind_line now rest line after more is ∙ read.1 (after ++ more))
      ∙ both_in_front placed (read.0 ∷ []) (placed_on new (after ++ more)));
  come = come_on placed (read.0 ∷ []) old.placer.parts.items now.placer.parts.items new.placer.parts.items so.come read.2;
}

-- the last of them are kept
pub fed : (old now it : Splitter) (bytes rest : List ℕ) (placed : List Placed) → Goes old bytes placed now rest → KeepsBytes now rest (Ok it) → HasPlaced old bytes placed it
fed old now it bytes rest placed so kept = record {
  goes = λ more. so.goes more ∙ ap (in_front placed) (kept.0 more);
  come = subst (λ (placer : Placer). HaveCome placed old.placer.parts.items placer.parts.items) (sym kept.1) so.come;
}

-- ---- the end

-- a log that ends within a line may end behind that line's feed
fed_last : (splitter : Splitter) → 0 < length splitter.front.items → placed_on splitter [] ≡ placed_on splitter (10 ∷ [])
fed_last splitter some = ap (lines_placed splitter.placer) (last_line splitter.front.items splitter.one_line some) ∙ sym (ended splitter [])

pub all_placed : (old it : Splitter) → 0 < length old.front.items → (read : PlacesLine old [] (Ok it)) → it.front.items ≡ [] → HasPlacedAll old (read.0 ∷ []) it
all_placed old it some read none = record {
  all = fed_last old some ∙ (read.1 [] ∙ ap (in_front (read.0 ∷ [])) (anew it.placer it.front.items [] none));
  come = read.2;
}

pub last_refused : (old : Splitter) (error : ReadError) → 0 < length old.front.items → PlacesLine old [] (Err error) → (error.why ≡ Memory) ⊎ (placed_on old [] ≡ Err error)
last_refused old error some (inl memory) = inl memory
last_refused old error some (inr refused) = inr (fed_last old some ∙ refused [])

pub none_left : (splitter : Splitter) → splitter.front.items ≡ [] → HasPlacedAll splitter [] splitter
none_left splitter none = record { all = anew splitter.placer splitter.front.items [] none; come = none_come splitter.placer.parts.items }

-- ---- what a splitter answers

pub finished : (old : Splitter) (result : Result Splitter ReadError) → 0 < length old.front.items → IfOk result (λ (it : Splitter). it.front.items ≡ []) → PlacesLine old [] result
    → MatchResult result (λ it. (placed : List Placed) × HasPlacedAll old placed it) (λ error. (error.why ≡ Memory) ⊎ (placed_on old [] ≡ Err error))
finished old (Ok it) some none read = (read.0 ∷ [], all_placed old it some read none)
finished old (Err error) some none read = last_refused old error some read
