-- Each line of a log that is cut is of one part, which says which line of its log it is.
use Rattle.std.proofs.Common.{◌≡◌, ◌∙◌, ℕ, ◌+◌, ◌<◌, nat_le, nat_lt, Bool, true, false, List, [], ◌∷◌, length, map, Option, None, Some, option_map, Result, Ok, Err, refl, ap, sym, subst, arith, if◌then◌else◌}
use Rattle.std.specs.List.{All, range_with_len}
use Rattle.std.proofs.lemmas.List.Elements.{All-cons, All-nil}
use Rattle.serde_json.specs.Find.{get}
use Rattle.fdb_log_reader.specs.declared.part_text.Above.{Above}
use Rattle.fdb_log_reader.specs.declared.error.Why.{Why}
use Rattle.fdb_log_reader.specs.declared.error.Why.TheVariants.{TooLong, TooMany}
use Rattle.fdb_log_reader.specs.declared.part_text.KeyedLine.{KeyedLine}
use Rattle.fdb_log_reader.specs.declared.reader.TheConstants.{MAX_LINE_BYTES}
use Rattle.fdb_log_reader.specs.Members.{and_then, member_of}
use Rattle.fdb_log_reader.specs.Parts.{SaidParts, parts_said}
use Rattle.fdb_log_reader.specs.Reading.{value_of}
use Rattle.fdb_log_reader.specs.ReadLine.{unless}
use Rattle.fdb_log_reader.specs.Split.{AllPlaced, Placed, hash_of, in_front, key_of_line, key_said_in, keyed, keyed_line, greatest_line, line_placed, next_above, part_by, part_of_key, placed_lines, refusal_below, refused_below, said_alone}

-- ---- a line

-- a line is placed as what is kept of it says
record IsOne (member : List ℕ) (parts : ℕ) (above : Above) (line : List ℕ) (one : Placed) (next : Above) : Type 0 where
  its_bytes : one.bytes ≡ line
  its_line : one.line ≡ above.count + 1
  its_part : one.part ≡ part_of_key parts (key_of_line member line)
  more : next.count ≡ above.count + 1

key_kept : (above : Above) (said : Result SaidParts Why) (it : KeyedLine) → and_then said (λ parts. unless (refusal_below above parts) (keyed parts)) ≡ Ok it
    → it.hash ≡ option_map hash_of (key_said_in said)
key_kept above (Ok parts) it is = by (refusal_below above parts) is
  where
    by : (why : Option Why) → unless why (keyed parts) ≡ Ok it → it.hash ≡ option_map hash_of parts.key
    by None is = let same : keyed parts ≡ it = cc in ap (λ (it : KeyedLine). it.hash) (sym same)
    by (Some why) is = absurd (cc)
key_kept above (Err why) it is = absurd (cc)

flat : {S T U : Type 0} (said : Result S Why) (following : S → Result T Why) (last : T → Result U Why) → and_then said (λ s. and_then (following s) last) ≡ and_then (and_then said following) last
flat (Ok s) following last = refl
flat (Err why) following last = refl

one_is : (member : List ℕ) (parts : ℕ) (above : Above) (line : List ℕ) (one : Placed) (next : Above) → line_placed member parts above line ≡ Ok (one, next) → IsOne member parts above line one next
one_is member parts above line one next is = long (nat_lt MAX_LINE_BYTES (length line)) is
  where
    placed : KeyedLine → Result (Placed × Above) Why
    placed it = Ok (record { part = part_by parts it.hash; line = above.count + 1; bytes = line }, next_above above it.is_timed)

    read : (kept : Result KeyedLine Why) → keyed_line member above line ≡ kept → and_then kept placed ≡ Ok (one, next) → IsOne member parts above line one next
    read (Err why) kept is = absurd (cc)
    read (Ok it) kept is =
        let same : (record { part = part_by parts it.hash; line = above.count + 1; bytes = line }, next_above above it.is_timed) ≡ (one, next) = cc in
        let is_one = ap (λ (p : Placed × Above). p.0) (sym same) in
        let key = key_kept above (said_alone member line) it (sym (flat (value_of line) (λ value. parts_said [] (Some member) (member_of value) (λ name. get name value)) (λ parts. unless (refusal_below above parts) (keyed parts))) ∙ kept) in
        record {
          its_bytes = ap (λ (p : Placed). p.bytes) is_one;
          its_line = ap (λ (p : Placed). p.line) is_one;
          its_part = ap (λ (p : Placed). p.part) is_one ∙ ap (part_by parts) key;
          more = ap (λ (p : Placed × Above). p.1.count) (sym same);
        }

    many : (b : Bool) → (if b then Err TooMany else and_then (keyed_line member above line) placed) ≡ Ok (one, next) → IsOne member parts above line one next
    many true is = absurd (cc)
    many false is = read (keyed_line member above line) refl is

    long : (b : Bool) → (if b then Err TooLong else (if nat_le greatest_line above.count then Err TooMany else and_then (keyed_line member above line) placed)) ≡ Ok (one, next)
        → IsOne member parts above line one next
    long true is = absurd (cc)
    long false is = many (nat_le greatest_line above.count) is

-- ---- all lines

-- the first of some lines, and the others
record AreSplit (member : List ℕ) (parts : ℕ) (above after : Above) (line : List ℕ) (lines : List (List ℕ)) (placed : List Placed) : Type 0 where
  one : Placed
  next : Above
  rest : List Placed
  first : IsOne member parts above line one next
  others : placed_lines member parts next lines ≡ Ok (rest, after)
  all : placed ≡ one ∷ rest

split_first : (member : List ℕ) (parts : ℕ) (above after : Above) (line : List ℕ) (lines : List (List ℕ)) (placed : List Placed)
    → placed_lines member parts above (line ∷ lines) ≡ Ok (placed, after) → AreSplit member parts above after line lines placed
split_first member parts above after line lines placed is = read (line_placed member parts above line) refl is
  where
    more : (it : Placed × Above) (read : AllPlaced) → line_placed member parts above line ≡ Ok it → placed_lines member parts it.1 lines ≡ read
        → in_front (it.0 ∷ []) read ≡ Ok (placed, after) → AreSplit member parts above after line lines placed
    more it (Err error) was others is = absurd (cc)
    more it (Ok rest) was others is =
        let same : (it.0 ∷ rest.0, rest.1) ≡ (placed, after) = cc in record {
          one = it.0;
          next = it.1;
          rest = rest.0;
          first = one_is member parts above line it.0 it.1 was;
          others = others ∙ ap (λ (last : Above). let all : AllPlaced = Ok (rest.0, last) in all) (ap (λ (p : List Placed × Above). p.1) same);
          all = ap (λ (p : List Placed × Above). p.0) (sym same);
        }

    read : (it : Result (Placed × Above) Why) → line_placed member parts above line ≡ it
        → refused_below above it (λ it. in_front (it.0 ∷ []) (placed_lines member parts it.1 lines)) ≡ Ok (placed, after) → AreSplit member parts above after line lines placed
    read (Err why) was is = absurd (cc)
    read (Ok it) was is = more it (placed_lines member parts it.1 lines) was refl is

none_placed : (above after : Above) (placed : List Placed) → (let none : AllPlaced = Ok ([], above) in none) ≡ Ok (placed, after) → placed ≡ []
none_placed above after placed is = let same : ([], above) ≡ (placed, after) = cc in ap (λ (p : List Placed × Above). p.0) (sym same)

pub each_bytes : (member : List ℕ) (parts : ℕ) (above after : Above) (lines : List (List ℕ)) (placed : List Placed) → placed_lines member parts above lines ≡ Ok (placed, after)
    → map (λ (it : Placed). it.bytes) placed ≡ lines
each_bytes member parts above after [] placed is = ap (map (λ (it : Placed). it.bytes)) (none_placed above after placed is)
each_bytes member parts above after (line ∷ lines) placed is =
    let split = split_first member parts above after line lines placed is in
    ap (map (λ (it : Placed). it.bytes)) split.all ∙ (λ i. split.first.its_bytes i ∷ each_bytes member parts split.next after lines split.rest split.others i)

pub each_line : (member : List ℕ) (parts : ℕ) (above after : Above) (lines : List (List ℕ)) (placed : List Placed) → placed_lines member parts above lines ≡ Ok (placed, after)
    → map (λ (it : Placed). it.line) placed ≡ range_with_len (above.count + 1) (length lines)
each_line member parts above after [] placed is = ap (map (λ (it : Placed). it.line)) (none_placed above after placed is)
each_line member parts above after (line ∷ lines) placed is =
    let split = split_first member parts above after line lines placed is in
    ap (map (λ (it : Placed). it.line)) split.all
    ∙ (λ i. split.first.its_line i ∷ (each_line member parts split.next after lines split.rest split.others ∙ ap (λ n. range_with_len (n + 1) (length lines)) split.first.more) i)

below_parts : (parts : ℕ) (hash : Option ℕ) → 0 < parts → part_by parts hash < parts
below_parts parts None some = some
below_parts parts (Some hash) some = omega arith

pub in_parts : (member : List ℕ) (parts : ℕ) (above after : Above) (lines : List (List ℕ)) (placed : List Placed) → 0 < parts → placed_lines member parts above lines ≡ Ok (placed, after)
    → All (λ (it : Placed). it.part < parts) placed
in_parts member parts above after [] placed some is =
    subst (All (λ (it : Placed). it.part < parts)) (sym (none_placed above after placed is)) (All-nil (λ (it : Placed). it.part < parts))
in_parts member parts above after (line ∷ lines) placed some is =
    let split = split_first member parts above after line lines placed is in
    let below = below_parts parts (option_map hash_of (key_of_line member line)) some in
    subst (All (λ (it : Placed). it.part < parts)) (sym split.all)
    (All-cons (λ (it : Placed). it.part < parts) split.one split.rest (subst (λ n. n < parts) (sym split.first.its_part) below) (in_parts member parts split.next after lines split.rest some split.others))

pub of_keys : (member : List ℕ) (parts : ℕ) (above after : Above) (lines : List (List ℕ)) (placed : List Placed) → placed_lines member parts above lines ≡ Ok (placed, after)
    → All (λ (it : Placed). it.part ≡ part_of_key parts (key_of_line member it.bytes)) placed
of_keys member parts above after [] placed is =
    subst (All (λ (it : Placed). it.part ≡ part_of_key parts (key_of_line member it.bytes))) (sym (none_placed above after placed is))
    (All-nil (λ (it : Placed). it.part ≡ part_of_key parts (key_of_line member it.bytes)))
of_keys member parts above after (line ∷ lines) placed is =
    let split = split_first member parts above after line lines placed is in
    subst (All (λ (it : Placed). it.part ≡ part_of_key parts (key_of_line member it.bytes))) (sym split.all)
    (All-cons (λ (it : Placed). it.part ≡ part_of_key parts (key_of_line member it.bytes)) split.one split.rest
    (split.first.its_part ∙ ap (λ (l : List ℕ). part_of_key parts (key_of_line member l)) (sym split.first.its_bytes)) (of_keys member parts split.next after lines split.rest split.others))
