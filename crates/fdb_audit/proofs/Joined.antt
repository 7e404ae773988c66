-- The faults of the parts of a log, by their lines.
use Rattle.std.proofs.Common.{◌≡◌, ◌∙◌, ℕ, zero, suc, ◌<◌, ◌==◌, Bool, true, false, cond, nat_lt, List, [], ◌∷◌, ◌++◌, All, IsPermutation, Option, None, Some, IfSome, IsSomeAnd, append-nil, append_assoc, ap, arith, inl, inr, length, length-append, ltb-true, map, refl, subst, sym, take, Ok}
use Rattle.std.specs.List.{flat_map}
use Rattle.std.specs.Prelude.{option_and_then, slice_get, slice_index, slice_index_or}
use Rattle.std.proofs.lemmas.Bool.{cases_lt}
use Rattle.std.proofs.lemmas.Bool.Decides.{nat_tests}
use Rattle.std.proofs.lemmas.List.{get_or-map, get_or_append_left, get_or_push, length-map, map-append}
use Rattle.std.proofs.lemmas.List.Elements.{All-append}
use Rattle.std.proofs.lemmas.List.Sorted.{IsPermutation-map}
use Rattle.fdb_lines.specs.declared.fault.Found.{Found}
use Rattle.fdb_lines.specs.declared.line.Line.{Line}
use Rattle.fdb_lines.specs.declared.log.AuditOpts.{AuditOpts}
use Rattle.fdb_lines.specs.Carried.{places_where}
use Rattle.fdb_lines.specs.Divided.{LearnsNothing, faults_apart, faults_by_part, places_in}
use Rattle.fdb_lines.specs.Judged.{faults_in}
use Rattle.fdb_lines.specs.Keys.{faults_at_by_key, faults_below_by_key, faults_by_key, key_at, placed_found, told_at}
use Rattle.fdb_lines.specs.Lines.{Lines, has_times, is_learn, kind_of, line_at, lines_in, nobody, part_of}
use Rattle.fdb_lines.specs.Renumbered.{AreNamedApart, AreSameButForNumbers, HaveSameCalls, SayTheSame}
use Rattle.fdb_lines.specs.StandByKey.{keys_in}
use Rattle.fdb_log_reader.specs.ByKey.{IsReadByKey}
use Rattle.fdb_log_reader.specs.Columns.{KeyColumn}
use Rattle.fdb_log_reader.specs.Named.{HaveOneNumber, Named, StandOnce, key_named, named}
use Rattle.fdb_log_reader.specs.ReadLine.{LineNames, MemberNames}
use Rattle.fdb_log_reader.specs.Reading.{Reading, reading_with}
use Rattle.fdb_audit.specs.declared.printer.LogFault.{LogFault}
use Rattle.fdb_audit.specs.Joined.{ArePartsOf, IsPartIfAny, IsPartOf, WasReadByKey, faults_by_number, faults_of_part, key_names, named_line, names_read, places_of_part}
use Rattle.fdb_audit.specs.Judged.{keys_of_lines, own_numbers}
use Rattle.fdb_audit.specs.Text.{fault_of, printed_line}
use Rattle.fdb_audit.proofs.SameBut.{DifferInNumbers, apart, client_as, key_as, keys_apart, naming_of}

-- ---- what lines say by names

-- each line has numbers of names
abbrev pub AreWithin : LineNames → List Line → List (Option ℕ) → Type 0
AreWithin names lines keys = (k : ℕ) → k < length lines
    → IfSome (line_at lines k).client (λ client. client < length names.clients) × IfSome (key_at keys k) (λ key. IsSomeAnd names.keys (λ keys. key < length keys.names))

pub are_apart : (names : LineNames) (lines : List Line) (keys : List (Option ℕ)) → HaveOneNumber names → AreWithin names lines keys → AreNamedApart (naming_of names) lines keys
are_apart names lines keys once within = record {
  clients = λ j k lj lk same.
      apart names.clients once.clients (line_at lines j).client (line_at lines k).client (within j lj).0 (within k lk).0
      (client_as names (line_at lines j).client (within j lj).0 ∙ (same ∙ sym (client_as names (line_at lines k).client (within k lk).0)));
  keys_too = λ j k lj lk same.
      keys_apart names.keys once.keys (key_at keys j) (key_at keys k) (within j lj).1 (within k lk).1
      (key_as names.keys (key_at keys j) (within j lj).1 ∙ (same ∙ sym (key_as names.keys (key_at keys k) (within k lk).1)));
}

-- lines that say the same by names are the same but for numbers
pub same_lines : DifferInNumbers → (names others : LineNames) (lines their_lines : List Line) (keys their_keys : List (Option ℕ)) → HaveOneNumber names → HaveOneNumber others
    → AreWithin names lines keys → AreWithin others their_lines their_keys → length lines ≡ length their_lines → length keys ≡ length lines → length their_keys ≡ length their_lines
    → ((k : ℕ) → k < length lines → named names (line_at lines k) (key_at keys k) ≡ named others (line_at their_lines k) (key_at their_keys k))
    → AreSameButForNumbers lines keys their_lines their_keys
same_lines differ names others lines their_lines keys their_keys once once_too within within_too as_many keyed keyed_too same =
    let there = λ (k : ℕ) (lt : k < length lines). let it : k < length their_lines = omega (arith, lt, as_many) in it in
    let calls : HaveSameCalls lines keys their_lines their_keys = record {
      as_many = as_many;
      keyed = keyed;
      others_keyed = keyed_too;
      calls = λ k lt. ap (λ (one : Named). one.call) (same k lt);
      times = λ k lt. ap (λ (one : Named). one.times) (same k lt);
    } in
    let say : SayTheSame (naming_of names) (naming_of others) lines keys their_lines their_keys = record {
      calls = calls;
      clients = λ k lt. sym (client_as names (line_at lines k).client (within k lt).0)
          ∙ (ap (λ (one : Named). one.client) (same k lt) ∙ client_as others (line_at their_lines k).client (within_too k (there k lt)).0);
      keys_too = λ k lt. sym (key_as names.keys (key_at keys k) (within k lt).1)
          ∙ (ap (λ (one : Named). one.key) (same k lt) ∙ key_as others.keys (key_at their_keys k) (within_too k (there k lt)).1);
    } in
    differ (naming_of names) (naming_of others) lines their_lines keys their_keys (are_apart names lines keys once within) (are_apart others their_lines their_keys once_too within_too) say

-- ---- of what was read by key

pub once_read : (reading : Reading) (keys : KeyColumn) → IsReadByKey reading keys → HaveOneNumber (names_read reading)
once_read reading keys is = record {
  clients = is.clients_once;
  keys = subst (λ (column : Option KeyColumn). IfSome (key_names column) (λ (names : MemberNames). StandOnce names.names)) (sym is.keyed) is.keys_once;
}

key_within : (keys : KeyColumn) (key : Option ℕ) → IfSome key (λ n. n < length keys.keys) → IfSome key (λ n. IsSomeAnd (key_names (Some keys)) (λ (names : MemberNames). n < length names.names))
key_within keys None is = tt
key_within keys (Some n) is = is

pub within_read : (reading : Reading) (keys : KeyColumn) → IsReadByKey reading keys → AreWithin (names_read reading) reading.log.lines keys.numbers
within_read reading keys is k lt = (
  is.clients k nobody lt,
  subst (λ (column : Option KeyColumn). IfSome (key_at keys.numbers k) (λ n. IsSomeAnd (key_names column) (λ (names : MemberNames). n < length names.names)))
      (sym is.keyed) (key_within keys (key_at keys.numbers k) (is.keys_within k None (let cells = is.cells in omega (arith, lt, cells)))),
)

pub says_read : (reading : Reading) (keys : KeyColumn) → IsReadByKey reading keys → (k : ℕ)
    → named_line reading k ≡ named (names_read reading) (line_at reading.log.lines k) (key_at keys.numbers k)
says_read reading keys is k =
    ap (λ (column : Option KeyColumn). named (names_read reading) (line_at reading.log.lines k) (option_and_then (λ (column : KeyColumn). key_at column.numbers k) column)) is.keyed

-- the name of a key
pub key_name : (reading : Reading) (keys : KeyColumn) → IsReadByKey reading keys → (key : Option ℕ) → key_named (names_read reading) key ≡ option_and_then (slice_get keys.keys) key
key_name reading keys is key =
    ap (λ (column : Option KeyColumn). option_and_then (λ (names : MemberNames). option_and_then (slice_get names.names) key) (key_names column)) is.keyed

-- ---- the faults of a log stand at its lines

all_at : (k n : ℕ) (found : List Found) → k < n → All (λ (it : Found). it.place < n) (map (told_at k) found)
all_at k n [] lt i d within = absurd (omega (arith, within))
all_at k n (one ∷ found) lt zero d within = lt
all_at k n (one ∷ found) lt (suc i) d within = all_at k n found lt i d (omega (arith, within))

below : (log : Lines) (keys : List (Option ℕ)) (opts : AuditOpts) (n m : ℕ) → (n < suc m) → All (λ (it : Found). it.place < m) (faults_below_by_key log keys opts n)
below log keys opts zero m le = λ i d within. absurd (omega (arith, within))
below log keys opts (suc n) m le =
    All-append (λ (it : Found). it.place < m) (faults_below_by_key log keys opts n) (faults_at_by_key log keys opts n)
    (below log keys opts n m (omega (arith, le))) (all_at n m _ (omega (arith, le)))

told_as : (numbers others : List ℕ) (places : List ℕ) (found : List Found) → All (λ (it : Found). it.place < length places) found
    → ((j : ℕ) → j < length places → printed_line numbers j ≡ printed_line others (slice_index places j))
    → map (fault_of numbers) found ≡ map (fault_of others) (map (placed_found places) found)
told_as numbers others places [] within same = refl
told_as numbers others places (one ∷ found) within same =
    let here = same one.place (within 0 one (omega arith)) in
    let rest = told_as numbers others places found (λ k d lt. within (suc k) d (omega (arith, lt))) same in
    (λ i. (let it : LogFault = record { fault = one.fault; line = here i } in it) ∷ rest i)

-- ---- a part

in_order : (test : ℕ → Bool) (n j : ℕ) → j < length (places_where test n) → slice_index (places_where test n) j < n
in_order test zero j lt = absurd (omega (arith, lt))
in_order test (suc n) j lt = by (test n) (in_order test n) lt
  where
    by : (b : Bool) → ((j : ℕ) → j < length (places_where test n) → slice_index (places_where test n) j < n)
        → j < length (places_where test n ++ cond b (n ∷ []) []) → slice_index (places_where test n ++ cond b (n ∷ []) []) j < suc n
    by true old lt = elim (cases_lt j (length (places_where test n))) [
      | inl less ↦
          let under = old j less in
          subst (λ (k : ℕ). k < suc n) (sym (get_or_append_left (places_where test n) (n ∷ []) 0 j less)) (omega (arith, under))
      | inr ge ↦
          let size = length-append (places_where test n) (n ∷ []) in
          let last : length (places_where test n) ≡ j = omega (arith, lt, ge, size) in
          subst (λ (k : ℕ). k < suc n) (sym (get_or_push (places_where test n) n 0 j last)) (omega arith)
    ]
    by false old lt =
        let none = append-nil (places_where test n) in
        let less : j < length (places_where test n) = subst (λ (list : List ℕ). j < length list) none lt in
        let under = old j less in
        subst (λ (list : List ℕ). slice_index list j < suc n) (sym none) (omega (arith, under))

at_place : (lines : List Line) (places : List ℕ) (j : ℕ) → j < length places → line_at (lines_in lines places) j ≡ line_at lines (slice_index places j)
at_place lines places j lt = get_or-map (line_at lines) places j 0 nobody lt

key_at_place : (keys : List (Option ℕ)) (places : List ℕ) (j : ℕ) → j < length places → key_at (keys_in keys places) j ≡ key_at keys (slice_index places j)
key_at_place keys places j lt = get_or-map (key_at keys) places j 0 None lt

-- of the laws that this stands on: how clients and keys are numbered does not matter
abbrev pub Renumbers : Type 0
Renumbers = (log other : Lines) (keys other_keys : List (Option ℕ)) (opts : AuditOpts) → LearnsNothing log → log.timed ≡ other.timed
    → AreSameButForNumbers log.lines keys other.lines other_keys → faults_by_key log keys opts ≡ faults_by_key other other_keys opts

faults_read : (opts : AuditOpts) (reading : Reading) (keys : KeyColumn) → IsReadByKey reading keys → faults_in reading.log (keys_of_lines reading.keys) opts ≡ faults_by_key reading.log keys.numbers opts
faults_read opts reading keys is = ap (λ (column : Option KeyColumn). faults_in reading.log (keys_of_lines column) opts) is.keyed

pub one_part : DifferInNumbers → Renumbers → (opts : AuditOpts) (whole part : Reading) (keys part_keys : KeyColumn) (test : ℕ → Bool) → IsReadByKey whole keys → IsReadByKey part part_keys
    → 0 < length part.log.lines → let places = places_where test (length whole.log.lines) in IsPartOf whole part places
    → faults_by_number opts part ≡ map (fault_of (own_numbers whole.numbers)) (faults_apart whole.log keys.numbers opts places)
one_part differ renumbers opts whole part keys part_keys test of_whole of_part some is =
    let places = places_where test (length whole.log.lines) in
    let lines = lines_in whole.log.lines places in
    let their_keys = keys_in keys.numbers places in
    let size : length lines ≡ length places = length-map places (line_at whole.log.lines) in
    let key_size : length their_keys ≡ length places = length-map places (key_at keys.numbers) in
    let many = is.as_many in
    let inside = λ (j : ℕ) (lt : j < length lines). let it : j < length places = omega (arith, lt, size) in it in
    let within : AreWithin (names_read whole) lines their_keys = λ j lt.
    let at = inside j lt in
    let there = within_read whole keys of_whole (slice_index places j) (in_order test (length whole.log.lines) j at) in (
      subst (λ (line : Line). IfSome line.client (λ client. client < length (names_read whole).clients)) (sym (at_place whole.log.lines places j at)) there.0,
      subst (λ (key : Option ℕ). IfSome key (λ key. IsSomeAnd (names_read whole).keys (λ keys. key < length keys.names))) (sym (key_at_place keys.numbers places j at)) there.1,
    ) in
    let says : (j : ℕ) → j < length lines → named (names_read whole) (line_at lines j) (key_at their_keys j) ≡ named (names_read part) (line_at part.log.lines j) (key_at part_keys.numbers j) = λ j lt.
    let at = inside j lt in
    ap (λ (line : Line). named (names_read whole) line (key_at their_keys j)) (at_place whole.log.lines places j at)
    ∙ (ap (named (names_read whole) (line_at whole.log.lines (slice_index places j))) (key_at_place keys.numbers places j at)
    ∙ (sym (says_read whole keys of_whole (slice_index places j)) ∙ (sym (is.says j at) ∙ says_read part part_keys of_part j))) in
    let same : AreSameButForNumbers lines their_keys part.log.lines part_keys.numbers =
    same_lines differ (names_read whole) (names_read part) lines part.log.lines their_keys part_keys.numbers (once_read whole keys of_whole) (once_read part part_keys of_part)
    within (within_read part part_keys of_part) (size ∙ sym many) (key_size ∙ sym size) of_part.cells says in
    let first : 0 < length lines = omega (arith, some, many, size) in
    let first_there = in_order test (length whole.log.lines) 0 (inside 0 first) in
    let timed : whole.log.timed ≡ part.log.timed =
    sym (of_whole.timed (slice_index places 0) nobody first_there)
    ∙ (ap has_times (sym (at_place whole.log.lines places 0 (inside 0 first)))
    ∙ (ap (λ (one : Named). has_known one) (says 0 first) ∙ of_part.timed 0 nobody some)) in
    let learns : LearnsNothing (part_of whole.log places) = λ untimed j lt.
    let at = inside j lt in
    ap (λ (line : Line). is_learn (kind_of line.call)) (at_place whole.log.lines places j at) ∙ of_whole.learns (slice_index places j) nobody (in_order test (length whole.log.lines) j at) in
    let found : faults_by_key (part_of whole.log places) their_keys opts ≡ faults_by_key part.log part_keys.numbers opts =
    renumbers (part_of whole.log places) part.log their_keys part_keys.numbers opts learns timed same in
    let stand : All (λ (it : Found). it.place < length places) (faults_by_key part.log part_keys.numbers opts) =
    below part.log part_keys.numbers opts (length part.log.lines) (length places) (omega (arith, many)) in
    ap (map (fault_of (own_numbers part.numbers))) (faults_read opts part part_keys of_part)
    ∙ (told_as (own_numbers part.numbers) (own_numbers whole.numbers) places (faults_by_key part.log part_keys.numbers opts) stand is.own
    ∙ ap (λ (found : List Found). map (fault_of (own_numbers whole.numbers)) (map (placed_found places) found)) (sym found))
  where
    has_known : Named → Bool
    has_known one = has_times (record { client = None; call = one.call; times = one.times })

-- ---- all parts

flat_take : {X Y : Type 0} (f : X → List Y) (xs : List X) (n : ℕ) (d : X) → n < length xs → flat_map f (take (suc n) xs) ≡ flat_map f (take n xs) ++ f (slice_index_or xs n d)
flat_take f [] n d lt = absurd (omega (arith, lt))
flat_take f (x ∷ xs) zero d lt = append-nil (f x)
flat_take f (x ∷ xs) (suc n) d lt = ap (λ rest. f x ++ rest) (flat_take f xs n d (omega (arith, lt))) ∙ sym (append_assoc (f x) (flat_map f (take n xs)) (f (slice_index_or xs n d)))

take_all : {X : Type 0} (xs : List X) → take (length xs) xs ≡ xs
take_all [] = refl
take_all (x ∷ xs) = ap (λ rest. x ∷ rest) (take_all xs)

places_alike : (test other : ℕ → Bool) (n : ℕ) → ((k : ℕ) → k < n → test k ≡ other k) → places_where test n ≡ places_where other n
places_alike test other zero same = refl
places_alike test other (suc n) same =
    (λ i. places_alike test other n (λ k lt. same k (omega (arith, lt))) i ++ cond (same n (omega arith) i) (n ∷ []) [])

-- of the laws that this stands on: a log has the faults of its parts
abbrev pub Divides : Type 0
Divides = (log : Lines) (keys : List (Option ℕ)) (opts : AuditOpts) (rule : Option ℕ → ℕ) (parts : ℕ) → length keys ≡ length log.lines
    → ((key : Option ℕ) → rule key < parts) → IsPermutation (faults_by_part log keys opts rule parts) (faults_by_key log keys opts)

abbrev pub Knows : Type 0
Knows = (member : List ℕ) (shown : List (List ℕ)) (number : Option (List ℕ)) (bytes : List ℕ) (reading : Reading) → reading_with (Some member) shown number bytes ≡ Ok reading
    → (keys : KeyColumn) × IsReadByKey reading keys × (0 < length reading.log.lines)

known : Knows → (reading : Reading) → WasReadByKey reading → (keys : KeyColumn) × IsReadByKey reading keys × (0 < length reading.log.lines)
known knows reading (member, shown, number, bytes, is) = knows member shown number bytes reading is

-- a part, or none where no line is of it
one_if_any : DifferInNumbers → Renumbers → Knows → (opts : AuditOpts) (whole : Reading) (keys : KeyColumn) (test : ℕ → Bool) → IsReadByKey whole keys → (part : Option Reading)
    → IfSome part WasReadByKey → let places = places_where test (length whole.log.lines) in IsPartIfAny whole part places
    → faults_of_part opts part ≡ map (fault_of (own_numbers whole.numbers)) (faults_apart whole.log keys.numbers opts places)
one_if_any differ renumbers knows opts whole keys test of_whole None read is =
    ap (λ (places : List ℕ). map (fault_of (own_numbers whole.numbers)) (faults_apart whole.log keys.numbers opts places)) (sym is)
one_if_any differ renumbers knows opts whole keys test of_whole (Some part) read is =
    let (part_keys, of_part, some) = known knows part read in
    one_part differ renumbers opts whole part keys part_keys test of_whole of_part some is

-- of which part a key is, by its number; those that no line has are of the first
abbrev rule_of : (Option (List ℕ) → ℕ) → KeyColumn → ℕ → Option ℕ → ℕ
rule_of rule keys parts key = let part = rule (option_and_then (slice_get keys.keys) key) in cond (nat_lt part parts) part 0

in_parts : (rule : Option (List ℕ) → ℕ) (keys : KeyColumn) (parts : ℕ) → 0 < parts → (key : Option ℕ) → rule_of rule keys parts key < parts
in_parts rule keys parts some key = by (rule (option_and_then (slice_get keys.keys) key)) (nat_lt (rule (option_and_then (slice_get keys.keys) key)) parts) refl
  where
    by : (part : ℕ) (b : Bool) → nat_lt part parts ≡ b → cond b part 0 < parts
    by part true is = ltb-true part parts is
    by part false is = some

pub joined : DifferInNumbers → Renumbers → Divides → Knows → (opts : AuditOpts) (rule : Option (List ℕ) → ℕ) (whole : Reading) (parts : List (Option Reading)) → WasReadByKey whole
    → All (λ (part : Option Reading). IfSome part WasReadByKey) parts → ArePartsOf rule whole parts → IsPermutation (flat_map (faults_of_part opts) parts) (faults_by_number opts whole)
joined differ renumbers divides knows opts rule whole parts read all_read are =
    let (keys, of_whole, some) = known knows whole read in
    let count = length parts in
    let some_parts : 0 < count = (let lt = are.all 0 some in omega (arith, lt)) in
    let numbers = rule_of rule keys count in
    let tell = map (fault_of (own_numbers whole.numbers)) in
    let name_of : (k : ℕ) → (named_line whole k).key ≡ option_and_then (slice_get keys.keys) (key_at keys.numbers k) = λ k.
    ap (λ (one : Named). one.key) (says_read whole keys of_whole k) ∙ key_name whole keys of_whole (key_at keys.numbers k) in
    let same_rule : (k : ℕ) → k < length whole.log.lines → rule (named_line whole k).key ≡ numbers (key_at keys.numbers k) = λ k lt.
    let name = name_of k in
    let inside = are.all k lt in
    let is : nat_lt (rule (option_and_then (slice_get keys.keys) (key_at keys.numbers k))) count ≡ true = subst (λ (name : Option (List ℕ)). nat_lt (rule name) count ≡ true) name (grind (arith, nat_tests)) in
    ap rule name ∙ sym (ap (λ (b : Bool). cond b (rule (option_and_then (slice_get keys.keys) (key_at keys.numbers k))) 0) is) in
    let same_places : (part : ℕ) → places_of_part rule whole part ≡ places_in numbers keys.numbers part = λ part.
    places_alike _ (λ k. numbers (key_at keys.numbers k) == part) (length whole.log.lines) (λ k lt. ap (λ (n : ℕ). n == part) (same_rule k lt))
    ∙ ap (places_where (λ k. numbers (key_at keys.numbers k) == part)) (sym of_whole.cells) in
    let up_to : (n : ℕ) → n < suc count → flat_map (faults_of_part opts) (take n parts) ≡ tell (faults_by_part whole.log keys.numbers opts numbers n) = induct keys of_whole numbers same_places in
    subst (λ (found : List LogFault). IsPermutation found (faults_by_number opts whole)) (sym (up_to count (omega arith)) ∙ ap (flat_map (faults_of_part opts)) (take_all parts))
    (subst (IsPermutation (tell (faults_by_part whole.log keys.numbers opts numbers count))) (sym (ap tell (faults_read opts whole keys of_whole)))
    (IsPermutation-map (fault_of (own_numbers whole.numbers)) _ _ (divides whole.log keys.numbers opts numbers count of_whole.cells (in_parts rule keys count some_parts))))
  where
    induct : (keys : KeyColumn) → IsReadByKey whole keys → (numbers : Option ℕ → ℕ) → ((part : ℕ) → places_of_part rule whole part ≡ places_in numbers keys.numbers part)
        → (n : ℕ) → n < suc (length parts)
        → flat_map (faults_of_part opts) (take n parts) ≡ map (fault_of (own_numbers whole.numbers)) (faults_by_part whole.log keys.numbers opts numbers n)
    induct keys of_whole numbers same_places zero le = refl
    induct keys of_whole numbers same_places (suc n) le =
        let inside : n < length parts = omega (arith, le) in
        let part = slice_index_or parts n None in
        flat_take (faults_of_part opts) parts n None inside
        ∙ (ap (λ (before : List LogFault). before ++ faults_of_part opts part) (induct keys of_whole numbers same_places n (omega (arith, le)))
        ∙ (ap (λ (its : List LogFault). map (fault_of (own_numbers whole.numbers)) (faults_by_part whole.log keys.numbers opts numbers n) ++ its)
        (one_if_any differ renumbers knows opts whole keys (λ k. rule (named_line whole k).key == n) of_whole part (all_read n None inside) (are.each n inside)
        ∙ ap (λ (places : List ℕ). map (fault_of (own_numbers whole.numbers)) (faults_apart whole.log keys.numbers opts places)) (same_places n))
        ∙ sym (map-append (fault_of (own_numbers whole.numbers)) (faults_by_part whole.log keys.numbers opts numbers n) (faults_apart whole.log keys.numbers opts (places_in numbers keys.numbers n)))))
