-- What is shown of lines: texts that are added, and what their numbers say.
use Rattle.std.proofs.Common.{◌≡◌, ℕ, ◌+◌, suc, zero, ◌<◌, ◌≤◌, Bool, true, false, List, [], ◌∷◌, ◌++◌, append-nil, length, length-append, map, take, drop, slice_get, slice_index_or, slice_set, Option, None, Some, IfSome, is_some, option_and_then, if◌then◌else◌, refl, ap, sym, subst, ◌∙◌, arith, Ordering, Less, Equal, Greater}
use Rattle.std.proofs.Math.Seq.{set-append_seam, take-append_seam}
use Rattle.std.proofs.lemmas.List.{get_or-map, length-map, map-append, map-set}
use Rattle.std.proofs.lemmas.List.Quantifiers.{position-Some}
use Rattle.std.proofs.lemmas.List.Elements.{All-append}
use Rattle.std.proofs.lemmas.Option.{slice_get-get_or}
use Rattle.std.proofs.lemmas.Slice.Eq.{bytes_eq-Decides}
use Rattle.std.specs.Cmp.Lexicographic.{slice_cmp}
use Rattle.std.specs.Ordering.{match_ordering, nat_cmp}
use Rattle.std.proofs.lemmas.Bool.{false≢true}
use Rattle.std.specs.Option.{option_flatten}
use Rattle.std.specs.Str.{bytes_eq}
use Rattle.json.specs.Lex.{tokens}
use Rattle.json.specs.Print.{print}
use Rattle.json.specs.Strict.{AreDistinct}
use Rattle.serde_json.specs.Data.{Data, Members, array, boolean, depth, member, members_depth, no_members, null, number, object, string}
use Rattle.serde_json.specs.Find.{get, get_member}
use Rattle.serde_json.specs.Read.{max_depth, read}
use Rattle.serde_json.specs.Written.{compact_text, has_float}
use Rattle.fdb_log_reader.specs.Columns.{ArePrinted, IsText, ShownColumn, all_shown, nothing_shown, shown_of, text_at, value_in, with_shown}
use Rattle.fdb_log_reader.specs.Printed.{shown_text, IsWritten}
use Rattle.fdb_log_reader.specs.declared.shown.Shown.{Shown}
use Rattle.fdb_log_reader.specs.Numbers.{number_in, with_name, AreWithin, IsMore}
use Rattle.fdb_log_reader.specs.private.{HaveCells, IsFlat}
use Rattle.fdb_log_reader.proofs.Room.{few_names}
use Rattle.fdb_log_reader.specs.private.Texts.{AreJson}

pub more_names : (names more : List (List ℕ)) (name : List ℕ) → more ≡ with_name names name → IsMore names more
more_names names more name is = subst (IsMore names) (sym is) (added (is_some (number_in names name)))
  where
    added : (b : Bool) → IsMore names (if b then names else names ++ name ∷ [])
    added true = ([], sym (append-nil names))
    added false = (name ∷ [], refl)

pub few_more : (names more : List (List ℕ)) (name : List ℕ) → more ≡ with_name names name → length more ≤ length names + 1
few_more names more name is = subst (λ more. length more ≤ length names + 1) (sym is) (few_names names (Some name))

-- a place that was kept for a number is taken
pub set_last : (numbers items : List (Option ℕ)) (place : ℕ) (cell : Option ℕ) → items ≡ numbers ++ None ∷ [] → place ≡ length numbers
    → slice_set items place cell ≡ numbers ++ cell ∷ []
set_last numbers items place cell is at =
    ap (λ l. slice_set l place cell) is ∙ (ap (λ n. slice_set (numbers ++ None ∷ []) n cell) at ∙ set-append_seam numbers None [] cell)

get_more : (names new : List (List ℕ)) (n : ℕ) → n < length names → slice_get (names ++ new) n ≡ slice_get names n
get_more [] new n within = absurd (omega arith)
get_more (name ∷ names) new zero within = refl
get_more (name ∷ names) new (suc n) within = get_more names new n (omega arith)

value_more : (names more : List (List ℕ)) (cell : Option ℕ) → IsMore names more → IfSome cell (λ n. n < length names) → value_in more cell ≡ value_in names cell
value_more names more None is within = refl
value_more names more (Some n) is within = ap (option_and_then read) (ap (λ texts. slice_get texts n) is.1 ∙ get_more names is.0 n within)

values_kept : (names more : List (List ℕ)) (numbers : List (Option ℕ)) → IsMore names more → AreWithin names numbers
    → map (value_in more) numbers ≡ map (value_in names) numbers
values_kept names more [] is within = refl
values_kept names more (cell ∷ numbers) is within =
    ap (λ value. value ∷ map (value_in more) numbers) (value_more names more cell is (within 0 None (omega arith)))
    ∙ ap (λ values. value_in names cell ∷ values) (values_kept names more numbers is (λ k d lt. within (suc k) d (omega arith)))

-- what the lines say once that of one more is added
pub values_more : (names more : List (List ℕ)) (numbers : List (Option ℕ)) (cell : Option ℕ) (said : Option Data) → IsMore names more
    → AreWithin names numbers → value_in more cell ≡ said
    → map (value_in more) (numbers ++ cell ∷ []) ≡ map (value_in names) numbers ++ said ∷ []
values_more names more numbers cell said is within says =
    map-append (value_in more) numbers (cell ∷ [])
    ∙ (ap (λ values. values ++ value_in more cell ∷ []) (values_kept names more numbers is within) ∙ ap (λ value. map (value_in names) numbers ++ value ∷ []) says)

pub within_some : (names more : List (List ℕ)) (cell : Option ℕ) → IsMore names more → IfSome cell (λ n. n < length names) → IfSome cell (λ n. n < length more)
within_some names more None is within = tt
within_some names more (Some n) is within = let count = ap length is.1 ∙ length-append names is.0 in omega arith

pub within_kept : (names more : List (List ℕ)) (numbers : List (Option ℕ)) → IsMore names more → AreWithin names numbers
    → AreWithin more numbers
within_kept names more numbers is within k d lt = within_some names more (slice_index_or numbers k d) is (within k d lt)

one_number : (more : List (List ℕ)) (cell : Option ℕ) → IfSome cell (λ n. n < length more) → AreWithin more (cell ∷ [])
one_number more cell there zero d lt = there
one_number more cell there (suc k) d lt = absurd (omega arith)

pub within_more : (names more : List (List ℕ)) (numbers : List (Option ℕ)) (cell : Option ℕ) → IsMore names more
    → AreWithin names numbers → IfSome cell (λ n. n < length more) → AreWithin more (numbers ++ cell ∷ [])
within_more names more numbers cell is within there =
    All-append (λ cell. IfSome cell (λ n. n < length more)) numbers (cell ∷ []) (within_kept names more numbers is within) (one_number more cell there)

-- what the text says that has a cell
pub value_there : (texts : List (List ℕ)) (text : List ℕ) (n : ℕ) (said : Data) → number_in texts text ≡ Some n → read text ≡ Some said → value_in texts (Some n) ≡ Some said
value_there texts text n said is reads =
    let found = position-Some (bytes_eq text) texts n [] is in
    ap (option_and_then read) (slice_get-get_or texts n [] found.0 ∙ ap Some (sym ((bytes_eq-Decides text (slice_index_or texts n [])).0 found.1))) ∙ reads

one_json : (text : List ℕ) (said : Data) → read text ≡ Some said → IsWritten text said → AreJson (text ∷ [])
one_json text said reads written zero d lt = (ap is_some reads, subst (λ found. IfSome found (IsWritten text)) (sym reads) written)
one_json text said reads written (suc k) d lt = absurd (omega arith)

-- a text more that is written leaves all JSON
pub more_json : (texts more : List (List ℕ)) (text : List ℕ) (said : Data) → more ≡ with_name texts text → read text ≡ Some said
    → text ≡ print (tokens text) → (has_float said ≡ false → text ≡ compact_text said) → AreJson texts → AreJson more
more_json texts more text said is reads compact one all = subst AreJson (sym is) (added (is_some (number_in texts text)))
  where
    added : (b : Bool) → AreJson (if b then texts else texts ++ text ∷ [])
    added true = all
    added false = All-append (λ text. (is_some (read text) ≡ true) × IfSome (read text) (IsWritten text)) texts (text ∷ []) all (one_json text said reads (compact, one))

value_of : (P : Data → Type 0) (found : Option Data) → is_some found ≡ true → IfSome found P → (value : Data) × (found ≡ Some value) × P value
value_of P None is holds = absurd (false≢true is)
value_of P (Some value) is holds = (value, refl, holds)

there : (texts : List (List ℕ)) (n : ℕ) → n < length texts → AreJson texts → IsText (value_in texts (Some n)) (slice_get texts n)
there texts n within all =
    let is = slice_get-get_or texts n [] within in
    let text = slice_index_or texts n [] in
    let said = value_of (IsWritten text) (read text) (all n [] within).0 (all n [] within).1 in
    subst (λ text. IsText (option_and_then read text) text) (sym is) (said.0, said.1, said.1, said.2)

-- what a line's text says
text_says : (texts : List (List ℕ)) (cells : List (Option ℕ)) (line : ℕ) → AreJson texts → AreWithin texts cells
    → IsText (option_flatten (slice_get (map (value_in texts) cells) line)) (text_at texts cells line)
text_says texts [] line all within = refl
text_says texts (None ∷ cells) zero all within = refl
text_says texts (Some n ∷ cells) zero all within = there texts n (within 0 None (omega arith)) all
text_says texts (cell ∷ cells) (suc line) all within = text_says texts cells line all (λ k d lt. within (suc k) d (omega arith))

-- the texts as they are printed are what the lines say
pub printed_say : (texts : List (List ℕ)) (cells : List (Option ℕ)) → AreJson texts → AreDistinct texts → AreWithin texts cells
    → ArePrinted (map (value_in texts) cells) (map shown_text texts) cells
printed_say texts cells all distinct within =
    record { json = texts; printed = refl; distinct = distinct; within = within; says = λ line. text_says texts cells line all within }

-- ---- how many values a column has

-- those that a table was lent
pub took : {X : Type 0} (xs ys : List X) (n : ℕ) → length xs ≡ n → take n (xs ++ ys) ≡ xs
took xs ys n is = subst (λ n. take n (xs ++ ys) ≡ xs) is (take-append_seam xs ys)

-- members of no line
pub no_cells : (names : List (List ℕ)) → HaveCells 0 (map nothing_shown names)
no_cells [] k d within = absurd (omega arith)
no_cells (name ∷ names) zero d within = refl
no_cells (name ∷ names) (suc k) d within = no_cells names k d (omega arith)

-- a line more
pub cells_more : (says : List ℕ → Option Data) (columns : List ShownColumn) (n : ℕ) → HaveCells n columns → HaveCells (n + 1) (all_shown says columns)
cells_more says [] n all k d within = absurd (omega arith)
cells_more says (column ∷ columns) n all zero d within =
    length-append column.values (says column.member ∷ []) ∙ ap (λ n. n + 1) (all 0 column (omega arith))
cells_more says (column ∷ columns) n all (suc k) d within =
    cells_more says columns n (λ k d lt. all (suc k) d (omega arith)) k d (omega arith)

pub kept_says : (texts : List (List ℕ)) (cells : List (Option ℕ)) (line : ℕ) (text : Option (List ℕ)) → AreJson texts → AreWithin texts cells
    → text ≡ text_at texts cells line → IsText (option_flatten (slice_get (map (value_in texts) cells) line)) text
kept_says texts cells line text all within is = subst (IsText (option_flatten (slice_get (map (value_in texts) cells) line))) (sym is) (text_says texts cells line all within)

-- ---- how deep members nest

member_flat : (o : Ordering) (found : Option Data) (said : Data) (n : ℕ) → IfSome found (λ value. depth value ≤ n) → depth said ≤ n
    → IfSome (match_ordering o found (Some said) found) (λ value. depth value ≤ n)
member_flat Less found said n more one = more
member_flat Equal found said n more one = one
member_flat Greater found said n more one = more

members_flat : (name : List ℕ) (those : Members) (n : ℕ) → members_depth those ≤ n → IfSome (get_member name those) (λ value. depth value ≤ n)
members_flat name no_members n flat = tt
members_flat name (member l said those) n flat =
    member_flat (slice_cmp nat_cmp name l) (get_member name those) said n (members_flat name those n (omega arith)) (omega arith)

-- no member of a value nests deeper than it does
pub flat_value : (value : Data) → depth value ≤ max_depth → IsFlat (λ name. get name value)
flat_value null flat name = tt
flat_value (boolean _) flat name = tt
flat_value (number _) flat name = tt
flat_value (string _) flat name = tt
flat_value (array _) flat name = tt
flat_value (object those) flat name = members_flat name those max_depth (omega arith)

-- ---- columns, one after another

pub here : {X : Type 0} (more : X → X) (columns : List X) (i : ℕ) (d : X) → i < length columns → slice_index_or (map more (take i columns) ++ drop i columns) i d ≡ slice_index_or columns i d
here more [] i d within = absurd (omega arith)
here more (one ∷ columns) zero d within = refl
here more (one ∷ columns) (suc i) d within = here more columns i d (omega arith)

pub next : {X : Type 0} (more : X → X) (columns : List X) (i : ℕ) (d : X) → i < length columns
    → slice_set (map more (take i columns) ++ drop i columns) i (more (slice_index_or columns i d)) ≡ map more (take (suc i) columns) ++ drop (suc i) columns
next more [] i d within = absurd (omega arith)
next more (one ∷ columns) zero d within = refl
next more (one ∷ columns) (suc i) d within = ap (λ rest. more one ∷ rest) (next more columns i d (omega arith))

-- how many values the next column has
pub next_cells : (says : List ℕ → Option Data) (columns old : List Shown) (i n : ℕ) (d : Shown) → i < length columns → i < length old
    → map shown_of columns ≡ all_shown says (take i (map shown_of old)) ++ drop i (map shown_of old)
    → HaveCells n (map shown_of old) → length (shown_of (slice_index_or columns i d)).values ≡ n
next_cells says columns old i n d within in_old so_far all =
    let those = map shown_of old in
    let in_all : i < length those = omega (arith, length-map old shown_of) in
    ap (λ column. length column.values)
    (sym (get_or-map shown_of columns i d (shown_of d) within) ∙ (ap (λ l. slice_index_or l i (shown_of d)) so_far ∙ here (λ column. with_shown column (says column.member)) those i (shown_of d) in_all))
    ∙ all i (shown_of d) in_all

-- the columns once one more has what the line says
pub column_added : (says : List ℕ → Option Data) (columns old : List Shown) (i : ℕ) (d added : Shown) → i < length columns → i < length old
    → map shown_of columns ≡ all_shown says (take i (map shown_of old)) ++ drop i (map shown_of old)
    → shown_of added ≡ with_shown (shown_of (slice_index_or columns i d)) (says (shown_of (slice_index_or columns i d)).member)
    → map shown_of (slice_set columns i added) ≡ all_shown says (take (i + 1) (map shown_of old)) ++ drop (i + 1) (map shown_of old)
column_added says columns old i d added within in_old so_far more =
    let all = map shown_of old in
    let say : ShownColumn → ShownColumn = λ column. with_shown column (says column.member) in
    let in_all : i < length all = omega (arith, length-map old shown_of) in
    let was : shown_of (slice_index_or columns i d) ≡ slice_index_or all i (shown_of d) =
    sym (get_or-map shown_of columns i d (shown_of d) within) ∙ (ap (λ l. slice_index_or l i (shown_of d)) so_far ∙ here say all i (shown_of d) in_all) in
    let one : suc i ≡ i + 1 = omega arith in
    map-set shown_of columns i added
    ∙ (ap (λ l. slice_set l i (shown_of added)) so_far
    ∙ (ap (slice_set (map say (take i all) ++ drop i all) i) (more ∙ ap say was)
    ∙ (next say all i (shown_of d) in_all ∙ ap (λ k. map say (take k all) ++ drop k all) one)))
