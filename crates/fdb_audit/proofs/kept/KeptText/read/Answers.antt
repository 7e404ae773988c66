use Rattle.std.proofs.Common.{◌≡◌, ◌∙◌, ◌++◌, ◌∷◌, [], List, MatchOption, None, Option, Result, ap, append-nil, length, map, option_map, string_bytes, subst, sym, ℕ}
use Rattle.std.proofs.lemmas.List.{length-map}
use Rattle.fdb_log_reader.specs.declared.error.Why.{Why}
use Rattle.fdb_log_reader.specs.declared.read_line.ReadLine.{ReadLine}
use Rattle.fdb_log_reader.specs.LineReader.{line_names, lines_on}
use Rattle.fdb_log_reader.specs.ReadLine.{LineNames, SaidLine, lines_read, names_behind, no_names, said_in}
use Rattle.fdb_log_reader.specs.Reading.{lines_in}
use Rattle.fdb_audit.specs.Following.{taken}
use Rattle.fdb_audit.specs.Kept.{kept_members, kept_said, named_said}
use Rattle.fdb_audit.proofs.KeptTexts.{all_read, as_many, ends_so, on_not_err}
use Rattle.fdb_audit.proofs.kept.KeptText.read.Goals as goal

none_left : (left : List (Result SaidLine Why)) (last : Option (Result ReadLine Why)) → last ≡ None
    → MatchOption last (left ≡ []) (λ read. left ≡ said_in read ∷ []) → left ≡ []
none_left left last is found = subst (λ last. MatchOption last (left ≡ []) (λ read. left ≡ said_in read ∷ [])) is found

-- the names and the lines of a text that is read whole
abbrev names : goal.After-drop-members-2 → LineNames
names c = no_names (option_map (λ key. key.now) c.args.key)

abbrev lines : goal.After-drop-members-2 → List (Result SaidLine Why)
lines c = map said_in c.in_ok-lines.lines.items

members : (c : goal.After-drop-members-2) → map string_bytes c.deref.result.now ≡ kept_members
members c = ap (map string_bytes) c.deref.ensures.value ∙ c.in_ok-members.ensures

goes : (c : goal.After-drop-members-2) (more : List ℕ) → lines_read kept_members (names c) (lines_in (c.args.text.now ++ more)) ≡ lines c ++ lines_on c.feed.new.self more
goes c more =
    let text = c.args.text.now ++ more in
    sym (c.in_ok-reader.ensures.read text ∙ ap (λ (shown : List (List ℕ)). lines_read shown (names c) (lines_in text)) (members c)) ∙ c.in_ok-lines.ensures.read more

none : (c : goal.After-drop-members-2) → lines_on c.feed.new.self [] ≡ []
none c = none_left (lines_on c.feed.new.self []) c.in_ok-finish.field-0 c.in-None.is c.in_ok-finish.ensures.read

all : (c : goal.After-drop-members-2) → lines_read kept_members (names c) (lines_in c.args.text.now) ≡ lines c
all c = all_read kept_members (names c) c.feed.new.self c.args.text.now (lines c) (goes c []) (none c)

pub returns-clause-said : goal.returns-clause-said
returns-clause-said c =
    on_not_err c.in_ok-refused.field-0 c.in_default.not-Err c.in_ok-refused.ensures [] c.new-said.ensures
    ∙ (ap (λ (items : List (Result ReadLine Why)). kept_said (taken (map said_in items))) c.deref-2.ensures.value
    ∙ ap (λ (lines : List (Result SaidLine Why)). kept_said (taken lines)) (sym (all c)))

pub returns-clause-lines : goal.returns-clause-lines
returns-clause-lines c =
    let text = c.args.text.now in
    let behind : line_names c.finish.new.self ≡ names_behind kept_members (names c) (lines_in text) =
    sym c.in_ok-finish.ensures.behind
    ∙ (sym (c.in_ok-lines.ensures.behind [])
    ∙ (c.in_ok-reader.ensures.behind (text ++ [])
    ∙ (ap (λ (shown : List (List ℕ)). names_behind shown (names c) (lines_in (text ++ []))) (members c)
    ∙ ap (λ (text : List ℕ). names_behind kept_members (names c) (lines_in text)) (append-nil text)))) in
    ap (λ (names : LineNames). map (named_said names) (taken (lines c))) behind
    ∙ ap (λ (lines : List (Result SaidLine Why)). map (named_said (names_behind kept_members (names c) (lines_in text))) (taken lines)) (sym (all c))

pub returns-clause-many : goal.returns-clause-many
returns-clause-many c =
    sym (as_many kept_members (names c) (lines_in c.args.text.now)) ∙ (ap length (all c) ∙ length-map c.in_ok-lines.lines.items said_in)

pub returns-clause-ends : goal.returns-clause-ends
returns-clause-ends c = ends_so kept_members (names c) c.feed.new.self c.args.text.now (lines c) (goes c) (c.a_space_more_is_of_one_line.ensures c.feed.new.self) (none c)
