use Rattle.std.proofs.Common.{OnOk, Err, ℕ, List, Result, option_map, ◌≡◌, ◌∙◌, ◌+◌, Ok, ap, length, map, subst, sym}
use Rattle.serde_json.specs.Find.{get}
use Rattle.serde_json.specs.View.{view}
use Rattle.fdb_lines.specs.Log.{lines_of}
use Rattle.fdb_log_reader.specs.declared.error.Why.{Why}
use Rattle.fdb_log_reader.specs.Columns.{ShownColumn, all_shown, numbers_in, shown_of}
use Rattle.fdb_log_reader.specs.Members.{and_then}
use Rattle.fdb_log_reader.specs.Reading.{Reading, reading_of, with_own_number, with_value}
use Rattle.fdb_log_reader.specs.private.{HaveCells, shows}
use Rattle.fdb_log_reader.proofs.ShownTexts.{cells_more, took}
use Rattle.fdb_log_reader.proofs.UsualForm.{numbered_read, with_number}
use Rattle.fdb_log_reader.proofs.named_log.add_value.Goals as goal

pub add_shown-requires-clause-few : goal.add_shown-requires-clause-few
add_shown-requires-clause-few c =
    let count = length (lines_of c.args.named.now.log).lines in
    (count, c.requires.few, subst (λ columns. HaveCells count (map shown_of columns)) (sym (c.deref_mut.ensures.value ∙ ap (λ shown. shown.items) c.in_ok-add_said.ensures.shown)) c.requires.has_room.1)

-- the own number leaves what has a cell for each line
on_ok : {T : Type 0} (P : Type 0) (result : Result T Why) → P → OnOk result P
on_ok P (Ok done) is = is
on_ok P (Err why) is = tt

pub returns-clause-has_room : goal.returns-clause-has_room
returns-clause-has_room c =
    let columns : map shown_of c.add_shown.new.columns ≡ all_shown (λ name. get name (view c.args.value.now)) (map shown_of c.args.named.now.shown.items) =
    c.in_ok-add_shown.ensures
    ∙ ap (λ columns. all_shown (λ name. get name (view c.args.value.now)) (map shown_of columns)) (c.deref_mut.ensures.value ∙ ap (λ shown. shown.items) c.in_ok-add_said.ensures.shown) in
    let before = lines_of c.args.named.now.log in
    let after = lines_of c.add_said.new.named.log in
    let one : length after.lines ≡ length before.lines + 1 = c.in_ok-add_said.ensures.one in
    let cells = cells_more (λ name. get name (view c.args.value.now)) (map shown_of c.args.named.now.shown.items) (length before.lines) c.requires.has_room.1 in
    let all : HaveCells (length after.lines) (map shown_of c.add_shown.new.columns) =
    subst (λ n. HaveCells n (map shown_of c.add_shown.new.columns)) (sym one) (subst (HaveCells (length before.lines + 1)) (sym columns) cells) in
    let taken = took c.add_shown.new.columns _ c.add_said.new.named.shown.len (c.add_shown.auto.columns ∙ c.deref_mut.ensures.len) in
    on_ok _ c.add_number.result (c.in_ok-add_said.ensures.has_places, subst (λ columns. HaveCells (length after.lines) (map shown_of columns)) (sym taken) all)

pub returns-clause-read : goal.returns-clause-read
returns-clause-read c =
    let columns : map shown_of c.add_shown.new.columns ≡ all_shown (λ name. get name (view c.args.value.now)) (map shown_of c.args.named.now.shown.items) =
    c.in_ok-add_shown.ensures
    ∙ ap (λ columns. all_shown (λ name. get name (view c.args.value.now)) (map shown_of columns)) (c.deref_mut.ensures.value ∙ ap (λ shown. shown.items) c.in_ok-add_said.ensures.shown) in
    let taken = took c.add_shown.new.columns _ c.add_said.new.named.shown.len (c.add_shown.auto.columns ∙ c.deref_mut.ensures.len) in
    let said = λ (name : List ℕ). get name (view c.args.value.now) in
    let before = reading_of c.args.named.now in
    let between = shows (all_shown said before.shown) (reading_of c.add_said.new.named) in
    with_number c.add_number.result between _ said (with_value before (view c.args.value.now))
    (ap (λ (read : Result Reading Why). and_then read (with_own_number said)) c.in_ok-add_said.ensures.read)
    (ap (λ (columns : List ShownColumn). numbered_read (shows columns (reading_of c.add_said.new.named)) (option_map numbers_in c.add_number.new.numbers)) (ap (map shown_of) taken ∙ columns))
    c.add_number.ensures
