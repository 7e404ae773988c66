use Rattle.std.proofs.Common.{◌≡◌, ◌∙◌, ◌<◌, ap, arith, slice_index_or, subst, sym, ℕ, List, Option}
use Rattle.serde_json.specs.Data.{Data}
use Rattle.serde_json.specs.Find.{get}
use Rattle.serde_json.specs.View.{view}
use Rattle.fdb_log_reader.specs.Columns.{shown_of, with_shown}
use Rattle.fdb_log_reader.proofs.ShownTexts.{column_added, next_cells}
use Rattle.fdb_log_reader.proofs.columns.add_shown.Goals as goal

pub loop-column-preserved : goal.loop-column-preserved
loop-column-preserved c =
    let says : List ℕ → Option Data = λ name. get name (view c.args.line.now) in
    let item = slice_index_or c.loop-column.columns c.loop-column.column-index c.column-item.result in
    let more : shown_of c.add.new.self ≡ with_shown (shown_of item) (says (shown_of item).member) =
    c.in_ok-add.ensures.added ∙ ap (with_shown (shown_of item)) (c.get-said.ensures ∙ ap says c.member.ensures) in
    column_added says c.loop-column.columns c.args.columns.now c.loop-column.column-index c.column-item.result c.add.new.self
    (subst (λ n. c.loop-column.column-index < n) (sym c.loop-column.auto.columns) c.loop-column-test.true) c.loop-column-test.true c.loop-column.invariant more

pub add-requires-clause-few : goal.add-requires-clause-few
add-requires-clause-few c =
    let says : List ℕ → Option Data = λ name. get name (view c.args.line.now) in
    let is = next_cells says c.loop-column.columns c.args.columns.now c.loop-column.column-index c.requires.few.0 c.column-item.result
    (subst (λ n. c.loop-column.column-index < n) (sym c.loop-column.auto.columns) c.loop-column-test.true) c.loop-column-test.true c.loop-column.invariant c.requires.few.2 in
    let few = c.requires.few.1 in
    omega arith
