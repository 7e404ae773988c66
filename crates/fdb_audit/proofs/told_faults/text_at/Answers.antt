use Rattle.std.proofs.Common.{◌≡◌, ◌∙◌, ◌<◌, ℕ, zero, suc, List, [], ◌∷◌, Option, Some, ap, arith, get_or, length, map, option_map, slice_get, sym}
use Rattle.std.proofs.lemmas.Option.{slice_get-map}
use Rattle.std.specs.Option.{option_flatten}
use Rattle.std.specs.Slice.{IsGetResult}
use Rattle.fdb_log_reader.specs.Columns.{text_at}
use Rattle.fdb_audit.specs.Text.{Beside}
use Rattle.fdb_audit.specs.declared.members.Column.{Column}
use Rattle.fdb_audit.specs.private.{beside_of}
use Rattle.fdb_audit.proofs.told_faults.text_at.Goals as goal

pub returns : goal.returns
returns c =
    let columns = c.args.printer.beside.now in
    let member = c.args.member in
    let text : Beside → Option (List ℕ) = λ it. text_at it.texts it.numbers c.args.found.place in
    let is : IsGetResult columns member member (Some c.in_ok-get.field-0) = c.in_ok-get.ensures.lookup in
    let at : slice_get columns member ≡ Some c.in_ok-get.field-0.now = at_place columns member c.in_ok-get.field-0.now is.3.0 (sym is.1) in
    c.text.ensures
    ∙ sym (ap option_flatten (slice_get-map text (map beside_of columns) member
    ∙ (ap (option_map text) (slice_get-map beside_of columns member) ∙ ap (λ (column : Option Column). option_map text (option_map beside_of column)) at)))
  where
    at_place : {X : Type 0} (xs : List X) (k : ℕ) (x : X) → k < length xs → get_or xs k x ≡ x → slice_get xs k ≡ Some x
    at_place [] k x lt is = absurd (omega (arith, lt))
    at_place (y ∷ xs) zero x lt is = ap (λ it. Some it) is
    at_place (y ∷ xs) (suc k) x lt is = at_place xs k x (omega (arith, lt)) is
