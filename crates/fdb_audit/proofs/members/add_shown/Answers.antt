use Rattle.std.proofs.Common.{◌≡◌, ◌∙◌, ◌++◌, ◌∷◌, [], ap, map, append_assoc, slice_index_or, subst, sym, take}
use Rattle.std.proofs.lemmas.List.{map-append, take_more}
use Rattle.fdb_log_reader.specs.Columns.{shown_of}
use Rattle.fdb_audit.specs.Judged.{AreBeside}
use Rattle.fdb_audit.specs.private.{beside_of}
use Rattle.fdb_audit.proofs.NamedMembers.{one_beside}
use Rattle.fdb_audit.proofs.members.add_shown.Goals as goal

pub loop-column-preserved : goal.loop-column-preserved
loop-column-preserved c =
    let sofar = c.loop-column.invariant in
    let it = beside_of c.in_ok-shown_beside.field-0 in
    let columns = c.args.columns.now in
    let place = c.loop-column.column-index in
    let item = c.column-item.result in
    let is : slice_index_or columns place item ≡ item = sym c.column-item.is in
    let so_far = take place columns in
    let more = ap (map shown_of) (take_more columns place item c.loop-column-test.true ∙ ap (λ one. so_far ++ one ∷ []) is) ∙ map-append shown_of so_far (item ∷ []) in
    let beside = one_beside (map shown_of so_far) sofar.0 (shown_of item) it sofar.1 c.in_ok-shown_beside.ensures in
    let pushed = ap (map beside_of) c.in_ok-push.ensures.items ∙ (map-append beside_of c.loop-column.members.items _ ∙ ap (λ those. those ++ it ∷ []) sofar.2) in
    (sofar.0 ++ it ∷ [], subst (λ those. AreBeside those (sofar.0 ++ it ∷ [])) (sym more) beside, pushed ∙ append_assoc _ sofar.0 (it ∷ []))
