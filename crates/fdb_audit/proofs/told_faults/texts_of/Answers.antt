use Rattle.std.proofs.Common.{◌≡◌, ◌∙◌, ◌+◌, ◌++◌, ◌∷◌, [], ap, arith, inl, inr, length, slice_index_or, string_bytes, subst, sym, take}
use Rattle.std.proofs.lemmas.Bool.{cases_lt}
use Rattle.std.proofs.lemmas.List.{get_or_append_left, get_or_push, length_push, map_more, map_push}
use Rattle.fdb_audit.specs.declared.members.Column.{Column}
use Rattle.fdb_audit.specs.ToldFaults.{text_of}
use Rattle.fdb_audit.specs.declared.told_faults.TextGroups.{TextGroups}
use Rattle.fdb_audit.specs.private.{members_of}
use Rattle.fdb_audit.specs.Tallied.{HasTexts, HasTextsIn}
use Rattle.fdb_audit.proofs.told_faults.texts_of.Goals as goal

pub loop-column-preserved : goal.loop-column-preserved
loop-column-preserved c =
    let sofar = c.loop-column.invariant in
    let texts = c.loop-column.texts.items in
    let one = c.in_ok-new.field-0 in
    let columns = c.args.columns.now in
    let i = c.loop-column.column-index in
    let column = c.column-item.result in
    let is : slice_index_or columns i column ≡ column = sym c.column-item.is in
    let before = members_of (take i columns) in
    subst (HasTextsIn (members_of (take (i + 1) columns)) []) (sym c.in_ok-push.ensures.items) (record {
      members_are = map_push (λ (groups : TextGroups). string_bytes groups.member) texts one
          ∙ (ap (λ names. names ++ string_bytes one.member ∷ []) sofar.members_are
          ∙ (ap (λ name. before ++ name ∷ []) (c.in_ok-new.ensures.member ∙ c.deref.ensures)
          ∙ sym (map_more (λ (column : Column). string_bytes column.member) columns i column c.loop-column-test.true
          ∙ ap (λ (column : Column). before ++ string_bytes column.member ∷ []) is)));
      each = λ place other within. elim (cases_lt place (length texts)) [
        | inl old ↦ subst (HasTexts (text_of place) []) (sym (get_or_append_left texts (one ∷ []) other place old)) (sofar.each place other old)
        | inr new ↦
            let at : length texts ≡ place = (let more = length_push texts one in omega (arith, within, new, more)) in
            subst (HasTexts (text_of place) []) (sym (get_or_push texts one other place at)) (c.in_ok-new.ensures.counted (text_of place))
      ];
    })
