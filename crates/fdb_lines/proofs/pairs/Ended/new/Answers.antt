use Rattle.std.proofs.Common.{◌≡◌, Some, length, cond, rules, arith, add-one, refl, ◌∙◌}
use Rattle.std.proofs.lemmas.List.Sorted.{sum_by-IsPermutation, IsNonDecreasingBy-from_sort_by}
use Rattle.fdb_lines.specs.declared.line.End.{End}
use Rattle.fdb_lines.specs.private.Ended.{stands_before}
use Rattle.fdb_lines.specs.private.EndTable.{end_key}
use Rattle.fdb_lines.proofs.Tallies.{item_at}
use Rattle.fdb_lines.proofs.pairs.Ended.new.Goals as goal

pub loop-place-preserved : goal.loop-place-preserved
loop-place-preserved c = λ group time place.
    let lines = c.args.lines.now in
    let at = item_at lines lines c.loop-place.place c.index-lines-place.result refl c.loop-place-test.true c.index-lines-place.is in
    rw add-one (omega (arith, rw at at (c.in_ok-add_end.ensures group time place), c.loop-place.invariant group time place))

pub invariant_of-result : goal.invariant_of-result
invariant_of-result c = record { in_order = IsNonDecreasingBy-from_sort_by end_key _ c.sort_unstable_by.ensures.sorted (λ a r f k. search rules) }

pub returns : goal.returns
returns c = λ group time place.
    let all : c.loop-place.place ≡ length c.args.lines.now = omega arith in
    sum_by-IsPermutation (λ (end : End). cond (stands_before group time place (Some end.group) (Some end.time) end.place) 1 0) _ _ c.sort_unstable_by.ensures.permutation
    ∙ rw all at (c.loop-place.invariant group time place)
