use Rattle.std.proofs.Common.{◌≡◌, ℕ, length, cond, nat_lt, arith, add-one, refl, ◌∙◌}
use Rattle.std.proofs.lemmas.List.Sorted.{sum_by-IsPermutation, IsNonDecreasingBy-from_sort}
use Rattle.fdb_lines.proofs.Tallies.{item_at}
use Rattle.fdb_lines.proofs.pairs.EndTimes.new.Goals as goal

pub loop-line-preserved : goal.loop-line-preserved
loop-line-preserved c = λ time.
    let lines = c.args.lines.now in
    let at = item_at lines lines c.loop-line.line-index c.line-item.result refl c.loop-line-test.true c.line-item.is in
    rw add-one (omega (arith, rw at at (c.in_ok-add_time.ensures time), c.loop-line.invariant time))

pub invariant_of-result : goal.invariant_of-result
invariant_of-result c = record { in_order = IsNonDecreasingBy-from_sort (λ (time : ℕ). time) _ c.sort_unstable.ensures.sorted }

pub returns : goal.returns
returns c = λ time.
    let all : c.loop-line.line-index ≡ length c.args.lines.now = (let most = c.loop-line.auto.line-index-end in let least = c.loop-line-test.false in omega arith) in
    sum_by-IsPermutation (λ (end : ℕ). cond (nat_lt end time) 1 0) _ _ c.sort_unstable.ensures.permutation ∙ rw all at (c.loop-line.invariant time)
