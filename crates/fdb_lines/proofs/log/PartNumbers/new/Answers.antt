use Rattle.std.proofs.Common.{◌≡◌, ℕ, Bool, true, false, None, Option, cond, length, nat_lt, ◌∙◌, arith}
use Rattle.std.proofs.lemmas.Grind.{common_steps}
use Rattle.std.specs.BTreeMap.{get}
use Rattle.std.specs.Ordering.{nat_cmp}
use Rattle.fdb_lines.proofs.Parted.{nothing_more}
use Rattle.fdb_lines.proofs.log.PartNumbers.new.Goals as goal

none_at : (b : Bool) (near far : Option ℕ) → near ≡ None → far ≡ None → cond b near far ≡ None
none_at true near far none_near none_far = none_near
none_at false near far none_near none_far = none_far

pub loop-number-preserved : goal.loop-number-preserved
loop-number-preserved c = λ q.
    rw c.in_ok-push.ensures.items (nothing_more c.loop-number.near.items None q ∙ c.loop-number.invariant q)

pub returns : goal.returns
returns c = λ q.
    let none : get nat_cmp c.new.result q ≡ None = grind (arith, common_steps, c.new.ensures.empty) in
    none_at (nat_lt q (length c.loop-number.near.items)) _ _ (c.loop-number.invariant q) none
