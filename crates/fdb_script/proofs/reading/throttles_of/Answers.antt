use Rattle.std.proofs.Common.{◌≡◌, ◌∙◌, sym, None, Some}
use Rattle.serde_json.specs.View.{view}
use Rattle.fdb_script.specs.Reading.{throttle_of}
use Rattle.fdb_script.proofs.Arrays.{every_all, every_more, every_none}
use Rattle.fdb_script.proofs.reading.throttles_of.Goals as goal

pub loop-item-preserved : goal.loop-item-preserved
loop-item-preserved c =
    let item = c.item-item in
    let read : throttle_of (view item.result) ≡ Some c.in-Some-2.throttle = sym c.in_ok-throttle.ensures ∙ c.in-Some-2.is in
    rw c.in_ok-push.ensures.ok (sym (every_more throttle_of view c.loop-item.throttles c.in-Some.items.now c.loop-item.item-index item.result c.in-Some-2.throttle c.loop-item-test.true item.is read) ∙ c.loop-item.invariant)

pub returns-in_default-2 : goal.returns-in_default-2
returns-in_default-2 c =
    let item = c.item-item in
    let read : throttle_of (view item.result) ≡ None = sym c.in_ok-throttle.ensures ∙ c.in_default-2.is in
    rw (← c.in-Some.ensures) (sym (every_none throttle_of view c.loop-item.throttles c.in-Some.items.now c.loop-item.item-index item.result c.loop-item-test.true item.is read) ∙ c.loop-item.invariant)

pub returns : goal.returns
returns c = rw (← c.in-Some.ensures) (sym (every_all throttle_of view c.loop-item.throttles c.in-Some.items.now c.loop-item.item-index c.loop-item-test.false) ∙ c.loop-item.invariant)
