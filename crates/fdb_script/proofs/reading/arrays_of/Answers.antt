use Rattle.std.proofs.Common.{◌∙◌, List, [], ◌∷◌, map, sym}
use Rattle.std.proofs.lemmas.List.{map-append}
use Rattle.std.specs.Borrow.{Bor}
use Rattle.serde_json.specs.View.{view}
use Rattle.serde_json.specs.declared.value.Value.{Value}
use Rattle.fdb_script.specs.Reading.{array_of}
use Rattle.fdb_script.proofs.Arrays.{every_all, every_more, every_none}
use Rattle.fdb_script.proofs.reading.arrays_of.Goals as goal

pub loop-value-preserved : goal.loop-value-preserved
loop-value-preserved c =
    let value = c.value-item in
    let array = c.in-Some-items.array in
    let appended = map-append (λ (array : Bor (List Value)). map view array.now) c.loop-value.arrays.items (array ∷ []) in
    rw (c.in_ok-push.ensures.items, appended)
    (sym (every_more array_of view _ c.in-Some.values.now c.loop-value.value-index value.result (map view array.now) c.loop-value-test.true value.is (sym c.in-Some-items.ensures)) ∙ c.loop-value.invariant)

pub returns-in_default-items : goal.returns-in_default-items
returns-in_default-items c =
    let value = c.value-item in
    rw (← c.in-Some.ensures) (sym (every_none array_of view _ c.in-Some.values.now c.loop-value.value-index value.result c.loop-value-test.true value.is (sym c.in_default-items.ensures)) ∙ c.loop-value.invariant)

pub returns : goal.returns
returns c = rw (← c.in-Some.ensures) (sym (every_all array_of view _ c.in-Some.values.now c.loop-value.value-index c.loop-value-test.false) ∙ c.loop-value.invariant)
