use Rattle.std.proofs.Common.{◌≡◌, map, drop}
use Rattle.serde_json.specs.View.{view}
use Rattle.fdb_script.specs.Reading.{every, array_of}
use Rattle.fdb_script.proofs.Arrays.{after_front}
use Rattle.fdb_script.proofs.reading.arrays_of.Given as goal

-- the arrays so far, and those of what is left, are those of all
abbrev pub invariant-loop-value : goal.invariant-loop-value
invariant-loop-value l =
    after_front (map (λ array. map view array.now) l.arrays.items) (every array_of (map view (drop l.value-index l.values))) ≡ every array_of (map view l.values)
