use Rattle.std.proofs.Common.{◌≡◌, map, drop}
use Rattle.serde_json.specs.View.{view}
use Rattle.fdb_script.specs.Reading.{every, throttle_of}
use Rattle.fdb_script.proofs.Arrays.{after_front}
use Rattle.fdb_script.proofs.reading.throttles_of.Given as goal

-- the throttles so far, and those of what is left, are those of all
abbrev pub invariant-loop-item : goal.invariant-loop-item
invariant-loop-item l = after_front l.throttles (every throttle_of (map view (drop l.item-index l.items))) ≡ every throttle_of (map view l.items)
