use Rattle.std.proofs.Common.{◌≡◌, map, drop}
use Rattle.serde_json.specs.View.{view}
use Rattle.fdb_script.specs.Reading.{every, tag_of}
use Rattle.fdb_script.proofs.Arrays.{after_front}
use Rattle.fdb_script.proofs.reading.members.tags_of.Given as goal

-- the tags so far, and those of what is left, are those of all
abbrev pub invariant-loop-item : goal.invariant-loop-item
invariant-loop-item l = after_front l.tags (every tag_of (map view (drop l.item-index l.items))) ≡ every tag_of (map view l.items)
