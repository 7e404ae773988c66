use Rattle.std.proofs.Common.{map, Some, ap, sym}
use Rattle.serde_json.specs.View.{view}
use Rattle.fdb_script.proofs.Arrays.{list_of-items_of}
use Rattle.fdb_script.proofs.reading.members.items.Goals as goal

pub returns : goal.returns
returns c =
    rw (c.as_slice.ensures.value, ← c.in_ok-as_array.ensures) (ap Some (sym (list_of-items_of (map view c.in_ok-as_array.field-0.now.items))))
