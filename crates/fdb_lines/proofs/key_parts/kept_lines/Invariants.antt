use Rattle.std.proofs.Common.{◌≡◌, take}
use Rattle.std.specs.List.{flat_map}
use Rattle.fdb_lines.specs.private.KeyParts.{kept_in_part}
use Rattle.fdb_lines.proofs.key_parts.kept_lines.Given as goal

abbrev pub invariant-loop-part : goal.invariant-loop-part
invariant-loop-part l = l.kept.items ≡ flat_map kept_in_part (take l.part-index l.parts)
