use Rattle.std.proofs.Common.{◌≡◌, ◌++◌}
use Rattle.fdb_lines.specs.private.KeyParts.{kept_below}
use Rattle.fdb_lines.proofs.key_part.KeyPart.add_kept.Given as goal

abbrev pub invariant-loop-place : goal.invariant-loop-place
invariant-loop-place l = l.kept.items ≡ l.fn.kept.items ++ kept_below l.self l.place
