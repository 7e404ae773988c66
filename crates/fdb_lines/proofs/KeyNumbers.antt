use Rattle.std.proofs.Common.{◌≡◌, ◌<◌, Option, Some, arith, length, ℕ}
use Rattle.std.proofs.lemmas.List.{length-map}
use Rattle.std.specs.BTreeMap.{get}
use Rattle.std.specs.Ordering.{nat_cmp}
use Rattle.fdb_lines.specs.declared.key_part.KeyPart.{KeyPart}
use Rattle.fdb_lines.specs.declared.key_watch.KeyWatch.{KeyWatch}
use Rattle.fdb_lines.specs.KeyParts.{names_of}
use Rattle.fdb_lines.specs.Keys.{key_at}
use Rattle.fdb_lines.specs.private.Keys.{number_of}

-- a key that has a number has a part
pub part_there : (watch : KeyWatch) (key : Option ℕ) (place : ℕ) → get nat_cmp watch.numbers (number_of key) ≡ Some place
    → (place < length watch.parts.items) × (key_at (names_of watch.parts.items) place ≡ key)
part_there watch key place is =
    let there = watch.numbered.there key place is in
    let size = length-map watch.parts.items (λ (part : KeyPart). part.key) in
    (let lt = there.0 in omega arith, there.1)
