use Rattle.std.proofs.Common.{◌≡◌, fold, take}
use Rattle.fdb_log_reader.specs.Split.{hash_step}
use Rattle.fdb_log_reader.proofs.part_text.hash_of.Given as goal

-- the hash of the bytes so far
abbrev pub invariant-loop-byte : goal.invariant-loop-byte
invariant-loop-byte l = l.hash ≡ fold hash_step 0xcbf29ce484222325 (take l.byte-index l.byte-items)
