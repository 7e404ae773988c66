use Rattle.std.proofs.Common.{◌≡◌, ℕ, ◌<◌, List, ◌++◌, length}
use Rattle.std.specs.Io.KnownBytes.{Appends}
use Rattle.fdb_command.proofs.output.write_whole.Given as goal

-- what is gone from the rest was taken, and there is a rest
abbrev pub invariant-loop : goal.invariant-loop
invariant-loop g l = record {
  some_left : 0 < length l.rest;
  taken : (done : List ℕ) × (l.lines ≡ done ++ l.rest) × Appends (g.W.Write.contents l.initial.writer) (g.W.Write.contents l.writer) done;
}
