use Rattle.std.proofs.Common.{◌≡◌, length}
use Rattle.fdb_replay.proofs.Acts.{SoFar}
use Rattle.fdb_replay.proofs.rounds.acts_in.Given as goal

abbrev pub invariant-loop-command : goal.invariant-loop-command
invariant-loop-command l = record {
  all : length l.acts ≡ 64;
  so_far : SoFar l.acts l.commands l.command-index;
}
