use Rattle.std.proofs.Common.{◌≡◌, ℕ, ◌≤◌, ◌<◌, slice_index_or, true, false}
use Rattle.fdb_replay.proofs.rounds.Round.acts_among.Given as goal

abbrev pub invariant-loop-number : goal.invariant-loop-number
invariant-loop-number l = (client : ℕ) → l.first ≤ client → client < l.number → slice_index_or l.self.acts client true ≡ false
