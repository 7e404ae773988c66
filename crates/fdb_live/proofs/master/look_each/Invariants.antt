use Rattle.std.proofs.Common.{◌≡◌, ◌<◌, ◌≤◌, ℕ, Some, length, slice_get}
use Rattle.fdb_live.specs.Gathering.{HasCaughtUp}
use Rattle.fdb_live.specs.Seen.{Sight}
use Rattle.fdb_live.proofs.master.look_each.Given as goal

abbrev pub invariant-loop-token : goal.invariant-loop-token
invariant-loop-token g l =
    (l.drawer ≡ l.initial.drawer)
    × (length l.tokens ≡ length l.initial.tokens)
    × ((k : ℕ) → l.token-index ≤ k → slice_get l.tokens k ≡ slice_get l.initial.tokens k)
    × ((k : ℕ) (token : Sight) → k < l.token-index → slice_get l.initial.tokens k ≡ Some token → HasCaughtUp (record token { answers = l.initial.drawer.answers }) token k l.tokens)
