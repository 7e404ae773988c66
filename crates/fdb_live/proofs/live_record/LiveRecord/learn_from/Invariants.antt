use Rattle.std.proofs.Common.{◌≡◌, ◌<◌, ℕ, Some, slice_get}
use mathlib.Core.List.{IsPrefix}
use Rattle.fdb_live.specs.Gathering.{IsSeenBy}
use Rattle.fdb_live.specs.Holding.{own_answers}
use Rattle.fdb_live.specs.Seen.{Sight, own_positions}
use Rattle.fdb_live.proofs.live_record.LiveRecord.learn_from.Given as goal

abbrev pub invariant-loop-other : goal.invariant-loop-other
invariant-loop-other g l =
    (l.others ≡ l.initial.others)
    × (l.first.reporter ≡ l.initial.first.reporter)
    × IsPrefix l.initial.first.changes l.first.changes
    × ((k : ℕ) (token : Sight) → k < l.other-index → slice_get l.others k ≡ Some token → IsSeenBy l.first token)
    × (own_positions l.first ≡ own_positions l.initial.first)
    × IsPrefix l.initial.first.answers l.first.answers
    × (own_answers l.first ≡ own_answers l.initial.first)
