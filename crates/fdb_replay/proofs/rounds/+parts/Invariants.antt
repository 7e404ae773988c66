use Rattle.std.proofs.Common.{◌+◌, ◌-◌, ◌*◌}
use Rattle.fdb_replay.proofs.rounds.+parts.Given as goal

abbrev pub decreases-play_part : goal.decreases-play_part
decreases-play_part g l = 4 * l.clients.len

abbrev pub decreases-play_halves : goal.decreases-play_halves
decreases-play_halves g l = 4 * (l.front.len + l.back.len) - 1

abbrev pub decreases-play_halves-play_front : goal.decreases-play_halves-play_front
decreases-play_halves-play_front g l = 4 * l.front.len + 1
