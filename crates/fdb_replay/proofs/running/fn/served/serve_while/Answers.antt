use Rattle.fdb_replay.proofs.Finished.{still_in_place}
use Rattle.fdb_replay.proofs.running.fn.served.serve_while.Goals as goal

pub finish-requires : goal.finish-requires
finish-requires g c = still_in_place _ _ _ c.in_ok-players.ensures.numbers c.requires.in_place
