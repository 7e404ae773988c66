-- A story has no bytes and owns nothing.
use denote.Param.Send.{IsSend}
use Rattle.fdb_c.specs.contracts.watch_options.Story.{the_row}

pub send : IsSend the_row
send = record { owned = λ it vs. ((λ vss. (tt, tt)), tt); leaving = λ k d w. tt }
