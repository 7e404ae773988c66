-- It has no bytes and owns nothing.
use denote.Param.Send.{IsSend}
use Rattle.fdb_audit.specs.contracts.taken_lines.Settlings.{the_row}

pub send : IsSend the_row
send = record { owned = λ it vs. ((λ vss. (tt, tt)), tt); leaving = λ k d w. tt }
