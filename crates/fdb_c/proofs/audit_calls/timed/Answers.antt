use Rattle.std.proofs.Common.{Some, ap, sym, ◌∙◌, option_map}
use Rattle.fdb_c.proofs.Times.{times_are}
use Rattle.fdb_log_reader.specs.Members.{or_bad, times_with}
use Rattle.fdb_log_reader.specs.declared.member.Member.TheVariants.{Ended}
use Rattle.fdb_c.proofs.audit_calls.timed.Goals as goal

-- the times are those of when the call began and ended
pub returns-in-Some : goal.returns-in-Some
returns-in-Some c =
    let taken = c.in-Some.ensures.taken in
    let ended = taken.1 ∙ c.ended_of.ensures in
    let times = (λ i. times_with (sym taken.0 i) (sym ended i)) ∙ times_are c.in-Some.times in
    sym (ap (λ o. or_bad Ended (option_map Some o)) times)
