use Rattle.std.proofs.Common.{◌/◌, Some, option_map, length, arith}
use Rattle.std.proofs.lemmas.Result.{IfOk-at_ok}
use Rattle.fdb_lines.specs.Audit.{case_of}
use Rattle.fdb_lines.specs.Log.{lines_of}
use Rattle.fdb_lines.specs.Reasons.{found_of}
use Rattle.fdb_lines.specs.private.Tables.{IsFirstIn}
use Rattle.fdb_lines.proofs.Listed.{first_after_none, first_of_all, first_of_more}
use Rattle.fdb_lines.proofs.finding.first_finding_in_threads.Goals as goal

pub returns-in-Some : goal.returns-in-Some
returns-in-Some g c =
    let log = lines_of c.args.log.now in
    let opts = c.args.opts.now in
    let all = length log.lines in
    let above = rw (c.lines.ensures, c.in-Some.is) at (IfOk-at_ok (IsFirstIn log opts 0 (length c.lines.result.now / 2)) c.in_ok-above.was c.join-above.ensures.first) in
    let first = first_of_all log opts (Some c.in-Some.first) (first_of_more (case_of log opts) 0 (all / 2) all c.in-Some.first.found (omega arith) above.listed) in
    record { first = record { listed = first.0; reason = above.reason; late = above.late }; explained = first.1 }

pub returns : goal.returns
returns g c =
    let log = lines_of c.args.log.now in
    let opts = c.args.opts.now in
    let all = length log.lines in
    let above = rw (c.lines.ensures, c.in-None.is) at (IfOk-at_ok (IsFirstIn log opts 0 (length c.lines.result.now / 2)) c.in_ok-above.was c.join-above.ensures.first) in
    let below = rw c.lines.ensures at (IfOk-at_ok (IsFirstIn log opts (length c.lines.result.now / 2) (length c.lines.result.now)) c.in_ok-below.was c.join-above.ensures.second) in
    let first = first_of_all log opts c.in_ok-below.below (first_after_none (case_of log opts) 0 (all / 2) all (option_map found_of c.in_ok-below.below) above.listed below.listed) in
    record { first = record { listed = first.0; reason = below.reason; late = below.late }; explained = first.1 }
