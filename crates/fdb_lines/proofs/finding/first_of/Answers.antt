use Rattle.std.proofs.Common.{◌≡◌, ◌↔◌, None, length}
use Rattle.std.proofs.lemmas.Result.{IfOk-weaker}
use Rattle.fdb_lines.specs.Audit.{case_of, AreExplained}
use Rattle.fdb_lines.specs.Judged.{IsFirstFound}
use Rattle.fdb_lines.specs.Log.{lines_of}
use Rattle.fdb_lines.specs.private.Tables.{IsFirstIn}
use Rattle.fdb_lines.proofs.Listed.{first_of_all}
use Rattle.fdb_lines.proofs.finding.first_of.Goals as goal

pub returns : goal.returns
returns c =
    let log = lines_of c.args.log.now in
    let opts = c.args.opts.now in
    let all = rw (c.new-tables.ensures, c.lines.ensures) at c.first_between.ensures in
    record {
      first =
          IfOk-weaker c.first_between.result (IsFirstIn log opts 0 (length log.lines)) (IsFirstFound log None opts)
          (λ first is. record { listed = (first_of_all log opts first is.listed).0; reason = is.reason; late = is.late }) all;
      explained =
          IfOk-weaker c.first_between.result (IsFirstIn log opts 0 (length log.lines)) (λ first. (first ≡ None) ↔ AreExplained (case_of log opts))
          (λ first is. (first_of_all log opts first is.listed).1) all;
    }
