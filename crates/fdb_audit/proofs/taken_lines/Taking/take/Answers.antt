use Rattle.std.proofs.Common.{◌∷◌, [], Result, subst, sym}
use Rattle.std.specs.Prelude.{OnOk}
use Rattle.fdb_log_reader.specs.declared.error.Why.{Why}
use Rattle.fdb_log_reader.specs.declared.read_line.ReadLine.{ReadLine}
use Rattle.fdb_log_reader.specs.ReadLine.{said_in}
use Rattle.fdb_audit.specs.private.Followed.{TakesOn}
use Rattle.fdb_audit.proofs.taken_lines.Taking.take.Goals as goal

pub returns-in-Ok-clause-takes : goal.returns-in-Ok-clause-takes
returns-in-Ok-clause-takes c =
    subst (λ (read : Result ReadLine Why). OnOk c.add.result (TakesOn c.args.self.now c.add.new.self (said_in read ∷ []))) (sym c.in-Ok.is) c.add.ensures.takes

pub returns-in-Err-clause-takes : goal.returns-in-Err-clause-takes
returns-in-Err-clause-takes c =
    subst (λ (read : Result ReadLine Why). OnOk c.leave_out.result (TakesOn c.args.self.now c.leave_out.new.self (said_in read ∷ []))) (sym c.in-Err.is) c.leave_out.ensures.takes
