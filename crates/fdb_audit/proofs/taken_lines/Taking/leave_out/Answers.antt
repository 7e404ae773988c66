use Rattle.std.proofs.Common.{ap, arith, refl}
use Rattle.fdb_log_reader.specs.declared.error.ReadError.{ReadError}
use Rattle.fdb_audit.proofs.Following.{leaves_out, left_number}
use Rattle.fdb_audit.proofs.Recent.{times_same}
use Rattle.fdb_audit.proofs.Warned.{left_more}
use Rattle.fdb_audit.proofs.taken_lines.Taking.leave_out.Goals as goal

pub returns-clause-takes : goal.returns-clause-takes
returns-clause-takes c =
    let old = c.args.self.now in
    record {
      taken = λ start lines told are.
          leaves_out start old _ lines c.args.why told c.line_count-line.result are c.requires.room refl c.in_ok-leave_out.ensures.ok c.leave_out.ensures.kept refl refl refl refl c.line_count-line.ensures refl refl;
      warned = λ start lines told warned are was.
          let number = left_number start old c.leave_out.new.self lines told c.line_count-line.result are c.requires.room c.in_ok-leave_out.ensures.ok c.leave_out.ensures.kept c.line_count-line.ensures in
          left_more start old lines c.args.why warned _ _ are.few (ap (λ n. let it : ReadError = record { line = n; why = c.args.why } in it) number) c.in_ok-push_warning.ensures was;
      times = λ forget start lines told are knows. times_same start lines are.few forget old.times c.args.why knows;
      early = omega arith;
      stays = record { horizon = refl; far = λ key. refl };
    }
