use Rattle.std.proofs.Common.{[], string_bytes}
use Rattle.std.specs.Prelude.{codes}
use Rattle.fdb_audit.specs.Text.{line}
use Rattle.fdb_audit.specs.Warned.{counted}
use Rattle.fdb_audit.proofs.Texts.{written}
use Rattle.fdb_audit.proofs.refusal.push_ahead.Goals as goal

pub returns : goal.returns
returns c =
    let it = c.args.ahead in
    written (string_bytes c.args.out.now) (string_bytes c.push_count.new.out) (string_bytes c.push_count-2.new.out) (string_bytes c.push_count-3.new.out)
    (counted (codes "fdb_audit: a clock is ahead: above line ") it.line (codes " a line of another client ended ")) (counted [] it.by (codes " after it; "))
    (counted [] it.count (line (codes " so far: it is not believed"))) c.in_ok-push_count.ensures c.in_ok-push_count-2.ensures c.in_ok-push_count-3.ensures
