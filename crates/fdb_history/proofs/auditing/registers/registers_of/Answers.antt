use Rattle.std.proofs.Common.{Some, None, rules, sym, ap, ◌∙◌, arith, get_or}
use Rattle.fdb_history.proofs.faults.Positions.{clash-least, gap-least, no-gap, table-right, strict}
use Rattle.fdb_history.proofs.auditing.registers.registers_of.Goals as goal

pub returns-in-Some-clause-err : goal.returns-in-Some-clause-err
returns-in-Some-clause-err c = clash-least c.args.logs.now c.args.changes.now (Some c.in-Some.position) c.requires.order c.requires.sorted c.requires.same c.in-Some.ensures

pub returns-then-position-greatest_position-clause-err : goal.returns-then-position-greatest_position-clause-err
returns-then-position-greatest_position-clause-err c = (
  clash-least c.args.logs.now c.args.changes.now None c.requires.order c.requires.sorted c.requires.same c.in_default.ensures,
  rw c.first_missing-position.ensures
      (gap-least c.args.logs.now c.args.changes.now c.requires.same (strict 0 c.args.changes.now c.requires.sorted (sym c.in_default.ensures)) (omega (arith, c.greatest_position.ensures, c.first_missing-position.ensures, c.if-position-greatest_position.true))),
)

pub returns-clause-no_clash : goal.returns-clause-no_clash
returns-clause-no_clash c = clash-least c.args.logs.now c.args.changes.now None c.requires.order c.requires.sorted c.requires.same c.in_default.ensures

pub returns-clause-no_gap : goal.returns-clause-no_gap
returns-clause-no_gap c =
    no-gap c.args.logs.now c.args.changes.now c.requires.same (omega (arith, c.greatest_position.ensures, c.first_missing-position.ensures, c.if-position-greatest_position.false))

pub returns-clause-ok : goal.returns-clause-ok
returns-clause-ok c = λ position reached.
    ap (λ table. get_or table position c.args.start) c.in_ok-table.ensures
    ∙ table-right c.args.start c.args.logs.now c.args.changes.now c.requires.same
    (clash-least c.args.logs.now c.args.changes.now None c.requires.order c.requires.sorted c.requires.same c.in_default.ensures)
    (omega (arith, c.greatest_position.ensures, c.first_missing-position.ensures, c.if-position-greatest_position.false)) position reached

pub returns-in_err-table : goal.returns-in_err-table
returns-in_err-table c = search rules
