use Rattle.std.proofs.Common.{subst, sym, ◌∙◌}
use Rattle.fdb_history.proofs.faults.Audited.{no_fault}
use Rattle.fdb_history.proofs.faultless.Sorted.{changes_by_position}
use Rattle.fdb_history.specs.private.Auditing.{AreByPosition}
use Rattle.fdb_history.specs.Faults.{Nowhere, WronglyAnswered}
use Rattle.fdb_history.specs.declared.register.Record.{Record}
use Rattle.fdb_history.proofs.auditing.faultless_registers.Goals as goal

pub registers_of-requires-clause-sorted : goal.registers_of-requires-clause-sorted
registers_of-requires-clause-sorted c = subst AreByPosition (sym (c.deref.ensures.value ∙ c.in_ok-changes.ensures)) (changes_by_position c.args.events.now c.requires.sorted)

pub returns-clause-faultless : goal.returns-clause-faultless
returns-clause-faultless c =
    let P : Record → Type 0 = λ start. Nowhere (WronglyAnswered start c.args.logs.now) in
    let r = c.in_ok-registers.ensures in
    no_fault c.args.start c.args.logs.now c.requires.order r.no_clash r.no_gap (subst P r.begins c.in_default.ensures)
