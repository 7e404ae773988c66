use Rattle.fdb_lines.specs.private.Locators.{AreLocators}
use Rattle.fdb_lines.proofs.locators.Locators.new.Given as goal

abbrev pub invariant-loop-place : goal.invariant-loop-place
invariant-loop-place l = AreLocators l.line_kind l.start l.lines l.known l.place l.locators.items
