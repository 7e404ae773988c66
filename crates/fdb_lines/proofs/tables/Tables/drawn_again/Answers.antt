use Rattle.std.proofs.Common.{[], sym}
use Rattle.std.proofs.lemmas.List.{get_or_default}
use Rattle.fdb_lines.specs.declared.locators.LineKind.TheVariants.{Asks}
use Rattle.fdb_lines.specs.Audit.{case_of}
use Rattle.fdb_lines.specs.Lines.{nobody}
use Rattle.fdb_lines.specs.Log.{lines_of}
use Rattle.fdb_lines.proofs.Reasoning.{are_of_subject, beside_a_commit, beside_an_ask}
use Rattle.fdb_lines.proofs.tables.Tables.drawn_again.Goals as goal

pub returns-then-is_commit : goal.returns-then-is_commit
returns-then-is_commit c =
    let are = are_of_subject c.self.view_is c.self.invariant in
    let log = lines_of c.args.self.now.log in
    let commit = rw (c.lines.ensures, get_or_default log.lines c.args.place c.index-lines-place.result nobody c.requires.place) at c.if-is_commit.ensures in
    beside_a_commit (case_of log c.args.self.now.opts) c.args.place c.first.result (sym commit)
    (rw (c.version_in.ensures, c.lines-then-is_commit.ensures) at (c.first.ensures Asks 0 _ [] are.asks))

pub returns-else-is_commit : goal.returns-else-is_commit
returns-else-is_commit c =
    let log = lines_of c.args.self.now.log in
    let not_commit = rw (c.lines.ensures, get_or_default log.lines c.args.place c.index-lines-place.result nobody c.requires.place) at c.if-is_commit.ensures in
    beside_an_ask (case_of log c.args.self.now.opts) c.args.place c.other_draw.result (sym not_commit) c.other_draw.ensures
