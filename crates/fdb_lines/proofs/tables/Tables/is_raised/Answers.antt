use Rattle.std.proofs.Common.{◌∙◌}
use Rattle.fdb_lines.specs.declared.locators.LineKind.TheVariants.{Raises}
use Rattle.fdb_lines.specs.Audit.{start_of}
use Rattle.fdb_lines.specs.Log.{lines_of}
use Rattle.fdb_lines.proofs.Reasoning.{are_of_subject, raised_is}
use Rattle.fdb_lines.proofs.tables.Tables.is_raised.Goals as goal

pub returns : goal.returns
returns c =
    let are = are_of_subject c.self.view_is c.self.invariant in
    let log = lines_of c.args.self.now.log in
    let opts = c.args.self.now.opts in
    let found = rw (c.version_in-version.ensures, c.lines.ensures) at (c.first.ensures Raises (start_of opts.complete) log.lines c.self.inside.made.now.shown.items are.raises) in
    c.is_some.ensures ∙ raised_is log opts _ _ c.first.result are.shown found
