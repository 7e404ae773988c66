use Rattle.std.proofs.Common.{◌≡◌, [], get_or, ap, sym, ◌∙◌, arith}
use Rattle.std.proofs.lemmas.Bool.Decides.{nat_tests}
use Rattle.std.proofs.lemmas.List.{get_or_default}
use Rattle.fdb_lines.specs.declared.line.Line.{Line}
use Rattle.fdb_lines.specs.declared.locators.LineKind.TheVariants.{Owned, Nameless}
use Rattle.fdb_lines.specs.Lines.{line_at, nobody}
use Rattle.fdb_lines.specs.Log.{lines_of}
use Rattle.fdb_lines.proofs.Reasoning.{anybody_is, are_of_subject, owned_is}
use Rattle.fdb_lines.proofs.tables.Tables.is_own.Goals as goal

pub returns-then-is_some : goal.returns-then-is_some
returns-then-is_some c =
    let are = are_of_subject c.self.view_is c.self.invariant in
    let log = lines_of c.args.self.now.log in
    let opts = c.args.self.now.opts in
    let k = c.args.place in
    let item = c.index-lines-place.result in
    let line : item ≡ line_at log.lines k = c.index-lines-place.is ∙ (ap (λ l. get_or l k item) c.lines.ensures ∙ get_or_default log.lines k item nobody c.requires.place) in
    let whose = ap (λ (l : Line). l.client) (sym line) ∙ c.in-Some.is in
    let both = owned_is log opts [] k c.in-Some.client c.first-own.result c.first-nameless.result whose
    (rw (c.version-version.ensures, line) at (c.first-own.ensures Owned 0 log.lines [] are.owned))
    (rw (c.version-version.ensures, line) at (c.first-nameless.ensures Nameless 0 log.lines [] are.nameless)) in
    let first = c.is_some.ensures in
    let found = c.if-is_some.true in
    grind (arith, nat_tests)

pub returns-else-is_some : goal.returns-else-is_some
returns-else-is_some c =
    let are = are_of_subject c.self.view_is c.self.invariant in
    let log = lines_of c.args.self.now.log in
    let opts = c.args.self.now.opts in
    let k = c.args.place in
    let item = c.index-lines-place.result in
    let line : item ≡ line_at log.lines k = c.index-lines-place.is ∙ (ap (λ l. get_or l k item) c.lines.ensures ∙ get_or_default log.lines k item nobody c.requires.place) in
    let whose = ap (λ (l : Line). l.client) (sym line) ∙ c.in-Some.is in
    let both = owned_is log opts [] k c.in-Some.client c.first-own.result c.first-nameless.result whose
    (rw (c.version-version.ensures, line) at (c.first-own.ensures Owned 0 log.lines [] are.owned))
    (rw (c.version-version.ensures, line) at (c.first-nameless.ensures Nameless 0 log.lines [] are.nameless)) in
    let first = c.is_some.ensures in
    let found = c.if-is_some.false in
    let other = c.is_some-else-is_some.ensures in
    grind (arith, nat_tests)

pub returns-in-None : goal.returns-in-None
returns-in-None c =
    let log = lines_of c.args.self.now.log in
    let opts = c.args.self.now.opts in
    let k = c.args.place in
    let item = c.index-lines-place.result in
    let line : item ≡ line_at log.lines k = c.index-lines-place.is ∙ (ap (λ l. get_or l k item) c.lines.ensures ∙ get_or_default log.lines k item nobody c.requires.place) in
    let whose = ap (λ (l : Line). l.client) (sym line) ∙ c.in-None.is in
    c.is_some-in-None.ensures ∙ anybody_is log opts k c.first_draw.result whose c.first_draw.ensures
