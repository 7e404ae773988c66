use Rattle.std.proofs.Common.{◌≡◌, ◌∙◌}
use Rattle.std.proofs.lemmas.List.{get_or_default}
use Rattle.fdb_lines.specs.Lines.{line_at, nobody}
use Rattle.fdb_lines.specs.Log.{lines_of}
use Rattle.fdb_lines.proofs.Lateness.{first_is, none_is, own_is}
use Rattle.fdb_lines.proofs.fault.late_by.Goals as goal

pub returns-in_err-first : goal.returns-in_err-first
returns-in_err-first c =
    rw c.from_residual.ensures
    (none_is (lines_of c.args.log.now) c.args.opts.now c.args.place c.args.fault c.requires.stands (rw c.in_err-first.was at c.requires.first))

pub returns-then-first-place : goal.returns-then-first-place
returns-then-first-place c =
    own_is (lines_of c.args.log.now) c.args.opts.now c.args.place c.args.fault c.in_ok-first.first.place c.in_ok-first.first.time (λ untimed j lj. c.args.log.now.alike j lj ∙ untimed) c.requires.stands
    (rw c.in_ok-first.was at c.requires.first) c.if-first-place.true

pub returns : goal.returns
returns c =
    let log = lines_of c.args.log.now in
    let k = c.args.place in
    let item = c.index-lines-place.result in
    let line : item ≡ line_at log.lines k = (rw c.lines.ensures at c.index-lines-place.is) ∙ get_or_default log.lines k item nobody c.requires.place in
    rw (c.saturating_sub.ensures, c.began.ensures, line)
    (first_is log c.args.opts.now k c.args.fault c.in_ok-first.first.place c.in_ok-first.first.time (λ untimed j lj. c.args.log.now.alike j lj ∙ untimed) c.requires.stands (rw c.in_ok-first.was at c.requires.first) c.if-first-place.false)
