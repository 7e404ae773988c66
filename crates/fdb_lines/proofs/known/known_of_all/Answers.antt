use Rattle.std.proofs.Common.{◌≡◌, false, ◌∙◌}
use Rattle.std.proofs.lemmas.List.{get_or_default}
use Rattle.fdb_lines.specs.declared.fault.Means.TheVariants.{Ended}
use Rattle.fdb_lines.specs.Lines.{nobody, line_at}
use Rattle.fdb_lines.specs.private.Known.{of_all}
use Rattle.fdb_lines.proofs.Knowing.{ended_means, known_more, known_so}
use Rattle.fdb_lines.proofs.known.known_of_all.Goals as goal

pub loop-line-preserved : goal.loop-line-preserved
loop-line-preserved c =
    let lines = c.args.lines.now in
    let margin = c.args.margin in
    let seen = c.args.seen in
    let k = c.loop-line.line-index in
    let item = c.line-item.result in
    let line : item ≡ line_at lines k = c.line-item.is ∙ get_or_default lines k item nobody c.loop-line-test.true in
    let newest = rw (c.saturating_sub-bound.ensures, c.began.ensures, line) at (c.newest_before-newest.ensures false seen lines c.requires) in
    let knows = known_so (of_all margin seen lines) margin lines k Ended c.newest_before-newest.result (ended_means margin seen lines k) newest in
    rw (c.in_ok-push.ensures.items, c.witness.ensures) (known_more (of_all margin seen lines) margin lines k c.loop-line.known.items _ c.loop-line.invariant knows)
