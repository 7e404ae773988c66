use Rattle.std.proofs.Common.{◌++◌, ◌∷◌, [], sym, ◌∙◌, ap, arith}
use Rattle.std.proofs.lemmas.List.{take_more}
use Rattle.fdb_lines.specs.Lines.{Lines}
use Rattle.fdb_lines.specs.Log.{lines_of}
use Rattle.fdb_values.specs.Zones.{rank_by_zone}
use Rattle.fdb_values.proofs.Pushed.{taken}
use Rattle.fdb_values.proofs.ranks.ranked_log.Goals as goal

pub returns-in_err-push-clause-error : goal.returns-in_err-push-clause-error
returns-in_err-push-clause-error c =
    let log = c.args.log.now in
    let items = c.deref-line-items.result.now in
    let are = c.deref-line-items.ensures.value ∙ rw c.lines.ensures at c.in-Ok.ensures in
    let inv = c.loop-line.invariant in
    let takes = taken (rank_by_zone c.args.margin log.lines.items) log c.requires.timed c.requires.by_value items are c.loop-line.line-index c.loop-line-test.true
    c.line-item.result c.line-item.is (lines_of c.loop-line.made) inv.lines inv.timed in
    let why = c.in_err-push.ensures.why in
    let none = takes.0 in
    grind arith

pub loop-line-preserved : goal.loop-line-preserved
loop-line-preserved c =
    let log = c.args.log.now in
    let items = c.deref-line-items.result.now in
    let are = c.deref-line-items.ensures.value ∙ rw c.lines.ensures at c.in-Ok.ensures in
    let inv = c.loop-line.invariant in
    let k = c.loop-line.line-index in
    let item = c.line-item.result in
    let takes = taken (rank_by_zone c.args.margin log.lines.items) log c.requires.timed c.requires.by_value items are k c.loop-line-test.true
    item c.line-item.is (lines_of c.loop-line.made) inv.lines inv.timed in
    let more = c.in_ok-push.ensures.ok.1 in
    record {
      lines = ap (λ (log : Lines). log.lines) more ∙ ((λ t. inv.lines t ++ c.line-item.is t ∷ []) ∙ sym (take_more items k item c.loop-line-test.true));
      timed = λ some. ap (λ (log : Lines). log.timed) more ∙ takes.1;
    }
