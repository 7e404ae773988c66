use Rattle.std.proofs.Common.{◌≡◌, ap, sym, ◌∙◌, arith}
use Rattle.fdb_lines.specs.Audit.{case_of}
use Rattle.fdb_lines.specs.Lines.{part_of, Lines}
use Rattle.fdb_lines.specs.Log.{lines_of}
use Rattle.fdb_lines.specs.Summary.{unreported}
use Rattle.fdb_lines.specs.private.KeySums.{ordered_if, ordered_of, unreported_of}
use Rattle.fdb_lines.proofs.Totals.{few_pairs, few_unreported, part_more, sum_more}
use Rattle.fdb_lines.proofs.sums.sums_of_parts.Goals as goal

pub overflow_add-sums : goal.overflow_add-sums
overflow_add-sums c =
    let log = lines_of c.args.log.now in
    let opts = c.args.opts.now in
    let parts = c.args.parts.now in
    let i = c.loop-part.part in
    let part = c.index-parts-part.result in
    let more = part_more parts i part c.requires.0 c.loop-part-test.true c.index-parts-part.is in
    let room = more.0 in
    let here : c.in_ok-sums.field-0 ≡ unreported_of log opts part =
    c.in_ok-sums.ensures
    ∙ (ap (λ (lines : Lines). unreported (case_of lines opts)) (c.in_ok-lines.ensures ∙ ap (part_of log) c.deref.ensures.value)
    ∙ sym (ap (unreported_of log opts) c.index-parts-part.is)) in
    let few = few_unreported log opts part in
    let so_far = c.loop-part.invariant.few in
    omega arith

pub overflow_add-sums-in-loop-part : goal.overflow_add-sums-in-loop-part
overflow_add-sums-in-loop-part c =
    let log = lines_of c.args.log.now in
    let opts = c.args.opts.now in
    let parts = c.args.parts.now in
    let i = c.loop-part.part in
    let part = c.index-parts-part.result in
    let more = part_more parts i part c.requires.0 c.loop-part-test.true c.index-parts-part.is in
    let room = more.0 in
    let here : c.in_ok-sums-2.field-0 ≡ ordered_of log opts part =
    c.in_ok-sums-2.ensures
    ∙ (ap (λ (lines : Lines). ordered_if lines opts) (c.in_ok-lines.ensures ∙ ap (part_of log) c.deref.ensures.value)
    ∙ sym (ap (ordered_of log opts) c.index-parts-part.is)) in
    let few = few_pairs log opts part (omega arith) in
    let so_far = c.loop-part.invariant.pairs in
    omega arith

pub loop-part-preserved : goal.loop-part-preserved
loop-part-preserved c =
    let log = lines_of c.args.log.now in
    let opts = c.args.opts.now in
    let parts = c.args.parts.now in
    let i = c.loop-part.part in
    let part = c.index-parts-part.result in
    let inv = c.loop-part.invariant in
    let more = part_more parts i part c.requires.0 c.loop-part-test.true c.index-parts-part.is in
    let room = more.0 in
    let next = more.1 in
    let unread : c.in_ok-sums.field-0 ≡ unreported_of log opts part =
    c.in_ok-sums.ensures
    ∙ (ap (λ (lines : Lines). unreported (case_of lines opts)) (c.in_ok-lines.ensures ∙ ap (part_of log) c.deref.ensures.value)
    ∙ sym (ap (unreported_of log opts) c.index-parts-part.is)) in
    let pairs : c.in_ok-sums-2.field-0 ≡ ordered_of log opts part =
    c.in_ok-sums-2.ensures
    ∙ (ap (λ (lines : Lines). ordered_if lines opts) (c.in_ok-lines.ensures ∙ ap (part_of log) c.deref.ensures.value)
    ∙ sym (ap (ordered_of log opts) c.index-parts-part.is)) in
    let few = few_unreported log opts part in
    let few_too = few_pairs log opts part (omega arith) in
    let so_far = inv.few in
    let so_far_too = inv.pairs in
    record {
      unreported = sum_more (unreported_of log opts) parts i part c.loop-part.sums.unreported c.in_ok-sums.field-0 c.loop-part-test.true c.index-parts-part.is inv.unreported unread;
      few = omega arith;
      ordered = sum_more (ordered_of log opts) parts i part c.loop-part.sums.ordered c.in_ok-sums-2.field-0 c.loop-part-test.true c.index-parts-part.is inv.ordered pairs;
      pairs = omega arith;
    }
