use Rattle.std.proofs.Common.{◌≡◌, ◌<◌, ◌++◌, ◌∙◌, ap, sym, get_or, length, add-one, option_to_list, arith}
use Rattle.std.proofs.lemmas.List.{get_or_default}
use Rattle.fdb_lines.specs.Faults.{is_reported, knows}
use Rattle.fdb_lines.specs.Lines.{nobody, line_at, version_at}
use Rattle.fdb_lines.specs.private.Slots.{entries_below, ask_entry, take_entry, report_entry}
use Rattle.fdb_lines.specs.private.Tables.{case_in}
use Rattle.fdb_lines.proofs.order.slots_of.Goals as goal

pub loop-place-preserved : goal.loop-place-preserved
loop-place-preserved c =
    let it = case_in c.args.tables.now in
    let k = c.loop-place.place in
    let item = c.line-item.result in
    let below : k < length it.lines = omega (arith, ap length c.lines-line-items.ensures) in
    let line : item ≡ line_at it.lines k = c.line-item.is ∙ (ap (λ l. get_or l k item) c.lines-line-items.ensures ∙ get_or_default it.lines k item nobody below) in
    let start : c.start-start.result ≡ it.start = rw c.opts.ensures at c.start-start.ensures in
    let known : c.knows-known.result ≡ knows it k = c.knows-known.ensures in
    let reported : c.is_reported-reported.result ≡ is_reported it (version_at it k) = c.is_reported-reported.ensures in
    let asked = c.in_ok-add_slot.ensures ∙ (λ i. c.loop-place.invariant i ++ option_to_list ((c.ask.ensures ∙ (λ j. ask_entry (line j) k (start j))) i)) in
    let took = c.in_ok-add_slot-2.ensures ∙ (λ i. asked i ++ option_to_list ((c.take.ensures ∙ (λ j. take_entry (line j) k (known j))) i)) in
    c.in_ok-add_slot-3.ensures ∙ (λ i. took i ++ option_to_list ((c.report.ensures ∙ (λ j. report_entry (line j) (start j) (reported j))) i)) ∙ ap (entries_below it) (sym (add-one k))
