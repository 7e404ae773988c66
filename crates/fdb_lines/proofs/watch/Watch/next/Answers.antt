use Rattle.std.proofs.Common.{◌≡◌, ℕ, ◌-◌, List, length, map, slice_index, ap, sym, subst, ◌∙◌, arith}
use Rattle.std.proofs.lemmas.List.{length-map}
use Rattle.fdb_lines.specs.declared.line.Line.{Line}
use Rattle.fdb_lines.specs.Carried.{StandFor}
use Rattle.fdb_lines.specs.Lines.{Lines, line_at, lines_in}
use Rattle.fdb_lines.specs.Watch.{judged_from}
use Rattle.fdb_lines.proofs.Carried.{few_places, fewer_are, later, of_a_part}
use Rattle.fdb_lines.proofs.watch.Watch.next.Goals as goal

pub part-requires-clause-few : goal.part-requires-clause-few
part-requires-clause-few c =
    let watch = c.args.self.now in
    let few = few_places watch.margin c.saturating_sub.result watch.log.lines.items c.in_ok-kept.kept.items c.in_ok-kept.ensures.stand in
    let most = watch.log.few in
    omega (arith, ap length c.deref-3.ensures.value)

pub invariant_of-watch : goal.invariant_of-watch
invariant_of-watch c =
    let watch = c.args.self.now in
    let places = c.in_ok-kept.kept.items in
    let stand = c.in_ok-kept.ensures.stand in
    let log = c.in_ok-log.ensures in
    let part : c.in_ok-log.log.lines.items ≡ lines_in watch.log.lines.items places =
    ap (λ (log : Lines). log.lines) log ∙ ap (lines_in watch.log.lines.items) c.deref-3.ensures.value in
    let size = ap length part ∙ length-map places (line_at watch.log.lines.items) in
    record {
      as_many =
          ap length c.in_ok-numbers.ensures ∙ (length-map c.deref-2.result.now (slice_index c.deref.result.now) ∙ (ap length c.deref-2.ensures.value ∙ sym size));
      timed = λ some. ap (λ (log : Lines). log.timed) log ∙ watch.timed (let first = stand.within 0 (omega arith) in omega arith);
    }

pub returns-clause-seen : goal.returns-clause-seen
returns-clause-seen c = λ lines seen.
    let watch = c.args.self.now in
    let numbers = watch.numbers.items in
    let places = c.in_ok-kept.kept.items in
    let at = c.saturating_sub.result in
    let moment = c.saturating_sub.ensures in
    let late = c.max-at.ensures in
    let keep : StandFor watch.margin at (lines_in lines numbers) places =
    subst (λ (ls : List Line). StandFor watch.margin at ls places) seen.kept c.in_ok-kept.ensures.stand in
    let fewer : c.in_ok-numbers.numbers.items ≡ map (slice_index numbers) places =
    c.in_ok-numbers.ensures
    ∙ (ap (λ (ns : List ℕ). map (slice_index ns) c.deref-2.result.now) c.deref.ensures.value ∙ ap (map (slice_index numbers)) c.deref-2.ensures.value) in
    record {
      count = seen.count;
      kept =
          ap (λ (log : Lines). log.lines) c.in_ok-log.ensures
          ∙ (ap (lines_in watch.log.lines.items) c.deref-3.ensures.value
          ∙ (ap (λ (ls : List Line). lines_in ls places) seen.kept
          ∙ (fewer_are lines numbers places keep.within ∙ ap (lines_in lines) (sym fewer))));
      stand = subst (StandFor watch.margin (c.max-at.result - watch.horizon) lines) (sym fewer)
          (subst (λ m. StandFor watch.margin m lines (map (slice_index numbers) places)) moment
          (of_a_part watch.margin at lines numbers (later watch.margin (judged_from watch) at lines numbers (omega arith) seen.stand) places keep));
    }
