use Rattle.std.proofs.Common.{◌≡◌, ℕ, ◌<◌, Bool, List, map, length, slice_index, ap, ◌∙◌, arith}
use Rattle.std.proofs.lemmas.List.{get_or-map, length-map, take_all}
use Rattle.fdb_lines.specs.declared.line.Line.{Line}
use Rattle.fdb_lines.specs.Lines.{has_times, line_at, nobody}
use Rattle.fdb_lines.proofs.log.Log.part.Goals as goal

part_alike : (lines part : List Line) (places : List ℕ) (timed : Bool) → part ≡ map (line_at lines) places
    → ((k : ℕ) → k < length lines → has_times (line_at lines k) ≡ timed) → ((j : ℕ) → j < length places → slice_index places j < length lines)
    → (k : ℕ) → k < length part → has_times (line_at part k) ≡ timed
part_alike lines part places timed is alike within k lt =
    let inside : k < length places = omega (arith, ap length is, length-map places (line_at lines)) in
    ap (λ (ls : List Line). has_times (line_at ls k)) is
    ∙ (ap has_times (get_or-map (line_at lines) places k 0 nobody inside) ∙ alike (slice_index places k) (within k inside))

pub invariant_of-result : goal.invariant_of-result
invariant_of-result c =
    let lines = c.args.self.now.lines.items in
    let places = c.args.places.now in
    let last = c.loop-place-test.false in
    let all : c.loop-place.lines.items ≡ map (line_at lines) places = c.loop-place.invariant ∙ ap (map (line_at lines)) (take_all c.loop-place.place-index places (omega arith)) in
    record {
      few = (let few = c.requires.few in omega (arith, ap length all, length-map places (line_at lines)));
      alike = part_alike lines c.loop-place.lines.items places c.args.self.now.timed all c.args.self.now.alike c.requires.within;
    }
