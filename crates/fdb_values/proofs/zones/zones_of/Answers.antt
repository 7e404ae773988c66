use Rattle.std.proofs.Common.{◌≡◌, ap, sym, ◌∙◌, add-one}
use Rattle.std.proofs.lemmas.List.{get_or_default}
use Rattle.fdb_lines.specs.declared.line.Line.{Line}
use Rattle.fdb_lines.specs.Lines.{line_at, nobody, version_of}
use Rattle.fdb_values.proofs.Found.{zone_more}
use Rattle.fdb_values.proofs.zones.zones_of.Goals as goal

pub loop-line-preserved : goal.loop-line-preserved
loop-line-preserved c =
    let lines = c.args.lines.now in
    let k = c.loop-line.line-index in
    let item = c.line-item.result in
    let line : item ≡ line_at lines k = c.line-item.is ∙ get_or_default lines k item nobody c.loop-line-test.true in
    let value = c.version-value.result in
    let zones = c.loop-line.zones in
    rw add-one (zone_more lines k value zones c.insert.new.self c.with-zone.result (sym (c.version-value.ensures ∙ ap (λ (line : Line). version_of line.call) line))
    c.in_ok-insert.ensures.updates.0
    (rw (← line, ← c.zone_in.ensures) c.with-zone.ensures.first) (rw (← line, ← c.zone_in.ensures) c.with-zone.ensures.last) c.loop-line.invariant)
