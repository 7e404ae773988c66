use Rattle.std.proofs.Common.{◌≡◌, length, ap, sym, ◌∙◌, arith}
use Rattle.std.proofs.lemmas.List.{length-map}
use Rattle.fdb_lines.specs.declared.log.Part.{Part}
use Rattle.fdb_lines.specs.Keys.{key_at, keys_of}
use Rattle.fdb_lines.specs.Log.{lines_of}
use Rattle.fdb_lines.proofs.Gathered.{gathered_all, gathered_more}
use Rattle.fdb_lines.proofs.Keyed.{of_key}
use Rattle.fdb_lines.proofs.Parted.{part_at}
use Rattle.fdb_lines.proofs.finding.findings_by_key.Goals as goal

pub part-requires-clause-within : goal.part-requires-clause-within
part-requires-clause-within c = λ j lt.
    let keys = c.args.keys.now in
    let n = c.loop-part.part in
    let parts = c.in_ok-parts.ensures in
    let part = part_at keys c.in_ok-parts.parts.items n c.index.result.now parts.keys parts.places (omega arith) c.index.ensures in
    let as_many = c.requires.as_many in
    let inside = (of_key keys (key_at (keys_of keys) n) c.deref.result.now (c.deref.ensures.value ∙ part.1) j lt).0 in
    omega arith

pub loop-part-preserved : goal.loop-part-preserved
loop-part-preserved c =
    let keys = c.args.keys.now in
    let n = c.loop-part.part in
    let parts = c.in_ok-parts.ensures in
    let part = part_at keys c.in_ok-parts.parts.items n c.index.result.now parts.keys parts.places (omega arith) c.index.ensures in
    let found = c.loop-part.found.items in
    let here = c.in_ok-here.ensures in
    let places = c.deref.ensures.value in
    let added = rw (c.deref-in-loop-part.ensures.value, c.deref-in-loop-part-2.ensures.value) at c.in_ok-add_placed.ensures in
    gathered_more (lines_of c.args.log.now) c.args.opts.now keys n found c.in_ok-here.here.items c.add_placed.new.found.items (lines_of c.in_ok-lines.lines)
    c.index.result.now.places.items part.0 part.1 (rw places at c.in_ok-lines.ensures) added here.all.listed here.all.reasons here.all.late c.loop-part.invariant

pub returns : goal.returns
returns c =
    let keys = c.args.keys.now in
    let parts = c.in_ok-parts.ensures in
    let size : length (keys_of keys) ≡ length c.in_ok-parts.parts.items = ap length (sym parts.keys) ∙ length-map c.in_ok-parts.parts.items (λ (part : Part). part.key) in
    let test = c.loop-part-test.false in
    let all = gathered_all (lines_of c.args.log.now) c.args.opts.now keys c.loop-part.part c.loop-part.found.items c.sort_by_line.new.found.items (omega arith) c.requires.as_many
    c.in_ok-sort_by_line.ensures c.loop-part.invariant in
    record { all = record { listed = all.0; reasons = all.2; late = all.3 }; explained = all.1 }
