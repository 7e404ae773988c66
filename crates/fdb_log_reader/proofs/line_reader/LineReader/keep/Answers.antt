use Rattle.std.proofs.Common.{◌≡◌, ◌∙◌, ◌+◌, ◌-◌, ◌++◌, ◌≤◌, ap, arith, length, refl}
use Rattle.fdb_log_reader.specs.declared.reader.TheConstants.{MAX_LINE_BYTES}
use Rattle.fdb_log_reader.proofs.SingleLines.{keeps}
use Rattle.fdb_log_reader.proofs.line_reader.LineReader.keep.Goals as goal

pub returns : goal.returns
returns c =
    let old = c.args.self.now in
    let front = old.front.items in
    let room = MAX_LINE_BYTES + 1 - c.len.result in
    let size : c.len.result ≡ length front = c.len.ensures ∙ old.front.ok.0 in
    let short : length front ≤ MAX_LINE_BYTES + 1 = old.short in
    keeps old _ c.args.bytes.now room c.requires (omega arith) refl refl
    (c.in_ok-extend_from_slice.ensures.items ∙ ap (λ part. front ++ part) c.at_most.ensures)
