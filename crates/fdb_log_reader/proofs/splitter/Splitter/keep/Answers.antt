use Rattle.std.proofs.Common.{◌∙◌, ap, arith, inr, sym}
use Rattle.fdb_log_reader.specs.declared.error.ReadError.{ReadError}
use Rattle.fdb_log_reader.specs.Split.{AllPlaced}
use Rattle.std.proofs.Common.{Err}
use Rattle.fdb_log_reader.proofs.Placed.{too_long}
use Rattle.fdb_log_reader.proofs.splitter.Splitter.keep.Goals as goal

pub returns-then-bytes-len : goal.returns-then-bytes-len
returns-then-bytes-len c =
    let old = c.args.self in
    let size = old.front.ok.0 in
    let short = old.short in
    let len = c.len.ensures in
    let long = c.if-bytes-len.true in
    inr (λ rest. too_long old c.args.bytes.now rest c.requires (omega arith) ∙ ap (λ (e : ReadError). let it : AllPlaced = Err e in it) (sym c.error.ensures))
