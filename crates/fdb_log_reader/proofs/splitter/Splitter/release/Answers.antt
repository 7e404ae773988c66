use Rattle.std.proofs.Common.{◌∙◌, List, ℕ, ap, set}
use Rattle.std.proofs.Math.Seq.{map-set_same}
use Rattle.std.proofs.lemmas.List.{map-set}
use Rattle.fdb_log_reader.specs.declared.part_text.PartText.{PartText}
use Rattle.fdb_log_reader.specs.Splitter.{texts_in}
use Rattle.fdb_log_reader.proofs.splitter.Splitter.release.Goals as goal

pub returns-clause-texts : goal.returns-clause-texts
returns-clause-texts c =
    let parts = c.args.self.now.placer.parts.items in
    map-set (λ (part : PartText). part.text.items) parts c.args.part _ ∙ ap (λ (text : List ℕ). set (texts_in parts) c.args.part text) c.clear.ensures.items

pub returns-clause-counts : goal.returns-clause-counts
returns-clause-counts c =
    let parts = c.args.self.now.placer.parts.items in
    map-set_same (λ (part : PartText). part.lines) parts c.args.part _ c.index_mut-its.result.now (ap (λ (part : PartText). part.lines) c.index_mut-its.ensures.value)
