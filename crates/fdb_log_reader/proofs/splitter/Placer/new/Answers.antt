use Rattle.std.proofs.Common.{◌≡◌, ◌∙◌, get_or, sym, arith}
use Rattle.std.proofs.lemmas.List.{get_or-map}
use Rattle.fdb_log_reader.specs.declared.part_text.PartText.{PartText}
use Rattle.fdb_log_reader.proofs.splitter.Placer.new.Goals as goal

pub invariant_of-result : goal.invariant_of-result
invariant_of-result c =
    let parts = c.in_ok-no_lines.field-0.items in
    record {
      some = let many = c.in_ok-no_lines.ensures.many in let some = c.requires in omega arith;
      few = λ k d lt.
          let none : (get_or parts k d).lines ≡ 0 = sym (get_or-map (λ (part : PartText). part.lines) parts k d 0 lt) ∙ c.in_ok-no_lines.ensures.counts k in
          omega (arith, none);
    }
