use Rattle.std.proofs.Common.{◌∙◌, None, ap, arith, inl, inr, refl, sym}
use Rattle.std.proofs.lemmas.Grind.{common_steps}
use Rattle.std.proofs.lemmas.List.{get_or-map}
use Rattle.fdb_lines.specs.declared.key_part.KeyPart.{KeyPart}
use Rattle.fdb_lines.proofs.KeyNumbers.{part_there}
use Rattle.fdb_lines.proofs.key_watch.KeyWatch.judged_from.Goals as goal

pub index-requires : goal.index-requires
index-requires c =
    let its = part_there c.args.self.now c.args.key c.in-Some.place.now (grind (arith, common_steps, c.in-Some.ensures.value, c.number_of.ensures)) in
    let lt = its.0 in omega (arith, lt, c.args.self.now.parts.ok.0)

pub returns-in-Some : goal.returns-in-Some
returns-in-Some c =
    let watch = c.args.self.now in
    let place = c.in-Some.place.now in
    let its = part_there watch c.args.key place (grind (arith, common_steps, c.in-Some.ensures.value, c.number_of.ensures)) in
    let part = c.index.result.now in
    let key_is = λ (part : KeyPart). part.key in
    inl (part, (place, its.0, sym c.index.ensures), ap key_is c.index.ensures ∙ (sym (get_or-map key_is watch.parts.items place part None its.0) ∙ its.1), c.judged_from.ensures)

pub returns-in-None : goal.returns-in-None
returns-in-None c =
    inr (c.args.self.now.numbered.absent c.args.key (grind (arith, common_steps, c.in-None.ensures.value, c.number_of.ensures)), refl)
