use Rattle.std.proofs.Common.{◌++◌, ◌∷◌, [], None, ap, refl, sym, ◌∙◌}
use Rattle.std.proofs.lemmas.List.{get_or_default, get_or-map}
use Rattle.fdb_lines.specs.declared.log.Part.{Part}
use Rattle.fdb_lines.proofs.log.add_place.Goals as goal

pub returns : goal.returns
returns c =
    let parts = c.args.parts.now.items in
    let number = c.args.number in
    let was = c.index_mut.result.now in
    let of = λ (part : Part). part.key in
    let new : Part = record { key = was.key; places = c.push.new.self } in
    let is = c.index_mut.ensures.value in (
      new,
      ap of is ∙ sym (get_or-map of parts number was None c.requires),
      c.in_ok-push.ensures.items ∙ ap (λ (part : Part). part.places.items ++ c.args.place ∷ []) (is ∙ get_or_default parts number was new c.requires),
      refl,
    )
