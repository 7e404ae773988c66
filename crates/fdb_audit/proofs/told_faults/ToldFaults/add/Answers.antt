use Rattle.std.proofs.Common.{◌≡◌, ◌∙◌, ◌++◌, ◌∷◌, [], ap, arith, length, map, refl, string_bytes, subst, sym}
use Rattle.std.proofs.lemmas.List.{length-map, map_push, with_items_is}
use Rattle.std.proofs.lemmas.Result.{on_ok_weaker}
use Rattle.fdb_audit.specs.ToldFaults.{client_of, told_at, ToldFault}
use Rattle.fdb_audit.specs.declared.told_faults.TextGroups.{TextGroups}
use Rattle.fdb_audit.specs.private.{shown_in}
use Rattle.fdb_audit.specs.Tallied.{HasKinds, HasTextsIn}
use Rattle.fdb_audit.proofs.told_faults.ToldFaults.add.Goals as goal

pub returns : goal.returns
returns c = on_ok_weaker c.add_texts.result (λ more. λ members told has.
    let self = c.args.self.now in
    let it = shown_in c.args.printer in
    let fault : ToldFault = told_at it.lines it.names it.beside c.args.found in
    let texts = more members told (subst (HasTextsIn members told) (sym c.deref_mut.ensures.value) has.texts) in
    let one = length-map c.add_texts.new.texts (λ (groups : TextGroups). string_bytes groups.member) in
    let two = length-map self.texts.items (λ (groups : TextGroups). string_bytes groups.member) in
    let many = ap length texts.members_are in
    let same = ap length has.texts.members_are in
    let size : length c.add_texts.new.texts ≡ self.texts.len = omega (arith, one, two, many, same, self.texts.ok.0) in
    record {
      kinds = subst (HasKinds c.add.new.self) (sym (map_push (λ (it : ToldFault). it.kind) told fault)) (c.in_ok-add.ensures (map (λ (it : ToldFault). it.kind) told) has.kinds);
      clients = c.in_ok-add-2.ensures.counted client_of told fault (sym c.in_ok-client.ensures ∙ sym c.as_deref.ensures.value) refl has.clients;
      texts = subst (HasTextsIn members (told ++ fault ∷ [])) (sym (with_items_is self.texts c.add_texts.new.texts size)) texts;
      columns = has.columns;
    }) c.add_texts.ensures
