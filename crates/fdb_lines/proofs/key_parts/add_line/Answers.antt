use Rattle.std.proofs.Common.{◌≡◌, ℕ, ◌++◌, ◌∷◌, [], Bool, List, true, false, set, get_or, ap, sym, subst, refl, ◌∙◌, arith}
use Rattle.std.proofs.lemmas.List.{get_or_default, get_or-map, length-map, map-set, set-get_or}
use Rattle.std.proofs.lemmas.Result.{on_ok_weaker, on_err_weaker}
use Rattle.fdb_lines.specs.declared.key_part.KeyPart.{KeyPart}
use Rattle.fdb_lines.specs.KeyParts.{HasStayed}
use Rattle.fdb_lines.specs.private.KeyParts.{flag_at, flags_of, AreOpen, HasNoMore, HasOneMore, IsAs}
use Rattle.fdb_lines.proofs.Opened.{opened_more, opened_still}
use Rattle.fdb_lines.proofs.key_parts.add_line.Goals as goal
use Rattle.fdb_lines.proofs.key_parts.add_line.Goals.{then-not-index+in_default, else-not-index}

pub returns-in-Err-clause-err : goal.returns-in-Err-clause-err
returns-in-Err-clause-err c =
    let parts = c.args.parts.now.items in
    let place = c.args.place in
    let it = c.index.result.now in
    let is = c.index.ensures in (
      it,
      subst (λ (old : KeyPart). HasNoMore old it) is (record { key = refl; seen = λ lines seen. seen; kept = refl; numbers = refl }),
      sym (ap (set parts place) is ∙ set-get_or parts place it),
    )

pub returns-in-Err-clause-stays : goal.returns-in-Err-clause-stays
returns-in-Err-clause-stays c =
    let parts = c.args.parts.now.items in
    let place = c.args.place in
    let it = c.index.result.now in
    let is = c.index.ensures in (
      it,
      subst (λ (old : KeyPart). HasStayed old it) is (record { key = refl; from = refl; settled = refl }),
      subst (λ (old : KeyPart). IsAs old it) is (record { its_margin = refl; its_horizon = refl; its_from = omega arith }),
      sym (ap (set parts place) is ∙ set-get_or parts place it),
    )

pub returns : goal.returns
returns c =
    let parts = c.args.parts.now.items in
    let place = c.args.place in
    let places = c.args.open_parts.now.items in
    let new = c.push-2.new.self in
    let was = c.index_mut.result.now in
    let is : was ≡ get_or parts place new = c.index_mut.ensures.value ∙ get_or_default parts place was new c.requires.within in
    let open_flag = λ (part : KeyPart). part.is_open in
    let flags = flags_of parts in
    let size = length-map parts open_flag in
    let it = c.index.result.now in
    let flag : flag_at flags place ≡ it.is_open = get_or-map open_flag parts place it false c.requires.within ∙ sym (ap open_flag c.index.ensures) in
    let are : flags_of (set parts place new) ≡ set flags place true = map-set open_flag parts place new ∙ ap (set flags place) c.push-2.ensures.opened in
    record {
      opened =
          elim c.if-not-index.branch [
            | then-not-index+in_default w ↦
                let listed : c.if-not-index.open_parts.items ≡ places ++ place ∷ [] = ap (λ (v : Rattle.std.specs.Prelude.Vec ℕ _). v.items) w.open_parts-is ∙ w.in_default.ensures.items in
                subst (λ (fs : List Bool). AreOpen fs c.if-not-index.open_parts.items) (sym are)
                (subst (AreOpen (set flags place true)) (sym listed)
                (opened_more flags places place c.requires.opened (let within = c.requires.within in omega arith) (flag ∙ w.if-not-index.true)))
            | else-not-index w ↦
                let listed : c.if-not-index.open_parts.items ≡ places = ap (λ (v : Rattle.std.specs.Prelude.Vec ℕ _). v.items) w.open_parts-is in
                subst (λ (fs : List Bool). AreOpen fs c.if-not-index.open_parts.items) (sym are)
                (subst (AreOpen (set flags place true)) (sym listed) (opened_still flags places place c.requires.opened (flag ∙ w.if-not-index.false)))
          ];
      stays = (new, subst (λ (old : KeyPart). HasStayed old new) is c.push-2.ensures.stays, subst (λ (old : KeyPart). IsAs old new) is c.push-2.ensures.alike, refl);
      ok = on_ok_weaker c.push-2.result (λ more. (new, subst (λ (old : KeyPart). HasOneMore c.args.line c.args.number old new) is more, refl)) c.push-2.ensures.ok;
      err = on_err_weaker c.push-2.result (λ more. (new, subst (λ (old : KeyPart). HasNoMore old new) is more, refl)) c.push-2.ensures.err;
    }
