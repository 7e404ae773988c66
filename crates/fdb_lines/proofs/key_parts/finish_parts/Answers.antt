use Rattle.std.proofs.Common.{◌≡◌, ◌++◌, ◌∷◌, ◌+◌, [], List, None, length, slice_index, get_or, ap, sym, subst, ◌∙◌, inl, inr, arith, length-append}
use Rattle.std.specs.List.{All}
use Rattle.std.proofs.lemmas.Bool.{cases_lt}
use Rattle.std.proofs.lemmas.List.{get_or_append_left, get_or_default, get_or_push, get_or-set_other, length-set}
use Rattle.std.proofs.lemmas.List.Elements.{All-push}
use Rattle.fdb_lines.specs.declared.key_part.KeyPart.{KeyPart}
use Rattle.fdb_lines.specs.declared.key_part.SettledKey.{SettledKey}
use Rattle.fdb_lines.specs.private.KeyParts.{IsEntryOf}
use Rattle.fdb_lines.proofs.key_parts.finish_parts.Goals as goal

pub loop-place-preserved : goal.loop-place-preserved
loop-place-preserved c =
    let old = c.args.parts.items in
    let places = c.args.places.now in
    let n = c.loop-place.place-index in
    let inv = c.loop-place.invariant in
    let parts = c.loop-place.parts.items in
    let entries = c.loop-place.told.items in
    let entry = c.in_ok-finish.field-0 in
    let part = c.replace-part.result in
    let place = slice_index places n in
    let more = c.loop-place-test.true in
    let size = inv.size in
    let within = c.requires.within n 0 more in
    let pushed : c.push.new.self.items ≡ entries ++ entry ∷ [] = c.in_ok-push.ensures.items in
    let its : IsEntryOf None part entry = record {
      key = c.in_ok-finish.ensures.key;
      told = c.in_ok-finish.ensures.told;
      log = c.in_ok-finish.ensures.log;
      numbers = c.in_ok-finish.ensures.numbers;
    } in
    let was = c.index_mut.result.now in
    let part_is : (d : KeyPart) → part ≡ get_or old place d = λ d.
    c.replace-part.ensures.value ∙ (c.index_mut.ensures.value ∙ (get_or_default parts place was d (omega arith) ∙ inv.rest n d (omega arith) more)) in
    record {
      as_many = ap length pushed ∙ (length-append entries (entry ∷ []) ∙ ap (λ m. m + 1) inv.as_many);
      size = length-set parts place c.replace-part.new.dest ∙ inv.size;
      each = λ j d e lt.
          let many = inv.as_many in
          subst (λ (xs : List SettledKey). IsEntryOf None (get_or old (slice_index places j) d) (get_or xs j e)) (sym pushed) (elim (cases_lt j n) [
            | inl less ↦ subst (IsEntryOf None (get_or old (slice_index places j) d)) (sym (get_or_append_left entries (entry ∷ []) e j (omega arith))) (inv.each j d e less)
            | inr ge ↦
                let is : n ≡ j = omega arith in
                subst (IsEntryOf None (get_or old (slice_index places j) d)) (sym (get_or_push entries entry e j (omega arith)))
                (subst (λ (x : KeyPart). IsEntryOf None x entry) (part_is d ∙ ap (λ m. get_or old (slice_index places m) d) is) its)
          ]);
      kept = subst (All (λ (entry : SettledKey). entry.settled.kept.items ≡ [])) (sym pushed)
          (All-push (λ (entry : SettledKey). entry.settled.kept.items ≡ []) entries entry inv.kept c.in_ok-finish.ensures.kept);
      rest = λ j d ge lt.
          get_or-set_other parts place (slice_index places j) c.replace-part.new.dest d (λ same. c.requires.once n j 0 (omega arith) lt (sym same))
          ∙ inv.rest j d (omega arith) lt;
    }

pub returns-clause-kept : goal.returns-clause-kept
returns-clause-kept c = c.loop-place.invariant.kept

pub returns-clause-entries : goal.returns-clause-entries
returns-clause-entries c =
    let inv = c.loop-place.invariant in
    let all : c.loop-place.place-index ≡ length c.args.places.now = (let end = c.loop-place.auto.place-index-end in let test = c.loop-place-test.false in omega arith) in
    record {
      as_many = inv.as_many ∙ all;
      each = λ j d e lt. inv.each j d e (omega arith);
    }
