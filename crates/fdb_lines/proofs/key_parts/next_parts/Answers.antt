use Rattle.std.proofs.Common.{◌≡◌, ◌++◌, ◌∷◌, ◌+◌, [], List, length, slice_index, get_or, ap, sym, subst, ◌∙◌, arith, length-append}
use Rattle.std.proofs.lemmas.List.{get_or_default}
use Rattle.fdb_lines.specs.declared.key_part.KeyPart.{KeyPart}
use Rattle.fdb_lines.specs.declared.key_part.SettledKey.{SettledKey}
use Rattle.fdb_lines.specs.private.KeyParts.{IsNext, IsNextOf}
use Rattle.fdb_lines.proofs.PutOn.{next_more}
use Rattle.fdb_lines.proofs.key_parts.next_parts.Goals as goal

pub loop-place-preserved : goal.loop-place-preserved
loop-place-preserved c =
    let at = c.args.at in
    let parts = c.args.parts.now in
    let places = c.args.places.now in
    let n = c.loop-place.place-index in
    let inv = c.loop-place.invariant in
    let nexts = c.loop-place.next_parts.items in
    let entries = c.loop-place.told.items in
    let next = c.in_ok-next.next.part in
    let entry : SettledKey = record {
      key = (get_or parts (slice_index places n) c.index-parts-place-in-loop-place.result).key;
      settled = record { log = c.new.result; numbers = c.new-in-loop-place.result; found = c.in_ok-next.next.found; kept = c.in_ok-next.next.kept };
    } in
    let inside = c.requires n 0 c.loop-place-test.true in
    let here : (d : KeyPart) → IsNextOf at (get_or parts (slice_index places n) d) next entry = λ d. (
      subst (λ (it : KeyPart). IsNext at it next entry.settled.found.items entry.settled.kept.items)
          (c.index-parts-place.is ∙ get_or_default parts (slice_index places n) c.index-parts-place.result d inside) c.in_ok-next.ensures,
      ap (λ (it : KeyPart). it.key) (get_or_default parts (slice_index places n) c.index-parts-place-in-loop-place.result d inside),
    ) in
    let nexts_are : c.push.new.self.items ≡ nexts ++ next ∷ [] = c.in_ok-push.ensures.items in
    let entries_are : c.push-in-loop-place.new.self.items ≡ entries ++ entry ∷ [] = c.in_ok-push-2.ensures.items in
    let more = next_more at parts places n nexts entries next entry inv.as_many inv.entries_too inv.each here in
    record {
      as_many = ap length nexts_are ∙ (length-append nexts (next ∷ []) ∙ ap (λ m. m + 1) inv.as_many);
      entries_too = ap length entries_are ∙ (length-append entries (entry ∷ []) ∙ ap (λ m. m + 1) inv.entries_too);
      each = λ j d e f lt.
          subst (λ (xs : List KeyPart). IsNextOf at (get_or parts (slice_index places j) d) (get_or xs j e) (get_or c.push-in-loop-place.new.self.items j f)) (sym nexts_are)
          (subst (λ (xs : List SettledKey). IsNextOf at (get_or parts (slice_index places j) d) (get_or (nexts ++ next ∷ []) j e) (get_or xs j f)) (sym entries_are) (more j d e f lt));
    }

pub returns : goal.returns
returns c =
    let inv = c.loop-place.invariant in
    let all : c.loop-place.place-index ≡ length c.args.places.now = (let end = c.loop-place.auto.place-index-end in let test = c.loop-place-test.false in omega arith) in
    record {
      as_many = inv.as_many ∙ all;
      entries_too = inv.entries_too ∙ all;
      each = λ j d e f lt. inv.each j d e f (omega arith);
    }
