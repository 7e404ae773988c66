use Rattle.std.proofs.Common.{◌≡◌, ◌++◌, ◌∷◌, [], List, length, slice_index, get_or, set, ap, sym, subst, refl, ◌∙◌, arith, length-append}
use Rattle.std.proofs.lemmas.List.{get_or_default}
use Rattle.fdb_lines.specs.declared.key_part.KeyPart.{KeyPart}
use Rattle.fdb_lines.specs.declared.key_part.SettledKey.{SettledKey}
use Rattle.fdb_lines.specs.private.KeyParts.{IsGiven}
use Rattle.fdb_lines.proofs.PutOn.{put_more, PutSoFar}
use Rattle.fdb_lines.proofs.key_parts.put_parts.Goals as goal

pub loop-next-init : goal.loop-next-init
loop-next-init c = record {
  fewer = (let sizes = c.requires.sizes.0 in omega arith);
  same = λ j d lt. refl;
  as_many = refl;
  entries_too = refl;
  put = λ j d ge lt. absurd (let sizes = c.requires.sizes.0 in omega arith);
  others = λ i d away. refl;
  its = λ j d e ge lt. absurd (let sizes = c.requires.sizes.0 in omega arith);
  rest = λ j e lt. refl;
}

pub loop-next-preserved : goal.loop-next-preserved
loop-next-preserved c =
    let places = c.args.places.now in
    let old = c.args.parts.now.items in
    let nexts = c.args.next_parts.items in
    let entries = c.args.told.now.items in
    let parts = c.loop-next.parts.items in
    let given = c.loop-next.told.items in
    let left = c.pop.new.self.items in
    let next = c.in-Some.next in
    let one = c.go_on.new.told in
    let n = c.len-place.result in
    let size : n ≡ length left = (let is = c.len-place.ensures in omega (arith, c.pop.new.self.ok.0)) in
    let far : PutSoFar places old nexts entries (left ++ next ∷ []) parts given =
    subst (λ (xs : List KeyPart). PutSoFar places old nexts entries xs parts given) c.in-Some.ensures.items c.loop-next.invariant in
    let fewer = far.fewer in
    let here : (d : KeyPart) (e : SettledKey) → IsGiven (get_or parts (slice_index places (length left)) d) (get_or given (length left) e) one = λ d e.
    let many = far.entries_too in
    let fewer = far.fewer in
    let longer = length-append left (next ∷ []) in
    let within = c.requires.within (length left) 0 (omega arith) in
    let parts_as_many = far.as_many in
    let part = c.index_mut.result.now in
    let entry = c.index_mut-in-Some.result.now in
    let part_is : part ≡ get_or parts (slice_index places (length left)) d =
    c.index_mut.ensures.value ∙ (ap (λ m. get_or parts (slice_index places m) part) size ∙ get_or_default parts (slice_index places (length left)) part d (omega arith)) in
    let sizes = c.requires.sizes.1 in
    let entry_is : entry ≡ get_or given (length left) e =
    c.index_mut-in-Some.ensures.value ∙ (ap (λ m. get_or given m entry) size ∙ get_or_default given (length left) entry e (omega arith)) in
    let its : IsGiven part entry one = record {
      key = c.go_on.ensures.key;
      found = c.go_on.ensures.found;
      kept = c.go_on.ensures.kept;
      log = c.go_on.ensures.log;
      numbers = c.go_on.ensures.numbers;
    } in
    subst (λ (x : KeyPart). IsGiven x (get_or given (length left) e) one) part_is (subst (λ (x : SettledKey). IsGiven part x one) entry_is its) in
    let more = put_more places old nexts entries left next parts given one c.requires.once c.requires.within c.requires.sizes.1 far here in
    subst (λ m. PutSoFar places old nexts entries left (set parts (slice_index places m) c.go_on.new.self) (set given m one)) (sym size)
    (subst (λ (x : KeyPart). PutSoFar places old nexts entries left (set parts (slice_index places (length left)) x) (set given (length left) one)) (sym c.go_on.ensures.on) more)

pub returns : goal.returns
returns c =
    let inv = c.loop-next.invariant in
    let none : length c.loop-next.next_parts.items ≡ 0 = (let is = c.in_default.ensures.cases.0 in omega (arith, c.loop-next.next_parts.ok.0)) in
    record {
      as_many = inv.as_many;
      entries_too = inv.entries_too;
      put = λ j d lt. inv.put j d (omega arith) lt;
      others = λ i d away. inv.others i d (λ j ge lt. away j lt);
      its = λ j d e lt. inv.its j d e (omega arith) lt;
    }
