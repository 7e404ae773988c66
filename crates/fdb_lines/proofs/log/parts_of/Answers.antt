use Rattle.std.proofs.Common.{◌≡◌, ◌+◌, length, ap, subst, sym, ◌∙◌, add-one, arith}
use Rattle.std.specs.List.{All}
use Rattle.std.proofs.lemmas.List.{length-map}
use Rattle.fdb_lines.specs.declared.log.Part.{Part}
use Rattle.fdb_lines.specs.Keys.{keys_below}
use Rattle.fdb_lines.specs.private.Keys.{part_number, AreNumbered}
use Rattle.fdb_lines.proofs.Keyed.{few_keys}
use Rattle.fdb_lines.proofs.Parted.{line_more, parts_more, same_keys, IsPart}
use Rattle.fdb_lines.proofs.log.parts_of.Goals as goal

pub part_of_key-requires-clause-few : goal.part_of_key-requires-clause-few
part_of_key-requires-clause-few c =
    let parts = c.loop-place.parts.items in
    let size = length-map parts (λ (part : Part). part.key) in
    let keys = ap length c.loop-place.invariant.keys in
    let few = few_keys c.args.keys.now c.loop-place.place in
    omega arith

pub loop-place-preserved : goal.loop-place-preserved
loop-place-preserved c =
    let keys = c.args.keys.now in
    let n = c.loop-place.place in
    let number = c.in_ok-number.number in
    let old = c.loop-place.parts.items in
    let mid = c.part_of_key.new.parts.items in
    let new = c.add_place.new.parts.items in
    let its = c.in_ok-number.ensures in
    let inv = c.loop-place.invariant in
    let place = c.in_ok-add_place.ensures in
    let more = parts_more keys n number old mid new inv.keys inv.places its.more its.within its.key place in
    record {
      numbered = subst (AreNumbered (part_number c.part_of_key.new.numbers)) (sym (same_keys mid new number n place)) its.numbered;
      keys = rw add-one more.0;
      places = rw add-one more.1;
      lines = line_more _ n number old mid new its.more its.within place ∙ ap (λ m. m + 1) inv.lines;
    }

pub returns-clause-keys : goal.returns-clause-keys
returns-clause-keys c =
    let all : c.loop-place.place ≡ length c.args.keys.now = (let end = c.loop-place.auto.place-end in let test = c.loop-place-test.false in omega arith) in
    c.loop-place.invariant.keys ∙ ap (keys_below c.args.keys.now) all

pub returns-clause-places : goal.returns-clause-places
returns-clause-places c =
    let all : c.loop-place.place ≡ length c.args.keys.now = (let end = c.loop-place.auto.place-end in let test = c.loop-place-test.false in omega arith) in
    subst (λ n. All (IsPart c.args.keys.now n) c.loop-place.parts.items) all c.loop-place.invariant.places

pub returns-clause-lines : goal.returns-clause-lines
returns-clause-lines c =
    let all : c.loop-place.place ≡ length c.args.keys.now = (let end = c.loop-place.auto.place-end in let test = c.loop-place-test.false in omega arith) in
    c.loop-place.invariant.lines ∙ all
