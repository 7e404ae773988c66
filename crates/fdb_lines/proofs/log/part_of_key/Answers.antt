use Rattle.std.proofs.Common.{◌≡◌, None, Some, length, refl, inr, arith}
use Rattle.std.proofs.lemmas.Grind.{common_steps}
use Rattle.std.proofs.lemmas.List.{length-map, map_push}
use Rattle.fdb_lines.specs.declared.log.Part.{Part}
use Rattle.fdb_lines.specs.private.Keys.{keys_in, number_of, part_number}
use Rattle.fdb_lines.proofs.Parted.{numbered_more}
use Rattle.fdb_lines.proofs.log.part_of_key.Goals as goal

pub returns-in-Some-clause-within : goal.returns-in-Some-clause-within
returns-in-Some-clause-within c =
    let is : part_number c.args.numbers.now (number_of c.args.key) ≡ Some c.in-Some.number =
    grind (arith, common_steps, c.get.ensures, c.number_of-code.ensures, c.in-Some.is) in
    let there = (c.requires.numbered.there c.args.key c.in-Some.number is).0 in
    let size = length-map c.args.parts.now.items (λ (part : Part). part.key) in
    omega arith

pub returns-in-Some-clause-key : goal.returns-in-Some-clause-key
returns-in-Some-clause-key c =
    let is : part_number c.args.numbers.now (number_of c.args.key) ≡ Some c.in-Some.number =
    grind (arith, common_steps, c.get.ensures, c.number_of-code.ensures, c.in-Some.is) in
    (c.requires.numbered.there c.args.key c.in-Some.number is).1

pub returns-clause-numbered : goal.returns-clause-numbered
returns-clause-numbered c =
    let parts = c.args.parts.now.items in
    let names = keys_in parts in
    let old = part_number c.args.numbers.now in
    let new = part_number c.set.new.self in
    let none : old (number_of c.args.key) ≡ None =
    grind (arith, common_steps, c.get.ensures, c.number_of-code.ensures, c.in_default.is) in
    let sizes = length-map parts (λ (part : Part). part.key) in
    let size : c.len-number.result ≡ length names = omega arith in
    let more = numbered_more old new names c.args.key c.requires.numbered none (λ q. rw (← size, ← c.number_of-code.ensures) (c.in_ok-set.ensures q)) in
    rw (c.in_ok-push.ensures.items, map_push (λ (part : Part). part.key)) more

pub returns-clause-more : goal.returns-clause-more
returns-clause-more c =
    let parts = c.args.parts.now.items in
    let none : part_number c.args.numbers.now (number_of c.args.key) ≡ None =
    grind (arith, common_steps, c.get.ensures, c.number_of-code.ensures, c.in_default.is) in
    let size = length-map parts (λ (part : Part). part.key) in
    inr ((λ i lt. c.requires.numbered.absent c.args.key none i (omega arith)), record { key = c.args.key; places = c.new.result }, refl, c.new.ensures.items, c.in_ok-push.ensures.items)
