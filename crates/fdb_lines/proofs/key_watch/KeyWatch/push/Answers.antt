use Rattle.std.proofs.Common.{◌≡◌, ◌<◌, ◌∷◌, [], Option, ℕ, Some, length, refl, sym, subst, ◌∙◌, arith, length-append}
use Rattle.std.proofs.lemmas.Grind.{common_steps}
use Rattle.std.proofs.lemmas.List.{length-map}
use Rattle.std.proofs.lemmas.Result.{on_ok_weaker}
use Rattle.std.specs.BTreeMap.{get}
use Rattle.std.specs.Ordering.{nat_cmp}
use Rattle.fdb_lines.specs.declared.key_part.KeyPart.{KeyPart}
use Rattle.fdb_lines.specs.declared.key_watch.KeyWatch.{KeyWatch}
use Rattle.fdb_lines.specs.KeyParts.{names_of}
use Rattle.fdb_lines.specs.Keys.{key_at}
use Rattle.fdb_lines.specs.private.Keys.{number_of, AreNumbered}
use Rattle.fdb_lines.specs.private.KeyParts.{HasOneMoreAt}
use Rattle.fdb_lines.proofs.HowFar.{far_at}
use Rattle.fdb_lines.proofs.OnceTold.{push_on}
use Rattle.fdb_lines.proofs.SeenByKey.{alike_stay, names_stay, seen_still, seen_there, stay_at}
use Rattle.fdb_lines.proofs.key_watch.KeyWatch.push.Goals as goal

-- a key that has a number has a part
part_of : (watch : KeyWatch) (key : Option ℕ) (place : ℕ) → get nat_cmp watch.numbers (number_of key) ≡ Some place
    → (place < length watch.parts.items) × (key_at (names_of watch.parts.items) place ≡ key)
part_of watch key place is =
    let there = watch.numbered.there key place is in
    let size = length-map watch.parts.items (λ (part : KeyPart). part.key) in
    (let lt = there.0 in omega arith, there.1)

pub add_line-requires-clause-within : goal.add_line-requires-clause-within
add_line-requires-clause-within c =
    (part_of c.args.self.now c.args.key c.in-Some-copied.place (grind (arith, common_steps, c.get.ensures.value, c.copied.ensures, c.number_of.ensures, c.in-Some-copied.is))).0

pub invariant_of-self : goal.invariant_of-self
invariant_of-self c =
    let watch = c.args.self.now in
    let place = c.in-Some-copied.place in
    let within = (part_of watch c.args.key place (grind (arith, common_steps, c.get.ensures.value, c.copied.ensures, c.number_of.ensures, c.in-Some-copied.is))).0 in
    let new = c.add_line.new.parts.items in
    let stays = c.add_line.ensures.stays in
    record {
      numbered = subst (AreNumbered (λ q. get nat_cmp watch.numbers q)) (sym (names_stay place watch.parts.items new within stays)) watch.numbered;
      alike = alike_stay watch.margin watch.horizon watch.from place watch.parts.items new within watch.alike stays;
      opened = c.add_line.ensures.opened;
    }

pub returns-in-Err-clause-err : goal.returns-in-Err-clause-err
returns-in-Err-clause-err c = λ lines keys seen.
    let watch = c.args.self.now in
    let place = c.in-Some-copied.place in
    let within = (part_of watch c.args.key place (grind (arith, common_steps, c.get.ensures.value, c.copied.ensures, c.number_of.ensures, c.in-Some-copied.is))).0 in
    let it = seen_still lines keys place watch.parts.items c.add_line.new.parts.items within seen.each c.in-Err.ensures.err in
    record { count = seen.count; as_many = seen.as_many; names = it.0 ∙ seen.names; each = it.1 }

pub invariant_of-self-in-Some-copied : goal.invariant_of-self-in-Some-copied
invariant_of-self-in-Some-copied c =
    let watch = c.args.self.now in
    let place = c.in-Some-copied.place in
    let within = (part_of watch c.args.key place (grind (arith, common_steps, c.get.ensures.value, c.copied.ensures, c.number_of.ensures, c.in-Some-copied.is))).0 in
    let new = c.add_line.new.parts.items in
    let stays = c.add_line.ensures.stays in
    record {
      numbered = subst (AreNumbered (λ q. get nat_cmp watch.numbers q)) (sym (names_stay place watch.parts.items new within stays)) watch.numbered;
      alike = alike_stay watch.margin watch.horizon watch.from place watch.parts.items new within watch.alike stays;
      opened = c.add_line.ensures.opened;
    }

pub returns-in-Some-copied-clause-ok : goal.returns-in-Some-copied-clause-ok
returns-in-Some-copied-clause-ok c = λ lines keys seen.
    let watch = c.args.self.now in
    let parts = watch.parts.items in
    let place = c.in-Some-copied.place in
    let key = c.args.key in
    let line = c.args.line in
    let its = part_of watch key place (grind (arith, common_steps, c.get.ensures.value, c.copied.ensures, c.number_of.ensures, c.in-Some-copied.is)) in
    let new = c.add_line.new.parts.items in
    let more : HasOneMoreAt place line (length lines) parts new = subst (λ n. HasOneMoreAt place line n parts new) seen.count c.in_default-add_line.ensures.ok in
    let it = seen_there lines keys seen.as_many line key parts seen.names seen.each place new its.0 its.1 more in
    let count = seen.count in
    let many = seen.as_many in
    record {
      count = omega (arith, length-append lines (line ∷ []));
      as_many = omega (arith, length-append lines (line ∷ []), length-append keys (key ∷ []));
      names = it.0;
      each = it.1;
    }

pub returns-in-Some-copied-clause-told : goal.returns-in-Some-copied-clause-told
returns-in-Some-copied-clause-told c = λ lines keys told seen has late.
    let watch = c.args.self.now in
    let place = c.in-Some-copied.place in
    let within = (part_of watch c.args.key place (grind (arith, common_steps, c.get.ensures.value, c.copied.ensures, c.number_of.ensures, c.in-Some-copied.is))).0 in
    let stays = stay_at place watch.parts.items c.add_line.new.parts.items within c.add_line.ensures.stays in
    push_on watch _ lines keys told c.args.line c.args.key seen (returns-in-Some-copied-clause-ok c lines keys seen) stays refl refl has late

pub returns-in-Some-copied-clause-far : goal.returns-in-Some-copied-clause-far
returns-in-Some-copied-clause-far c =
    let watch = c.args.self.now in
    let place = c.in-Some-copied.place in
    let within = (part_of watch c.args.key place (grind (arith, common_steps, c.get.ensures.value, c.copied.ensures, c.number_of.ensures, c.in-Some-copied.is))).0 in
    far_at place watch.parts.items c.add_line.new.parts.items within c.add_line.ensures.stays

pub returns-clause-told : goal.returns-clause-told
returns-clause-told c =
    on_ok_weaker c.push_first.result
    (λ ok. λ lines keys told seen has late.
    push_on c.args.self.now c.push_first.new.self lines keys told c.args.line c.args.key seen (ok lines keys seen) c.push_first.ensures.stays c.push_first.ensures.margin.0 c.push_first.ensures.settled has late)
    c.push_first.ensures.ok
