use Rattle.std.proofs.Common.{◌≡◌, ◌≤◌, ◌∙◌, ◌+◌, [], ◌∷◌, None, ap, arith, length, length-append, map, string_bytes, subst, sym}
use Rattle.std.proofs.lemmas.List.{length-map}
use Rattle.fdb_log_reader.specs.Columns.{value_in}
use Rattle.fdb_log_reader.specs.Names.{names_of}
use Rattle.fdb_log_reader.specs.Numbers.{AreWithin}
use Rattle.fdb_log_reader.proofs.ShownTexts.{set_last, values_more, within_more}
use Rattle.fdb_log_reader.proofs.shown.Shown.add.Goals as goal

pub add_text-requires-clause-few : goal.add_text-requires-clause-few
add_text-requires-clause-few c =
    let it = c.args.self.now in
    let count = length-map it.numbers.items (value_in (names_of it.texts)) in
    let kept : length (names_of it.texts) ≤ length it.numbers.items = it.few in
    let few = c.requires.few in
    omega arith

pub invariant_of-self-in-Break-branch-2 : goal.invariant_of-self-in-Break-branch-2
invariant_of-self-in-Break-branch-2 c =
    let it = c.args.self.now in
    let texts = names_of c.add_text.new.texts in
    let one : length c.push.new.self.items ≡ length it.numbers.items + 1 = ap length c.in_ok-push.ensures.items ∙ length-append it.numbers.items (None ∷ []) in
    let kept : length (names_of it.texts) ≤ length it.numbers.items = it.few in
    let more : length texts ≤ length (names_of it.texts) + 1 = c.add_text.ensures.few in
    let within = within_more (names_of it.texts) texts it.numbers.items None c.add_text.ensures.more it.within tt in
    record { few = omega arith; within = subst (AreWithin texts) (sym c.in_ok-push.ensures.items) within; json = c.add_text.ensures.json }

pub invariant_of-self-2 : goal.invariant_of-self-2
invariant_of-self-2 c =
    let it = c.args.self.now in
    let texts = names_of c.add_text.new.texts in
    let cell = c.in_ok-number.number in
    let set = set_last it.numbers.items c.push.new.self.items c.len-place.result cell c.in_ok-push.ensures.items (c.len-place.ensures ∙ it.numbers.ok.0) in
    let one = ap length set ∙ length-append it.numbers.items (cell ∷ []) in
    let kept : length (names_of it.texts) ≤ length it.numbers.items = it.few in
    let more : length texts ≤ length (names_of it.texts) + 1 = c.add_text.ensures.few in
    let within = within_more (names_of it.texts) texts it.numbers.items cell c.add_text.ensures.more it.within c.in_ok-number.ensures.within in
    record { few = omega arith; within = subst (AreWithin texts) (sym set) within; json = c.add_text.ensures.json }

pub returns : goal.returns
returns c =
    let it = c.args.self.now in
    let texts = names_of c.add_text.new.texts in
    let cell = c.in_ok-number.number in
    let set = set_last it.numbers.items c.push.new.self.items c.len-place.result cell c.in_ok-push.ensures.items (c.len-place.ensures ∙ it.numbers.ok.0) in
    let says = ap (map (value_in texts)) set ∙ values_more (names_of it.texts) texts it.numbers.items cell _ c.add_text.ensures.more it.within c.in_ok-number.ensures.value in
    record { added = ap (λ values. record { member = string_bytes it.member; values = values }) says }
