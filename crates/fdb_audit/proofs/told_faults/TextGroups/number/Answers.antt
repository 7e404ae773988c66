use Rattle.std.proofs.Common.{◌≡◌, ◌∙◌, ◌++◌, ◌∷◌, [], ℕ, Option, None, Some, ap, arith, cond, if◌then◌else◌, is_some, length, map, nat_lt, string_bytes, sym, true}
use Rattle.std.proofs.lemmas.Bool.{lt-ltb}
use Rattle.std.proofs.lemmas.List.{length-map, map_push}
use Rattle.std.specs.BTreeMap.{get_by_text}
use Rattle.std.specs.Str.{bytes_eq}
use Rattle.fdb_log_reader.specs.Numbers.{number_in, with_name}
use Rattle.fdb_audit.proofs.Naming.{number_added, number_there}
use Rattle.fdb_audit.specs.ToldFaults.{room, with_text}
use Rattle.fdb_audit.specs.Tallied.{texts_in}
use Rattle.fdb_audit.proofs.told_faults.TextGroups.number.Goals as goal

pub returns-clause-number : goal.returns-clause-number
returns-clause-number c = λ numbered.
    let texts = texts_in c.args.self.now in
    let text = c.args.text.now in
    let unknown : get_by_text c.args.self.now.numbers text ≡ None = grind (arith, c.get.ensures.value, c.in_default.is) in
    let none : number_in texts text ≡ None = sym (numbered text) ∙ unknown in
    let size : c.len-number.result ≡ length texts =
    (let same = length-map c.args.self.now.texts.items string_bytes in let ok = c.args.self.now.texts.ok.0 in let is = c.len-number.ensures in omega (arith, same, ok, is)) in
    let few : nat_lt (length texts) room ≡ true = lt-ltb (length texts) 65536 (let is = c.if-number-ge-ROOM.false in omega (arith, is, size)) in
    let with : with_text texts text ≡ texts ++ text ∷ [] =
    ap (λ b. if b then with_name texts text else texts) few ∙ ap (λ (n : Option ℕ). if is_some n then texts else (texts ++ text ∷ [])) none in
    ap Some size ∙ sym (ap (λ names. number_in names text) with ∙ number_there texts text none)

pub returns-clause-numbered : goal.returns-clause-numbered
returns-clause-numbered c = λ numbered q.
    let texts = texts_in c.args.self.now in
    let text = c.args.text.now in
    let unknown : get_by_text c.args.self.now.numbers text ≡ None = grind (arith, c.get.ensures.value, c.in_default.is) in
    let none : number_in texts text ≡ None = sym (numbered text) ∙ unknown in
    let size : c.len-number.result ≡ length texts =
    (let same = length-map c.args.self.now.texts.items string_bytes in let ok = c.args.self.now.texts.ok.0 in let is = c.len-number.ensures in omega (arith, same, ok, is)) in
    let pushed : map string_bytes c.push.new.self.items ≡ texts ++ text ∷ [] =
    ap (map string_bytes) c.in_ok-push.ensures.items
    ∙ (map_push string_bytes c.args.self.now.texts.items c.in_ok-from_str.field-0 ∙ ap (λ name. texts ++ name ∷ []) c.in_ok-from_str.ensures.ok) in
    c.in_ok-set_number.ensures q
    ∙ (ap (λ n. cond (bytes_eq text q) (Some n) (get_by_text c.args.self.now.numbers q)) size
    ∙ (ap (cond (bytes_eq text q) (Some (length texts))) (numbered q)
    ∙ (sym (number_added texts text q none) ∙ ap (λ names. number_in names q) (sym pushed))))
