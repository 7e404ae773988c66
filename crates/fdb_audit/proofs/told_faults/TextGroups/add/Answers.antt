use Rattle.std.proofs.Common.{◌≡◌, ◌∙◌, ℕ, Bor, List, None, Some, ap, option_map, refl, subst, sym}
use Rattle.std.proofs.lemmas.Result.{on_ok_weaker}
use Rattle.fdb_log_reader.specs.Numbers.{number_in}
use Rattle.fdb_audit.specs.ToldFaults.{by_text, text_more, text_numbered, with_text}
use Rattle.fdb_audit.specs.declared.groups.Tally.{Tally}
use Rattle.fdb_audit.specs.Tallied.{HasTallied}
use Rattle.fdb_audit.proofs.Totalled.{texts_are}
use Rattle.fdb_audit.proofs.told_faults.TextGroups.add.Goals as goal

pub returns-in_default-clause-counted : goal.returns-in_default-clause-counted
returns-in_default-clause-counted c = on_ok_weaker c.add.result (λ add. λ its told one text kind has.
    let it = by_text its told in
    let none : its one ≡ None = text ∙ ap (option_map (λ (text : Bor (List ℕ)). text.now)) c.in_default.is in
    texts_are _ its told one _ (ap (text_more it one.kind) none) has.texts has.numbers
    (add it.owned (record { kind = one.kind; owner = None }) refl kind has.tally) has.more) c.add.ensures

pub returns-in-Some-2-clause-counted : goal.returns-in-Some-2-clause-counted
returns-in-Some-2-clause-counted c = on_ok_weaker c.add-in-Some-2.result (λ add. λ its told one text kind has.
    let it = by_text its told in
    let t = c.in-Some.text.now in
    let n = c.in-Some-2.number in
    let some : its one ≡ Some t = text ∙ ap (option_map (λ (text : Bor (List ℕ)). text.now)) c.in-Some.is in
    let number : number_in (with_text it.texts t) t ≡ Some n =
    ap (λ texts. number_in (with_text texts t) t) (sym has.texts) ∙ (sym (c.in_ok-number.ensures.number has.numbers) ∙ c.in-Some-2.is) in
    let (_, tally, more) = c.number.ensures.same in
    texts_are _ its told one _ (ap (text_more it one.kind) some ∙ ap (text_numbered it (with_text it.texts t) one.kind) number)
    (c.in_ok-number.ensures.texts has.numbers ∙ ap (λ texts. with_text texts t) has.texts)
    (c.in_ok-number.ensures.numbered has.numbers)
    (add it.owned (record { kind = one.kind; owner = Some n }) refl kind (subst (λ (tally : Tally). HasTallied tally it.owned) (sym tally) has.tally))
    (more ∙ has.more)) c.add-in-Some-2.ensures

pub returns-in-None-clause-counted : goal.returns-in-None-clause-counted
returns-in-None-clause-counted c = λ its told one text kind has.
    let it = by_text its told in
    let t = c.in-Some.text.now in
    let some : its one ≡ Some t = text ∙ ap (option_map (λ (text : Bor (List ℕ)). text.now)) c.in-Some.is in
    let number : number_in (with_text it.texts t) t ≡ None =
    ap (λ texts. number_in (with_text texts t) t) (sym has.texts) ∙ (sym (c.in_ok-number.ensures.number has.numbers) ∙ c.in-None.is) in
    let (_, tally, more) = c.number.ensures.same in
    texts_are _ its told one _ (ap (text_more it one.kind) some ∙ ap (text_numbered it (with_text it.texts t) one.kind) number)
    (c.in_ok-number.ensures.texts has.numbers ∙ ap (λ texts. with_text texts t) has.texts)
    (c.in_ok-number.ensures.numbered has.numbers)
    (subst (λ (tally : Tally). HasTallied tally it.owned) (sym tally) has.tally)
    refl
