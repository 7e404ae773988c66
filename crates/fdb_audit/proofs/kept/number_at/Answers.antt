use Rattle.std.proofs.Common.{◌≡◌, ◌∙◌, ◌^◌, ◌<◌, ℕ, zero, suc, List, [], ◌∷◌, None, Option, Some, IfSome, ap, arith, decimal, get_or, length, option_and_then, option_map, slice_get, subst, sym}
use Rattle.std.specs.Option.{option_flatten}
use Rattle.std.specs.Slice.{IsGetResult}
use Rattle.std.proofs.lemmas.Option.{slice_get-map}
use Rattle.std.proofs.lemmas.Result.{IfOk-weaker}
use Rattle.fdb_log_reader.specs.Members.{whole}
use Rattle.fdb_log_reader.specs.ReadLine.{said_by, text_says}
use Rattle.fdb_audit.specs.Kept.{number_kept}
use Rattle.fdb_audit.proofs.kept.number_at.Goals as goal

pub returns-in-Some-Some : goal.returns-in-Some-Some
returns-in-Some-Some c =
    let place = c.args.place in
    let text = c.in-Some-Some.text in
    let shown = c.args.read.now.shown.items in
    let at = subst (λ r. IsGetResult c.deref.result.now place place r) c.in-Some-Some.is c.get.ensures.lookup in
    let there : get_or shown place (Some text) ≡ Some text =
    subst (λ xs. get_or xs place (Some text) ≡ Some text) c.deref.ensures.value (subst (λ it. get_or c.deref.result.now place it ≡ it) c.in-Some-Some.field-0-is (sym at.1)) in
    let within : place < length shown = subst (λ xs. place < length xs) c.deref.ensures.value at.3.0 in
    IfOk-weaker c.number_in.result
    (λ found. IfSome found (λ number. (c.deref-in-Some-Some.result.now ≡ decimal number) × (number < 2 ^ 64)))
    (λ found. IfSome found (λ number. number_kept place (said_by c.args.read.now) ≡ Some number))
    (λ found is. by found is (λ n says small. ap (λ o. option_and_then whole (option_flatten o)) (slice_get-map text_says shown place ∙ ap (option_map text_says) (at_place shown place (Some text) within there))
    ∙ c.digits_are_read_as_their_number.ensures text n small (sym c.deref-in-Some-Some.ensures ∙ says)))
    c.number_in.ensures
  where
    by : {P Q : ℕ → Type 0} (found : Option ℕ) → IfSome found (λ n. P n × Q n) → {R : ℕ → Type 0} → ((n : ℕ) → P n → Q n → R n) → IfSome found R
    by None is give = tt
    by (Some n) is give = give n is.0 is.1

    at_place : {X : Type 0} (xs : List X) (k : ℕ) (x : X) → k < length xs → get_or xs k x ≡ x → slice_get xs k ≡ Some x
    at_place [] k x lt is = absurd (omega (arith, lt))
    at_place (y ∷ xs) zero x lt is = ap (λ it. Some it) is
    at_place (y ∷ xs) (suc k) x lt is = at_place xs k x (omega (arith, lt)) is
