use Rattle.std.specs.Prelude.{◌||◌}
use Rattle.std.proofs.Common.{◌≡◌, ◌∙◌, Bool, Option, None, Some, ℕ, ap, arith, is_some, refl, true}
use Rattle.std.proofs.lemmas.Grind.{common_steps}
use Rattle.fdb_audit.specs.private.KeptTexts.{said_of}
use Rattle.fdb_audit.proofs.KeptTexts.{added}
use Rattle.fdb_audit.proofs.kept.KeptText.take.Goals as goal

pub returns-in-Some : goal.returns-in-Some
returns-in-Some c = λ _ before said is same.
    let old = c.args.self.now in
    let kept = c.args.kept in
    let goes : c.goes_on.result ≡ true = grind (arith, common_steps, c.if-not-goes_on.false, c.if-not-goes_on.ensures) in
    let all = c.goes_on.ensures.told goes (ap is_some c.in-Some.is) in
    added (said_of old) c.push.new.self.items c.saturating_sub-more.result c.len-self.result c.in-Some.settled _ before said kept.line kept.read (Some c.in-Some.settled) same
    is.line is.read (is.settled ∙ c.in-Some.is) c.in_ok-push.ensures.items
    (let count = c.len-count.ensures in let one = c.saturating_sub.ensures in let two = c.saturating_sub-more.ensures in omega (arith, count, one, two))
    (let now = c.len-self.ensures in let more = c.in_ok-push.ensures.len in let count = c.len-count.ensures in omega (arith, now, more, count, all))
    refl (c.either-self.ensures ∙ ap (λ (b : Bool). old.are_many || b) is.many)

pub returns-in_default : goal.returns-in_default
returns-in_default c = λ _ before said is same.
    let old = c.args.self.now in
    let kept = c.args.kept in
    let none : kept.settled ≡ None = of_none kept.settled c.in_default.not-Some in
    added (said_of old) c.push.new.self.items c.saturating_sub-more.result old.told old.settled _ before said kept.line kept.read None same
    is.line is.read (is.settled ∙ none) c.in_ok-push.ensures.items
    (let count = c.len-count.ensures in let one = c.saturating_sub.ensures in let two = c.saturating_sub-more.ensures in omega (arith, count, one, two))
    refl refl (c.either-self.ensures ∙ ap (λ (b : Bool). old.are_many || b) is.many)
  where
    of_none : (settled : Option ℕ) → ((at : ℕ) → settled ≡ Some at → ⊥) → settled ≡ None
    of_none None not = refl
    of_none (Some at) not = absurd (not at refl)
