use Rattle.std.proofs.Common.{◌≡◌, ◌+◌, List, ◌++◌, Option, Some, None, option_to_list, length, ◌∙◌, arith, rules, append-nil}
use Rattle.std.proofs.lemmas.List.{get_or_default}
use Rattle.std.proofs.lemmas.List.Sorted.{IsNonDecreasingBy-from_sort_by}
use Rattle.fdb_lines.specs.declared.line.Locator.{Locator}
use Rattle.fdb_lines.specs.Lines.{nobody, line_at}
use Rattle.fdb_lines.specs.private.Locators.{locator_key, AreLocators, IsLocatorOf}
use Rattle.fdb_lines.proofs.Entries.{more, moved}
use Rattle.fdb_lines.proofs.locators.Locators.new.Goals as goal
use Rattle.fdb_lines.proofs.locators.Locators.new.Goals.{in-Some+in_ok-push, in_default}

pub loop-place-preserved : goal.loop-place-preserved
loop-place-preserved c =
    let lines = c.args.lines.now in
    let k = c.loop-place.place in
    let item = c.index-lines-place.result in
    let line : item ≡ line_at lines k = c.index-lines-place.is ∙ get_or_default lines k item nobody c.loop-place-test.true in
    let Next : List Locator → Type 0 = AreLocators c.args.line_kind c.args.start lines c.args.known.now (k + 1) in
    let grown : (o : Option Locator) → IsLocatorOf c.args.line_kind item c.knows_at-knows.result k o → Next (c.loop-place.locators.items ++ option_to_list o) = λ o is.
    more _ _ _ _ _ k c.loop-place.locators.items o c.loop-place.invariant (rw (line, c.knows_at-knows.ensures) at is) in
    elim c.match-locator_of.branch as (λ b. Next c.match-locator_of.locators.items) [
      | in-Some+in_ok-push w ↦ rw (w.locators-is, w.in_ok-push.ensures.items) (grown (Some w.in-Some.locator) w.in-Some.ensures)
      | in_default w ↦ rw w.locators-is (rw append-nil at (grown None w.in_default.ensures))
    ]

pub invariant_of-result : goal.invariant_of-result
invariant_of-result c = record { in_order = IsNonDecreasingBy-from_sort_by locator_key _ c.sort_unstable_by.ensures.sorted (λ a r f k. search rules) }

pub returns : goal.returns
returns c =
    let all : c.loop-place.place ≡ length c.args.lines.now = (let end = c.loop-place.auto.place-end in let test = c.loop-place-test.false in omega arith) in
    moved _ _ _ _ _ _ c.loop-place.locators.items c.sort_unstable_by.new.self.items c.sort_unstable_by.ensures.permutation (rw all at c.loop-place.invariant)
