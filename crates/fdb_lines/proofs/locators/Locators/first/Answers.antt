use Rattle.std.proofs.Common.{◌≡◌, ◌<◌, length, sym, ◌∙◌, inl, inr, arith}
use Rattle.std.proofs.lemmas.List.{get_or_default}
use Rattle.fdb_lines.specs.private.Locators.{locator_at, no_locator}
use Rattle.fdb_lines.proofs.Locating.{found, not_found}
use Rattle.fdb_lines.proofs.locators.Locators.first.Goals as goal
use Rattle.fdb_lines.proofs.locators.Locators.first.Goals.{else-front-len-via-then-front-len+else-is_of, else-front-len-via-else-front-len}

pub returns-then-is_of : goal.returns-then-is_of
returns-then-is_of c = λ line_kind start lines known are.
    let locators = c.args.self.now.locators.items in
    let front = c.front_of-front.result in
    let parts = rw (c.deref.ensures.value, c.new.ensures.version, c.new.ensures.group, c.new.ensures.place) at c.front_of-front.ensures.parts in
    let lt : front < length locators = (let less = c.if-front-len.true in let len = c.len.ensures in omega arith) in
    let at : c.index.result.now ≡ locator_at locators front = c.index.ensures ∙ sym (get_or_default locators front no_locator c.index.result.now lt) in
    let there : c.index-then-is_of.result.now ≡ locator_at locators front = c.index-then-is_of.ensures ∙ sym (get_or_default locators front no_locator c.index-then-is_of.result.now lt) in
    rw there (found line_kind start lines known locators c.args.version c.args.group c.args.from front c.args.self.now.in_order parts are lt (sym (rw at at c.if-is_of.ensures)))

pub returns-else-front-len : goal.returns-else-front-len
returns-else-front-len c = λ line_kind start lines known are.
    let locators = c.args.self.now.locators.items in
    let front = c.front_of-front.result in
    let parts = rw (c.deref.ensures.value, c.new.ensures.version, c.new.ensures.group, c.new.ensures.place) at c.front_of-front.ensures.parts in
    not_found line_kind start lines known locators c.args.version c.args.group c.args.from front c.args.self.now.in_order parts are
    (elim c.else-front-len.branch [
      | else-front-len-via-then-front-len+else-is_of w ↦
          let lt : front < length locators = (let less = w.if-front-len.true in let len = c.len.ensures in omega arith) in
          let at : w.index.result.now ≡ locator_at locators front = w.index.ensures ∙ sym (get_or_default locators front no_locator w.index.result.now lt) in
          inr (rw at at (sym w.is_of.ensures ∙ w.if-is_of.false))
      | else-front-len-via-else-front-len w ↦ let not_less = w.if-front-len.false in let len = c.len.ensures in inl (omega arith)
    ])
