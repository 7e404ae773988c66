use Rattle.std.proofs.Common.{None, ap, arith, map, subst, ◌∙◌, rules, IsPermutation}
use Rattle.std.specs.Option.{is_none}
use Rattle.std.proofs.lemmas.Grind.{common_steps}
use Rattle.std.proofs.lemmas.List.Sorted.{answers_always, IsPermutation-map}
use Rattle.fdb_lines.specs.Audit.{case_of}
use Rattle.fdb_lines.specs.Log.{lines_of}
use Rattle.fdb_lines.specs.private.Slots.{entry_of, steps_from}
use Rattle.fdb_lines.proofs.Arranged.{arranged}
use Rattle.fdb_lines.proofs.Listed.{law}
use Rattle.fdb_lines.proofs.Ranked.{slot_ranked}
use Rattle.fdb_lines.proofs.order.order_of.Goals as goal

pub returns : goal.returns
returns c =
    let log = c.args.log.now in
    let opts = c.args.opts.now in
    let it = case_of (lines_of log) opts in
    let none = (law (lines_of log) opts).1 ((rw c.new-tables.ensures at c.in_ok-found.ensures.explained).0 (grind (arith, common_steps))) in
    let slots = c.sort_unstable_by_key.new.self.items in
    let are = subst (λ l. IsPermutation l (map entry_of slots)) (rw c.new-tables.ensures at c.in_ok-slots.ensures) (IsPermutation-map entry_of _ slots c.sort_unstable_by_key.ensures.permutation) in
    let sorted = c.sort_unstable_by_key.ensures.sorted (λ s. (s.key, is_none s.place, s.place)) (answers_always _ _ _ (λ f a r g h. search rules)) in
    let all = arranged it (slot_ranked log opts) none slots are (λ k d lt. sorted k d (omega arith) lt) _ (c.in_ok-steps.ensures ∙ ap (steps_from None) c.deref.ensures.value) in
    record { explains = all; unexplained = tt; all = tt; some = tt }
