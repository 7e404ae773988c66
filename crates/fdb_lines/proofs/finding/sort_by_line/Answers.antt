use Rattle.std.proofs.Common.{rules}
use Rattle.std.proofs.lemmas.List.Sorted.{answers_always, IsNonDecreasingBy-from_sort}
use Rattle.fdb_lines.specs.declared.fault.Finding.{Finding}
use Rattle.fdb_lines.proofs.Gathered.{rise_all, stays}
use Rattle.fdb_lines.proofs.finding.sort_by_line.Goals as goal

pub returns : goal.returns
returns c =
    let old = c.args.found.now.items in
    let new = c.sort_by_key.new.self.items in
    let line = λ (finding : Finding). finding.found.place in
    let sorted = c.in_ok-sort_by_key.ensures.sorted line (answers_always _ _ _ (λ f a r g h. search rules)) in
    let stable = c.in_ok-sort_by_key.ensures.stable line (answers_always _ _ _ (λ f a r g h. search rules)) in
    record { same = c.in_ok-sort_by_key.ensures.permutation; rise = rise_all new (IsNonDecreasingBy-from_sort line new sorted); stay = stays old new stable }
