use Rattle.std.proofs.Common.{rules}
use Rattle.std.proofs.lemmas.List.Sorted.{answers_always}
use Rattle.fdb_history.proofs.faultless.Sorted.{sort_key, sorted_by_position, sorted_changes, sorted_explained}
use Rattle.fdb_history.proofs.auditing.events_by_position.Goals as goal

-- The sort goes by the key that the closure gives: at that key its clauses are what the lemmas ask.
pub returns-clause-sorted : goal.returns-clause-sorted
returns-clause-sorted c = sorted_by_position _ (c.in_ok-sort_by_key.ensures.sorted sort_key (answers_always _ _ _ (λ f a r g h. search rules)))

pub returns-clause-changes : goal.returns-clause-changes
returns-clause-changes c = λ position.
    sorted_changes c.args.logs.now c.in_ok-all.all.items c.sort_by_key.new.self.items c.in_ok-all.ensures (c.in_ok-sort_by_key.ensures.stable sort_key (answers_always _ _ _ (λ f a r g h. search rules))) position

pub returns-clause-history : goal.returns-clause-history
returns-clause-history c = λ within.
    let sort = c.in_ok-sort_by_key.ensures in
    sorted_explained c.args.logs.now c.in_ok-all.all.items c.sort_by_key.new.self.items c.in_ok-all.ensures within sort.permutation
    (sort.sorted sort_key (answers_always _ _ _ (λ f a r g h. search rules)))
    (sort.stable sort_key (answers_always _ _ _ (λ f a r g h. search rules)))
