use Rattle.std.proofs.Common.{rules, nat_lt}
use Rattle.std.proofs.lemmas.Map.Made.{filter_same_pairs}
use Rattle.fdb_queue.proofs.Forgetting.{left_in, left_unexpired}
use Rattle.fdb_queue.proofs.throttles.forget_in.Goals as goal

pub returns-clause-left : goal.returns-clause-left
returns-clause-left c priority tag =
    let is = filter_same_pairs _ (λ e. nat_lt c.args.at e.1.expires) _ (λ k v b w f' t. search rules) c.args.kept.now.entries c.retain.new.self.entries c.retain.ensures.filtered in
    rw is (left_in priority tag c.args.at c.args.kept.now.entries c.retain.ensures.was_ordered)

pub returns-clause-forgotten : goal.returns-clause-forgotten
returns-clause-forgotten c =
    let is = filter_same_pairs _ (λ e. nat_lt c.args.at e.1.expires) _ (λ k v b w f' t. search rules) c.args.kept.now.entries c.retain.new.self.entries c.retain.ensures.filtered in
    rw is (left_unexpired c.args.at c.args.kept.now.entries)
