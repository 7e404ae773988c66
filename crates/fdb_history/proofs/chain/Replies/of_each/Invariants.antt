use Rattle.std.proofs.Common.{◌≡◌, ◌≤◌, All, vec_len, vec_capacity}
use Rattle.fdb_history.specs.Replies.{no_replies}
use Rattle.fdb_history.proofs.chain.Replies.of_each.Given as goal

abbrev pub invariant-loop : goal.invariant-loop
invariant-loop l =
    (vec_len l.all ≡ l.counter) × (l.counter ≤ l.proxies) × (l.proxies ≤ vec_capacity l.all)
    × All (λ own. own ≡ no_replies) l.all.items
