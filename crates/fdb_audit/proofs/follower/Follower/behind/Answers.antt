use Rattle.std.proofs.Common.{◌≡◌, ◌∙◌, List, [], ap, subst, ℕ}
use Rattle.fdb_audit.specs.Following.{KeptBefore, start_behind, start_with}
use Rattle.fdb_audit.specs.Taken.{kept_by}
use Rattle.fdb_audit.specs.private.Followed.{IsUnread}
use Rattle.fdb_audit.proofs.SaidOn.{unsaid}
use Rattle.fdb_audit.proofs.TellingOn.{unread}
use Rattle.fdb_audit.proofs.follower.Follower.behind.Goals as goal

pub returns-clause-followed : goal.returns-clause-followed
returns-clause-followed c =
    let none : kept_by c.new-none.result ≡ (let it : KeptBefore = record { lines = []; more = c.args.read } in it) =
    c.new-none.ensures.kept ∙ ap (λ (items : List ℕ). let it : KeptBefore = record { lines = items; more = c.args.read } in it) c.new.ensures.items in
    unread c.args.asked.now (start_behind c.args.behind c.args.read) c.in_ok-follower.follower
    (subst (λ (numbers : KeptBefore). IsUnread c.args.asked.now (start_with c.args.behind numbers) c.in_ok-follower.follower) none c.in_ok-follower.ensures.unread)

pub returns-clause-said : goal.returns-clause-said
returns-clause-said c =
    let none : kept_by c.new-none.result ≡ (let it : KeptBefore = record { lines = []; more = c.args.read } in it) =
    c.new-none.ensures.kept ∙ ap (λ (items : List ℕ). let it : KeptBefore = record { lines = items; more = c.args.read } in it) c.new.ensures.items in
    unsaid c.args.asked.now (start_behind c.args.behind c.args.read) c.in_ok-follower.follower
    (subst (λ (numbers : KeptBefore). IsUnread c.args.asked.now (start_with c.args.behind numbers) c.in_ok-follower.follower) none c.in_ok-follower.ensures.unread)
