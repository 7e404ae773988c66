use Rattle.std.proofs.Common.{List, [], ◌∷◌, ◌++◌, length, length-append, append_assoc, arith, ap, refl, sym, ◌∙◌}
use Rattle.fdb_client.specs.Account.{Account}
use Rattle.fdb_replay.proofs.running.players_of.Goals as goal

pub new-requires : goal.new-requires
new-requires g c =
    let left = rw c.in-Some.ensures.steps.0 at c.loop-client.invariant.new in
    record { begun = left.0.begun; calls = left.0.calls }

pub push_reserved-requires : goal.push_reserved-requires
push_reserved-requires g c =
    let inv = c.loop-client.invariant in
    let clients = c.args.clients in
    let players = c.loop-client.players in
    let yielded = c.loop-client.yielded in
    let whole = ap (λ rest. yielded ++ rest) (sym c.in-Some.ensures.steps.0) ∙ inv.left in
    omega (arith, ap length whole, length-append yielded (c.in-Some.client ∷ c.next.new.self.rest.items), ap length inv.made, inv.capacity, players.ok.0, clients.ok.0)

pub loop-client-preserved : goal.loop-client-preserved
loop-client-preserved g c =
    let inv = c.loop-client.invariant in
    let yielded = c.loop-client.yielded in
    let client = c.in-Some.client in
    let left = rw c.in-Some.ensures.steps.0 at inv.new in
    record {
      capacity = rw c.push_reserved.ensures.capacity inv.capacity;
      left = append_assoc yielded (client ∷ []) c.next.new.self.rest.items ∙ (ap (λ rest. yielded ++ rest) (sym c.in-Some.ensures.steps.0) ∙ inv.left);
      made = rw (c.push_reserved.ensures.items, c.new.ensures, inv.made) (refl {A = List Account});
      new = left.1;
    }
