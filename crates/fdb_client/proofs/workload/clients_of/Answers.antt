use Rattle.std.proofs.Common.{◌≡◌, [], ◌∷◌, ◌++◌, Some, length, length-append, append_assoc, arith, ap, sym, ◌∙◌}
use Rattle.fdb_client.proofs.Numbered.{is_one, next_of, one_more}
use Rattle.fdb_client.proofs.workload.clients_of.Goals as goal

pub new_client-requires : goal.new_client-requires
new_client-requires g c =
    let inv = c.loop-token.invariant in
    let tokens = c.args.tokens in
    let whole = ap (λ rest. c.loop-token.yielded ++ rest) (sym c.in-Some.ensures.steps.0) ∙ inv.left in
    next_of c.loop-token.yielded c.in-Some.token c.next.new.self.rest.items tokens.items whole (λ k. record { reporter = Some k; changes = []; answers = [] }) c.loop-token.number inv.number
    (λ k below. c.requires.tokens k (omega (arith, below, tokens.ok.0)))

pub push_reserved-requires : goal.push_reserved-requires
push_reserved-requires g c =
    let inv = c.loop-token.invariant in
    let tokens = c.args.tokens in
    let whole = ap (λ rest. c.loop-token.yielded ++ rest) (sym c.in-Some.ensures.steps.0) ∙ inv.left in
    let below = is_one c.loop-token.yielded c.in-Some.token c.next.new.self.rest.items tokens.items whole in
    omega (arith, below, inv.number, inv.count, inv.capacity, tokens.ok.0)

pub overflow_add-number : goal.overflow_add-number
overflow_add-number g c =
    let inv = c.loop-token.invariant in
    let tokens = c.args.tokens in
    let whole = ap (λ rest. c.loop-token.yielded ++ rest) (sym c.in-Some.ensures.steps.0) ∙ inv.left in
    let below = is_one c.loop-token.yielded c.in-Some.token c.next.new.self.rest.items tokens.items whole in
    omega (arith, below, inv.number, c.requires.few, tokens.ok.0)

pub loop-token-preserved : goal.loop-token-preserved
loop-token-preserved g c =
    let inv = c.loop-token.invariant in
    let n = c.loop-token.number in
    let clients = c.loop-token.clients in
    let yielded = c.loop-token.yielded in
    let token = c.in-Some.token in
    let long : length clients.items ≡ n = omega (arith, clients.ok.0, inv.count) in
    record {
      number = omega (arith, inv.number, length-append yielded (token ∷ []));
      count = omega (arith, c.push_reserved.ensures.len, inv.count);
      capacity = rw c.push_reserved.ensures.capacity inv.capacity;
      left = append_assoc yielded (token ∷ []) c.next.new.self.rest.items ∙ (ap (λ rest. yielded ++ rest) (sym c.in-Some.ensures.steps.0) ∙ inv.left);
      new = rw c.push_reserved.ensures.items (one_more clients.items n c.new_client.result long inv.new c.new_client.ensures);
    }

pub returns-clause-count : goal.returns-clause-count
returns-clause-count g c =
    let inv = c.loop-token.invariant in
    let rest = c.loop-token.token-iterator.rest in
    omega (arith, ap length inv.left, length-append c.loop-token.yielded rest.items, rest.ok.0, c.in-None.ensures.steps.0, inv.number, inv.count, c.args.tokens.ok.0)

pub returns-clause-new : goal.returns-clause-new
returns-clause-new g c = λ k below. c.loop-token.invariant.new k (omega (arith, below, c.loop-token.invariant.count))
