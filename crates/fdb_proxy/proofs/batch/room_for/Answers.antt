use Rattle.std.proofs.Common.{◌≡◌, ℕ, ◌+◌, ◌<◌, List, [], ◌∷◌, ◌++◌, length, get_or, map, take, sym, ap, ◌∙◌, arith}
use Rattle.std.proofs.lemmas.List.{map-append, take_more}
use Rattle.fdb_proxy.specs.Batch.{own_limits}
use Rattle.fdb_proxy.proofs.batch.room_for.Goals as goal

-- one more value, of the item at the next place
mapped_more : {X Y : Type 0} (f : X → Y) (xs : List X) (i : ℕ) (item : X) (before after : List Y) (value : Y) → i < length xs → item ≡ get_or xs i item
    → before ≡ map f (take i xs) → value ≡ f item → after ≡ before ++ value ∷ [] → after ≡ map f (take (i + 1) xs)
mapped_more f xs i item before after value less is so_far here grown =
    let whole = ap (map f) (take_more xs i item less) ∙ map-append f (take i xs) (get_or xs i item ∷ []) in
    let last : value ≡ f (get_or xs i item) = here ∙ ap f is in
    grown ∙ rw (so_far, last) (sym whole)

pub loop-request-preserved : goal.loop-request-preserved
loop-request-preserved g c =
    let inv = c.loop-request.invariant in
    let request = c.request-item.result in
    let value : c.from.result ≡ own_limits c.args.queue.now.throttles request = cc (c.from.ensures, c.in_ok-own.ensures.ok, c.as_slice.ensures) in
    record {
      limits = mapped_more (own_limits c.args.queue.now.throttles) c.args.requests.now c.loop-request.request-index request c.loop-request.limits.items c.push_reserved.new.self.items c.from.result
          c.loop-request-test.true c.request-item.is inv.limits value c.push_reserved.ensures.items;
      len = omega (arith, c.push_reserved.ensures.len, inv.len);
      capacity = rw c.push_reserved.ensures.capacity inv.capacity;
    }
