use Rattle.std.proofs.Common.{◌≡◌, List, [], ◌∷◌, ◌∙◌, sym, ap, refl, arith, append_assoc, map, length, drop}
use Rattle.std.proofs.lemmas.List.{append-nil, nil_from_length}
use Rattle.std.proofs.lemmas.List.Elements.{All-head, All-tail}
use mathlib.Core.List.{IsPrefix}
use Rattle.fdb_proxy.specs.Batch.{own_limits, IsReplyTo}
use Rattle.fdb_queue.specs.declared.throttles.Throttle.{Throttle}
use Rattle.fdb_proxy.proofs.Batches.{same_head}
use Rattle.fdb_proxy.proofs.batch.reply_all.Goals as goal

pub loop-request-init : goal.loop-request-init
loop-request-init g c = record {
  same = refl;
  told = rw c.from-requests.ensures.0 c.requires.told;
  limits = λ throttles e. c.from-limits.ensures.0 ∙ e ∙ ap (map (own_limits throttles)) (sym c.from-requests.ensures.0);
  forwards = λ throttles e last h. rw (c.requires.replies, ← c.from-requests.ensures.0) h;
  pairs = c.from-limits.ensures.1 ∙ c.requires.limits ∙ sym c.from-requests.ensures.1;
  room = rw (c.requires.len, c.from-requests.ensures.1) (omega (arith, c.requires.capacity));
}

pub reply_of-requires-clause-told : goal.reply_of-requires-clause-told
reply_of-requires-clause-told g c =
    let told = rw c.in-Some.ensures.items at c.loop-request.invariant.told in
    rw c.loop-request.invariant.same (All-head (λ request. IsPrefix request.payload.seen.changes c.args.seen.now.changes) c.in-Some.request c.pop_front.new.self.items told)

pub loop-request-preserved : goal.loop-request-preserved
loop-request-preserved g c =
    let inv = c.loop-request.invariant in
    let request = c.in-Some.request in
    let own = c.in-Some-pop_front.own in
    let rest = c.pop_front.new.self.items in
    let items : c.loop-request.requests.items ≡ request ∷ rest = c.in-Some.ensures.items in
    let told = rw items at inv.told in
    let both : (throttles : List Throttle) → c.args.room.limits.items ≡ map (own_limits throttles) c.args.requests.items → own ∷ c.pop_front-in-Some.new.self.items ≡ own_limits throttles request ∷ map (own_limits throttles) rest =
    λ throttles e. sym c.in-Some-pop_front.ensures.items ∙ inv.limits throttles e ∙ ap (map (own_limits throttles)) items in
    record {
      same = c.reply_of.ensures.same ∙ inv.same;
      told = All-tail (λ asker. IsPrefix asker.payload.seen.changes c.args.seen.now.changes) request rest told;
      limits = λ throttles e. ap (drop 1) (both throttles e);
      forwards = λ throttles e last h.
          let here : IsReplyTo throttles c.args.seen.now.changes request c.reply_of.result.reply = record {
            client = c.reply_of.ensures.client;
            serial = c.reply_of.ensures.serial;
            asked = c.reply_of.ensures.asked;
            limits = c.reply_of.ensures.limits ∙ same_head (both throttles e);
            rec = c.reply_of.ensures.rec ∙ c.requires.rec;
            position = c.reply_of.ensures.position ∙ c.requires.position;
            seen = c.reply_of.ensures.seen ∙ ap (λ sight. sight.changes) inv.same;
            extends = All-head (λ asker. IsPrefix asker.payload.seen.changes c.args.seen.now.changes) request rest told;
          } in
          let all = inv.forwards throttles e (c.reply_of.result ∷ last) (rw items (here, h)) in
          rw (c.push_reserved.ensures.items, append_assoc) all;
      pairs = omega (arith, c.in-Some.ensures.len, c.in-Some-pop_front.ensures.len, inv.pairs);
      room = omega (arith, c.push_reserved.ensures.len, c.push_reserved.ensures.capacity, c.in-Some.ensures.len, inv.room);
    }

pub returns-clause-replies : goal.returns-clause-replies
returns-clause-replies g c = λ throttles e.
    let inv = c.loop-request.invariant in
    let len = c.loop-request.requests.ok.0 in
    let cases = rw c.in_default.is at c.pop_front.ensures.cases in
    let none : length c.loop-request.requests.items ≡ 0 = omega (arith, len, cases.0) in
    let all = inv.forwards throttles e [] (rw (nil_from_length _ none) tt) in
    rw inv.same (rw (append-nil c.loop-request.replies.items) at all)
