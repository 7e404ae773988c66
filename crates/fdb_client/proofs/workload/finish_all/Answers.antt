use Rattle.std.proofs.Common.{◌≡◌, [], ◌∷◌, ◌++◌, length, append_assoc, arith, ap, sym, subst, ◌∙◌}
use Rattle.std.proofs.lemmas.List.{length-map, map-append}
use Rattle.fdb_client.specs.Account.{sight}
use Rattle.fdb_client.specs.Settling.{AllAgree, AllAgreeWithChain, HaveNumbers, logs_of}
use Rattle.fdb_live.specs.Gathering.{AreNumbered}
use Rattle.fdb_client.proofs.Left.{MaySettle, all_agree, all_agree_with_chain, all_yielded, are_numbered}
use Rattle.fdb_client.proofs.Chains.{each-append}
use Rattle.fdb_client.proofs.workload.finish_all.Goals as goal

pub loop-client-preserved : goal.loop-client-preserved
loop-client-preserved g c =
    let inv = c.loop-client.invariant in
    let yielded = c.loop-client.yielded in
    let client = c.in-Some.client in
    record {
      left = append_assoc yielded (client ∷ []) c.next.new.self.rest.items ∙ (ap (λ rest. yielded ++ rest) (sym c.in-Some.ensures.steps.0) ∙ inv.left);
      logs = rw (c.in_ok-push.ensures.items, c.finish-log.ensures.log, inv.logs) (sym (map-append _ yielded (client ∷ [])));
      tokens = rw (c.in_ok-push-2.ensures.items, c.finish-log.ensures.token, inv.tokens) (sym (map-append _ yielded (client ∷ [])));
      settled = each-append (MaySettle g.S.Service.epoch_end g.S.Service.recovery g.S.Service.start) yielded (client ∷ []) inv.settled ((c.finish-log.ensures.settles, c.finish-log.ensures.chain), tt);
    }

pub invariant_of-result : goal.invariant_of-result
invariant_of-result g c =
    let inv = c.loop-client.invariant in
    let start = g.S.Service.start in
    let yielded = c.loop-client.yielded in
    let rest = c.loop-client.client-iterator.rest in
    let all : yielded ≡ c.args.clients.items = all_yielded yielded rest.items c.args.clients.items (omega (arith, rest.ok.0, c.in-None.ensures.steps.0)) inv.left in
    let count : length yielded ≡ g.S.Service.reporters = omega (arith, ap length all, c.requires.count, c.args.clients.ok.0) in
    let have : HaveNumbers yielded = subst HaveNumbers (sym all) c.requires.in_place in
    let epoch_end = g.S.Service.epoch_end in
    let recovery = g.S.Service.recovery in
    let beside : AllAgree start (logs_of yielded) c.loop-client.tokens.items = subst (λ tokens. AllAgree start (logs_of yielded) tokens) (sym inv.tokens) (all_agree epoch_end recovery start yielded have inv.settled) in
    let chained : AllAgreeWithChain epoch_end recovery (logs_of yielded) c.loop-client.tokens.items = subst (λ tokens. AllAgreeWithChain epoch_end recovery (logs_of yielded) tokens) (sym inv.tokens) (all_agree_with_chain epoch_end recovery start yielded have inv.settled) in (
      ap length inv.logs ∙ (length-map yielded _ ∙ count),
      ap length inv.tokens ∙ (length-map yielded sight ∙ count),
      subst AreNumbered (sym inv.tokens) (are_numbered yielded have),
      subst (λ logs. AllAgree start logs c.loop-client.tokens.items) (sym inv.logs) beside,
      subst (λ logs. AllAgreeWithChain epoch_end recovery logs c.loop-client.tokens.items) (sym inv.logs) chained,
    )
