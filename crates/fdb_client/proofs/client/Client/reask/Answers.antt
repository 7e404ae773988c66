use Rattle.std.proofs.Common.{rules, ◌≡◌, ◌≢◌, ◌⊎◌, inl, inr, ◌++◌, ◌∷◌, [], Option, None, Some, IfNone, IfSome, Result, Ok, Err, refl, subst, ap, sym, ◌∙◌}
use Rattle.std.specs.Prelude.{Contains}
use mathlib.Core.List.{IsPrefix}
use Rattle.fdb_chain.specs.ChainCore.{chain_of, new_chain}
use Rattle.fdb_client.proofs.Chained.{HasAgreed, agreed_asked, added_alike, agreed_more, asks_err, asks_ok, either_way, not_answered, same_error, same_issued}
use Rattle.fdb_client.proofs.Own.{next_is}
use Rattle.fdb_client.proofs.Refused.{of_sequencer}
use Rattle.fdb_client.specs.Account.{Account, sight}
use Rattle.fdb_client.specs.Calls.{Asks, IsDue, next_number, request_of}
use Rattle.fdb_client.specs.declared.error.ClientError.{ClientError}
use Rattle.fdb_history.specs.declared.chain.Issued.{Issued}
use Rattle.fdb_client.specs.declared.error.ClientError.TheVariants as error
use Rattle.fdb_client.specs.declared.error.ClientError.TheVariants.{Memory}
use Rattle.fdb_chain.specs.declared.error.ChainError.TheVariants.{Exhausted}
use Rattle.fdb_history.specs.Issuing.{Chain}
use Rattle.fdb_history.specs.Strays.{logged_as}
use Rattle.fdb_client.specs.Returned.{AskReturns, error_of, error_of_sequencer}
use Rattle.fdb_client.specs.private.Refusals.{refusal_for}
use Rattle.fdb_history.specs.declared.log.CallAnswer.TheVariants.{Refused}
use Rattle.fdb_history.specs.declared.log.Input.TheVariants.{Ask}
use Rattle.fdb_history.specs.declared.log.Refusal.{Refusal}
use Rattle.fdb_live.specs.Holding.{IsIssued, versions}
use Rattle.fdb_live.specs.Seen.{Sight}
use Rattle.fdb_client.proofs.client.Client.reask.Goals as goal

pub returns-in-Ok-clause-logged : goal.returns-in-Ok-clause-logged
returns-in-Ok-clause-logged g c _ =
    let begun = new_chain g.S.Service.epoch_end g.S.Service.recovery g.S.Service.reporters in
    let after : Account = record { number = c.self.inside.id; begun = c.self.inside.begun; calls = c.add_answer.new.self.calls.items; answers = c.ask.new.token.answers; changes = c.ask.new.token.changes } in
    let asks = asks_ok begun g.S.Service.start c.self.inside.id c.self.inside.begun c.args.num c.args.processed c.args.at c.self.inside.journal.calls.items c.add_answer.new.self.calls.items c.self.inside.token c.ask.new.token
    c.self.invariant.0 c.self.invariant.1 (ap (λ (t : Sight). t.reporter) c.in-Ok.ensures.token) (ap (λ (t : Sight). t.changes) c.in-Ok.ensures.token) c.in-Ok.ensures.extends c.in-Ok.issued c.in-Ok.ensures.asked c.in-Ok.ensures.due.own (λ fresh. (c.in-Ok.ensures.issued.above_read fresh).above) (search rules) in
    subst (λ (account : Account). Asks begun g.S.Service.start c.args.num c.args.processed c.args.at account after (Ok c.in-Ok.issued)) c.self.view_is asks

pub invariant_of-self-in-Ok : goal.invariant_of-self-in-Ok
invariant_of-self-in-Ok g c =
    let begun = new_chain g.S.Service.epoch_end g.S.Service.recovery g.S.Service.reporters in
    let before : Account = record { number = c.self.inside.id; begun = c.self.inside.begun; calls = c.self.inside.journal.calls.items; answers = c.self.inside.token.answers; changes = c.self.inside.token.changes } in
    let after : Account = record { number = c.self.inside.id; begun = c.self.inside.begun; calls = c.add_answer.new.self.calls.items; answers = c.ask.new.token.answers; changes = c.ask.new.token.changes } in
    let asks = asks_ok begun g.S.Service.start c.self.inside.id c.self.inside.begun c.args.num c.args.processed c.args.at c.self.inside.journal.calls.items c.add_answer.new.self.calls.items c.self.inside.token c.ask.new.token
    c.self.invariant.0 c.self.invariant.1 (ap (λ (t : Sight). t.reporter) c.in-Ok.ensures.token) (ap (λ (t : Sight). t.changes) c.in-Ok.ensures.token) c.in-Ok.ensures.extends c.in-Ok.issued c.in-Ok.ensures.asked c.in-Ok.ensures.due.own (λ fresh. (c.in-Ok.ensures.issued.above_read fresh).above) (search rules) in
    let held = agreed_asked g.S.Service.epoch_end g.S.Service.recovery g.S.Service.start before after (c.self.invariant.1, c.self.invariant.2, c.self.invariant.3) c.answers_are_justified.ensures g.S.Service.reporters c.args.num c.args.processed c.args.at (Ok c.in-Ok.issued) c.in-Ok.ensures.chain.0 c.in-Ok.ensures.chain.1 asks
    (λ issued is. (let same : c.in-Ok.issued ≡ issued = same_issued is in subst (λ (one : Issued). (one.proxy ≡ c.self.inside.id) × Contains (versions c.ask.new.token.answers) one.version) same (c.in-Ok.ensures.issued.request.proxy, c.in-Ok.ensures.issued.has))) in
    (search rules, held.0, held.1, held.2)

pub returns-in-Err-clause-logged : goal.returns-in-Err-clause-logged
returns-in-Err-clause-logged g c not_memory =
    let begun = new_chain g.S.Service.epoch_end g.S.Service.recovery g.S.Service.reporters in
    let after : Account = record { number = c.self.inside.id; begun = c.self.inside.begun; calls = c.add_refused.new.self.calls.items; answers = c.ask.new.token.answers; changes = c.ask.new.token.changes } in
    let asked = c.in-Err.ensures.asked in
    let (refusal, known, is) = of_sequencer _ c.in-Err.cause asked.answer (search rules) in
    let same : refusal_for c.from-error.result ≡ Some refusal = ap refusal_for c.from-error.ensures ∙ known in
    let error_is : c.add_refused.result ≡ error_of refusal = c.add_refused.ensures.same ∙ subst (λ (o : Option Refusal). IfSome o (λ why. c.from-error.result ≡ error_of why)) same c.add_refused.ensures.error in
    let added = subst (λ (o : Option Refusal). IfSome o (λ why. c.add_refused.new.self.calls.items ≡ c.reserve_under.new.self.calls.items ++ record { input = Ask c.args.num c.args.processed c.args.at; asked = c.position-position.result; position = c.position-position.result; answer = Refused why } ∷ [])) same c.add_refused.ensures.calls in
    let asks = asks_err begun g.S.Service.start c.self.inside.id c.self.inside.begun c.args.num c.args.processed c.args.at c.self.inside.journal.calls.items c.add_refused.new.self.calls.items c.self.inside.token c.ask.new.token
    c.self.invariant.0 c.self.invariant.1 (ap (λ (t : Sight). t.reporter) c.in-Err.ensures.token) (ap (λ (t : Sight). t.changes) c.in-Err.ensures.token) c.in-Err.ensures.extends c.in-Err.cause refusal c.add_refused.result asked (c.in-Err.ensures.due.own tt) is error_is
    (added_alike (Ask c.args.num c.args.processed c.args.at) refusal c.reserve_under.ensures.calls c.position-position.ensures.position added) in
    subst (λ (account : Account). Asks begun g.S.Service.start c.args.num c.args.processed c.args.at account after (Err c.add_refused.result)) c.self.view_is asks

pub invariant_of-self-in-Err : goal.invariant_of-self-in-Err
invariant_of-self-in-Err g c =
    let epoch_end = g.S.Service.epoch_end in
    let recovery = g.S.Service.recovery in
    let start = g.S.Service.start in
    let begun = new_chain epoch_end recovery g.S.Service.reporters in
    let before : Account = record { number = c.self.inside.id; begun = c.self.inside.begun; calls = c.self.inside.journal.calls.items; answers = c.self.inside.token.answers; changes = c.self.inside.token.changes } in
    let after : Account = record { number = c.self.inside.id; begun = c.self.inside.begun; calls = c.add_refused.new.self.calls.items; answers = c.ask.new.token.answers; changes = c.ask.new.token.changes } in
    let agreed : HasAgreed epoch_end recovery start before = (c.self.invariant.1, c.self.invariant.2, c.self.invariant.3) in
    let asked = c.in-Err.ensures.asked in
    let result : Result Issued ClientError = Err (error_of_sequencer c.in-Err.cause) in
    let held : HasAgreed epoch_end recovery start after = either_way (HasAgreed epoch_end recovery start after) result
    (λ not_memory.
    let apart : error_of_sequencer c.in-Err.cause ≢ Memory = λ is. not_memory (ap Err is) in
    let (refusal, known, is) = of_sequencer _ c.in-Err.cause asked.answer apart in
    let same : refusal_for c.from-error.result ≡ Some refusal = ap refusal_for c.from-error.ensures ∙ known in
    let error_is : c.from-error.result ≡ error_of refusal = subst (λ (o : Option Refusal). IfSome o (λ why. c.from-error.result ≡ error_of why)) same c.add_refused.ensures.error in
    let added = subst (λ (o : Option Refusal). IfSome o (λ why. c.add_refused.new.self.calls.items ≡ c.reserve_under.new.self.calls.items ++ record { input = Ask c.args.num c.args.processed c.args.at; asked = c.position-position.result; position = c.position-position.result; answer = Refused why } ∷ [])) same c.add_refused.ensures.calls in
    let asks = asks_err begun start c.self.inside.id c.self.inside.begun c.args.num c.args.processed c.args.at c.self.inside.journal.calls.items c.add_refused.new.self.calls.items c.self.inside.token c.ask.new.token
    c.self.invariant.0 c.self.invariant.1 (ap (λ (t : Sight). t.reporter) c.in-Err.ensures.token) (ap (λ (t : Sight). t.changes) c.in-Err.ensures.token) c.in-Err.ensures.extends c.in-Err.cause refusal c.from-error.result asked (c.in-Err.ensures.due.own tt) is error_is
    (added_alike (Ask c.args.num c.args.processed c.args.at) refusal c.reserve_under.ensures.calls c.position-position.ensures.position added) in
    agreed_asked epoch_end recovery start before after agreed c.answers_are_justified.ensures g.S.Service.reporters c.args.num c.args.processed c.args.at (Err c.from-error.result) c.in-Err.ensures.chain.0 c.in-Err.ensures.chain.1 asks (λ issued answered. not_answered answered))
    (λ memory.
    let is : error_of_sequencer c.in-Err.cause ≡ Memory = same_error memory in
    let none : refusal_for c.from-error.result ≡ None = ap refusal_for (c.from-error.ensures ∙ is) in
    let kept = subst (λ (o : Option Refusal). IfNone o (c.add_refused.new.self ≡ c.reserve_under.new.self)) none c.add_refused.ensures.unlogged in
    let calls : c.add_refused.new.self.calls.items ≡ c.self.inside.journal.calls.items = ap (λ j. j.calls.items) kept ∙ c.reserve_under.ensures.calls in
    agreed_more begun start c.self.inside.id c.self.inside.begun c.args.num c.args.processed c.args.at c.self.inside.journal.calls.items c.add_refused.new.self.calls.items c.self.inside.token c.ask.new.token
    c.self.invariant.0 c.self.invariant.1 (ap (λ (t : Sight). t.reporter) c.in-Err.ensures.token) (ap (λ (t : Sight). t.changes) c.in-Err.ensures.token) c.in-Err.ensures.extends epoch_end recovery (c.in-Err.ensures.due.own tt) calls agreed) in
    (search rules, held.0, held.1, held.2)

pub returns-in-Err-clause-extends : goal.returns-in-Err-clause-extends
returns-in-Err-clause-extends g c = subst (λ (account : Account). IsPrefix account.answers c.ask.new.token.answers) c.self.view_is c.in-Err.ensures.extends

pub returns-in-Ok-clause-extends : goal.returns-in-Ok-clause-extends
returns-in-Ok-clause-extends g c = subst (λ (account : Account). IsPrefix account.answers c.ask.new.token.answers) c.self.view_is c.in-Ok.ensures.extends

pub returns-in-Ok-clause-issued : goal.returns-in-Ok-clause-issued
returns-in-Ok-clause-issued g c =
    let before : Account = record { number = c.self.inside.id; begun = c.self.inside.begun; calls = c.self.inside.journal.calls.items; answers = c.self.inside.token.answers; changes = c.self.inside.token.changes } in
    let after : Account = record { number = c.self.inside.id; begun = c.self.inside.begun; calls = c.add_answer.new.self.calls.items; answers = c.ask.new.token.answers; changes = c.ask.new.token.changes } in
    let had = c.in-Ok.ensures.issued in
    let told : IsIssued g.S.Service.start (request_of before c.args.num c.args.processed c.args.at) (sight before) (sight after) c.in-Ok.issued = record { request = had.request; in_range = had.in_range; stands = had.stands; has = had.has; above = had.above; above_old = had.above_old; above_read = had.above_read; least = had.least } in
    subst (λ (account : Account). IsIssued g.S.Service.start (request_of account c.args.num c.args.processed c.args.at) (sight account) (sight after) c.in-Ok.issued) c.self.view_is told

pub returns-in-Ok-clause-due : goal.returns-in-Ok-clause-due
returns-in-Ok-clause-due g c =
    let before : Account = record { number = c.self.inside.id; begun = c.self.inside.begun; calls = c.self.inside.journal.calls.items; answers = c.self.inside.token.answers; changes = c.self.inside.token.changes } in
    let result : Result Issued ClientError = Ok c.in-Ok.issued in
    let seen : Account → Chain = λ account. chain_of g.S.Service.epoch_end g.S.Service.recovery g.S.Service.reporters account.answers in
    let number = next_is g.S.Service.epoch_end g.S.Service.recovery before c.self.invariant.3 in
    let told : IsDue (seen before) c.args.num c.args.processed c.args.at before result = record {
      next = λ is. c.in-Ok.ensures.due.next (is ∙ number);
      decided = λ other not_memory. subst (λ answer. AskReturns (logged_as answer) result) (sym (c.in-Ok.ensures.due.decided (λ is. other (is ∙ sym number)))) refl;
    } in
    subst (λ (account : Account). IsDue (seen account) c.args.num c.args.processed c.args.at account result) c.self.view_is told

pub returns-in-Err-clause-due : goal.returns-in-Err-clause-due
returns-in-Err-clause-due g c =
    let before : Account = record { number = c.self.inside.id; begun = c.self.inside.begun; calls = c.self.inside.journal.calls.items; answers = c.self.inside.token.answers; changes = c.self.inside.token.changes } in
    let result : Result Issued ClientError = Err c.add_refused.result in
    let seen : Account → Chain = λ account. chain_of g.S.Service.epoch_end g.S.Service.recovery g.S.Service.reporters account.answers in
    let number = next_is g.S.Service.epoch_end g.S.Service.recovery before c.self.invariant.3 in
    let error_is : c.add_refused.result ≡ error_of_sequencer c.in-Err.cause = c.add_refused.ensures.same ∙ c.from-error.ensures in
    let next : c.args.num ≡ next_number before → (c.add_refused.result ≡ error.Chain Exhausted) ⊎ (c.add_refused.result ≡ Memory) = λ is. elim (c.in-Err.ensures.due.next (is ∙ number)) [
      | inl exhausted ↦ inl (error_is ∙ ap error_of_sequencer exhausted)
      | inr memory ↦ inr (error_is ∙ ap error_of_sequencer memory)
    ] in
    let told : IsDue (seen before) c.args.num c.args.processed c.args.at before result = record {
      next = next;
      decided = λ other not_memory.
          let apart : error_of_sequencer c.in-Err.cause ≢ Memory = λ is. not_memory (ap Err (error_is ∙ is)) in
          let decided = c.in-Err.ensures.due.decided (λ is. other (is ∙ sym number)) in
          let (refusal, known, is) = of_sequencer _ c.in-Err.cause decided apart in
          let same : refusal_for c.from-error.result ≡ Some refusal = ap refusal_for c.from-error.ensures ∙ known in
          let logged : c.add_refused.result ≡ error_of refusal = c.add_refused.ensures.same ∙ subst (λ (o : Option Refusal). IfSome o (λ why. c.from-error.result ≡ error_of why)) same c.add_refused.ensures.error in
          subst (λ answer. AskReturns (logged_as answer) result) (sym is) (ap Err logged);
    } in
    subst (λ (account : Account). IsDue (seen account) c.args.num c.args.processed c.args.at account result) c.self.view_is told
