use Rattle.std.proofs.Common.{rules, ◌≡◌, ◌≢◌, ◌++◌, ◌∷◌, [], Option, Some, IfSome, Result, Err, refl, subst, ap}
use Rattle.fdb_client.specs.Account.{Account, Logs}
use Rattle.fdb_client.specs.declared.error.ClientError.{ClientError}
use Rattle.fdb_client.specs.declared.error.ClientError.TheVariants.{Memory}
use Rattle.fdb_client.specs.declared.reply.ReadVersion.{ReadVersion}
use Rattle.fdb_history.specs.declared.log.Refusal.{Refusal}
use Rattle.fdb_history.specs.declared.log.Input.TheVariants.{Grv}
use Rattle.fdb_client.specs.Calls.{Reads}
use Rattle.fdb_client.proofs.Chained.{HasAgreed, agreed_read, either_way, logs_refused}
use Rattle.fdb_client.proofs.Reading.{reads_alike}
use Rattle.fdb_client.proofs.Refused.{of_read}
use Rattle.fdb_client.specs.private.Refusals.{IsOfRead}
use Rattle.fdb_history.specs.declared.log.CallAnswer.TheVariants.{Refused}
use Rattle.fdb_client.proofs.client.Client.read_version.Goals as goal

pub returns-in-Ok-clause-logged : goal.returns-in-Ok-clause-logged
returns-in-Ok-clause-logged g c not_memory =
    let logged = c.take_reply.ensures.logged not_memory c.self.inside.id c.self.inside.begun (search rules) (search rules) in
    let account : Account = record { number = c.self.inside.id; begun = c.self.inside.begun; calls = c.reserve.new.self.calls.items; answers = c.split-told.new.seen.answers; changes = c.split-told.new.seen.changes } in
    let before : account ≡ c.args.self.now = cc (c.reserve.ensures.calls, c.split-told.ensures.same, c.self.view_is) in
    reads_alike c.in_ok-logged.ensures.cases before logged

pub returns-in-Err-clause-logged : goal.returns-in-Err-clause-logged
returns-in-Err-clause-logged g c not_memory =
    let is_of_read : IsOfRead c.in-Err.error = search rules in
    let (cause, known, of) = of_read c.in-Err.error is_of_read (search rules) in
    let was : Account = record { number = c.self.inside.id; begun = c.self.inside.begun; calls = c.self.inside.journal.calls.items; answers = c.self.inside.token.answers; changes = c.self.inside.token.changes } in
    let after : Account = record { number = c.self.inside.id; begun = c.self.inside.begun; calls = c.add_refused.new.self.calls.items; answers = c.split-told.new.seen.answers; changes = c.split-told.new.seen.changes } in
    let result : Result ReadVersion ClientError = Err c.add_refused.result in
    let added = subst (λ (o : Option Refusal). IfSome o (λ why. c.add_refused.new.self.calls.items ≡ c.reserve.new.self.calls.items ++ record { input = Grv c.in_ok-logged.logged; asked = c.next-own.result.asked; position = c.next-own.result.asked; answer = Refused why } ∷ [])) known c.add_refused.ensures.calls in
    let logged : Logs was (Grv c.in_ok-logged.logged) (Refused cause) after = logs_refused (Grv c.in_ok-logged.logged) cause was after c.self.invariant.1 refl refl (search rules) (search rules) (cc (added, c.reserve.ensures.calls, c.next-own.ensures.asked)) in
    let reads : Reads g.S.Service.start c.in_ok-logged.logged was after result = record { answer = Refused cause; logged = logged; answered = of c.in_ok-logged.logged; returned = search rules } in
    reads_alike c.in_ok-logged.ensures.cases c.self.view_is reads

pub invariant_of-self-in-Ok : goal.invariant_of-self-in-Ok
invariant_of-self-in-Ok g c =
    let epoch_end = g.S.Service.epoch_end in
    let recovery = g.S.Service.recovery in
    let start = g.S.Service.start in
    let was : Account = record { number = c.self.inside.id; begun = c.self.inside.begun; calls = c.self.inside.journal.calls.items; answers = c.self.inside.token.answers; changes = c.self.inside.token.changes } in
    let before : Account = record { number = c.self.inside.id; begun = c.self.inside.begun; calls = c.reserve.new.self.calls.items; answers = c.split-told.new.seen.answers; changes = c.split-told.new.seen.changes } in
    let after : Account = record { number = c.self.inside.id; begun = c.self.inside.begun; calls = c.take_reply.new.journal.calls.items; answers = c.take_reply.new.token.answers; changes = c.take_reply.new.token.changes } in
    let alike : was ≡ before = cc (c.reserve.ensures.calls, c.split-told.ensures.same) in
    let agreed : HasAgreed epoch_end recovery start before = subst (HasAgreed epoch_end recovery start) alike (c.self.invariant.1, c.self.invariant.2, c.self.invariant.3) in
    let number : c.split-told.new.seen.reporter ≡ Some c.self.inside.id = search rules in
    let held : HasAgreed epoch_end recovery start after = either_way (HasAgreed epoch_end recovery start after) c.take_reply.result
    (λ done. agreed_read epoch_end recovery start before after agreed c.in_ok-logged.logged c.take_reply.result (c.take_reply.ensures.logged done c.self.inside.id c.self.inside.begun number agreed.0))
    (λ none. (let same : before ≡ after = cc (c.take_reply.ensures.token none, c.take_reply.ensures.calls none) in subst (HasAgreed epoch_end recovery start) same agreed)) in
    (search rules, held.0, held.1, held.2)

pub invariant_of-self-in-Err : goal.invariant_of-self-in-Err
invariant_of-self-in-Err g c =
    let epoch_end = g.S.Service.epoch_end in
    let recovery = g.S.Service.recovery in
    let start = g.S.Service.start in
    let was : Account = record { number = c.self.inside.id; begun = c.self.inside.begun; calls = c.self.inside.journal.calls.items; answers = c.self.inside.token.answers; changes = c.self.inside.token.changes } in
    let after : Account = record { number = c.self.inside.id; begun = c.self.inside.begun; calls = c.add_refused.new.self.calls.items; answers = c.split-told.new.seen.answers; changes = c.split-told.new.seen.changes } in
    let agreed : HasAgreed epoch_end recovery start was = (c.self.invariant.1, c.self.invariant.2, c.self.invariant.3) in
    let result : Result ReadVersion ClientError = Err c.in-Err.error in
    let held : HasAgreed epoch_end recovery start after = either_way (HasAgreed epoch_end recovery start after) result
    (λ not_memory.
    let is_of_read : IsOfRead c.in-Err.error = search rules in
    let apart : c.in-Err.error ≢ Memory = λ is. not_memory (ap Err is) in
    let (cause, known, of) = of_read c.in-Err.error is_of_read apart in
    let added = subst (λ (o : Option Refusal). IfSome o (λ why. c.add_refused.new.self.calls.items ≡ c.reserve.new.self.calls.items ++ record { input = Grv c.in_ok-logged.logged; asked = c.next-own.result.asked; position = c.next-own.result.asked; answer = Refused why } ∷ [])) known c.add_refused.ensures.calls in
    let logged : Logs was (Grv c.in_ok-logged.logged) (Refused cause) after = logs_refused (Grv c.in_ok-logged.logged) cause was after agreed.0 refl refl (search rules) (search rules) (cc (added, c.reserve.ensures.calls, c.next-own.ensures.asked)) in
    let reads : Reads start c.in_ok-logged.logged was after result = record { answer = Refused cause; logged = logged; answered = of c.in_ok-logged.logged; returned = search rules } in
    agreed_read epoch_end recovery start was after agreed c.in_ok-logged.logged result reads)
    (λ memory.
    let is : c.in-Err.error ≡ Memory = cc memory in
    let same : was ≡ after = search rules in
    subst (HasAgreed epoch_end recovery start) same agreed) in
    (search rules, held.0, held.1, held.2)
