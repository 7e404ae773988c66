use Rattle.std.proofs.Common.{rules, refl}
use Rattle.fdb_client.specs.Account.{Account, Logs}
use Rattle.fdb_client.proofs.Chained.{agreed_told}
use Rattle.fdb_history.specs.declared.log.CallAnswer.TheVariants.{Told}
use Rattle.fdb_history.specs.declared.log.Input.TheVariants.{Tell}
use Rattle.fdb_client.proofs.client.Client.tell.Goals as goal

pub invariant_of-self-2 : goal.invariant_of-self-2
invariant_of-self-2 g c =
    let before : Account = record { number = c.self.inside.id; begun = c.self.inside.begun; calls = c.self.inside.journal.calls.items; answers = c.self.inside.token.answers; changes = c.self.inside.token.changes } in
    let after : Account = record { number = c.self.inside.id; begun = c.self.inside.begun; calls = c.add.new.self.calls.items; answers = c.split-told.new.seen.answers; changes = c.split-told.new.seen.changes } in
    let logged : Logs before (Tell c.args.to) Told after = search rules in
    let agreed = agreed_told g.S.Service.epoch_end g.S.Service.recovery g.S.Service.start before after (c.self.invariant.1, c.self.invariant.2, c.self.invariant.3) (Tell c.args.to) (λ chain. refl) logged in
    (search rules, agreed.0, agreed.1, agreed.2)
