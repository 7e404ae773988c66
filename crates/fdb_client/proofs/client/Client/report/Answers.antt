use Rattle.std.proofs.Common.{rules, refl, ◌≡◌, ◌<◌, Err, Ok, Some, subst, sym}
use Rattle.std.specs.Prelude.{Contains}
use Rattle.fdb_live.specs.Holding.{versions}
use Rattle.fdb_client.specs.Calls.{IsReportRefusal, Reports}
use Rattle.fdb_client.specs.declared.error.ClientError.TheVariants as error
use Rattle.fdb_live.specs.declared.live_record.LiveError.TheVariants as live
use Rattle.fdb_history.specs.Strays.{issued_under}
use Rattle.fdb_history.specs.declared.log.CallAnswer.TheVariants.{Acked, Refused}
use Rattle.fdb_history.specs.declared.log.Refusal.TheVariants.{MinAbove, NotIssued}
use Rattle.fdb_client.specs.Account.{Account}
use Rattle.fdb_history.specs.declared.register.Record.{Record}
use Rattle.fdb_live.specs.Seen.{IsRecord}
use Rattle.fdb_client.proofs.Reported.{changed_or_not}
use Rattle.fdb_client.proofs.Chained.{agreed_reported}
use Rattle.fdb_client.proofs.client.Client.report.Goals as goal

pub report-requires-clause-drawn : goal.report-requires-clause-drawn
report-requires-clause-drawn g c _ =
    let is : issued_under c.self.inside.journal.calls.items c.args.num ≡ Some c.in-Some.version = search rules in
    let has : Contains (versions c.self.inside.token.answers) c.in-Some.version = c.self.invariant.3.drawn c.args.num c.in-Some.version is in
    search rules

pub returns-in_default-clause-logged : goal.returns-in_default-clause-logged
returns-in_default-clause-logged g c _ = record { answer = Refused NotIssued; logged = search rules; answered = search rules; returned = search rules }

pub returns-in-Ok-clause-logged : goal.returns-in-Ok-clause-logged
returns-in-Ok-clause-logged g c _ =
    let before : Account = record { number = c.self.inside.id; begun = c.self.inside.begun; calls = c.self.inside.journal.calls.items; answers = c.self.inside.token.answers; changes = c.self.inside.token.changes } in
    let after : Account = record { number = c.self.inside.id; begun = c.self.inside.begun; calls = c.add.new.self.calls.items; answers = c.report.new.seen.answers; changes = c.report.new.seen.changes } in
    let rec : Record = record { version = c.in-Some.version; locked = c.args.locked; metadata = c.args.metadata; min_known = c.args.min_known } in
    let is : issued_under before.calls c.args.num ≡ Some c.in-Some.version = search rules in
    let taken : IsRecord rec = c.in-Ok.ensures.acked.taken in
    let found = changed_or_not g.S.Service.start rec c.in-Ok.ack.raised c.self.inside.id c.self.inside.token c.report.new.seen c.self.invariant.0 c.report.ensures.seen.reporter c.in-Ok.ack.changed c.in-Ok.ensures.acked.changed c.in-Ok.ensures.acked.not_changed in
    let reports : Reports g.S.Service.start c.args.num c.args.locked c.args.metadata c.args.min_known before after (Ok c.in-Ok.ack) = record { answer = Acked rec c.in-Ok.ack.raised c.in-Ok.ack.changed; logged = search rules; answered = (is, refl, refl, refl, taken, found); returned = search rules } in
    subst (λ (account : Account). Reports g.S.Service.start c.args.num c.args.locked c.args.metadata c.args.min_known account after (Ok c.in-Ok.ack)) c.self.view_is reports

pub returns-in-Err-MinAbove-clause-logged : goal.returns-in-Err-MinAbove-clause-logged
returns-in-Err-MinAbove-clause-logged g c _ =
    let is : issued_under c.args.self.now.calls c.args.num ≡ Some c.in-Some.version = search rules in
    let above : c.in-Some.version < c.args.min_known = search rules in
    record { answer = Refused MinAbove; logged = search rules; answered = subst (λ version. IsReportRefusal version c.args.min_known MinAbove) (sym is) above; returned = search rules }

pub invariant_of-self-in_default : goal.invariant_of-self-in_default
invariant_of-self-in_default g c =
    let before : Account = record { number = c.self.inside.id; begun = c.self.inside.begun; calls = c.self.inside.journal.calls.items; answers = c.self.inside.token.answers; changes = c.self.inside.token.changes } in
    let after : Account = record { number = c.self.inside.id; begun = c.self.inside.begun; calls = c.add_refused.new.self.calls.items; answers = c.self.inside.token.answers; changes = c.self.inside.token.changes } in
    let reports : Reports g.S.Service.start c.args.num c.args.locked c.args.metadata c.args.min_known before after (Err error.NotIssued) = record { answer = Refused NotIssued; logged = search rules; answered = search rules; returned = search rules } in
    let agreed = agreed_reported g.S.Service.epoch_end g.S.Service.recovery g.S.Service.start before after (c.self.invariant.1, c.self.invariant.2, c.self.invariant.3) c.args.num c.args.locked c.args.metadata c.args.min_known (Err error.NotIssued) reports in
    (search rules, agreed.0, agreed.1, agreed.2)

pub invariant_of-self-in-Ok : goal.invariant_of-self-in-Ok
invariant_of-self-in-Ok g c =
    let before : Account = record { number = c.self.inside.id; begun = c.self.inside.begun; calls = c.self.inside.journal.calls.items; answers = c.self.inside.token.answers; changes = c.self.inside.token.changes } in
    let after : Account = record { number = c.self.inside.id; begun = c.self.inside.begun; calls = c.add.new.self.calls.items; answers = c.report.new.seen.answers; changes = c.report.new.seen.changes } in
    let rec : Record = record { version = c.in-Some.version; locked = c.args.locked; metadata = c.args.metadata; min_known = c.args.min_known } in
    let is : issued_under before.calls c.args.num ≡ Some c.in-Some.version = search rules in
    let taken : IsRecord rec = c.in-Ok.ensures.acked.taken in
    let found = changed_or_not g.S.Service.start rec c.in-Ok.ack.raised c.self.inside.id c.self.inside.token c.report.new.seen c.self.invariant.0 c.report.ensures.seen.reporter c.in-Ok.ack.changed c.in-Ok.ensures.acked.changed c.in-Ok.ensures.acked.not_changed in
    let reports : Reports g.S.Service.start c.args.num c.args.locked c.args.metadata c.args.min_known before after (Ok c.in-Ok.ack) = record { answer = Acked rec c.in-Ok.ack.raised c.in-Ok.ack.changed; logged = search rules; answered = (is, refl, refl, refl, taken, found); returned = search rules } in
    let agreed = agreed_reported g.S.Service.epoch_end g.S.Service.recovery g.S.Service.start before after (c.self.invariant.1, c.self.invariant.2, c.self.invariant.3) c.args.num c.args.locked c.args.metadata c.args.min_known (Ok c.in-Ok.ack) reports in
    (search rules, agreed.0, agreed.1, agreed.2)

pub invariant_of-self-in-Err-MinAbove : goal.invariant_of-self-in-Err-MinAbove
invariant_of-self-in-Err-MinAbove g c =
    let before : Account = record { number = c.self.inside.id; begun = c.self.inside.begun; calls = c.self.inside.journal.calls.items; answers = c.self.inside.token.answers; changes = c.self.inside.token.changes } in
    let after : Account = record { number = c.self.inside.id; begun = c.self.inside.begun; calls = c.add_refused-in-Err-MinAbove.new.self.calls.items; answers = c.report.new.seen.answers; changes = c.report.new.seen.changes } in
    let is : issued_under before.calls c.args.num ≡ Some c.in-Some.version = search rules in
    let above : c.in-Some.version < c.args.min_known = search rules in
    let reports : Reports g.S.Service.start c.args.num c.args.locked c.args.metadata c.args.min_known before after (Err (error.Live live.MinAbove)) = record { answer = Refused MinAbove; logged = search rules; answered = subst (λ version. IsReportRefusal version c.args.min_known MinAbove) (sym is) above; returned = search rules } in
    let agreed = agreed_reported g.S.Service.epoch_end g.S.Service.recovery g.S.Service.start before after (c.self.invariant.1, c.self.invariant.2, c.self.invariant.3) c.args.num c.args.locked c.args.metadata c.args.min_known (Err (error.Live live.MinAbove)) reports in
    (search rules, agreed.0, agreed.1, agreed.2)
