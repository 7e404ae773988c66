use Rattle.std.proofs.Common.{rules, ◌≡◌, ◌<◌, Bool, true, false, refl, arith}
use Rattle.fdb_history.specs.declared.register.TheConstants.{MAX_VERSION}
use Rattle.fdb_live.proofs.Above.{least_grows}
use Rattle.fdb_live.proofs.Reports.{version_in_range}
use Rattle.fdb_live.proofs.Rising.{bounded, never_behind}
use Rattle.fdb_live.proofs.live_record.LiveRecord.report.Goals as goal

pub returns-clause-acked : goal.returns-clause-acked
returns-clause-acked g c =
    let done = c.report.ensures in
    record { taken = search rules; position = done.position; bounded = bounded _ _ _ done.log; changed = done.changed; not_changed = done.not_changed }

pub returns-clause-seen : goal.returns-clause-seen
returns-clause-seen g c =
    let done = c.report.ensures in
    record {
      reporter = done.reporter;
      extends = done.seen;
      answers = done.answers;
      own_answers = done.own;
      never_falls = never_behind g.S.Service.start _ _ done.seen;
      least = least_grows c.versions_rise.ensures g.S.Service.epoch_end g.S.Service.recovery c.args.seen.now.answers _ done.chain done.answers;
    }

no_chain : (chained : Bool) → (chained ≡ true → ⊥) → chained ≡ false
no_chain true never = absurd (never refl)
no_chain false never = refl

pub returns-then-rec-gt-MAX_VERSION-clause-refused : goal.returns-then-rec-gt-MAX_VERSION-clause-refused
returns-then-rec-gt-MAX_VERSION-clause-refused g c =
    let above : MAX_VERSION < c.args.rec.version = search rules in (
      no_chain g.S.Live.chained (λ chained. (
          let in_range = version_in_range g.S.Service.epoch_end g.S.Service.recovery c.args.seen.now.answers c.args.rec.version c.position.ensures.chain (c.requires.drawn chained) in
          omega (arith, in_range, above)
          )),
      above,
    )
