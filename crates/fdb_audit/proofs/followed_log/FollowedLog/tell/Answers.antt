use Rattle.std.proofs.Common.{◌∙◌, ◌++◌, ap, string_bytes, subst, sym}
use Rattle.fdb_audit.specs.Progress.{IsToldWith, PrintedSoFar}
use Rattle.fdb_audit.specs.Watched.{AskForTheSame}
use Rattle.fdb_audit.specs.declared.teller.Said.{Said}
use Rattle.fdb_audit.specs.declared.progress.Reporter.{Reporter}
use Rattle.fdb_audit.proofs.PrintedOn.{last_says, told_more, told_quiet}
use Rattle.fdb_audit.proofs.followed_log.FollowedLog.tell.Goals.{then-is_due+in_ok-push, else-is_due}
use Rattle.fdb_audit.proofs.followed_log.FollowedLog.tell.Goals as goal

pub returns : goal.returns
returns g c = λ asked start bytes text (objects, asks, times, pieces).
    let first = c.in_ok-said.said in
    let more = string_bytes first.text in
    let follower = c.tell_in_time.new.self.follower in
    let others = c.in_ok-said.ensures.reporter in
    let same = c.is_due.ensures ∙ (ap (λ (reporter : Reporter). reporter.objects) others.0 ∙ objects) in (
      same,
      subst (AskForTheSame asked) (sym others.1) asks,
      times,
      last_says asked (PrintedSoFar asked c.args.self.now.follower) (PrintedSoFar asked follower) (string_bytes c.if-is_due.said.text) (λ start bytes text last.
          let next = c.in_ok-said.ensures.told asked start bytes last.told last.followed in
          record {
            told = last.told ++ more;
            followed = next;
            told_with = elim c.if-is_due.branch [
              | then-is_due+in_ok-push w ↦
                  let (said, is, holds) = w.in_ok-push.ensures in
                  subst (λ part. IsToldWith asked start bytes (last.told ++ more) (text ++ part)) (sym (ap (λ (said : Said). string_bytes said.text) w.said-is ∙ is))
                  (told_more asked start follower bytes last.told text more w.progress-progress.result c.is_due.new.self.objects said same next
                  (w.progress-progress.ensures.counted asked start bytes (last.told ++ more) next) (w.progress-progress.ensures.its asked start bytes (last.told ++ more) next) holds last.told_with)
              | else-is_due w ↦
                  subst (λ part. IsToldWith asked start bytes (last.told ++ more) (text ++ part)) (sym (ap (λ (said : Said). string_bytes said.text) w.said-is))
                  (told_quiet asked start follower bytes (last.told ++ more) last.told text more next last.told_with)
            ];
          }) times start bytes text pieces,
    )
