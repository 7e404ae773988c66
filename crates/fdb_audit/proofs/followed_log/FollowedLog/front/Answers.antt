use Rattle.std.proofs.Common.{◌≡◌, ◌∙◌, ◌++◌, ap, string_bytes, subst, sym}
use Rattle.fdb_audit.specs.Progress.{IsToldWith, PrintedSoFar, progress_text}
use Rattle.fdb_audit.proofs.PrintedOn.{last_says, told_front}
use Rattle.fdb_audit.proofs.followed_log.FollowedLog.front.Goals as goal

pub returns : goal.returns
returns c = λ asked start bytes text (objects, asks, times, pieces).
    let follower = c.args.self.now.follower in
    let (said, is, holds) = c.in_ok-push.ensures in
    let alone : string_bytes c.push.new.said.text ≡ progress_text said = is ∙ ap (λ before. before ++ progress_text said) c.new.ensures.bytes in (
      objects,
      asks,
      times,
      last_says asked (PrintedSoFar asked follower) (PrintedSoFar asked follower) (string_bytes c.push.new.said.text) (λ start bytes text last. record {
        told = last.told;
        followed = last.followed;
        told_with = subst (λ part. IsToldWith asked start bytes last.told (text ++ part)) (sym alone)
            (told_front asked start follower bytes last.told text c.progress.result c.args.self.now.reporter.objects said objects last.followed
            (c.progress.ensures.counted asked start bytes last.told last.followed) (c.progress.ensures.its asked start bytes last.told last.followed) holds last.told_with);
      }) times start bytes text pieces,
    )
