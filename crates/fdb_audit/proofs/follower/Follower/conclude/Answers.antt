use Rattle.std.proofs.Common.{◌∙◌, ◌++◌}
use Rattle.fdb_audit.specs.Following.{faults_told}
use Rattle.fdb_audit.specs.Watched.{lines_asked, members_asked}
use Rattle.fdb_audit.proofs.TellingOn.{all_told}
use Rattle.fdb_audit.proofs.follower.Follower.conclude.Goals as goal

pub returns-clause-told : goal.returns-clause-told
returns-clause-told c = λ asked start bytes told ends is names.
    let read = lines_asked asked bytes in
    let (end, end_is, text) = c.in_ok-end.ensures.text (members_asked asked) (start.before.told ++ faults_told read is.windows) is.are.totals in
    all_told asked start ends c.args.self bytes told _ end _ _ _ is names
    (c.say-said.ensures.text ∙ text)
    (c.say-said.ensures.first ∙ c.end.ensures.first)
    c.with-all.ensures.counts
    c.with-all.ensures.last_early
    end_is
