use Rattle.std.proofs.Common.{◌∙◌, ap, ap₂, refl}
use Rattle.fdb_audit.specs.Following.{Counted, sum_of}
use Rattle.fdb_audit.proofs.TellingOn.{counted_for}
use Rattle.fdb_audit.proofs.follower.Follower.line_count.Goals as goal

pub returns : goal.returns
returns c = λ asked start bytes told has.
    let self = c.args.self.now in
    let before = ap (λ (counts : Counted). counts.lines) has.telling.carried.counts in
    let since = (counted_for start self has.read has.telling.taken self refl refl).lines in
    c.saturating_add.ensures ∙ ap₂ sum_of before since
