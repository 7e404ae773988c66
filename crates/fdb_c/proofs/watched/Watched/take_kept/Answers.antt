use Rattle.std.proofs.Common.{refl, sym}
use Rattle.fdb_audit.specs.Watched.{HasFollowed, HasSaid}
use Rattle.fdb_c.specs.Watch.{started}
use Rattle.fdb_c.proofs.Some.{of_ok, of_some}
use Rattle.fdb_c.proofs.watched.Watched.take_kept.Goals as goal

-- what is made is kept of all that the story says
pub returns-clause-kept : goal.returns-clause-kept
returns-clause-kept c = rw (← c.self.view_is) (
    let it = c.self.inside in let start = started it.asked it.behind it.story.from in
    let (followed, says) = of_some (λ follower. HasFollowed it.asked start follower it.story.bytes it.story.told × HasSaid it.asked start follower it.story.bytes it.story.warned) (sym c.in-Some.is) c.self.invariant.0 in
    record {
      arguments = it.asked;
      are = refl;
      follower = c.in-Some.follower;
      followed = followed;
      said = says;
      keeps = of_ok _ c.in-Ok-made.is c.in-Ok.ensures it.asked start it.story.bytes it.story.told followed;
    })
