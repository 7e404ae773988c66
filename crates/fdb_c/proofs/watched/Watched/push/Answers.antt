use Rattle.std.proofs.Common.{refl}
use Rattle.fdb_audit.specs.Watched.{HasFollowed, HasSaid}
use Rattle.fdb_c.specs.Watch.{started}
use Rattle.fdb_c.proofs.Some.{at_three, of_some}
use Rattle.fdb_c.proofs.watched.Watched.push.Goals as goal

-- the follower has followed what the story says now
pub returns-in-Ok-clause-told : goal.returns-in-Ok-clause-told
returns-in-Ok-clause-told c = λ _.
    let it = c.self.inside in let start = started it.asked it.behind it.story.from in
    let (followed, says) = of_some (λ follower. HasFollowed it.asked start follower it.story.bytes it.story.told × HasSaid it.asked start follower it.story.bytes it.story.warned) c.in-Some.ensures.value c.self.invariant.0 in
    let now = c.with_bytes-self-inside.ensures in
    record {
      arguments = it.asked;
      are = refl;
      follower = c.feed.new.self;
      followed = at_three (λ from bytes told. HasFollowed it.asked (started it.asked it.behind from) c.feed.new.self bytes told) now.2 now.0 now.1
          (c.in-Ok.ensures.followed it.asked start it.story.bytes it.story.told followed);
      said = at_three (λ from bytes warned. HasSaid it.asked (started it.asked it.behind from) c.feed.new.self bytes warned) now.2 now.0 now.3
          (c.in-Ok.ensures.said it.asked start it.story.bytes it.story.warned says);
    }
