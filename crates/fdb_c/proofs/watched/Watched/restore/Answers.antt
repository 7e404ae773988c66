use Rattle.std.proofs.Common.{[], refl}
use Rattle.fdb_audit.specs.Kept.{start_of}
use Rattle.fdb_audit.specs.Watched.{HasFollowed, HasSaid}
use Rattle.fdb_c.specs.Watch.{started}
use Rattle.fdb_c.proofs.Some.{at_three, of_ok}
use Rattle.fdb_c.proofs.watched.Watched.restore.Goals as goal

-- the follower goes on by the text that the story names
pub returns-clause-told : goal.returns-clause-told
returns-clause-told c =
    let asked = c.in_ok-asked.asked in let text = c.args.text.now in let behind = c.args.options.behind in let now = c.of_kept.ensures in
    let followed = of_ok (λ follower. HasFollowed asked (start_of asked behind text) follower text []) c.in-Ok.is c.in_ok-follower.ensures.followed in
    let says = of_ok (λ follower. HasSaid asked (start_of asked behind text) follower text []) c.in-Ok.is c.in_ok-follower.ensures.said in
    record {
      arguments = asked;
      are = refl;
      follower = c.in-Ok.follower;
      followed = at_three (λ from bytes told. HasFollowed asked (started asked behind from) c.in-Ok.follower bytes told) now.2 now.0 now.1 followed;
      said = at_three (λ from bytes warned. HasSaid asked (started asked behind from) c.in-Ok.follower bytes warned) now.2 now.0 now.3 says;
    }
