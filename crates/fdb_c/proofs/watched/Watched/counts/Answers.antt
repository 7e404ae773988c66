use Rattle.std.proofs.Common.{◌≡◌, ◌∙◌, ℕ, List, None, Option, Some, ap, is_none, refl, subst, sym}
use Rattle.fdb_audit.specs.Following.{IsCounted, none_before}
use Rattle.fdb_audit.specs.Watched.{HasFollowed, HasSaid}
use Rattle.fdb_audit.specs.declared.arguments.AuditArguments.{AuditArguments}
use Rattle.fdb_c.specs.Watch.{started}
use Rattle.fdb_c.proofs.Some.{of_some}
use Rattle.fdb_c.proofs.watched.Watched.counts.Goals as goal

-- nothing came before
none_started : (asked : AuditArguments) (behind : ℕ) (from : Option (List ℕ)) → (started asked behind from).before ≡ none_before
none_started asked behind None = refl
none_started asked behind (Some text) = refl

pub returns-in-Some : goal.returns-in-Some
returns-in-Some c = rw (← c.self.view_is) (
    let it = c.self.inside in let start = started it.asked it.behind it.story.from in
    let (followed, says) = of_some (λ follower. HasFollowed it.asked start follower it.story.bytes it.story.told × HasSaid it.asked start follower it.story.bytes it.story.warned) (sym c.in-Some.is) c.self.invariant.0 in
    let now = c.counted_of.ensures in let far = c.progress.ensures in
    let first = far.first it.asked start it.story.bytes it.story.told followed (none_started it.asked it.behind it.story.from) in (
      ap is_none c.in-Some.is,
      record {
        arguments = it.asked;
        are = refl;
        follower = c.in-Some.follower;
        followed = followed;
        said = says;
        counted = subst (IsCounted start followed.read) (sym now.counted) first.0;
        came = now.counted ∙ first.1;
        kept = now.waiting.1 ∙ far.kept;
        unjudged = now.waiting.0 ∙ (far.its it.asked start it.story.bytes it.story.told followed).unjudged;
        newest = now.moments.0 ∙ far.moments.0;
        settled = now.moments.1 ∙ far.moments.1;
      },
    ))
