use Rattle.std.proofs.Common.{◌≡◌, ◌∙◌, ap, refl, subst, sym}
use Rattle.fdb_audit.specs.Following.{Before, Counted, IsCounted, counted_on}
use Rattle.fdb_audit.specs.Taken.{counted_in, counted_of}
use Rattle.fdb_audit.proofs.CountedOn.{counted_first}
use Rattle.fdb_audit.proofs.TellingOn.{counted_for}
use Rattle.fdb_audit.proofs.follower.Follower.progress.Goals as goal

pub returns-clause-counted : goal.returns-clause-counted
returns-clause-counted c = λ asked start bytes told has.
    let self = c.args.self.now in (
      counted_of self.taking,
      counted_for start self has.read has.telling.taken self refl refl,
      c.with-all.ensures.counts ∙ ap (λ (before : Counted). counted_on before (counted_of self.taking)) has.telling.carried.counts,
    )

pub returns-clause-first : goal.returns-clause-first
returns-clause-first c = λ asked start bytes told has first.
    let self = c.args.self.now in
    let same : counted_in c.with-all.result.counts c.with-all.result.refused ≡ counted_of self.taking =
    c.with-all.ensures.counts
    ∙ (ap (λ (before : Counted). counted_on before (counted_of self.taking)) (has.telling.carried.counts ∙ ap (λ (before : Before). before.counts) first)
    ∙ counted_first start self.taking has.read _ has.telling.taken) in
    (subst (IsCounted start has.read) (sym same) (counted_for start self has.read has.telling.taken self refl refl), same)

pub returns-clause-its : goal.returns-clause-its
returns-clause-its c = λ asked start bytes told has.
    let self = c.args.self.now in
    record {
      counts = c.with-all.ensures.counts ∙ ap (λ (before : Counted). counted_on before (counted_of self.taking)) has.telling.carried.counts;
      kept = refl;
      unjudged = c.«open».ensures;
      newest = refl;
      settled = c.settled_to.ensures;
    }
