use Rattle.std.proofs.Common.{◌≡◌, ap, ◌∙◌, sym, subst, slice_get, slice_set, get_or, arith}
use Rattle.std.proofs.lemmas.List.{set-get_or}
use Rattle.std.proofs.lemmas.Option.{slice_get_within}
use mathlib.Core.List.{IsPrefix}
use Rattle.fdb_live.specs.Gathering.{IsSeenBy}
use Rattle.fdb_live.specs.Seen.{Sight}
use Rattle.fdb_live.proofs.Owners.{each_below, seen_trans}
use Rattle.fdb_live.proofs.Prefixes.{prefix_trans}
use Rattle.fdb_live.proofs.live_record.LiveRecord.learn_from.Goals as goal

pub loop-other-preserved : goal.loop-other-preserved
loop-other-preserved g c =
    let others = c.loop-other.others in
    let i = c.loop-other.other-index in
    let old : Sight = get_or others i c.other-item.result in
    let was : Sight = c.loop-other.first in
    let new : Sight = c.learn.new.seen in
    let before = c.loop-other.invariant in
    let learnt = c.learn.ensures in
    let whole : slice_set others i c.split-told.new.seen ≡ others = ap (slice_set others i) c.split-told.ensures.same ∙ set-get_or others i c.other-item.result in
    let told : IsSeenBy new old = record {
      changes = subst (λ (t : Sight). IsPrefix t.changes new.changes) c.split-told.ensures.given learnt.learnt.told;
      answers = subst (λ (t : Sight). IsPrefix t.answers new.answers) c.split-told.ensures.given learnt.learnt.told_answers;
    } in (
      whole ∙ before.0,
      learnt.seen.reporter ∙ before.1,
      prefix_trans _ _ _ before.2 learnt.seen.extends,
      λ k token below is. each_below {P = λ _ t. IsSeenBy new t} others i c.other-item.result
          (λ n t less at. seen_trans new was t (before.3 n t less at) learnt.seen.extends learnt.seen.answers) told k token below (sym (ap (λ l. slice_get l k) whole) ∙ is),
      learnt.own ∙ before.4,
      prefix_trans _ _ _ before.5 learnt.seen.answers,
      learnt.seen.own_answers ∙ before.6,
    )

pub returns-clause-each : goal.returns-clause-each
returns-clause-each g c k token is =
    let within = slice_get_within c.args.others.now k token is in
    let done = c.loop-other-test.false in
    c.loop-other.invariant.3 k token (omega arith) (ap (λ l. slice_get l k) c.loop-other.invariant.0 ∙ is)
