use Rattle.std.proofs.Common.{◌≡◌, ◌≢◌, ◌<◌, ap, ◌∙◌, sym, subst, length, Some, slice_get, slice_set, get_or, arith, le_refl}
use Rattle.std.proofs.lemmas.List.{length-set}
use Rattle.std.proofs.lemmas.Option.{slice_get_within, slice_get-get_or, unwrap_or-slice_get}
use Rattle.std.specs.Prelude.{unwrap_or}
use Rattle.fdb_live.specs.Gathering.{IsOwnKept, IsSeenBy}
use Rattle.fdb_live.specs.Holding.{own_answers}
use Rattle.fdb_live.specs.Seen.{Sight, longer, own_positions}
use Rattle.fdb_live.proofs.Owners.{IsTaught, each_below, get_other, get_written, longer_of_prefix, sight_is}
use Rattle.fdb_live.proofs.live_record.LiveRecord.teach.Goals as goal

pub loop-other-preserved : goal.loop-other-preserved
loop-other-preserved g c =
    let others = c.loop-other.others in
    let i = c.loop-other.other-index in
    let d = c.other-item.result in
    let start = c.args.others.now in
    let old : Sight = get_or others i d in
    let new : Sight = c.learn.new.seen in
    let first : Sight = c.split-told.new.seen in
    let before = c.loop-other.invariant in
    let learnt = c.learn.ensures in
    let inside : i < length others = omega (arith, before.1, c.loop-other-test.true) in
    let same : get_or start i d ≡ old = sym (unwrap_or-slice_get start i d) ∙ (ap (λ o. unwrap_or o d) (sym (before.2 i (le_refl i))) ∙ unwrap_or-slice_get others i d) in
    let here : slice_get start i ≡ Some old = sym (before.2 i (le_refl i)) ∙ slice_get-get_or others i d inside in
    let begins : IsSeenBy first old = subst (λ (s : Sight). IsSeenBy s old) (sym (c.split-told.ensures.same ∙ before.0)) (c.requires i old here) in
    let told : c.split-told.result.changes ≡ first.changes = ap (λ (s : Sight). s.changes) c.split-told.ensures.given ∙ ap (λ (s : Sight). s.changes) (sym c.split-told.ensures.same) in
    let told_answers : c.split-told.result.answers ≡ first.answers = ap (λ (s : Sight). s.answers) c.split-told.ensures.given ∙ ap (λ (s : Sight). s.answers) (sym c.split-told.ensures.same) in
    let list : new.changes ≡ first.changes = learnt.learnt.longer ∙ (ap (longer old.changes) told ∙ longer_of_prefix old.changes first.changes begins.changes) in
    let answers : new.answers ≡ first.answers = learnt.learnt.longer_answers ∙ (ap (longer old.answers) told_answers ∙ longer_of_prefix old.answers first.answers begins.answers) in
    let taught : new ≡ record first { reporter = old.reporter } = sight_is new first old.reporter learnt.seen.reporter list answers in
    let owns : IsOwnKept first old = record { positions = sym (ap own_positions taught) ∙ learnt.own; answers = sym (ap own_answers taught) ∙ learnt.seen.own_answers } in (
      c.split-told.ensures.same ∙ before.0,
      length-set others i new ∙ before.1,
      λ k least. (let other : k ≢ i = omega arith in get_other others i k new other) ∙ before.2 k (omega arith),
      each_below {P = IsTaught (slice_set others i new) first} start i d
          (λ k token less is. let other : k ≢ i = omega arith in let rest = before.3 k token less is in
          subst (λ (s : Sight). IsTaught (slice_set others i new) s k token) (sym c.split-told.ensures.same) (get_other others i k new other ∙ rest.0, rest.1))
          (subst (IsTaught (slice_set others i new) first i) (sym same) (get_written others i new inside ∙ ap Some taught, owns)),
    )

pub returns-clause-each : goal.returns-clause-each
returns-clause-each g c k token is =
    let within = slice_get_within c.args.others.now k token is in
    let done = c.loop-other-test.false in
    (c.loop-other.invariant.3 k token (omega arith) is).0

pub returns-clause-own : goal.returns-clause-own
returns-clause-own g c k token is =
    let within = slice_get_within c.args.others.now k token is in
    let done = c.loop-other-test.false in
    (c.loop-other.invariant.3 k token (omega arith) is).1
