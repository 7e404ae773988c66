use Rattle.std.proofs.Common.{◌≡◌, ◌≢◌, ◌<◌, [], length, Some, ap, ◌∙◌, sym, subst, refl, slice_get, slice_set, get_or, arith, le_refl}
use Rattle.std.proofs.lemmas.List.{append-nil, length-set}
use Rattle.std.proofs.lemmas.Option.{slice_get_within, unwrap_or-slice_get}
use Rattle.std.specs.Prelude.{unwrap_or}
use mathlib.Core.List.{IsPrefix}
use Rattle.fdb_history.specs.Issuing.{Chain}
use Rattle.fdb_live.specs.Gathering.{HasCaughtUp}
use Rattle.fdb_live.specs.Holding.{answers_among}
use Rattle.fdb_live.specs.Seen.{Sight}
use Rattle.fdb_live.proofs.Owners.{each_below, get_other, get_written, sight_is}
use Rattle.fdb_live.proofs.master.look_each.Goals as goal

pub loop-token-preserved : goal.loop-token-preserved
loop-token-preserved g c =
    let tokens = c.loop-token.tokens in
    let i = c.loop-token.token-index in
    let d = c.token-item.result in
    let start = c.args.tokens.now in
    let chain : Chain = c.args.drawer.now in
    let old : Sight = get_or tokens i d in
    let new : Sight = c.look.new.token in
    let before = c.loop-token.invariant in
    let looked = c.look.ensures in
    let inside : i < length tokens = omega (arith, before.1, c.loop-token-test.true) in
    let same : get_or start i d ≡ old = sym (unwrap_or-slice_get start i d) ∙ (ap (λ o. unwrap_or o d) (sym (before.2 i (le_refl i))) ∙ unwrap_or-slice_get tokens i d) in
    let answers : new.answers ≡ chain.answers = looked.all ∙ ap (λ (it : Chain). it.answers) before.0 in
    let now : new ≡ record old { answers = chain.answers } = sight_is new (record old { answers = chain.answers }) old.reporter looked.reporter looked.changes answers in
    let here : HasCaughtUp (record old { answers = chain.answers }) old i (slice_set tokens i new) = record {
      at = get_written tokens i new inside ∙ ap Some now;
      seen = record { changes = ([], append-nil old.changes); answers = subst (IsPrefix old.answers) answers looked.extends };
      own = record {
        positions = refl;
        answers = ap (λ who. answers_among who chain.answers) (sym looked.reporter) ∙ (ap (answers_among new.reporter) (sym answers) ∙ looked.own);
      };
    } in (
      looked.chain ∙ before.0,
      length-set tokens i new ∙ before.1,
      λ k least. (let other : k ≢ i = omega arith in get_other tokens i k new other) ∙ before.2 k (omega arith),
      each_below {P = λ k token. HasCaughtUp (record token { answers = chain.answers }) token k (slice_set tokens i new)} start i d
          (λ k token less is. let other : k ≢ i = omega arith in let rest = before.3 k token less is in
          record { at = get_other tokens i k new other ∙ rest.at; seen = rest.seen; own = rest.own })
          (subst (λ (token : Sight). HasCaughtUp (record token { answers = chain.answers }) token i (slice_set tokens i new)) (sym same) here),
    )

pub returns-clause-each : goal.returns-clause-each
returns-clause-each g c k token is =
    let within = slice_get_within c.args.tokens.now k token is in
    let done = c.loop-token-test.false in
    c.loop-token.invariant.3 k token (omega arith) is
