use Rattle.std.proofs.Common.{◌≡◌, ◌<◌, None, length, ◌∙◌, inl, inr, arith}
use Rattle.std.proofs.lemmas.Bool.{cases_eq}
use Rattle.std.proofs.lemmas.List.{get_or_default, get_or-set_same, get_or-set_other, length-set}
use Rattle.fdb_lines.specs.declared.fault.Means.TheVariants.{Own}
use Rattle.fdb_lines.specs.Before.{by_time}
use Rattle.fdb_lines.specs.Lines.{nobody, line_at}
use Rattle.fdb_lines.specs.private.Known.{by_at, lets_know, of_own, witness, KnowsOf}
use Rattle.fdb_lines.proofs.Knowing.{both_are, known_so, own_means}
use Rattle.fdb_lines.proofs.known.add_own.Goals as goal

pub loop-place-preserved : goal.loop-place-preserved
loop-place-preserved c =
    let lines = c.args.lines.now in
    let margin = c.args.margin in
    let seen = c.args.seen in
    let k = c.loop-place.place in
    let before = c.loop-place.known.items in
    let lt = c.loop-place-test.true in
    let inv = c.loop-place.invariant in
    let item = c.index-lines-place.result in
    let line : item ≡ line_at lines k = c.index-lines-place.is ∙ get_or_default lines k item nobody lt in
    let own = known_so (of_own seen lines) margin lines k Own c.own_before-own.result (own_means margin seen lines k)
    (c.own_before-own.ensures seen lines line c.requires.ends) in
    let inside : k < length before = (let len = inv.as_many in omega arith) in
    let at : c.index.result.now ≡ by_at before k = c.index.ensures ∙ get_or_default before k c.index.result.now None inside in
    let new : KnowsOf (lets_know (by_time margin lines) seen lines) margin lines k c.newer.result =
    rw (c.newer.ensures, at, c.witness.ensures, inv.left k (omega arith)) (both_are margin seen lines k _ (witness c.own_before-own.result Own) (c.requires.known.1 k lt) own) in
    record {
      as_many = length-set before k c.newer.result ∙ inv.as_many;
      with_own = λ i less. elim (cases_eq i k) [
        | inl same ↦ rw (same, get_or-set_same before k c.newer.result None inside) new
        | inr other ↦ rw (get_or-set_other before k i c.newer.result None other) (inv.with_own i (omega arith))
      ];
      left = λ i ge. get_or-set_other before k i c.newer.result None (λ same. omega arith) ∙ inv.left i (omega arith);
    }
