use Rattle.std.proofs.Common.{◌≡◌, ℕ, Option, length, ◌∙◌, arith, add-one}
use Rattle.std.specs.BTreeMap.{get}
use Rattle.std.specs.Ordering.{nat_cmp}
use Rattle.std.proofs.lemmas.List.{get_or_default}
use Rattle.fdb_lines.specs.declared.fault.Witness.{Witness}
use Rattle.fdb_lines.specs.Before.{by_telling}
use Rattle.fdb_lines.specs.Lines.{nobody, line_at}
use Rattle.fdb_lines.specs.private.Known.{lets_know}
use Rattle.fdb_lines.proofs.Hearing.{heard_more, knows_is}
use Rattle.fdb_lines.proofs.Knowing.{known_more}
use Rattle.fdb_lines.proofs.known.known_by_telling.Goals as goal

pub loop-place-preserved : goal.loop-place-preserved
loop-place-preserved c =
    let seen = c.args.seen in
    let lines = c.args.lines.now in
    let k = c.loop-place.place in
    let newest : ℕ → Option Witness = λ p. get nat_cmp c.loop-place.newest p in
    let item = c.index-lines-place.result in
    let line : item ≡ line_at lines k = c.index-lines-place.is ∙ get_or_default lines k item nobody c.loop-place-test.true in
    let inv = c.loop-place.invariant in
    let test = lets_know (by_telling lines) seen lines in
    record {
      known = λ margin.
          rw (c.in_ok-push.ensures.items, c.heard_of.ensures, line)
          (known_more test margin lines k c.loop-place.known.items _ (inv.known margin) (knows_is margin seen lines newest k inv.newest));
      newest = λ q. rw (c.in_ok-learn.ensures q, line, add-one) (heard_more seen lines newest k q c.loop-place-test.true inv.newest);
    }

pub returns : goal.returns
returns c =
    let all : c.loop-place.place ≡ length c.args.lines.now = (let end = c.loop-place.auto.place-end in let test = c.loop-place-test.false in omega arith) in
    λ margin. rw all at (c.loop-place.invariant.known margin)
