use Rattle.std.proofs.Common.{◌≡◌, length, cond, rules, arith, add-one, ap, ◌∙◌}
use Rattle.std.proofs.lemmas.List.{get_or_default}
use Rattle.std.proofs.lemmas.List.Sorted.{sum_by-IsPermutation, IsNonDecreasingBy-from_sort_by}
use Rattle.fdb_lines.specs.declared.line.Line.{Line}
use Rattle.fdb_lines.specs.Lines.{line_at, nobody, version_of}
use Rattle.fdb_values.specs.declared.standing.Standing.{Standing}
use Rattle.fdb_values.specs.ByValue.{value_at}
use Rattle.fdb_values.specs.Standings.{is_below, standing_number}
use Rattle.fdb_values.specs.Zones.{key_of}
use Rattle.fdb_values.proofs.Counted.{count_more, key_is}
use Rattle.fdb_values.proofs.ranks.Standings.new.Goals as goal

pub loop-line-preserved : goal.loop-line-preserved
loop-line-preserved c =
    let lines = c.args.lines.now in
    let margin = c.args.margin in
    let k = c.loop-line.line-index in
    let item = c.line-item.result in
    let line : item ≡ line_at lines k = c.line-item.is ∙ get_or_default lines k item nobody c.loop-line-test.true in
    let value : c.version.result ≡ value_at lines k = c.version.ensures ∙ ap (λ (line : Line). version_of line.call) line in
    rw (c.in_ok-push.ensures.items, add-one)
    (count_more margin lines k c.loop-line.all.items c.standing_of.result
    (c.standing_of.ensures.key ∙ (key_is margin lines c.args.zones.now c.version.result c.requires ∙ ap (key_of margin lines) value))
    (c.standing_of.ensures.value ∙ value) c.loop-line.invariant)

pub invariant_of-result : goal.invariant_of-result
invariant_of-result c = record { in_order = IsNonDecreasingBy-from_sort_by standing_number _ c.sort_unstable_by.ensures.sorted (λ a r f k. search rules) }

pub returns : goal.returns
returns c = λ v.
    let lines = c.args.lines.now in
    let key = key_of c.args.margin lines v in
    let all : c.loop-line.line-index ≡ length lines = (let most = c.loop-line.auto.line-index-end in let least = c.loop-line-test.false in omega arith) in
    sum_by-IsPermutation (λ (one : Standing). cond (is_below one.key one.value key v) 1 0) _ _ c.sort_unstable_by.ensures.permutation ∙ rw all at (c.loop-line.invariant v)
