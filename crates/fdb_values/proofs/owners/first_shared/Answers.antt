use Rattle.std.proofs.Common.{◌≡◌, ◌==◌, ◌||◌, ℕ, true, false, Option, ap, sym, ◌∙◌, add-one}
use Rattle.std.specs.BTreeMap.{get}
use Rattle.std.specs.Ordering.{nat_cmp}
use Rattle.std.proofs.lemmas.List.{get_or_default}
use Rattle.fdb_lines.specs.declared.line.Line.{Line}
use Rattle.fdb_lines.specs.Keys.{key_at}
use Rattle.fdb_lines.specs.Lines.{line_at, nobody, version_of}
use Rattle.fdb_values.specs.ByValue.{value_at}
use Rattle.fdb_values.specs.Owners.{owns}
use Rattle.fdb_values.proofs.Owned.{owners_more, shared}
use Rattle.fdb_values.proofs.owners.first_shared.Goals as goal

pub returns-then-not-branch-clause-place : goal.returns-then-not-branch-clause-place
returns-then-not-branch-clause-place c =
    let lines = c.args.lines.now in
    let keys = c.args.keys.now in
    let k = c.loop-place.place in
    let item = c.index-lines-place.result in
    let line : item ≡ line_at lines k = c.index-lines-place.is ∙ get_or_default lines k item nobody c.loop-place-test.true in
    let value : c.version.result ≡ value_at lines k = c.version.ensures ∙ ap (λ (line : Line). version_of line.call) line in
    let owner : ℕ → Option (Option ℕ) = get nat_cmp c.loop-place.owners in
    let answer = rw value at c.in_ok-own.ensures.answer in
    let no_own : (value_at lines k == 0 || owns (owner (value_at lines k)) (key_at keys k)) ≡ false = sym answer ∙ c.if-not-branch.true in
    (c.loop-place-test.true, shared lines keys k owner c.loop-place.invariant no_own)

pub loop-place-preserved : goal.loop-place-preserved
loop-place-preserved c =
    let lines = c.args.lines.now in
    let keys = c.args.keys.now in
    let k = c.loop-place.place in
    let item = c.index-lines-place.result in
    let line : item ≡ line_at lines k = c.index-lines-place.is ∙ get_or_default lines k item nobody c.loop-place-test.true in
    let value : c.version.result ≡ value_at lines k = c.version.ensures ∙ ap (λ (line : Line). version_of line.call) line in
    let owner : ℕ → Option (Option ℕ) = get nat_cmp c.loop-place.owners in
    let ensures = rw value at c.in_ok-own.ensures in
    let is_own = c.if-not-branch.false in
    let own : (value_at lines k == 0 || owns (owner (value_at lines k)) (key_at keys k)) ≡ true = sym ensures.answer ∙ is_own in
    rw add-one (owners_more lines keys k owner (get nat_cmp c.own.new.owners) c.loop-place.invariant own (ensures.added is_own))
