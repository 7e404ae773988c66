use Rattle.std.proofs.Common.{◌≡◌, ◌+◌, ◌≤◌, ◌++◌, ◌∷◌, [], List, Option, Some, None, length, option_to_list, ◌∙◌, arith, append-nil, length-append}
use Rattle.std.proofs.lemmas.List.{get_or_default}
use Rattle.std.proofs.lemmas.Result.{IfOk-weaker}
use Rattle.fdb_lines.specs.declared.line.End.{End}
use Rattle.fdb_lines.specs.Lines.{nobody, line_at}
use Rattle.fdb_lines.specs.private.Known.{AreEnds, IsEndOf}
use Rattle.fdb_lines.proofs.Entries.{more, moved}
use Rattle.fdb_lines.proofs.known.table_of.Goals as goal
use Rattle.fdb_lines.proofs.known.table_of.Goals.{in-Some+in_ok-push, in_default}

pub loop-place-preserved : goal.loop-place-preserved
loop-place-preserved c =
    let by_client = c.args.by_client in
    let seen = c.args.seen in
    let lines = c.args.lines.now in
    let k = c.loop-place.place in
    let before = c.loop-place.ends.items in
    let few = c.loop-place.invariant.few in
    let item = c.index-lines-place.result in
    let line : item ≡ line_at lines k = c.index-lines-place.is ∙ get_or_default lines k item nobody c.loop-place-test.true in
    let Next : List End → Type 0 = λ ends. AreEnds by_client seen lines (k + 1) ends × (length ends ≤ k + 1) in
    let grown : (o : Option End) → IsEndOf by_client seen item k o → AreEnds by_client seen lines (k + 1) (before ++ option_to_list o) = λ o is.
    more _ _ _ _ _ k before o c.loop-place.invariant.ends (rw line at is) in
    let next : Next c.match-end_of.ends.items = elim c.match-end_of.branch as (λ b. Next c.match-end_of.ends.items) [
      | in-Some+in_ok-push w ↦
          rw (w.ends-is, w.in_ok-push.ensures.items) (grown (Some w.in-Some.end) w.in-Some.ensures, (let len = length-append before (w.in-Some.end ∷ []) in omega arith))
      | in_default w ↦ rw w.ends-is (rw append-nil at (grown None w.in_default.ensures), omega arith)
    ] in
    record { ends = next.0; few = next.1 }

pub returns : goal.returns
returns c =
    let lines = c.args.lines.now in
    let all : c.loop-place.place ≡ length lines = (let end = c.loop-place.auto.place-end in let test = c.loop-place-test.false in omega arith) in
    IfOk-weaker c.new.result _ (λ table. AreEnds c.args.by_client c.args.seen lines (length lines) table.ends.items)
    (λ table same. moved _ _ _ _ _ _ _ table.ends.items same (rw all at c.loop-place.invariant.ends)) c.new.ensures
