use Rattle.std.proofs.Common.{◌≡◌, ℕ, suc, ◌+◌, ◌==◌, ◌&&◌, ◌||◌, not, Bool, cond, ap, ◌∙◌, add-one, arith}
use Rattle.std.proofs.lemmas.Bool.Decides.{nat_tests}
use Rattle.fdb_lines.specs.declared.line.Line.{Line}
use Rattle.fdb_lines.specs.Audit.{case_of}
use Rattle.fdb_lines.specs.Faults.{is_reported, some_below}
use Rattle.fdb_lines.specs.Lines.{Case, is_read, kind_at, kind_of, version_at, version_of}
use Rattle.fdb_lines.specs.Log.{lines_of}
use Rattle.fdb_lines.specs.Summary.{is_first_of_others, reads_it, tally}
use Rattle.fdb_lines.proofs.Tallies.{item_at}
use Rattle.fdb_lines.proofs.sums.unreported.Goals as goal

one_more : (it : Case) (k old new reported : ℕ) (wanted has : Bool) → wanted ≡ is_read (kind_at it k)
    → has ≡ ((version_at it k == it.start || is_reported it (version_at it k)) || some_below (reads_it it (version_at it k)) k)
    → new ≡ old + cond (wanted && not has) 1 0 → old ≡ reported + tally (is_first_of_others it) k → new ≡ reported + tally (is_first_of_others it) (suc k)
one_more it k old new reported wanted has read is more counted = grind (arith, nat_tests)

pub loop-line-preserved : goal.loop-line-preserved
loop-line-preserved c = λ v.
    let line = item_at c.lines-lines.result.now (lines_of c.args.log.now).lines c.loop-line.line-index c.line-item.result
    c.lines-lines.ensures c.loop-line-test.true c.line-item.is in
    let kind = ap (λ (l : Line). kind_of l.call) line in
    let version = ap (λ (l : Line). version_of l.call) line in
    rw add-one (grind (arith, nat_tests, c.in_ok-add.ensures.versions v, c.loop-line.invariant v))

pub loop-line-2-preserved : goal.loop-line-2-preserved
loop-line-2-preserved c =
    let it = case_of (lines_of c.args.log.now) c.args.opts.now in
    let k = c.loop-line-2.line-index in
    let item = c.line-item-in-loop-line-2.result in
    let line = item_at c.lines-lines.result.now (lines_of c.args.log.now).lines c.loop-line-2.line-index item
    c.lines-lines.ensures c.loop-line-2-test.true c.line-item-in-loop-line-2.is in
    let kind = ap (λ (l : Line). kind_of l.call) line in
    let version = ap (λ (l : Line). version_of l.call) line in
    record {
      known = λ v. rw add-one (grind (arith, nat_tests, c.in_ok-add-2.ensures.versions v, c.loop-line-2.invariant.known v));
      counted =
          rw add-one
          (one_more it k _ _ _ c.is_read.result _ (c.is_read.ensures ∙ ap is_read kind) (c.loop-line-2.invariant.known (version_at it k)) (rw version at c.in_ok-add-2.ensures.more)
          c.loop-line-2.invariant.counted);
    }
