use Rattle.std.proofs.Common.{ℕ, ◌-◌, List, length, ap, ◌∙◌}
use Rattle.fdb_lines.specs.declared.fault.Found.{Found}
use Rattle.fdb_lines.specs.Audit.{case_of}
use Rattle.fdb_lines.specs.Log.{lines_of}
use Rattle.fdb_lines.specs.Watching.{is_due, opts_of}
use Rattle.fdb_lines.specs.private.Due.{due_at, told_below}
use Rattle.fdb_lines.proofs.ToldAll.{told_is}
use Rattle.fdb_lines.proofs.watch.Watch.found.Goals as goal

pub returns : goal.returns
returns c = λ lines seen.
    let watch = c.args.self.now in
    let log = lines_of watch.log in
    let told : ℕ → List ℕ → List Found =
    λ early numbers. told_below (due_at (is_due watch.from early watch.settled c.args.to) numbers log.lines) (case_of log (opts_of watch.margin)) (length log.lines) in
    told_is watch c.args.to lines seen watch.timed c.in_ok-found.found.items (record {
      told =
          c.in_ok-found.ensures.told
          ∙ (ap (λ early. told early c.deref.result.now) c.judged_from.ensures ∙ ap (told (watch.from - watch.horizon)) c.deref.ensures.value);
      reasons = c.in_ok-found.ensures.reasons;
      late = c.in_ok-found.ensures.late;
    })
