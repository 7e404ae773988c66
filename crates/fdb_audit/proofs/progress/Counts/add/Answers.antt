use Rattle.std.proofs.Common.{◌≡◌, ◌∙◌, Some, ap, nat_lt}
use Rattle.std.specs.Prelude.{◌&&◌, if◌then◌else◌}
use Rattle.fdb_lines.specs.Before.{began}
use Rattle.fdb_audit.specs.private.Followed.{one_more}
use Rattle.fdb_audit.proofs.Following.{counts_more}
use Rattle.fdb_audit.proofs.progress.Counts.add.Goals as goal

pub returns-clause-counted : goal.returns-clause-counted
returns-clause-counted c = λ lines few are.
    let call = c.add_call.ensures in
    let last = c.note_early.ensures in
    counts_more c.args.self.now c.note_early.new.self lines c.args.line.now few are
    (last.lines ∙ (call.lines ∙ c.add_one.ensures)) (last.reads ∙ call.reads) (last.commits ∙ call.commits) (last.asks ∙ call.asks) (last.reports ∙ call.reports)

pub returns-clause-early : goal.returns-clause-early
returns-clause-early c =
    let came = c.args.came in
    let call = c.add_call.ensures.early in
    let last = c.note_early.ensures.early in
    let begins : nat_lt c.began.result c.args.settled_to ≡ nat_lt (began c.args.line.now) c.args.settled_to = ap (λ n. nat_lt n c.args.settled_to) c.began.ensures in
    record {
      early = last.early ∙ (ap (λ b. one_more b c.add_call.new.self.early) begins ∙ ap (one_more (nat_lt (began c.args.line.now) c.args.settled_to)) call.0);
      judged = last.judged ∙ (ap (λ b. one_more (b && came.is_judged) c.add_call.new.self.judged) begins
          ∙ ap (one_more (nat_lt (began c.args.line.now) c.args.settled_to && came.is_judged)) call.1);
      last = last.last ∙ (ap (λ b. if b then Some came.line else c.add_call.new.self.last_early) begins
          ∙ ap (λ last. if nat_lt (began c.args.line.now) c.args.settled_to then Some came.line else last) call.2);
    }
