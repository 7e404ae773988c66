use Rattle.std.proofs.Common.{rules, ◌∙◌, ◌-◌, ap, ap₂, string_bytes, sym}
use Rattle.fdb_lines.specs.Before.{began}
use Rattle.fdb_audit.specs.declared.progress.Counts.{Counts}
use Rattle.fdb_audit.specs.declared.taken_lines.Taking.{Taking}
use Rattle.fdb_audit.specs.private.Clocks.{ahead_of}
use Rattle.fdb_audit.specs.private.Followed.{counted_line, odd_text}
use Rattle.fdb_audit.proofs.taken_lines.Taking.note.Goals as goal

pub returns-clause-noted : goal.returns-clause-noted
returns-clause-noted c =
    let same = c.in_ok-warn.ensures.same in
    let by = c.saturating_sub.ensures ∙ ap₂ (λ from began. from - began) c.settled_to-from.ensures c.began-2.ensures in
    let said = c.in_ok-warn.ensures.warnings ∙ ap₂ (λ early ahead. odd_text (counted_line c.line_count-its_line.result early c.add_ahead.new.self.early)
    (counted_line c.line_count-its_line.result ahead c.add_ahead.new.self.ahead) (string_bytes c.args.self.now.warnings)) by c.hear-ahead_by.ensures.ahead in
    record {
      its_line = c.line_count-its_line.result;
      judged = c.args.is_judged;
      numbering = search rules;
      count = search rules;
      refused = search rules;
      settled = search rules;
      settlings = search rules;
      hears = search rules;
      counted = search rules;
      is_its = search rules;
      came = search rules;
      ahead = search rules;
      warned = said ∙ ap (λ (counts : Counts). odd_text (counted_line c.line_count-its_line.result (c.args.self.now.watch.from - began c.args.line.now) counts.early)
          (counted_line c.line_count-its_line.result (ahead_of c.args.self.now.clocks c.args.line.now) counts.ahead) (string_bytes c.args.self.now.warnings))
          (sym (ap (λ (taking : Taking). taking.counts) same));
    }
