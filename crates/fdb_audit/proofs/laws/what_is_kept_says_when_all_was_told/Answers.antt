use Rattle.std.proofs.Common.{◌∙◌, sym}
use Rattle.fdb_audit.proofs.SaysWhen.{none_early, says_when}
use Rattle.fdb_audit.proofs.laws.what_is_kept_says_when_all_was_told.Goals as goal

pub returns-clause-none_early : goal.returns-clause-none_early
returns-clause-none_early c = λ asked start behind piece kept text found last one start_early early.
    none_early c.what_a_watch_keeps_stands_for_all.ensures asked start behind piece kept one.taking one.taken one.keeps start_early (sym one.early ∙ early)

pub returns-clause-when : goal.returns-clause-when
returns-clause-when c = λ asked start behind piece kept text found last one anew start_early early.
    says_when c.what_a_watch_keeps_stands_for_all.ensures asked start behind piece kept one.taking one.taken one.keeps start_early (sym one.early ∙ early) anew
