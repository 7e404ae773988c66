use Rattle.std.proofs.lemmas.Result.{err_from_is_err_and}
use Rattle.fdb_history.proofs.faultless.Explained.{all_events_within}
use Rattle.fdb_history.proofs.auditing.history_or_fault.Goals as goal

pub returns-in_err-registers : goal.returns-in_err-registers
returns-in_err-registers c =
    let refused = c.from_residual-in_err-registers in
    let p = err_from_is_err_and refused.result refused.ensures.1 in rw (p.1, p.2) (c.in_err-registers.ensures.err c.args.chain.now)

pub answers_or_fault-requires-clause-history : goal.answers_or_fault-requires-clause-history
answers_or_fault-requires-clause-history c = c.in_ok-events.ensures.history (all_events_within c.args.start c.args.logs.now c.in_ok-registers.ensures.faultless)
