use Rattle.fdb_history.proofs.faults.Audited.{audited_linear, audited_complete}
use Rattle.fdb_history.proofs.auditing.audit.Goals as goal

pub returns-clause-linear : goal.returns-clause-linear
returns-clause-linear c = audited_linear c.args.start c.args.chain.now c.args.logs.now _ c.history_or_fault.ensures

pub returns-clause-complete : goal.returns-clause-complete
returns-clause-complete c = audited_complete c.args.start c.args.chain.now c.args.logs.now _ c.history_or_fault.ensures
