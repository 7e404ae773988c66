use Rattle.std.proofs.Common.{◌++◌, inl, inr}
use Rattle.fdb_split.proofs.Cutting.{cut_on, not_cut}
use Rattle.fdb_split.proofs.Stopping.{stops}
use Rattle.fdb_split.proofs.split_program.SplitProgram.take.Goals as goal

pub returns-in-Ok-clause-taken : goal.returns-in-Ok-clause-taken
returns-in-Ok-clause-taken c = λ options before told has.
    let (placed, on) = c.in-Ok.ensures in
    (cut_on options c.args.cut.splitter c.in-Ok.splitter before c.args.bytes.now placed has.0 on, has.1)

pub returns-in-Err-clause-stops : goal.returns-in-Err-clause-stops
returns-in-Err-clause-stops c = λ arguments options before told after is has.
    let bytes = c.args.bytes.now in
    let error = c.in-Err.error in
    stops arguments options (before ++ (bytes ++ after)) error c.refusal.result is
    (elim (c.in-Err.ensures) [ inl m ↦ inl m | inr h ↦ inr (not_cut options c.args.cut.splitter before bytes after error has.0 h) ])
    c.refusal.ensures.memory c.refusal.ensures.refused
