use Rattle.std.proofs.Common.{arith}
use Rattle.std.proofs.lemmas.Grind.{common_steps}
use Rattle.fdb_script.proofs.printing.logged_calls.Goals as goal

pub loop-log-preserved : goal.loop-log-preserved
loop-log-preserved c = grind (arith, common_steps)

pub returns : goal.returns
returns c = grind (arith, common_steps)
