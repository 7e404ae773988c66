use Rattle.std.proofs.Common.{◌∙◌, sym}
use Rattle.fdb_audit.proofs.NamedLines.{same_call, same_times}
use Rattle.fdb_audit.proofs.read_back.is_same_call.Goals as goal

pub returns-then-eq : goal.returns-then-eq
returns-then-eq c = λ is. (same_call _ _ (sym c.eq.ensures ∙ c.if-eq.true), same_times _ _ (sym c.eq-then-eq.ensures ∙ is))
