use Rattle.std.proofs.Common.{◌≡◌, ◌∙◌, ap, map, string_bytes, subst}
use Rattle.std.specs.Prelude.{IfErr, IfOk}
use Rattle.clap.specs.Faults.{is_simple_and_free}
use Rattle.clap.specs.Words.{App}
use Rattle.fdb_command.specs.Arguments.{AreWrong}
use Rattle.fdb_command.specs.declared.arguments.ArgumentsFault.TheVariants.{Refused}
use Rattle.fdb_command.specs.private.Asked.{Ask}
use Rattle.fdb_command.proofs.driving.invoked.Goals as goal

pub returns-in-Ok-clause-err : goal.returns-in-Ok-clause-err
returns-in-Ok-clause-err g c = subst (λ (app : App). IfErr c.parse.result (λ fault. fault ≡ Refused → AreWrong app (map string_bytes c.args.arguments.now))) c.in-Ok.ensures c.parse.ensures.err

pub returns-in-Ok-clause-ok : goal.returns-in-Ok-clause-ok
returns-in-Ok-clause-ok g c = subst (λ (app : App). IfOk c.parse.result (Ask app (map string_bytes c.args.arguments.now))) c.in-Ok.ensures c.parse.ensures.ok

pub parse-requires : goal.parse-requires
parse-requires g c = ap is_simple_and_free c.in-Ok.ensures ∙ g.met.P.Program.simple
