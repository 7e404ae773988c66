use Rattle.std.proofs.Common.{inl, inr, map, refl, string_bytes}
use Rattle.clap.specs.Kinds.{HasKind}
use Rattle.clap.specs.Words.{app_of, fault_of, kind_of}
use Rattle.fdb_command.proofs.Values.{and_left}
use Rattle.fdb_command.proofs.arguments.parse.Goals as goal

pub returns-in-Ok-clause-ok : goal.returns-in-Ok-clause-ok
returns-in-Ok-clause-ok c =
    let simple = and_left _ _ c.requires in record {
      command = c.args.command;
      parsed = c.in-Ok.ensures.parsed;
      is = refl;
      rows = (c.in-Ok.ensures.matches simple).0;
      taken = c.in-Ok.ensures.kinds c.requires;
    }

-- what clap refuses for another reason than memory is among the faults of the arguments
pub returns-in-Err-help_of-clause-err : goal.returns-in-Err-help_of-clause-err
returns-in-Err-help_of-clause-err c =
    let error = c.in-Err.error in
    let has : HasKind (fault_of (app_of c.args.command) (map string_bytes c.args.arguments.now)) error = c.in-Err.ensures.kinds c.requires in
    λ refused. elim has [
      | inl memory ↦ absurd ((c.in-Err-help_of.ensures.wrong refused).1.1 memory)
      | inr found ↦ (kind_of error, (c.in-Err-help_of.ensures.wrong refused).0, (c.in-Err-help_of.ensures.wrong refused).1.0, found)
    ]
