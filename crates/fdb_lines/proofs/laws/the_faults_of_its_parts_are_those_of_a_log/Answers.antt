use Rattle.std.proofs.Common.{◌∙◌, ap}
use Rattle.fdb_lines.specs.Keys.{faults_by_key}
use Rattle.fdb_lines.proofs.Divided.{divided}
use Rattle.fdb_lines.proofs.Renumbered.{faults_of_both}
use Rattle.fdb_lines.proofs.laws.the_faults_of_its_parts_are_those_of_a_log.Goals as goal

pub returns : goal.returns
returns c = record {
  parts = divided;
  numbers = λ log other keys other_keys opts none timed same.
      faults_of_both log.lines other.lines keys other_keys same log.timed none opts
      ∙ ap (λ timed. faults_by_key (record { timed = timed; lines = other.lines }) other_keys opts) timed;
}
