use Rattle.fdb_audit.proofs.Joined.{joined}
use Rattle.fdb_audit.proofs.laws.the_faults_of_parts_by_number_are_those_of_the_log.Goals as goal

pub returns : goal.returns
returns c =
    joined c.logs_that_say_the_same_differ_in_numbers_alone.ensures c.the_faults_of_its_parts_are_those_of_a_log.ensures.numbers
    c.the_faults_of_its_parts_are_those_of_a_log.ensures.parts c.what_is_read_by_key_is_numbered_by_names.ensures
