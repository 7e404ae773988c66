use Rattle.std.proofs.Common.{nat_lt, Some, arith}
use Rattle.std.proofs.lemmas.Bool.{and_parts}
use Rattle.std.proofs.lemmas.Bool.Decides.{nat_tests}
use Rattle.fdb_lines.specs.Before.{began}
use Rattle.fdb_lines.specs.Watching.{is_due}
use Rattle.fdb_lines.proofs.StillReasoned.{reason_stays}
use Rattle.fdb_lines.proofs.Watched.{told_stays}
use Rattle.fdb_lines.proofs.laws.what_was_told_stays.Goals as goal

pub returns-clause-told : goal.returns-clause-told
returns-clause-told c = λ margin from early since to lines more later.
    told_stays margin to lines more later (is_due from early since (Some to))
    (λ number line is. let before = (and_parts (nat_lt (began line) to) _ is).0 in grind (arith, nat_tests))

pub returns-clause-reasons : goal.returns-clause-reasons
returns-clause-reasons c = λ margin to lines more finding later there before of.
    reason_stays margin to lines more later finding.found.place there (omega arith) finding.found.fault finding.reason of
