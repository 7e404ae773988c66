use Rattle.std.proofs.Common.{◌≡◌, ◌↔◌, ◌<◌, List, None, length, map, refl, subst, arith}
use Rattle.std.proofs.lemmas.Grind.{common_steps}
use Rattle.std.proofs.lemmas.List.{length-map}
use Rattle.fdb_lines.specs.Audit.{AreExplained, case_of}
use Rattle.fdb_lines.specs.Judged.{AreAll}
use Rattle.fdb_lines.specs.Lines.{Lines}
use Rattle.fdb_lines.specs.Log.{lines_of}
use Rattle.fdb_lines.specs.declared.log.AuditOpts.{AuditOpts}
use Rattle.fdb_lines.specs.declared.fault.Finding.{Finding}
use Rattle.fdb_c.specs.Audit.{told}
use Rattle.fdb_c.proofs.audit_listing.list.Goals as goal

-- what was found with these options
abbrev AreFound : Lines → List Finding → AuditOpts → Type 0
AreFound log found opts = AreAll log None opts found × ((length found ≡ 0) ↔ AreExplained (case_of log opts))

-- there is no room for the faults that stand
pub returns-then-faults-len-clause-room : goal.returns-then-faults-len-clause-room
returns-then-faults-len-clause-room c is_room =
    let found = c.in_ok-found.found.items in
    let said = c.in_ok-found.ensures in
    let all : AreFound (lines_of c.args.log.now) found c.opts_of.result = (said.all, said.explained) in
    let asked = subst (AreFound (lines_of c.args.log.now) found) c.opts_of.ensures all in
    let count = length-map found told in
    let short : length c.args.faults.now < length (map told found) = grind (arith, common_steps) in
    let some : length found ≡ 0 → ⊥ = λ none. grind (arith, common_steps) in
    (λ explained. some (asked.1.1 explained), map told found, (found, asked.0, refl), (short, refl, grind (arith, common_steps)))
