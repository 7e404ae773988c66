use Rattle.std.proofs.Common.{◌≡◌, ◌∙◌, [], None, Option, Some, ap, append-nil, map, string_bytes, subst, sym}
use Rattle.fdb_lines.specs.declared.fault.Found.{Found}
use Rattle.fdb_log_reader.specs.Reading.{reading_of}
use Rattle.fdb_c.specs.Audit.{asked_in, told}
use Rattle.fdb_c.specs.Audited.{IsFoundOf, ReadsOn, reading_by}
use Rattle.fdb_c.proofs.Some.{of_some}
use Rattle.fdb_c.proofs.audited.Audited.end.Goals as goal

-- what was found is that of the log for which the story's bytes stand
pub returns-in-Ok-found_of-clause-verdict : goal.returns-in-Ok-found_of-clause-verdict
returns-in-Ok-found_of-clause-verdict c =
    let it = c.self.inside in let asked = asked_in it.asked in let reading = reading_of c.in-Ok.named in let found = c.in-Ok-found_of.found in
    let reads = of_some (ReadsOn asked it.story.bytes) c.in-Some.ensures.value c.self.invariant in
    let stands = ap (reading_by asked) (sym (append-nil it.story.bytes)) ∙ (sym (reads []) ∙ c.in-Ok.ensures.read) in
    let all = λ (first : Option Found) (is : found.first ≡ first).
    subst (λ first. IsFoundOf reading asked first (string_bytes found.text) (map told found.faults.items)) is c.in-Ok-found_of.ensures in
    record {
      ok = λ is. record { reading = reading; stands = stands; found = all None (c.verdict_of.ensures.ok is) };
      fault = λ is. let first = c.verdict_of.ensures.fault is in record {
        first = first.0;
        found = record { reading = reading; stands = stands; found = all (Some first.0) first.1 };
      };
    }
