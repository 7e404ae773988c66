use Rattle.std.proofs.Common.{◌≡◌, ◌++◌, ◌∙◌, ℕ, Bool, true, false, not, List, OnOk, ap, append_assoc, map, refl, string_bytes, subst, sym}
use Rattle.std.proofs.lemmas.Result.{on_ok_weaker}
use Rattle.fdb_lines.specs.declared.fault.Fault.{Fault}
use Rattle.fdb_lines.specs.declared.fault.Found.{Found}
use Rattle.fdb_lines.specs.Judged.{faults_in}
use Rattle.fdb_audit.specs.Groups.{groupings, AreMostOfEach}
use Rattle.fdb_audit.specs.Judged.{total_line}
use Rattle.fdb_audit.specs.Text.{line}
use Rattle.fdb_audit.specs.Totals.{faults_line}
use Rattle.fdb_audit.specs.private.{keys_in, log_in, shown_in}
use Rattle.fdb_audit.proofs.judgement.add_totals.Goals as goal

of_not : (b : Bool) → not b ≡ false → b ≡ true
of_not true e = refl
of_not false e = sym e

pub returns : goal.returns
returns c =
    let subject = c.args.subject in
    let json = c.args.wanted.json in
    let it = shown_in subject.printer in
    let counts = c.in_ok-counts.counts in
    let found = faults_in (log_in subject) (keys_in subject) subject.opts.now in
    let kinds : List Found → List Fault = λ those. map (λ (it : Found). it.fault) those in
    let Most : List Found → Type 0 = λ those. (groups : List ℕ) × AreMostOfEach json (groupings it) those groups
    × (string_bytes c.push_totals.new.out ≡ string_bytes c.push_total_line.new.out ++ line (faults_line json (kinds those)) ++ groups) in
    let listed : c.deref.result.now ≡ found = c.deref.ensures.value ∙ (c.in_ok-faults.ensures ∙ c.requires.all.listed) in
    rw (of_not c.args.wanted.totals c.if-not-wanted.false) (on_ok_weaker c.push_totals.result
    (λ (most : Most found). (
      line (total_line json it (keys_in subject) subject.opts.now counts) ++ line (faults_line json (kinds found)) ++ most.0,
      (counts, c.in_ok-counts.ensures, most.0, most.1, refl),
      most.2 ∙ (ap (λ text. text ++ line (faults_line json (kinds found)) ++ most.0) c.in_ok-push_total_line.ensures ∙ simp append_assoc),
    ))
    (subst (λ those. OnOk c.push_totals.result (Most those)) listed c.push_totals.ensures))
