use Rattle.std.proofs.Common.{◌≡◌, ◌∙◌, ◌++◌, ◌∷◌, [], List, Result, ap, append_assoc, map, subst, sym, take}
use Rattle.std.proofs.lemmas.List.{take_all}
use Rattle.fdb_log_reader.specs.declared.error.Why.{Why}
use Rattle.fdb_log_reader.specs.declared.read_line.ReadLine.{ReadLine}
use Rattle.fdb_log_reader.specs.ReadLine.{SaidLine, said_in}
use Rattle.fdb_audit.specs.Following.{taken}
use Rattle.fdb_audit.specs.Kept.{kept_said}
use Rattle.fdb_audit.specs.private.KeptTexts.{said_of}
use Rattle.fdb_audit.proofs.KeptTexts.{on_not_err, taken_next}
use Rattle.fdb_audit.proofs.kept.KeptText.add_all.Goals as goal

pub loop-read-preserved : goal.loop-read-preserved
loop-read-preserved c = λ before same.
    let lines = c.args.lines.now in
    let read = c.read-item.result in
    let i = c.loop-read.read-index in
    let so_far = taken (map said_in (take i lines)) in
    on_not_err c.in_ok-refused.field-0 c.in_default.not-Err c.in_ok-refused.ensures (before ++ so_far) (c.loop-read.invariant before same)
    ∙ ap kept_said (append_assoc before so_far (taken (said_in read ∷ []))
    ∙ ap (λ (more : List SaidLine). before ++ more) (sym (taken_next lines i read c.loop-read-test.true c.read-item.is)))

pub returns : goal.returns
returns c = λ before same.
    subst (λ (all : List (Result ReadLine Why)). said_of c.loop-read.self ≡ kept_said (before ++ taken (map said_in all))) (take_all c.loop-read.read-index c.args.lines.now c.loop-read-test.false)
    (c.loop-read.invariant before same)
