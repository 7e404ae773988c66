use Rattle.std.proofs.Common.{◌∙◌, ◌++◌, ◌∷◌, [], ap, refl, sym, append-nil}
use Rattle.fdb_audit.specs.Judged.{list_text}
use Rattle.fdb_audit.specs.private.{shown_in}
use Rattle.fdb_audit.proofs.judgement.one_fault.Goals as goal

pub returns-clause-text : goal.returns-clause-text
returns-clause-text c =
    let text = list_text c.args.wanted.json (shown_in c.args.subject.printer) (c.args.first ∷ []) in
    rw (c.requires.alone.0, c.requires.alone.1) (
      text,
      (c.args.first, refl, c.requires.reason, c.requires.late, refl),
      [],
      refl,
      c.in_ok-push_list.ensures ∙ (ap (λ before. before ++ text) c.new-text.ensures.bytes ∙ sym (append-nil text)),
    )
