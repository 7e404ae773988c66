use Rattle.std.proofs.Common.{◌∙◌, ◌++◌, ap, append_assoc, inl, inr, sym}
use Rattle.fdb_c.specs.Audit.{asked_in, status_of}
use Rattle.fdb_c.specs.Audited.{ReadsOn, reading_by}
use Rattle.fdb_c.proofs.Some.{of_some}
use Rattle.fdb_c.proofs.audited.Audited.push.Goals as goal

-- the reader has read what the story says now
pub invariant_of-self-in-Ok : goal.invariant_of-self-in-Ok
invariant_of-self-in-Ok c = λ text.
    let bytes = c.args.bytes.now in let before = c.self.inside.story.bytes in let asked = asked_in c.self.inside.asked in
    let reads = of_some (ReadsOn asked before) c.in-Some.ensures.value c.self.invariant in
    c.in-Ok.ensures text
    ∙ (reads (bytes ++ text) ∙ (ap (reading_by asked) (sym (append_assoc before bytes text)) ∙ ap (λ all. reading_by asked (all ++ text)) (sym c.with_bytes-self-inside.ensures.0)))

-- whatever comes after these bytes, the log is refused
pub returns-in-Err-clause-refused : goal.returns-in-Err-clause-refused
returns-in-Err-clause-refused c = rw (← c.self.view_is) (λ refusal not_over.
    let bytes = c.args.bytes.now in
    let reads = of_some (ReadsOn (asked_in c.self.inside.asked) c.self.inside.story.bytes) c.in-Some.ensures.value c.self.invariant in
    let status = c.refuse.ensures.status in
    elim c.in-Err.ensures [
      | inl memory ↦ absurd (refusal.3 (status ∙ ap status_of memory))
      | inr refused ↦ (
        c.in-Err.error,
        (λ text. sym (reads (bytes ++ text)) ∙ refused text),
        status,
        elim c.refuse.ensures.told [ inl memory ↦ absurd (refusal.3 (status ∙ ap status_of memory.0)) | inr told ↦ told.1 ],
      )
    ])
