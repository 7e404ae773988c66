use Rattle.std.proofs.Common.{◌≡◌, ◌∙◌, inl, inr, List, [], ℕ, Vec, Global, option_map, string_bytes, ap, refl, sym, append-nil}
use Rattle.fdb_log_reader.specs.Reading.{reading_of}
use Rattle.fdb_audit.specs.Program.{reading_asked}
use Rattle.fdb_audit.specs.Text.{fault_of}
use Rattle.fdb_audit.proofs.Refusing.{stops}
use Rattle.fdb_audit.proofs.audit_program.judged.Goals as goal

-- what was read to its end is what the bytes stand for
pub returns-in-Ok-judge_named_in_threads : goal.returns-in-Ok-judge_named_in_threads
returns-in-Ok-judge_named_in_threads g c = λ arguments bytes is whole has.
    let same : c.into_bytes.result.items ≡ string_bytes c.in-Ok-judge_named_in_threads.field-0.text = ap (λ (v : Vec ℕ Global). v.items) c.into_bytes.ensures.value in
    ((reading_of c.in-Ok.named, ap (reading_asked c.args.asked.now) (sym (append-nil bytes)) ∙ (sym (has []) ∙ c.in-Ok.ensures.read), c.in-Ok-judge_named_in_threads.field-0.fault, c.told.ensures ∙ ap (λ (numbers : List ℕ). option_map (fault_of numbers) c.in-Ok-judge_named_in_threads.field-0.fault) c.own_numbers.ensures, rw same c.in-Ok-judge_named_in_threads.ensures), refl, c.new.ensures.items)

pub returns-in-Err : goal.returns-in-Err
returns-in-Err g c = λ arguments bytes is whole has.
    stops arguments c.args.asked.now bytes c.in-Err.error c.refusal.result is whole
    (elim (c.in-Err.ensures.read) [
      | inl m ↦ inl m
      | inr h ↦ inr (ap (reading_asked c.args.asked.now) (sym (append-nil bytes)) ∙ (sym (has []) ∙ h))
    ])
    c.refusal.ensures.memory c.refusal.ensures.refused
