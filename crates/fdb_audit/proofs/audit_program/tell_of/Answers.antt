use Rattle.std.proofs.Common.{◌≡◌, ◌++◌, ℕ, Global, Vec, ap, string_bytes, subst, sym}
use Rattle.fdb_audit.specs.Program.{started}
use Rattle.fdb_audit.specs.Progress.{HasPrinted}
use Rattle.fdb_audit.proofs.audit_program.tell_of.Goals as goal

pub returns-clause-told : goal.returns-clause-told
returns-clause-told g c = λ asked bytes told (behind, follows, kept, more, for, has).
    let same : c.into_bytes.result.items ≡ string_bytes c.in_ok-text.field-0.text = ap (λ (v : Vec ℕ Global). v.items) c.into_bytes.ensures.value in (
      behind,
      follows,
      kept,
      more,
      for,
      subst (λ text. HasPrinted asked (started asked behind more kept) c.tell.new.self (kept ++ bytes) (told ++ text)) (sym same)
          (c.in_ok-text.ensures asked (started asked behind more kept) (kept ++ bytes) told has),
    )
