use Rattle.std.proofs.Common.{◌∙◌, inl, inr, ap, sym, []}
use Rattle.std.proofs.lemmas.List.{append-nil}
use Rattle.std.proofs.lemmas.Result.{err_from_is_err_and}
use Rattle.fdb_log_reader.specs.Reading.{reading_in}
use Rattle.fdb_audit.proofs.judgement.read.Goals as goal

pub returns-in_err-reader-clause-read : goal.returns-in_err-reader-clause-read
returns-in_err-reader-clause-read c =
    let p = err_from_is_err_and c.from_residual.result c.from_residual.ensures.1 in
    rw (p.1, p.2) (elim c.in_err-reader.ensures [
      | inl m ↦ inl m
      | inr h ↦ inr (ap reading_in (sym (append-nil c.args.bytes.now)) ∙ (sym (c.new.ensures _) ∙ h []))
    ])
