use Rattle.std.proofs.Common.{◌∙◌, ◌++◌, inl, inr, sym}
use Rattle.std.proofs.lemmas.Result.{err_from_is_err_and}
use Rattle.fdb_log_reader.proofs.Splitting.{goes_on}
use Rattle.fdb_log_reader.proofs.reader.LogReader.feed.Goals as goal

pub loop-line-preserved : goal.loop-line-preserved
loop-line-preserved c = λ text.
    let on = goes_on c.args.self c.loop-line.self c.args.bytes.now c.loop-line.rest.now c.in-Some.line.now c.in-Some.after.now c.loop-line.invariant c.in-Some.ensures.0 in
    on text ∙ sym (c.in_ok-self.ensures (c.in-Some.after.now ++ text))

pub returns-in_err-self : goal.returns-in_err-self
returns-in_err-self c =
    let error = err_from_is_err_and c.from_residual.result c.from_residual.ensures.1 in
    let on = goes_on c.args.self c.loop-line.self c.args.bytes.now c.loop-line.rest.now c.in-Some.line.now c.in-Some.after.now c.loop-line.invariant c.in-Some.ensures.0 in
    rw (error.1, error.2) (elim c.in_err-self.ensures [ inl m ↦ inl m | inr h ↦ inr (λ text. on text ∙ h (c.in-Some.after.now ++ text)) ])
