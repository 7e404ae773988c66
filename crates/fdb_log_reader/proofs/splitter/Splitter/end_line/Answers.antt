use Rattle.std.proofs.Common.{◌≡◌, ◌⊎◌, Err, ap, length, string_bytes, subst}
use Rattle.fdb_log_reader.specs.declared.error.ReadError.{ReadError}
use Rattle.fdb_log_reader.specs.declared.error.Why.TheVariants.{Memory}
use Rattle.fdb_log_reader.specs.Split.{Placed, line_placed}
use Rattle.fdb_log_reader.specs.private.Placing.{PlacesOne}
use Rattle.fdb_log_reader.proofs.Placed.{ended_placed, ended_refused}
use Rattle.fdb_log_reader.proofs.splitter.Splitter.end_line.Goals as goal

pub returns-in-Ok-clause-read : goal.returns-in-Ok-clause-read
returns-in-Ok-clause-read c =
    let old = c.args.self in
    let (one, is) = subst (λ line. (one : Placed) × PlacesOne old.placer line one c.in-Ok.placer) c.deref.ensures.value c.in-Ok.ensures in
    ended_placed old c.in-Ok.placer c.clear.new.self.items one is c.clear.ensures.items

pub returns-in-Err-clause-read : goal.returns-in-Err-clause-read
returns-in-Err-clause-read c =
    let old = c.args.self in
    let why = c.in-Err.why in
    ended_refused old why (record { line = c.error-refused.result.line; why = why })
    (subst (λ line. (why ≡ Memory) ⊎ (line_placed (string_bytes old.placer.member) (length old.placer.parts.items) old.placer.above line ≡ Err why)) c.deref.ensures.value c.in-Err.ensures)
    (ap (λ (error : ReadError). let it : ReadError = record { line = error.line; why = why } in it) c.error-refused.ensures)
