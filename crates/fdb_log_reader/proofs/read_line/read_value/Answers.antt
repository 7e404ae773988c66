use Rattle.std.proofs.Common.{◌∙◌, Ok, ap, map, string_bytes, sym}
use Rattle.std.proofs.lemmas.Result.{err_from_is_err_and}
use Rattle.fdb_log_reader.specs.ReadLine.{known_of, said_by, showing}
use Rattle.fdb_log_reader.proofs.read_line.read_value.Goals as goal

pub returns-in_err-read : goal.returns-in_err-read
returns-in_err-read c =
    let error = err_from_is_err_and c.from_residual.result c.from_residual.ensures.1 in
    rw (error.1, error.2) (c.in_err-read.ensures.read (map string_bytes c.args.shown.now))

pub returns : goal.returns
returns c =
    let read = c.in_ok-read.read in (
      c.in_ok-read.ensures.read (map string_bytes c.args.shown.now)
          ∙ ap (λ values. Ok (showing values (said_by read), known_of c.read_said.new.names)) (sym c.in_ok-read-2.ensures.says),
      c.in_ok-read-2.ensures.texts,
    )
