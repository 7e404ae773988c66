use Rattle.std.proofs.Common.{ap}
use Rattle.fdb_log_reader.specs.declared.error.ReadError.{ReadError}
use Rattle.fdb_log_reader.proofs.Placed.{whole_placed, whole_refused}
use Rattle.fdb_log_reader.proofs.splitter.Splitter.place_whole.Goals as goal

pub returns-in-Ok : goal.returns-in-Ok
returns-in-Ok c =
    let (one, is) = c.in-Ok.ensures in
    whole_placed c.args.self c.in-Ok.placer c.args.self.front.items c.args.line.now one c.requires.none c.requires.line is c.requires.none

pub returns-in-Err : goal.returns-in-Err
returns-in-Err c =
    let why = c.in-Err.why in
    whole_refused c.args.self c.args.line.now why (record { line = c.error-refused.result.line; why = why }) c.requires.none c.requires.line c.in-Err.ensures
    (ap (λ (error : ReadError). let it : ReadError = record { line = error.line; why = why } in it) c.error-refused.ensures)
