use Rattle.std.proofs.Common.{◌≡◌, ◌∙◌, ◌++◌, true, ap, rules, string_bytes}
use Rattle.std.proofs.lemmas.Result.{on_ok_weaker}
use Rattle.fdb_log_reader.specs.Printed.{is_unprintable, shown}
use Rattle.fdb_log_reader.proofs.Escapes.{escape_written, written}
use Rattle.fdb_log_reader.proofs.names.push_shown.Goals as goal

pub returns-then-is_unprintable : goal.returns-then-is_unprintable
returns-then-is_unprintable c =
    let is : is_unprintable c.args.c ≡ true = search rules in
    let text : written c.args.c ≡ shown c.args.c = rw is (escape_written c.args.c is) in
    let appended = rw (c.in_radix.ensures, c.laid_out.ensures) at c.write.ensures.bytes in
    on_ok_weaker c.write.result (λ e. e ∙ ap (λ t. string_bytes c.args.out.now ++ t) text) appended
