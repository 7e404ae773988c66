use Rattle.std.proofs.Common.{subst, sym}
use Rattle.std.proofs.lemmas.Result.{IfOk-weaker}
use Rattle.fdb_log_reader.specs.Columns.{ArePrinted, shown_of}
use Rattle.fdb_log_reader.specs.Names.{names_of}
use Rattle.fdb_log_reader.proofs.ShownTexts.{printed_say}
use Rattle.fdb_log_reader.proofs.shown.Shown.printed.Goals as goal

pub returns : goal.returns
returns c =
    let it = c.args.self.now in
    IfOk-weaker c.shown.result _ _
    (λ texts is. subst (λ texts. ArePrinted (shown_of it).values texts it.numbers.items) (sym is)
    (printed_say (names_of it.texts) it.numbers.items it.json it.texts.distinct it.within)) c.shown.ensures
