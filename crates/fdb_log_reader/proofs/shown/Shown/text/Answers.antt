use Rattle.std.proofs.Common.{option_map}
use Rattle.fdb_log_reader.specs.Names.{names_of}
use Rattle.fdb_log_reader.proofs.ShownTexts.{kept_says}
use Rattle.fdb_log_reader.proofs.shown.Shown.text.Goals as goal

pub returns : goal.returns
returns c =
    let shown = c.args.self.now in
    kept_says (names_of shown.texts) shown.numbers.items c.args.place (option_map (λ text. text.now) c.kept.result) shown.json shown.within c.kept.ensures
