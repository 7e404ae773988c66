use Rattle.std.proofs.Common.{◌≡◌, ◌∙◌, ap, map, rules, string_bytes, take}
use Rattle.std.proofs.lemmas.List.{take_all}
use Rattle.fdb_log_reader.specs.Printed.{shown_text}
use Rattle.fdb_log_reader.proofs.Naming.{map_twice}
use Rattle.fdb_log_reader.proofs.names.Names.shown.Goals as goal

pub returns : goal.returns
returns c =
    let names = c.args.self.now.texts.items in
    let all : take c.loop-name.name-index names ≡ names = search (rules, take_all) in
    c.loop-name.invariant ∙ (ap (map (λ name. shown_text (string_bytes name))) all ∙ map_twice shown_text string_bytes names)
