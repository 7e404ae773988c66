use Rattle.std.proofs.Common.{◌≡◌, ◌∙◌, ap, map, rules, string_bytes, take}
use Rattle.std.proofs.lemmas.List.{take_all}
use Rattle.fdb_log_reader.specs.Printed.{printed, read_back}
use Rattle.fdb_log_reader.proofs.Naming.{map_twice}
use Rattle.fdb_log_reader.proofs.ReadsBack.{names_back}
use Rattle.fdb_log_reader.proofs.names.Names.printed.Goals as goal

pub returns-clause-printed : goal.returns-clause-printed
returns-clause-printed c =
    let names = c.args.self.now.texts.items in
    let all : take c.loop-name.name-index names ≡ names = search (rules, take_all) in
    c.loop-name.invariant ∙ (ap (map (λ name. printed (string_bytes name))) all ∙ map_twice printed string_bytes names)

pub returns-clause-read_back : goal.returns-clause-read_back
returns-clause-read_back c =
    map_twice read_back string_bytes c.loop-name.texts.items
    ∙ (ap (map read_back) (returns-clause-printed c) ∙ names_back c.args.self.now.texts.items)
