use Rattle.std.proofs.Common.{◌≡◌, ◌∙◌, ap, map, rules, string_bytes, take}
use Rattle.std.proofs.lemmas.List.{take_all}
use Rattle.serde_json.specs.Find.{get}
use Rattle.serde_json.specs.View.{view}
use Rattle.fdb_log_reader.proofs.Naming.{map_twice}
use Rattle.fdb_log_reader.proofs.read_line.texts_of.Goals as goal

pub returns-clause-says : goal.returns-clause-says
returns-clause-says c =
    let members = c.args.members.now in
    let value = view c.args.line.now in
    let all : take c.loop-member.member-index members ≡ members = search (rules, take_all) in
    c.loop-member.invariant.says ∙ (ap (map (λ member. get (string_bytes member) value)) all ∙ map_twice (λ name. get name value) string_bytes members)
