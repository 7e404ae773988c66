use Rattle.std.proofs.Common.{◌≡◌, ◌∙◌, ap, map, rules, string_bytes, take}
use Rattle.std.proofs.lemmas.List.{take_all}
use Rattle.fdb_log_reader.specs.Columns.{nothing_shown}
use Rattle.fdb_log_reader.proofs.Naming.{map_twice}
use Rattle.fdb_log_reader.proofs.columns.no_columns.Goals as goal

pub returns : goal.returns
returns c =
    let members = c.args.members.now in
    let all : take c.loop-member.member-index members ≡ members = search (rules, take_all) in
    c.loop-member.invariant ∙ (ap (map (λ member. nothing_shown (string_bytes member))) all ∙ map_twice nothing_shown string_bytes members)
