use Rattle.std.proofs.Common.{◌≡◌, ◌∙◌, ◌⊎◌, Err, MatchResult, Ok, ap, option_map, subst, sym}
use Rattle.fdb_log_reader.specs.declared.error.Why.TheVariants.{Memory}
use Rattle.fdb_log_reader.specs.Columns.{all_shown}
use Rattle.fdb_log_reader.specs.Members.{and_then}
use Rattle.fdb_log_reader.specs.Parts.{parts_of, parts_said}
use Rattle.fdb_log_reader.specs.Reading.{reading_of, with_parts}
use Rattle.fdb_log_reader.specs.private.{shows}
use Rattle.fdb_log_reader.proofs.named_log.add_said.Goals as goal

pub returns-clause-read : goal.returns-clause-read
returns-clause-read g c =
    let reading = reading_of c.args.named.now in
    let says = g.S.Said.says c.args.line.now in
    let beside = g.S.Said.says_beside c.args.line.now in
    let parts : parts_said reading.names (option_map (λ column. column.member) reading.keys) says beside ≡ Ok (parts_of c.in_ok-parts.parts) =
    ap (λ member. parts_said reading.names member says beside) (sym c.key_member-member.ensures) ∙ c.in_ok-parts.ensures in
    subst (λ parts. MatchResult c.add_parts.result
    (λ _. and_then parts (with_parts reading beside) ≡ Ok (shows (all_shown beside reading.shown) (reading_of c.add_parts.new.named)))
    (λ why. (why ≡ Memory) ⊎ (and_then parts (with_parts reading beside) ≡ Err why)))
    (sym parts) (c.add_parts.ensures.read beside)
