use Rattle.std.proofs.Common.{◌≡◌, map, option_map, string_bytes, take}
use Rattle.std.specs.List.{All}
use Rattle.serde_json.specs.Find.{get}
use Rattle.serde_json.specs.View.{view}
use Rattle.fdb_log_reader.specs.Columns.{IsText}
use Rattle.fdb_log_reader.specs.ReadLine.{text_says}
use Rattle.fdb_log_reader.proofs.read_line.texts_of.Given as goal

-- the texts so far
abbrev pub invariant-loop-member : goal.invariant-loop-member
invariant-loop-member l = record {
  says : map text_says l.texts.items ≡ map (λ member. get (string_bytes member) (view l.line)) (take l.member-index l.members);
  texts : All (λ text. IsText (text_says text) (option_map string_bytes text)) l.texts.items;
}
