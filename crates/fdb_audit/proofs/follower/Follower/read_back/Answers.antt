use Rattle.std.proofs.Common.{IsPermutation, List, map, string_bytes, subst, sym}
use Rattle.std.specs.List.{All}
use Rattle.std.proofs.lemmas.Result.{IfOk-weaker}
use Rattle.fdb_lines.specs.declared.key_part.KeptLine.{KeptLine}
use Rattle.fdb_lines.specs.KeyWatch.{IsKept}
use Rattle.fdb_log_reader.specs.LineReader.{line_names}
use Rattle.fdb_log_reader.specs.ReadLine.{member_in}
use Rattle.fdb_audit.specs.Following.{keys_taken, lines_taken}
use Rattle.fdb_audit.specs.Kept.{KeepsLines, places_kept}
use Rattle.fdb_audit.specs.private.KeptTexts.{number_of}
use Rattle.fdb_audit.proofs.Forgotten.{all_stay, keeps_all}
use Rattle.fdb_audit.proofs.follower.Follower.read_back.Goals as goal

pub returns : goal.returns
returns c =
    IfOk-weaker c.read_back_of.result _ _ (λ it is. IfOk-weaker it _ _ (λ text says start read told are.
    let names = line_names c.args.self.now.reader in
    let taking = c.args.self.now.taking in
    let kept = c.in_ok-kept.kept.items in
    let (all, each) = c.in_ok-kept.ensures.kept read are.seen in
    let same = c.deref.ensures.value in
    let were : All (IsKept (lines_taken read) (keys_taken read)) c.deref.result.now = subst (λ (list : List KeptLine). All (IsKept (lines_taken read) (keys_taken read)) list) (sym same) each in
    keeps_all (map number_of kept) (subst (λ places. IsPermutation places (map number_of kept)) (all_stay (places_kept taking.watch)) all)
    (subst (λ (list : List KeptLine). KeepsLines (map number_of list) (member_in names) names start.kept taking read (string_bytes text)) same (says start read told are were))) is) c.read_back_of.ensures
