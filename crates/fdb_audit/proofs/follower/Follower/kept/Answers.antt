use Rattle.std.proofs.Common.{◌++◌, string_bytes, subst}
use Rattle.std.proofs.lemmas.Result.{IfOk-weaker}
use Rattle.fdb_log_reader.specs.LineReader.{line_names}
use Rattle.fdb_audit.specs.Following.{told_in_all}
use Rattle.fdb_audit.specs.Kept.{Keeps}
use Rattle.fdb_audit.proofs.KeptTexts.{member_followed}
use Rattle.fdb_audit.proofs.follower.Follower.kept.Goals as goal

pub returns : goal.returns
returns c =
    let self = c.args.self.now in
    IfOk-weaker c.read_back.result _ _ (λ it is. IfOk-weaker it _ _ (λ text says asked start bytes told has.
    subst (λ key. Keeps key (line_names self.reader) start.kept self.taking has.read (string_bytes text)) (member_followed asked start self bytes told has c.keys_stay_in_one_member.ensures)
    (says start has.read (start.told ++ told_in_all has.read has.telling.windows) has.telling.taken)) is) c.read_back.ensures
