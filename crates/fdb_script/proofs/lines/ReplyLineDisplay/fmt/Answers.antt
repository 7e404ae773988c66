use Rattle.std.proofs.Common.{◌≡◌, ℕ, List, ◌++◌, codes, decimal, append_assoc}
use Rattle.std.proofs.Output.{has_written_of_eq}
use Rattle.fdb_script.specs.Text.{act_text, answer_text}
use Rattle.fdb_script.proofs.lines.ReplyLineDisplay.fmt.Goals as goal

-- five texts with a space between each two, in whatever order they are put together
spaced : (a b c d e : List ℕ) → a ++ (codes " " ++ (b ++ (codes " " ++ (c ++ (codes " " ++ (d ++ (codes " " ++ e))))))) ≡ a ++ codes " " ++ b ++ codes " " ++ c ++ codes " " ++ d ++ codes " " ++ e
spaced a b c d e = simp append_assoc

pub returns-clause-writes : goal.returns-clause-writes
returns-clause-writes g c = λ plain ok.
    let line = c.args.self.now in
    let answer = answer_text line.call.now.input line.call.now.position line.call.now.answer in
    has_written_of_eq _ _ _ _ _ (rw c.act_word.ensures (spaced (decimal line.round) (decimal line.client) (decimal line.number) (act_text line.act.now) answer)) (c.write.ensures.writes plain ok)
