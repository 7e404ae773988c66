-- A run has played all rounds.
use Rattle.std.proofs.Common.{◌≡◌, ℕ, ◌+◌, ◌<◌, List, ◌∷◌, length, drop, get_or, ap, sym, ◌∙◌}
use Rattle.std.specs.List.{FoldsTo}
use Rattle.std.proofs.lemmas.List.{drop_more}
use Rattle.fdb_history.specs.declared.log.ClientLog.{ClientLog}
use Rattle.fdb_script.specs.Answering.{AnswersRound}
use Rattle.fdb_script.specs.declared.script.Command.{Command}

-- what is left of a list from a place on is what stands there, and what is left from the next one on
pub left_is : {X : Type 0} (xs : List X) (place : ℕ) (x : X) → place < length xs → x ≡ get_or xs place x → drop place xs ≡ x ∷ drop (place + 1) xs
left_is xs place x within is = drop_more xs place x within ∙ ap (λ first. first ∷ drop (place + 1) xs) (sym is)

-- who plays a round and then those behind it has played those from it on
pub one_round_more : (rounds : List (List Command)) (round : ℕ) (commands : List Command) (before after last : List ClientLog) → round < length rounds
    → commands ≡ get_or rounds round commands → AnswersRound before commands after → FoldsTo AnswersRound after (drop (round + 1) rounds) last
    → FoldsTo AnswersRound before (drop round rounds) last
one_round_more rounds round commands before after last within here answered rest =
    rw (left_is rounds round commands within here) (after, answered, rest)
