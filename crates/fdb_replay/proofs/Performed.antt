-- A round is answered once its clients have done their commands, and learnt what they told one another.
use Rattle.std.proofs.Common.{◌≡◌, ℕ, zero, suc, ◌+◌, ◌<◌, List, [], ◌∷◌, length, sym, ◌∙◌, subst, arith}
use Rattle.std.specs.List.{FoldsTo}
use Rattle.std.proofs.lemmas.List.{length-map}
use Rattle.fdb_client.specs.Account.{Account}
use Rattle.fdb_history.specs.Log.{calls_of}
use Rattle.fdb_history.specs.declared.log.ClientLog.{ClientLog}
use Rattle.fdb_client.specs.Settling.{logs_of}
use Rattle.fdb_replay.specs.private.Rounds.{IsPlayed, PerformsFrom, Tell, all_tells}
use Rattle.fdb_replay.proofs.Parts.{same_clients}
use Rattle.fdb_script.specs.Answering.{AnswersCommand, AnswersRound, added_calls, commands_of, learnt_from}
use Rattle.fdb_script.specs.declared.script.Command.{Command}

each_from : (first client : ℕ) (commands : List Command) (before after : List Account) → PerformsFrom first commands before after → client < length before
    → FoldsTo AnswersCommand (calls_of (logs_of before) client) (commands_of (first + client) commands) (calls_of (logs_of after) client)
each_from first client commands [] after done within = absurd (omega arith)
each_from first client commands (own ∷ before) [] done within = absurd done
each_from first zero commands (own ∷ before) (more ∷ after) done within = subst (λ c. FoldsTo AnswersCommand own.calls (commands_of c commands) more.calls) (omega arith) done.0
each_from first (suc client) commands (own ∷ before) (more ∷ after) done within =
    subst (λ c. FoldsTo AnswersCommand (calls_of (logs_of before) client) (commands_of c commands) (calls_of (logs_of after) client)) (omega arith)
    (each_from (first + 1) client commands before after done.1 (omega arith))

pub round_answered : (commands : List Command) (old now : List Account) (learnt : List ClientLog) (tells : List Tell) → IsPlayed 0 commands old now tells
    → ((tells ≡ all_tells 0 old now) → learnt ≡ learnt_from 0 (added_calls (logs_of old) (logs_of now)) (logs_of now))
    → AnswersRound (logs_of old) commands learnt
round_answered commands old now learnt tells played learns =
    let long = λ (clients : List Account). length-map {B = ClientLog} clients (λ client. record { calls = client.calls }) in
    record {
      performed = logs_of now;
      performs = record {
        same_clients = long now ∙ same_clients 0 commands old now played.performed ∙ sym (long old);
        each = λ client within. subst (λ c. FoldsTo AnswersCommand (calls_of (logs_of old) client) (commands_of c commands) (calls_of (logs_of now) client)) (omega arith) (each_from 0 client commands old now played.performed (omega (arith, within, long old)));
      };
      learnt = learns played.told;
    }
