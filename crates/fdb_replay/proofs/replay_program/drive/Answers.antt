use Rattle.std.proofs.Common.{◌≡◌, ℕ, List, [], None, Ok, Err, Result, MatchResult, codes}
use Rattle.std.specs.declared.convert.Infallible.{Infallible}
use Rattle.std.specs.Prelude.{IfOk}
use Rattle.clap.specs.Words.{Text}
use Rattle.fdb_command.specs.Arguments.{is_set}
use Rattle.fdb_command.specs.Driving.{MayAnswer, Stops}
use Rattle.fdb_command.specs.declared.failure.Failure.{Failure}
use Rattle.fdb_command.specs.declared.program.Output.{Output}
use Rattle.fdb_replay.specs.Program.{command, replay}
use Rattle.fdb_replay.specs.Replay.{Replays}
use Rattle.fdb_replay.specs.declared.replay_program.ScriptRefused.{ScriptRefused}
use Rattle.fdb_replay.proofs.replay_program.drive.Goals as goal

-- what a replay of these bytes prints, of which nothing was told, is what the program promises
promised : (arguments : List Text) (bytes : List ℕ) (made : Result (Output ScriptRefused Infallible) (Failure ScriptRefused Infallible))
    → MatchResult made (λ answer. (answer.found ≡ None) × (answer.refused ≡ None) × (answer.warnings.items ≡ []) × Replays bytes (is_set (codes "history") command arguments) answer.text.items) (Stops replay arguments bytes)
    → MatchResult made (MayAnswer replay arguments bytes []) (Stops replay arguments bytes)
promised arguments bytes (Ok answer) is = ((is.0, is.1, is.3), rw is.1 tt, λ silent. is.2)
promised arguments bytes (Err fault) stops = stops

pub drive-requires-clause-promised : goal.drive-requires-clause-promised
drive-requires-clause-promised g c = λ arguments opts script bytes told made asked taken answers. rw taken.1 (promised arguments bytes made (rw taken.0 at (rw asked.history at (answers arguments))))

-- nothing is told of a script, and it is refused whole
known : {E : Type 0} {T : Type 0} (r : Result T E) (P : T → Type 0) → ((value : T) → P value) → IfOk r P
known (Ok value) P holds = holds value
known (Err error) P holds = tt

pub returns-clause-unwritten : goal.returns-clause-unwritten
returns-clause-unwritten g c = c.drive.ensures.unwritten (known c.args.arguments _ (λ list. ((λ opts script bytes told asked taken. taken.1), (λ bytes text found error prints. cc))))

pub returns-clause-begun : goal.returns-clause-begun
returns-clause-begun g c = c.drive.ensures.begun (known c.args.arguments _ (λ list opts script bytes told asked taken. taken.1))
