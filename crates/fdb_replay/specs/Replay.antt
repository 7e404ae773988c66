-- What a replay of some bytes writes, and what a refused one says. (this product's own)
use Rattle.std.specs.Prelude.{◌≡◌, Bool, List, ℕ, Ok, Err, Option}
use Rattle.fdb_command.specs.Output.{TakesSome}
use Rattle.fdb_replay.specs.Outcome.{IsRunOf}
use Rattle.fdb_script.specs.Plan.{Plan}
use Rattle.fdb_script.specs.Reading.{ReadsAs}
use Rattle.fdb_script.specs.Text.{text}
use Rattle.fdb_script.specs.declared.script.Outcome.{Outcome}
use Rattle.fdb_replay.specs.declared.running.ReplayFault.{ReplayFault}
use Rattle.fdb_replay.specs.declared.running.ReplayFault.TheVariants.{Script, Memory, Write}

-- What is written is the text of a run of the script. The script is the one that these bytes stand
-- for.
pub record Replays (bytes : List ℕ) (with_history : Bool) (written : List ℕ) : Type 0 where
  pub plan : Plan
  pub read : ReadsAs bytes (Ok plan)
  pub outcome : Outcome
  pub ran : IsRunOf plan outcome
  pub printed : written ≡ text plan outcome with_history

-- Why there is no text: script, memory or writing. A script is refused as its bytes demand; memory
-- is refused to a run, and writing fails, only where there is a script.
abbrev pub Refuses : List ℕ → ReplayFault → Type 0
Refuses bytes (Script error) = ReadsAs bytes (Err error)
Refuses bytes Memory = (plan : Plan) × ReadsAs bytes (Ok plan)
Refuses bytes Write = (plan : Plan) × ReadsAs bytes (Ok plan)

-- A writer took a part of such a text, not all. It is the text of a run of the script that these
-- bytes stand for.
pub record IsCut
    (bytes : List ℕ) (with_history : Bool) (before after : Option (List ℕ)) : Type 0 where
  pub written : List ℕ
  pub replayed : Replays bytes with_history written
  pub cut : TakesSome written before after
