-- What the program promises of itself. (this product's own)
use Rattle.std.specs.Prelude.{◌≡◌, ◌≢◌, ℕ, List, [], ◌∷◌, Vec, None, Err, codes, false, pos, true}
use Rattle.std.specs.Option.{option_map_or}
use Rattle.std.specs.Str.Parse.{digits_value, without_leading_plus}
use Rattle.std.specs.declared.alloc.Global.{Global}
use Rattle.std.specs.declared.convert.Infallible.{Infallible}
use Rattle.clap.specs.Words.{App, Text, matches_of, one_of}
use Rattle.fdb_command.specs.Arguments.{command_of, file_rule, flag_rule, is_set, number_rule}
use Rattle.fdb_command.specs.Driving.{Promise}
use Rattle.fdb_replay.specs.Replay.{Replays}
use Rattle.fdb_replay.specs.declared.running.ReplayOpts.{ReplayOpts}
use Rattle.fdb_replay.specs.declared.replay_program.ScriptRefused.{ScriptRefused}
use Rattle.fdb_script.specs.Reading.{ReadsAs}
use Rattle.fdb_script.specs.declared.script.ScriptError.TheVariants.{Memory}
use Rattle.fdb_script.specs.declared.script.TheConstants.{MAX_SCRIPT_BYTES}

-- the words that the program takes: the file of the script, `--proxies` from 1 to 16, and
-- `--history`
abbrev pub command : App
command = command_of (codes "fdb_replay")
    (file_rule ∷ number_rule (codes "proxies") (pos 1) (pos 16) ∷ flag_rule (codes "history") ∷ [])

-- the number of GRV proxies, which is 1 unless it is said
abbrev pub proxies_named : List Text → ℕ
proxies_named arguments =
    option_map_or (λ digits. digits_value 10 (without_leading_plus digits))
    (one_of (codes "proxies") (matches_of command arguments)) 1

-- what the flags say: so many proxies, and whether the history is written too
pub record AskFor (arguments : List Text) (opts : ReplayOpts) : Type 0 where
  pub proxies : opts.proxies ≡ proxies_named arguments
  pub history : opts.with_history ≡ is_set (codes "history") command arguments

-- Whatever its command takes suits it. It takes all bytes as they come, and tells nothing while it reads, nor of progress. It prints the
-- text of a run of the script that the bytes stand for, with the history where that is asked for. It
-- refuses what stands for no script, whole; that memory was refused says nothing of the bytes. There
-- is nothing to be found.
abbrev pub replay : Promise ReplayOpts (Vec ℕ Global) ScriptRefused Infallible
replay = record {
  app = command;
  most = MAX_SCRIPT_BYTES;
  suits = λ arguments. true;
  asks = AskFor;
  tells = λ arguments. false;
  warns = λ arguments. false;
  fails = λ arguments fault. ⊥;
  taken = λ opts script bytes told. (script.items ≡ bytes) × (told ≡ []);
  prints = λ arguments bytes text found refused. (found ≡ None) × (refused ≡ None)
      × Replays bytes (is_set (codes "history") command arguments) text;
  refuses = λ arguments bytes refused.
      (refused.error ≢ Memory) × ReadsAs bytes (Err refused.error);
  finds = λ arguments bytes found. ⊥;
}
