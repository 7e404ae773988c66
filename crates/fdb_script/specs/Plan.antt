-- The plan of a script, and its limits. (the format is this product's own)
use Rattle.std.specs.Prelude.{ℕ, ◌<◌, ◌≤◌, Bool, true, ◌&&◌, ◌==◌, not, nat_lt, nat_le, IsTrue, List, length, sum_by}
use Rattle.std.specs.List.{AllByRecursion, list_all}
use Rattle.fdb_history.specs.declared.register.TheConstants.{MAX_VERSION}
use Rattle.fdb_queue.specs.Config.{IsConfig, IsElapsed}
use Rattle.fdb_queue.specs.declared.config.TheConstants.{MAX_TAG}
use Rattle.fdb_script.specs.declared.script.Act.{Act}
use Rattle.fdb_script.specs.declared.script.Act.TheVariants.{Grv, Ask, Reask, Report, Tell}
use Rattle.fdb_script.specs.declared.script.Command.{Command}
use Rattle.fdb_script.specs.declared.script.Setup.{Setup}
use Rattle.fdb_script.specs.declared.script.TheConstants.{MAX_CLIENTS, MAX_THROTTLES, MAX_ROUNDS, MAX_COMMANDS, MAX_TAGS}

-- What contracts see of a script: its setup and its rounds. The setup says where the service
-- starts, how many clients there are, and what its GRV proxies are made with; each round is the
-- list of its commands.
pub record Plan : Type 0 where
  pub setup : Setup
  pub rounds : List (List Command)

-- the visible characters of ASCII, `!` to `~`
abbrev pub is_tag_byte : ℕ → Bool
is_tag_byte byte = nat_le 33 byte && nat_le byte 126

-- a tag: a few such bytes, and at least one
abbrev pub is_tag : List ℕ → Bool
is_tag tag = nat_le 1 (length tag) && nat_le (length tag) MAX_TAG && list_all is_tag_byte tag

-- Whether an act is one for this client, among so many: a read has few tags, a tell goes to another
-- of the clients.
abbrev pub is_act : ℕ → ℕ → Act → Bool
is_act clients client (Grv opts) = nat_le (length opts.tags) MAX_TAGS && list_all is_tag opts.tags
is_act clients client (Ask processed at) = true
is_act clients client (Reask num processed at) = true
is_act clients client (Report num locked metadata min_known) = true
is_act clients client (Tell to) = nat_lt to clients && not (to == client)

-- a command for one of so many clients
abbrev pub is_command : ℕ → Command → Bool
is_command clients command =
    nat_lt command.client clients && is_act clients command.client command.act

-- The plan is within the limits of a script: its numbers, the lengths of its lists, and each
-- command.
pub record IsPlan (plan : Plan) : Type 0 where
  pub epoch_ends_before : plan.setup.epoch_end < plan.setup.recovery
  pub recovery_in_range : plan.setup.recovery ≤ MAX_VERSION
  pub some_client : 1 ≤ plan.setup.clients
  pub clients_in_range : plan.setup.clients ≤ MAX_CLIENTS
  pub config_in_range : IsConfig plan.setup.config
  pub elapsed_in_range : IsElapsed plan.setup.elapsed
  pub throttles_in_range : length plan.setup.throttles ≤ MAX_THROTTLES
  pub throttles_tagged : AllByRecursion
      (λ throttle. IsTrue (is_tag throttle.tag)) plan.setup.throttles
  pub rounds_in_range : length plan.rounds ≤ MAX_ROUNDS
  pub commands_in_range : sum_by length plan.rounds ≤ MAX_COMMANDS
  pub commands_fit : AllByRecursion
      (AllByRecursion (λ command. IsTrue (is_command plan.setup.clients command))) plan.rounds
