-- The plan that a text stands for, over the JSON value that `serde_json` reads from its bytes.
-- (this product's own)
use Rattle.std.specs.Prelude.{◌≡◌, ℕ, Bool, false, IsUtf8, ◌+◌, ◌==◌, ◌&&◌, not, nat_lt, nat_le, nat_eq, List, [], ◌∷◌, length, sum_by, Option, None, Some, is_some, option_and_then, Result, Ok, Err, codes, if◌then◌else◌}
use Rattle.std.specs.Option.{option_map}
use Rattle.std.specs.Result.{result_ok}
use Rattle.std.specs.Cmp.Lexicographic.{pointwise}
use Rattle.hex.specs.Hex.{decode_sized}
use Rattle.serde_json.specs.Read.{read}
use Rattle.serde_json.specs.Data.{Data, Items, no_items, item}
use Rattle.serde_json.specs.Find.{get, as_number, as_u64, as_bool, as_null, as_str, as_array}
use Rattle.fdb_history.specs.declared.log.Priority.{Priority}
use Rattle.fdb_history.specs.declared.log.Priority.TheVariants.{System, Default, Batch}
use Rattle.fdb_history.specs.declared.register.TheConstants.{MAX_VERSION}
use Rattle.fdb_queue.specs.declared.config.QueueConfig.{QueueConfig}
use Rattle.fdb_queue.specs.declared.config.TheConstants.{MAX_RATE, MAX_ROOM, MAX_ELAPSED}
use Rattle.fdb_script.specs.Plan.{Plan, is_tag}
use Rattle.fdb_script.specs.declared.script.ScriptError.{ScriptError}
use Rattle.fdb_script.specs.declared.script.ScriptError.TheVariants.{NotJson, BadField, BadLimit, Memory}
use Rattle.fdb_script.specs.declared.script.Act.{Act}
use Rattle.fdb_script.specs.declared.script.Act.TheVariants.{Grv, Ask, Reask, Report, Tell}
use Rattle.fdb_script.specs.declared.script.Command.{Command}
use Rattle.fdb_script.specs.declared.script.Setup.{Setup}
use Rattle.fdb_queue.specs.declared.throttles.Throttle.{Throttle}
use Rattle.fdb_script.specs.declared.script.TheConstants.{MAX_CLIENTS, MAX_THROTTLES, MAX_ROUNDS, MAX_COMMANDS, MAX_TAGS}

-- ---- what a single JSON value stands for

-- what was read, if it passes a test
abbrev pub checked : {T : Type 0} → (T → Bool) → Option T → Option T
checked test None = None
checked test (Some value) = if test value then Some value else None

-- a whole number: digits alone, below 2^64
abbrev pub whole : Data → Option ℕ
whole value = option_and_then as_u64 (as_number value)

-- a whole number of a range, both ends included
abbrev pub whole_within : ℕ → ℕ → Data → Option ℕ
whole_within low high value =
    checked (λ number. nat_le low number && nat_le number high) (whole value)

-- a whole number below a limit, as the number of a client is
abbrev pub whole_below : ℕ → Data → Option ℕ
whole_below limit value = checked (λ number. nat_lt number limit) (whole value)

-- A metadata version: twenty hexadecimal digits of either case. They are a text, and two stand for
-- each of the ten bytes.
abbrev pub metadata_of : Data → Option (List ℕ)
metadata_of value = option_and_then (λ digits. result_ok (decode_sized digits 10)) (as_str value)

-- a metadata version, or null for none
abbrev pub metadata_or_null : Data → Option (Option (List ℕ))
metadata_or_null value =
    if is_some (as_null value) then Some None else option_map Some (metadata_of value)

-- a priority by its word: `system`, `default` or `batch`
abbrev pub priority_named : List ℕ → Option Priority
priority_named name =
    if pointwise nat_eq name (codes "system") then Some System
    else (if pointwise nat_eq name (codes "default") then Some Default
    else (if pointwise nat_eq name (codes "batch") then Some Batch
    else None))

-- a priority, if the value is a text that names one
abbrev pub priority_of : Data → Option Priority
priority_of value = option_and_then priority_named (as_str value)

-- a tag, if the value is a text of bytes that a tag may have
abbrev pub tag_of : Data → Option (List ℕ)
tag_of value = checked is_tag (as_str value)

-- the items of an array, in order
abbrev pub list_of : Items → List Data
list_of no_items = []
list_of (item value items) = value ∷ list_of items

-- Those of a value that is an array.
abbrev pub array_of : Data → Option (List Data)
array_of value = option_map list_of (as_array value)

-- Those of one that is not too long.
abbrev pub array_within : ℕ → Data → Option (List Data)
array_within most value = checked (λ items. nat_le (length items) most) (array_of value)

-- Each of some values, if all can be read so.
abbrev pub every : {T : Type 0} → (Data → Option T) → List Data → Option (List T)
every reading [] = Some []
every reading (value ∷ values) =
    option_and_then (λ first. option_map (λ rest. first ∷ rest) (every reading values))
    (reading value)

-- a read's tags: a list of at most five, each of which can be read
abbrev pub tags_of : Data → Option (List (List ℕ))
tags_of value = option_and_then (every tag_of) (array_within MAX_TAGS value)

-- ---- members of an object, required or with a default

-- a member that has to be there
abbrev pub member : {T : Type 0} → (Data → Option T) → List ℕ → Data → Option T
member reading name value = option_and_then reading (get name value)

-- a member that something stands for where it is absent
abbrev pub or_absent : {T : Type 0} → T → (Data → Option T) → Option Data → Option T
or_absent absent reading None = Some absent
or_absent absent reading (Some value) = reading value

-- a member of this name, or its default where there is none
abbrev pub member_or : {T : Type 0} → T → (Data → Option T) → List ℕ → Data → Option T
member_or absent reading name value = or_absent absent reading (get name value)

-- ---- commands: first the act by its `do`, then the client with it

-- a read, if each of its parts can be read
abbrev pub grv_with : Option (List (List ℕ)) → Option ℕ → Option Priority → Option ℕ → Option Bool
    → Option Bool → Option Act
grv_with (Some tags) (Some at) (Some priority) (Some count) (Some lock_aware) (Some use_min) =
    Some (Grv (record {
      priority = priority;
      count = count;
      tags = tags;
      lock_aware = lock_aware;
      at = at;
      use_min = use_min;
    }))
grv_with _ _ _ _ _ _ = None

-- a read, each member of which has a default
abbrev pub grv_of : Data → Option Act
grv_of value =
    grv_with (member_or [] tags_of (codes "tags") value) (member_or 0 whole (codes "at") value)
    (member_or Default priority_of (codes "priority") value)
    (member_or 1 whole (codes "count") value) (member_or false as_bool (codes "lock_aware") value)
    (member_or false as_bool (codes "use_min") value)

-- an ask, if both of its parts can be read
abbrev pub ask_with : Option ℕ → Option ℕ → Option Act
ask_with (Some at) (Some processed) = Some (Ask processed at)
ask_with _ _ = None

-- an ask, of which the moment is required
abbrev pub ask_of : Data → Option Act
ask_of value =
    ask_with (member whole (codes "at") value) (member_or 0 whole (codes "processed") value)

-- a reask, if each of its parts can be read
abbrev pub reask_with : Option ℕ → Option ℕ → Option ℕ → Option Act
reask_with (Some num) (Some at) (Some processed) = Some (Reask num processed at)
reask_with _ _ _ = None

-- a reask, of which the number and the moment are required
abbrev pub reask_of : Data → Option Act
reask_of value =
    reask_with (member whole (codes "num") value) (member whole (codes "at") value)
    (member_or 0 whole (codes "processed") value)

-- a report, if each of its parts can be read
abbrev pub report_with : Option ℕ → Option Bool → Option (Option (List ℕ)) → Option ℕ
    → Option Act
report_with (Some num) (Some locked) (Some metadata) (Some min_known) =
    Some (Report num locked metadata min_known)
report_with _ _ _ _ = None

-- a report, of which the number alone is required
abbrev pub report_of : Data → Option Act
report_of value =
    report_with (member whole (codes "num") value) (member_or false as_bool (codes "locked") value)
    (member_or None metadata_or_null (codes "metadata") value)
    (member_or 0 whole (codes "min_known") value)

-- one of the clients, and another than the one that tells
abbrev pub tell_of : ℕ → ℕ → Data → Option Act
tell_of clients client value =
    option_map Tell
    (checked (λ to. not (to == client)) (member (whole_below clients) (codes "to") value))

-- what a client is to do, by the command's `do`
abbrev pub act_named : ℕ → ℕ → List ℕ → Data → Option Act
act_named clients client name value =
    if pointwise nat_eq name (codes "grv") then grv_of value
    else (if pointwise nat_eq name (codes "ask") then ask_of value
    else (if pointwise nat_eq name (codes "reask") then reask_of value
    else (if pointwise nat_eq name (codes "report") then report_of value
    else (if pointwise nat_eq name (codes "tell") then tell_of clients client value
    else None))))

-- what a client is to do: the object has to have a text as `do`
abbrev pub act_of : ℕ → ℕ → Data → Option Act
act_of clients client value =
    option_and_then (λ name. act_named clients client name value) (member as_str (codes "do") value)

-- a command, where there are so many clients
abbrev pub command_of : ℕ → Data → Option Command
command_of clients value =
    option_and_then (λ client.
    option_map (λ act. record { client = client; act = act }) (act_of clients client value))
    (member (whole_below clients) (codes "client") value)

-- A command before the others, or the first faulty one.
abbrev pub then_commands : ℕ → ℕ → Option Command → Result (List Command) ScriptError
    → Result (List Command) ScriptError
then_commands round place None rest = Err (BadField round place)
then_commands round place (Some command) (Ok rest) = Ok (command ∷ rest)
then_commands round place (Some command) (Err error) = Err error

-- A round's commands from this place on, or the first faulty one.
abbrev pub commands_from : ℕ → ℕ → ℕ → List Data → Result (List Command) ScriptError
commands_from clients round place [] = Ok []
commands_from clients round place (value ∷ values) =
    then_commands round place (command_of clients value)
    (commands_from clients round (place + 1) values)

-- A round before the others, or the first faulty command.
abbrev pub then_rounds : Result (List Command) ScriptError
    → Result (List (List Command)) ScriptError → Result (List (List Command)) ScriptError
then_rounds (Err error) rest = Err error
then_rounds (Ok commands) (Ok rest) = Ok (commands ∷ rest)
then_rounds (Ok commands) (Err error) = Err error

-- The rounds from this one on, or their first faulty command.
abbrev pub rounds_from : ℕ → ℕ → List (List Data) → Result (List (List Command)) ScriptError
rounds_from clients round [] = Ok []
rounds_from clients round (values ∷ rest) =
    then_rounds (commands_from clients round 0 values) (rounds_from clients (round + 1) rest)

-- ---- the whole: setup and rounds, before any command is read

-- a throttle, if each of its parts can be read
abbrev pub throttle_with : Option (List ℕ) → Option Priority → Option ℕ → Option ℕ → Option Throttle
throttle_with (Some tag) (Some priority) (Some rate) (Some expires) =
    Some (record { priority = priority; tag = tag; rate = rate; expires = expires })
throttle_with _ _ _ _ = None

-- a throttle, of which all four members are required
abbrev pub throttle_of : Data → Option Throttle
throttle_of value =
    throttle_with (member tag_of (codes "tag") value) (member priority_of (codes "priority") value)
    (member whole (codes "rate") value) (member whole (codes "expires") value)

-- a list of throttles that is not too long, if each can be read
abbrev pub throttles_of : Data → Option (List Throttle)
throttles_of value = option_and_then (every throttle_of) (array_within MAX_THROTTLES value)

-- the configuration of the queues, if each of its parts can be read
abbrev pub config_with : Option ℕ → Option ℕ → Option ℕ → Option QueueConfig
config_with (Some normal) (Some batch) (Some room) =
    Some (record { normal = normal; batch = batch; room = room })
config_with _ _ _ = None

-- the configuration of the queues: 1000, 500 and 1000 where nothing else is said
abbrev pub config_of : Data → Option QueueConfig
config_of value =
    config_with (member_or 1000 (whole_within 1 MAX_RATE) (codes "normal") value)
    (member_or 500 (whole_within 0 MAX_RATE) (codes "batch") value)
    (member_or 1000 (whole_within 1 MAX_ROOM) (codes "room") value)

-- The rounds as arrays. Their commands are read later.
abbrev pub arrays_of : Data → Option (List (List Data))
arrays_of value = option_and_then (every array_of) (array_within MAX_ROUNDS value)

-- a plan whose commands are not read yet
pub record Frame : Type 0 where
  pub setup : Setup
  pub rounds : List (List Data)

-- a frame, if each of its parts can be read
abbrev pub frame_with : Option (List Throttle) → Option (List (List Data)) → Option ℕ → Option ℕ
    → Option ℕ → Option QueueConfig → Option ℕ → Option Frame
frame_with (Some throttles) (Some rounds) (Some epoch_end) (Some recovery) (Some clients)
    (Some config) (Some elapsed) =
    Some (record {
      setup = record {
        epoch_end = epoch_end;
        recovery = recovery;
        clients = clients;
        config = config;
        elapsed = elapsed;
        throttles = throttles;
      };
      rounds = rounds;
    })
frame_with _ _ _ _ _ _ _ = None

-- The epoch ends before the recovery version, and commands are few enough.
abbrev pub is_frame : Frame → Bool
is_frame frame =
    nat_lt frame.setup.epoch_end frame.setup.recovery
    && nat_le (sum_by length frame.rounds) MAX_COMMANDS

-- The frame of an object: required are `epoch_end`, `recovery`, `clients` and `rounds`.
abbrev pub frame_of : Data → Option Frame
frame_of value =
    checked is_frame
    (frame_with (member_or [] throttles_of (codes "throttles") value)
    (member arrays_of (codes "rounds") value) (member whole (codes "epoch_end") value)
    (member (whole_within 0 MAX_VERSION) (codes "recovery") value)
    (member (whole_within 1 MAX_CLIENTS) (codes "clients") value) (config_of value)
    (member_or 1000000 (whole_within 1 MAX_ELAPSED) (codes "elapsed") value))

-- the plan of a frame with these rounds, or the fault of a command
abbrev pub plan_with : Frame → Result (List (List Command)) ScriptError → Result Plan ScriptError
plan_with frame (Ok rounds) = Ok (record { setup = frame.setup; rounds = rounds })
plan_with frame (Err error) = Err error

-- The plan of a frame, or what is wrong with it. What is wrong with the whole comes before what is
-- wrong with a command.
abbrev pub framed_plan : Option Frame → Result Plan ScriptError
framed_plan None = Err BadLimit
framed_plan (Some frame) = plan_with frame (rounds_from frame.setup.clients 0 frame.rounds)

-- the plan of what `serde_json` reads, if it reads anything
abbrev pub plan_of : Option Data → Result Plan ScriptError
plan_of None = Err NotJson
plan_of (Some value) = framed_plan (frame_of value)

-- The result is this one, unless memory was refused.
abbrev pub IsUnlessMemory : {T : Type 0} → Result T ScriptError → Result T ScriptError → Type 0
IsUnlessMemory (Ok value) exact = exact ≡ Ok value
IsUnlessMemory (Err NotJson) exact = exact ≡ Err NotJson
IsUnlessMemory (Err (BadField round command)) exact = exact ≡ Err (BadField round command)
IsUnlessMemory (Err BadLimit) exact = exact ≡ Err BadLimit
IsUnlessMemory (Err Memory) exact = Unit {0}

-- What was read is the plan that these bytes stand for. It is, unless memory was refused. Bytes
-- that are no UTF-8 stand for nothing.
pub record ReadsAs (bytes : List ℕ) (result : Result Plan ScriptError) : Type 0 where
  pub text : IsUtf8 bytes → IsUnlessMemory result (plan_of (read bytes))
  pub no_text : (IsUtf8 bytes → ⊥) → IsUnlessMemory result (Err NotJson)
