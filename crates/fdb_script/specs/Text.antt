-- The printed text, as a function of the plan, the outcome and whether the history is wanted. (this
-- product's own)
use Rattle.std.specs.Prelude.{ℕ, ◌+◌, ◌==◌, Bool, true, false, List, [], ◌∷◌, ◌++◌, length, map, filter, not, count_by, drop, codes, decimal, encode_utf8, if◌then◌else◌}
use Rattle.std.specs.List.{flat_map}
use Rattle.fdb_history.specs.Event.{raise_count}
use Rattle.fdb_history.specs.Register.{version_for}
use Rattle.fdb_history.specs.Text.{record_text, refusal_text}
use Rattle.fdb_history.specs.declared.register.Event.{Event}
use Rattle.fdb_history.specs.declared.register.Event.TheVariants as event
use Rattle.fdb_history.specs.declared.log.TagLimit.{TagLimit}
use Rattle.fdb_history.specs.declared.log.Call.{Call}
use Rattle.fdb_history.specs.declared.log.CallAnswer.{CallAnswer}
use Rattle.fdb_history.specs.declared.log.CallAnswer.TheVariants.{Version, Answered, Acked, Told, Refused}
use Rattle.fdb_history.specs.declared.log.Input.{Input}
use Rattle.fdb_history.specs.declared.log.Input.TheVariants as input
use Rattle.fdb_history.specs.declared.register.Record.{Record}
use Rattle.fdb_script.specs.Plan.{Plan}
use Rattle.fdb_script.specs.declared.script.Outcome.{Outcome}
use Rattle.fdb_script.specs.declared.script.Act.{Act}
use Rattle.fdb_script.specs.declared.script.Act.TheVariants.{Grv, Ask, Reask, Report, Tell}
use Rattle.fdb_script.specs.declared.script.Command.{Command}

-- a line ends with one newline byte
abbrev pub line : List ℕ → List ℕ
line text = text ++ 10 ∷ []

-- A limit, with each byte of its tag as a character. The character is the one of that number.
abbrev pub limit_text : TagLimit → List ℕ
limit_text limit =
    codes " limit " ++ flat_map encode_utf8 limit.tag ++ codes " " ++ decimal limit.rate
    ++ codes " " ++ decimal limit.expires

-- `fresh` for a version that this request drew, `kept` for an earlier answer given again
abbrev pub fresh_text : Bool → List ℕ
fresh_text true = codes "fresh"
fresh_text false = codes "kept"

-- Whether a report raised the version, the minimum alone, or neither. These are the live committed
-- version and the minimum known committed version.
abbrev pub raised_text : Bool → Bool → List ℕ
raised_text true changed = codes "raised"
raised_text false true = codes "min raised"
raised_text false false = codes "not raised"

-- The version that a read with `use_min` got. For any other read it is not told.
abbrev pub used_text : Input → Record → List ℕ
used_text (input.Grv opts) rec =
    if opts.use_min then codes " used " ++ decimal (version_for opts.use_min rec) else []
used_text (input.Ask num processed at) rec = []
used_text (input.Report num locked metadata min_known) rec = []
used_text (input.Tell to) rec = []
used_text (input.Learn from) rec = []

-- Whom a call told or learnt from, and the position.
abbrev pub told_text : Input → ℕ → List ℕ
told_text (input.Tell to) position = decimal to ++ codes " pos " ++ decimal position
told_text (input.Learn from) position = decimal from ++ codes " pos " ++ decimal position
told_text (input.Grv opts) position = codes "pos " ++ decimal position
told_text (input.Ask num processed at) position = codes "pos " ++ decimal position
told_text (input.Report num locked metadata min_known) position = codes "pos " ++ decimal position

-- what is printed of a call's answer
abbrev pub answer_text : Input → ℕ → CallAnswer → List ℕ
answer_text input position (Version rec limits false) =
    record_text rec ++ used_text input rec ++ codes " pos " ++ decimal position
    ++ flat_map limit_text limits
answer_text input position (Version rec limits true) =
    codes "refused Locked " ++ decimal rec.version ++ codes " pos " ++ decimal position
answer_text input position (Answered issued) =
    codes "prev " ++ decimal issued.prev ++ codes " version " ++ decimal issued.version
    ++ codes " ordinal " ++ decimal issued.ordinal ++ codes " " ++ fresh_text issued.fresh
answer_text input position (Acked rec raised changed) =
    decimal rec.version ++ codes " " ++ raised_text raised changed
    ++ codes " pos " ++ decimal position
answer_text input position Told = told_text input position
answer_text input position (Refused cause) = codes "refused " ++ refusal_text cause

-- the word that a script has for an act
abbrev pub act_text : Act → List ℕ
act_text (Grv opts) = codes "grv"
act_text (Ask processed at) = codes "ask"
act_text (Reask num processed at) = codes "reask"
act_text (Report num locked metadata min_known) = codes "report"
act_text (Tell to) = codes "tell"

-- The reply to a command: round, client, number, word and answer. The number is that in the round.
abbrev pub reply_text : ℕ → ℕ → ℕ → Act → Call → List ℕ
reply_text round client number act call =
    decimal round ++ codes " " ++ decimal client ++ codes " " ++ decimal number ++ codes " "
    ++ act_text act ++ codes " " ++ answer_text call.input call.position call.answer

-- whether a call learnt what another client had seen, which nobody commands
abbrev pub is_learn : Input → Bool
is_learn (input.Grv opts) = false
is_learn (input.Ask num processed at) = false
is_learn (input.Report num locked metadata min_known) = false
is_learn (input.Tell to) = false
is_learn (input.Learn from) = true

-- the calls that answer commands: all but those that learn
abbrev pub replies_of : List Call → List Call
replies_of calls = filter (λ call. not (is_learn call.input)) calls

-- The replies to a client's commands of a round. They are those from this number on; its calls are
-- the answers, in order.
abbrev pub client_lines : ℕ → ℕ → ℕ → List Command → List Call → List ℕ
client_lines round client number [] calls = []
client_lines round client number (command ∷ commands) [] = []
client_lines round client number (command ∷ commands) (call ∷ calls) =
    if command.client == client
    then line (reply_text round client number command.act call)
    ++ client_lines round client (number + 1) commands calls
    else client_lines round client (number + 1) commands (call ∷ calls)

-- the replies of a round, by client from this one on
abbrev pub round_lines : ℕ → ℕ → List Command → List (List Call) → List ℕ
round_lines round client commands [] = []
round_lines round client commands (calls ∷ others) =
    client_lines round client 0 commands calls ++ round_lines round (client + 1) commands others

-- the calls that are left of each client after a round
abbrev pub calls_after : ℕ → List Command → List (List Call) → List (List Call)
calls_after client commands [] = []
calls_after client commands (calls ∷ others) =
    drop (count_by (λ command. command.client == client) commands) calls
    ∷ calls_after (client + 1) commands others

-- the replies of the rounds from this one on
abbrev pub reply_lines : ℕ → List (List Command) → List (List Call) → List ℕ
reply_lines round [] logs = []
reply_lines round (commands ∷ rounds) logs =
    round_lines round 0 commands logs
    ++ reply_lines (round + 1) rounds (calls_after 0 commands logs)

-- the audit line with its counts: of events, of raises among them, and of commit versions
abbrev pub counts_text : ℕ → ℕ → ℕ → List ℕ
counts_text events raised versions =
    codes "audit ok events " ++ decimal events ++ codes " raised " ++ decimal raised
    ++ codes " versions " ++ decimal versions

-- the audit line of a history, beside so many commit versions
abbrev pub audit_text : List Event → ℕ → List ℕ
audit_text events versions = counts_text (length events) (raise_count events) versions

-- the line of an event, read or report, with its place in the history
abbrev pub history_text : ℕ → Event → List ℕ
history_text number (event.Read client call rec) =
    codes "history " ++ decimal number ++ codes " client " ++ decimal client ++ codes " call "
    ++ decimal call ++ codes " read " ++ record_text rec
history_text number (event.Report client call rec raised changed) =
    codes "history " ++ decimal number ++ codes " client " ++ decimal client ++ codes " call "
    ++ decimal call ++ codes " report " ++ record_text rec ++ codes " "
    ++ raised_text raised changed

-- The history's lines, from this place on.
abbrev pub history_lines : ℕ → List Event → List ℕ
history_lines number [] = []
history_lines number (event ∷ events) =
    line (history_text number event) ++ history_lines (number + 1) events

-- The audit line, and the history where it is wanted. That is what an audit found in logs without a
-- fault.
abbrev pub verdict_text : List Event → ℕ → Bool → List ℕ
verdict_text events versions with_history =
    line (audit_text events versions) ++ (if with_history then history_lines 0 events else [])

-- The whole text: the replies, and the audit's verdict. The replies go by round, client and
-- command.
abbrev pub text : Plan → Outcome → Bool → List ℕ
text plan outcome with_history =
    reply_lines 0 plan.rounds (map (λ log. replies_of log.calls) outcome.logs.items)
    ++ verdict_text outcome.history.events (length outcome.chain.items) with_history
