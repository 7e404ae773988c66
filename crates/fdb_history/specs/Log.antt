-- The log of a client, and the register's events in it. (all of this is this product's own)
use Rattle.std.specs.Prelude.{ℕ, ◌+◌, Bool, false, List, [], ◌∷◌, ◌++◌, map, Option, None, Some, option_to_list, slice_get, unwrap_or, filter}
use Rattle.std.specs.List.{flat_map}
use Rattle.std.specs.Option.{option_map}
use Rattle.fdb_history.specs.declared.register.Placed.{Placed}
use Rattle.fdb_history.specs.declared.chain.Issued.{Issued}
use Rattle.fdb_history.specs.declared.register.Event.{Event}
use Rattle.fdb_history.specs.declared.register.Event.TheVariants.{Report, Read}
use Rattle.fdb_history.specs.declared.log.Call.{Call}
use Rattle.fdb_history.specs.declared.log.CallAnswer.{CallAnswer}
use Rattle.fdb_history.specs.declared.log.CallAnswer.TheVariants.{Version, Answered, Acked, Told, Refused}
use Rattle.fdb_history.specs.declared.log.ClientLog.{ClientLog}

-- The register's event for an answered read or an acknowledged report. It is the event of the call
-- at this place of this client's log.
abbrev pub event_of_answer : ℕ → ℕ → CallAnswer → Option Event
event_of_answer client place (Version rec limits locked_out) = Some (Read client place rec)
event_of_answer client place (Acked rec raised changed) = Some (Report client place rec raised changed)
event_of_answer client place (Answered issued) = None
event_of_answer client place Told = None
event_of_answer client place (Refused cause) = None

-- A log's events with the positions of their calls. They are those from this place on, in the log's
-- order.
abbrev pub placed_from : ℕ → ℕ → List Call → List Placed
placed_from client place [] = []
placed_from client place (call ∷ calls) =
    map (λ event. record { event = event; position = call.position })
    (option_to_list (event_of_answer client place call.answer))
    ++ placed_from client (place + 1) calls

-- the calls of a client, none where there is no such log
abbrev pub calls_of : List ClientLog → ℕ → List Call
calls_of logs client = unwrap_or (option_map (λ log. log.calls) (slice_get logs client)) []

-- whether a call's answer says that it changed the register
abbrev pub answer_changes : CallAnswer → Bool
answer_changes (Version rec limits locked_out) = false
answer_changes (Acked rec raised changed) = changed
answer_changes (Answered issued) = false
answer_changes Told = false
answer_changes (Refused cause) = false

-- The position after some calls is that of the last. Where there is none, it is the position before
-- them.
abbrev pub position_after_calls : ℕ → List Call → ℕ
position_after_calls before [] = before
position_after_calls before (call ∷ calls) = position_after_calls call.position calls

-- The commit version in an answer, if it has one.
abbrev pub answer_in : CallAnswer → List Issued
answer_in (Version rec limits locked_out) = []
answer_in (Acked rec raised changed) = []
answer_in (Answered issued) = issued ∷ []
answer_in Told = []
answer_in (Refused cause) = []

-- The commit versions in some calls, in order.
abbrev pub answers_in : List Call → List Issued
answers_in calls = flat_map (λ call. answer_in call.answer) calls

-- The commit versions in some calls that were drawn for their call.
abbrev pub fresh_answers : List Call → List Issued
fresh_answers calls = filter (λ issued. issued.fresh) (answers_in calls)
