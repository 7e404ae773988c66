-- From the logs to their events: what each call keeps to, each event keeps to; whose events they are; and the
-- changes of both.
use Rattle.std.proofs.Common.{◌≡◌, ℕ, zero, suc, ◌+◌, ◌<◌, ◌≤◌, ◌==◌, ◌&&◌, Bool, true, false, IsTrue, List, [], ◌∷◌, ◌++◌, map, length, take, filter, flat_map, slice_get, option_to_list, Some, refl, ap, sym, ◌∙◌, append-nil, inl, inr, arith, le_trans}
use Rattle.std.specs.List.{AllByRecursion}
use Rattle.std.proofs.lemmas.Grind.{common_steps}
use Rattle.std.proofs.lemmas.Bool.Decides.{nat_tests}
use Rattle.std.proofs.lemmas.Bool.{eq-eqb, ne_eqb, cases_eq, cases_lt, cases_Bool, false≢true}
use Rattle.std.proofs.lemmas.List.Elements.{filter-append, filter_passes, recursion_from_All}
use Rattle.std.proofs.lemmas.List.Concat.{flat_map-append}
use Rattle.fdb_history.specs.Event.{is_change}
use Rattle.fdb_history.specs.Explained.{placed_in}
use Rattle.fdb_history.specs.Faults.{at_position, change_in, changes_in, changes_at, OutOfOrder, Nowhere}
use Rattle.fdb_history.specs.Linear.{GoesForward, NeverGoesBack, client_of}
use Rattle.fdb_history.specs.Log.{event_of_answer, placed_from, calls_of, answer_changes, position_after_calls}
use Rattle.fdb_history.specs.private.Explaining.{change_of_event, changes_of}
use Rattle.fdb_history.specs.declared.auditing.registers.PlacedChange.{PlacedChange}
use Rattle.fdb_history.specs.declared.register.Event.{Event}
use Rattle.fdb_history.specs.declared.register.Event.TheVariants.{Report, Read}
use Rattle.fdb_history.specs.declared.register.Placed.{Placed}
use Rattle.fdb_history.specs.declared.log.Call.{Call}
use Rattle.fdb_history.specs.declared.log.CallAnswer.{CallAnswer}
use Rattle.fdb_history.specs.declared.log.CallAnswer.TheVariants.{Version, Acked}
use Rattle.fdb_history.specs.declared.log.ClientLog.{ClientLog}
use Rattle.fdb_history.proofs.Lists.{filter_all, filter_none}
use Rattle.fdb_history.proofs.faultless.Ranks.{changes_to, Climbing, events_of}

-- ---- each call, and each event

-- the events of one call, at most one
abbrev pub placed_call : ℕ → ℕ → ℕ → CallAnswer → List Placed
placed_call client place position answer = map (λ event. record { event = event; position = position }) (option_to_list (event_of_answer client place answer))

-- a statement of each client's calls is one of each log
pub every_log : (P : List Call → Type 0) (logs : List ClientLog) → ((client : ℕ) → P (calls_of logs client)) → AllByRecursion (λ log. P log.calls) logs
every_log P [] each = tt
every_log P (log ∷ logs) each = (each 0, every_log P logs (λ client. each (suc client)))

-- a statement of the call at each place of a log is one of each call of it
pub every_in : (P : Call → Type 0) (calls : List Call) → ((place : ℕ) (call : Call) → slice_get calls place ≡ Some call → P call) → AllByRecursion P calls
every_in P [] each = tt
every_in P (call ∷ calls) each = (each 0 call refl, every_in P calls (λ place. each (suc place)))

-- a statement of the call at each place is one of each call
pub every_call : (P : Call → Type 0) (logs : List ClientLog) → ((client place : ℕ) (call : Call) → slice_get (calls_of logs client) place ≡ Some call → P call)
    → AllByRecursion (λ log. AllByRecursion P log.calls) logs
every_call P logs each = every_log (AllByRecursion P) logs (λ client. every_in P (calls_of logs client) (each client))

-- what is so of two lists is so of both in a row
append_all : (Q : Placed → Type 0) (xs ys : List Placed) → AllByRecursion Q xs → AllByRecursion Q ys → AllByRecursion Q (xs ++ ys)
append_all Q [] ys a b = b
append_all Q (x ∷ xs) ys a b = (a.0, append_all Q xs ys a.1 b)

-- what a call's event keeps to where the call keeps to something
abbrev pub Passes : ℕ → (ℕ → CallAnswer → Type 0) → (Placed → Type 0) → Type 0
Passes client P Q = (place position : ℕ) (answer : CallAnswer) → P position answer → AllByRecursion Q (placed_call client place position answer)

-- a statement of each call of a log is one of each of its events
pub every_from : (P : ℕ → CallAnswer → Type 0) (Q : Placed → Type 0) (client place : ℕ) (calls : List Call) → Passes client P Q
    → AllByRecursion (λ call. P call.position call.answer) calls → AllByRecursion Q (placed_from client place calls)
every_from P Q client place [] passes each = tt
every_from P Q client place (call ∷ calls) passes each =
    append_all Q (placed_call client place call.position call.answer) (placed_from client (place + 1) calls)
    (passes place call.position call.answer each.0) (every_from P Q client (place + 1) calls passes each.1)

-- a statement of each call is one of each event
pub every_placed : (P : ℕ → CallAnswer → Type 0) (Q : Placed → Type 0) → ((client : ℕ) → Passes client P Q) → (client : ℕ) (logs : List ClientLog)
    → AllByRecursion (λ log. AllByRecursion (λ call. P call.position call.answer) log.calls) logs → AllByRecursion Q (placed_in client logs)
every_placed P Q passes client [] each = tt
every_placed P Q passes client (log ∷ logs) each =
    append_all Q (placed_from client 0 log.calls) (placed_in (client + 1) logs)
    (every_from P Q client 0 log.calls (passes client) each.0) (every_placed P Q passes (client + 1) logs each.1)

-- what a bound on its position gives of an event, a bound on the call's gives
pub passes_bound : (Q : Placed → Type 0) (bound client : ℕ) → ((p : Placed) → p.position ≤ bound → Q p) → Passes client (λ position answer. position ≤ bound) Q
passes_bound Q bound client holds place position (Version rec limits locked_out) within = (holds (record { event = Read client place rec; position = position }) within, tt)
passes_bound Q bound client holds place position (Acked rec raised changed) within = (holds (record { event = Report client place rec raised changed; position = position }) within, tt)
passes_bound Q bound client holds place position _ within = tt

-- ---- whose events they are

-- whether it is this client's event
abbrev pub is_of : ℕ → Placed → Bool
is_of client p = client_of p.event == client

-- a call's event is of its client
passes_own : (who client : ℕ) (own : Bool) → (who == client) ≡ own → Passes who (λ position answer. Unit {0}) (λ p. is_of client p ≡ own)
passes_own who client own is place position (Version rec limits locked_out) all = (is, tt)
passes_own who client own is place position (Acked rec raised changed) all = (is, tt)
passes_own who client own is place position _ all = tt

-- and so are all of a log
own_from : (who client place : ℕ) (calls : List Call) (own : Bool) → (who == client) ≡ own → AllByRecursion (λ p. is_of client p ≡ own) (placed_from who place calls)
own_from who client place calls own is =
    every_from (λ position answer. Unit {0}) (λ p. is_of client p ≡ own) who place calls (passes_own who client own is) (every_in (λ call. Unit {0}) calls (λ place call at. tt))

-- a log's events are no other client's
other_from : (client from : ℕ) (log : ClientLog) (logs : List ClientLog) → (from ≡ client → ⊥) → filter (is_of client) (placed_in from (log ∷ logs)) ≡ filter (is_of client) (placed_in (from + 1) logs)
other_from client from log logs apart =
    filter-append (is_of client) (placed_from from 0 log.calls) (placed_in (from + 1) logs)
    ∙ ap (λ l. l ++ filter (is_of client) (placed_in (from + 1) logs)) (filter_none (is_of client) (placed_from from 0 log.calls) (own_from from client 0 log.calls false (ne_eqb from client apart)))

-- a client before all of the logs has no event there
none_after : (client from : ℕ) (logs : List ClientLog) → client < from → filter (is_of client) (placed_in from logs) ≡ []
none_after client from [] below = refl
none_after client from (log ∷ logs) below = other_from client from log logs (λ same. omega arith) ∙ none_after client (from + 1) logs (omega arith)

-- the events of a client among all are those of its own log
pub own_in : (client from i : ℕ) (logs : List ClientLog) → client ≡ from + i → filter (is_of client) (placed_in from logs) ≡ placed_from client 0 (calls_of logs i)
own_in client from i [] is = refl
own_in client from zero (log ∷ logs) is =
    let same : from ≡ client = omega arith in
    filter-append (is_of client) (placed_from from 0 log.calls) (placed_in (from + 1) logs)
    ∙ ap (λ l. l ++ filter (is_of client) (placed_in (from + 1) logs)) (filter_all (is_of client) (placed_from from 0 log.calls) (own_from from client 0 log.calls true (eq-eqb from client same)))
    ∙ ap (λ l. placed_from from 0 log.calls ++ l) (none_after client (from + 1) logs (omega arith))
    ∙ append-nil (placed_from from 0 log.calls) ∙ ap (λ who. placed_from who 0 log.calls) same
own_in client from (suc i) (log ∷ logs) is = other_from client from log logs (λ same. omega arith) ∙ own_in client (from + 1) i logs (omega arith)

-- a client's events are those of its placed events
pub filter-events : (client : ℕ) (all : List Placed) → filter (λ event. client_of event == client) (events_of all) ≡ events_of (filter (is_of client) all)
filter-events client [] = refl
filter-events client (p ∷ all) =
    let rest = filter-events client all in
    elim (cases_Bool (client_of p.event == client)) [ inl own ↦ simp own (ap (λ l. p.event ∷ l) rest) | inr other ↦ simp other rest ]

-- ---- the order of a log

-- no call is out of order, counted from a position
never_back : (before : ℕ) (calls : List Call)
    → ((place : ℕ) (call : Call) → slice_get calls place ≡ Some call
    → (GoesForward (position_after_calls before (take place calls)) call → ⊥) → ⊥)
    → NeverGoesBack before calls
never_back before [] none = tt
never_back before (call ∷ calls) none =
    let no = none 0 call refl in
    let from : before ≤ call.asked = elim (cases_lt call.asked before) [ inl below ↦ absurd (no (λ forward. omega (arith, forward.0))) | inr least ↦ least ] in
    let to : call.asked ≤ call.position = elim (cases_lt call.position call.asked) [ inl below ↦ absurd (no (λ forward. omega (arith, forward.1))) | inr least ↦ least ] in (
      (from, to, λ up. elim (cases_eq call.position call.asked) [ inl same ↦ absurd (no (λ forward. omega (arith, forward.2 up))) | inr apart ↦ omega arith ]),
      never_back call.position calls (λ place. none (suc place)),
    )

-- no client's calls are out of order
pub client_in_order : (logs : List ClientLog) → Nowhere (OutOfOrder logs) → (client : ℕ) → NeverGoesBack 0 (calls_of logs client)
client_in_order logs order client = never_back 0 (calls_of logs client) (λ place call at out. order client place (call, at, out))

-- a list that climbs from a position climbs from each below it
climbs_below : (before later : ℕ) (all : List Placed) → before ≤ later → Climbing later all → Climbing before all
climbs_below before later [] below climbs = tt
climbs_below before later (p ∷ all) below climbs = (le_trans below climbs.0, λ up. omega (arith, climbs.1 up), climbs.2)

-- a call's event, and then what climbs from its position
climbing_call : (client place before position : ℕ) (answer : CallAnswer) (all : List Placed) → before ≤ position → (IsTrue (answer_changes answer) → before < position) → Climbing position all
    → Climbing before (placed_call client place position answer ++ all)
climbing_call client place before position (Version rec limits locked_out) all least up climbs = (least, λ e. absurd (false≢true e), climbs)
climbing_call client place before position (Acked rec raised changed) all least up climbs = (least, up, climbs)
climbing_call client place before position _ all least up climbs = climbs_below before position all least climbs

-- the events of a log that never goes back climb
pub climbing : (client place before : ℕ) (calls : List Call) → NeverGoesBack before calls → Climbing before (placed_from client place calls)
climbing client place before [] order = tt
climbing client place before (call ∷ calls) order =
    climbing_call client place before call.position call.answer (placed_from client (place + 1) calls) (le_trans order.0.0 order.0.1) (λ up. omega (arith, order.0.0, order.0.2 up))
    (climbing client (place + 1) call.position calls order.1)

-- ---- the changes

-- the changes of a log's calls are those of its events
changes-from : (client place : ℕ) (calls : List Call) → flat_map (λ call. change_in call.position call.answer) calls ≡ changes_of (placed_from client place calls)
changes-from client place [] = refl
changes-from client place (call ∷ calls) = grind (arith, common_steps, nat_tests, changes-from client (place + 1) calls)

-- the changes in the logs are those among their events
changes-in : (client : ℕ) (logs : List ClientLog) → changes_in logs ≡ changes_of (placed_in client logs)
changes-in client [] = refl
changes-in client (log ∷ logs) =
    ap (λ l. l ++ changes_in logs) (changes-from client 0 log.calls) ∙ ap (λ l. changes_of (placed_from client 0 log.calls) ++ l) (changes-in (client + 1) logs)
    ∙ sym (flat_map-append (λ p. change_of_event p.position p.event) (placed_from client 0 log.calls) (placed_in (client + 1) logs))

-- the changes at a position are those of the events that change there
pub changes-to : (position : ℕ) (all : List Placed) → at_position position (changes_of all) ≡ changes_of (changes_to position all)
changes-to position [] = refl
changes-to position (p ∷ all) = by p.position p.event (changes-to position all)
  where
    by : (at : ℕ) (event : Event) → at_position position (changes_of all) ≡ changes_of (changes_to position all)
        → at_position position (change_of_event at event ++ changes_of all) ≡ changes_of (changes_to position (record { event = event; position = at } ∷ all))
    by at (Report client call rec raised true) rest =
        elim (cases_Bool (at == position)) [ inl here ↦ simp here (ap (λ l. record { position = at; rec = rec } ∷ l) rest) | inr other ↦ simp other rest ]
    by at (Report client call rec raised false) rest = rest
    by at (Read client call rec) rest = rest

-- the changes in the logs at a position are those among their events
pub changes-at : (logs : List ClientLog) (position : ℕ) → changes_at logs position ≡ changes_of (changes_to position (placed_in 0 logs))
changes-at logs position = ap (at_position position) (changes-in 0 logs) ∙ changes-to position (placed_in 0 logs)

-- as many changes as events that change
pub length-changes : (position : ℕ) (all : List Placed) → length (changes_of (changes_to position all)) ≡ length (changes_to position all)
length-changes position all =
    ones (changes_to position all) (recursion_from_All _ (changes_to position all) (filter_passes (λ p. is_change p.event && (p.position == position)) all))
  where
    one : (at : ℕ) (event : Event) (more : List PlacedChange) → (is_change event && (at == position)) ≡ true → length (change_of_event at event ++ more) ≡ suc (length more)
    one at (Report client call rec raised true) more up = refl
    one at _ more up = absurd (false≢true up)

    ones : (found : List Placed) → AllByRecursion (λ p. (is_change p.event && (p.position == position)) ≡ true) found → length (changes_of found) ≡ length found
    ones [] all = refl
    ones (p ∷ found) all = one p.position p.event (changes_of found) all.0 ∙ ap suc (ones found all.1)
