-- Logs that a history explains have no fault of the history: its events in the logs, and the changes at a position, are
-- those of the history, client by client.
use Rattle.std.proofs.Common.{◌≡◌, ℕ, zero, suc, ◌+◌, ◌<◌, ◌≤◌, true, false, List, [], ◌∷◌, length, take, Some, slice_get, refl, ap, sym, ◌∙◌, subst, inl, inr, arith, add-one, ◌⊎◌, ◌==◌, ◌&&◌, map, filter}
use Rattle.std.specs.List.{AllByRecursion}
use Rattle.std.proofs.lemmas.Grind.{common_steps}
use Rattle.std.proofs.lemmas.Bool.Decides.{nat_tests}
use Rattle.std.proofs.lemmas.Bool.{eq-eqb, ne_eqb, cases_eq, cases_lt}
use Rattle.std.proofs.lemmas.List.Elements.{All-filter, All-from_recursion, recursion_from_All}
use Rattle.std.proofs.lemmas.Option.{same_Some, none-some}
use Rattle.fdb_history.specs.Event.{stamped, change_count, is_change}
use Rattle.fdb_history.specs.Explained.{placed_in}
use Rattle.fdb_history.specs.Faults.{changes_at, register_at, IsWrongAnswer, IsFaultless}
use Rattle.fdb_history.specs.Linear.{GoesForward, IsLinear, NeverGoesBack, client_of}
use Rattle.fdb_history.specs.Log.{placed_from, calls_of, position_after_calls}
use Rattle.fdb_history.specs.private.Explaining.{changes_of}
use Rattle.fdb_history.specs.declared.register.Event.{Event}
use Rattle.fdb_history.specs.declared.register.Placed.{Placed}
use Rattle.fdb_history.specs.declared.log.Call.{Call}
use Rattle.fdb_history.specs.declared.log.CallAnswer.{CallAnswer}
use Rattle.fdb_history.specs.declared.log.CallAnswer.TheVariants.{Version, Acked}
use Rattle.fdb_history.specs.declared.log.ClientLog.{ClientLog}
use Rattle.fdb_history.specs.declared.register.Record.{Record}
use Rattle.fdb_history.proofs.Lists.{all_parts, all_at, of_client, kept, left_out, filter_swap}
use Rattle.fdb_history.proofs.explained.Stamps.{come_to-is, found, events-stamped, none_to}
use Rattle.fdb_history.proofs.faultless.Legal.{IsRight, legal_right}
use Rattle.fdb_history.proofs.faultless.Logs.{is_of, length-changes, placed_call, own_in, changes-at, filter-events}
use Rattle.fdb_history.proofs.faultless.Ranks.{changes_to, events_of}

-- ---- client by client

-- placed events are the same where their events and their positions are
same_placed : (xs ys : List Placed) → events_of xs ≡ events_of ys → map (λ p. p.position) xs ≡ map (λ p. p.position) ys → xs ≡ ys
same_placed [] [] events positions = refl
same_placed [] (y ∷ ys) events positions = absurd cc
same_placed (x ∷ xs) [] events positions = absurd cc
same_placed (x ∷ xs) (y ∷ ys) events positions = grind (arith, common_steps, nat_tests, same_placed xs ys (cc) (cc))

-- a client's stamps in the history are what is placed in its log
pub own_placed : (start : Record) (logs : List ClientLog) (history : List Event) → IsLinear start logs history → (client : ℕ)
    → filter (is_of client) (stamped 0 history) ≡ placed_from client 0 (calls_of logs client)
own_placed start logs history linear client =
    same_placed (filter (is_of client) (stamped 0 history)) (placed_from client 0 (calls_of logs client))
    (sym (filter-events client (stamped 0 history)) ∙ ap (filter (λ event. client_of event == client)) (events-stamped 0 history) ∙ linear.complete client) (linear.placed client)

-- none, or a single one
abbrev pub AtMostOne : List Placed → Type 0
AtMostOne all = (all ≡ []) ⊎ ((p : Placed) × (all ≡ p ∷ []))

-- no two events change to one position
pub at_most_one : (position : ℕ) (events : List Event) → AtMostOne (changes_to position (stamped 0 events))
at_most_one position events =
    elim (cases_lt 0 position) [
      | inl above ↦ elim (found 0 position events above) [ inl none ↦ inl none.0 | inr one ↦ inr one ]
      | inr low ↦ inl (none_to 0 position events low)
    ]

-- a list without events of any client is empty
none_of : (xs : List Placed) → ((client : ℕ) → filter (is_of client) xs ≡ []) → xs ≡ []
none_of [] none = refl
none_of (x ∷ xs) none =
    let mine = kept (is_of (client_of x.event)) x xs (eq-eqb (client_of x.event) (client_of x.event) refl) in
    let here = none (client_of x.event) in
    absurd cc

-- a list with the events of one event, client by client, is that event
single : (xs : List Placed) (p : Placed) → ((client : ℕ) → filter (is_of client) xs ≡ filter (is_of client) (p ∷ [])) → xs ≡ p ∷ []
single [] p each =
    let mine = kept (is_of (client_of p.event)) p [] (eq-eqb (client_of p.event) (client_of p.event) refl) in
    let here = each (client_of p.event) in
    absurd cc
single (x ∷ xs) p each =
    let mine = kept (is_of (client_of x.event)) x xs (eq-eqb (client_of x.event) (client_of x.event) refl) in
    let here = each (client_of x.event) in
    elim (cases_eq (client_of p.event) (client_of x.event)) [
      | inr other ↦ let none = left_out (is_of (client_of x.event)) p [] (ne_eqb (client_of p.event) (client_of x.event) other) in absurd cc
      | inl same ↦
          let one = kept (is_of (client_of x.event)) p [] (eq-eqb (client_of p.event) (client_of x.event) same) in
          let first : x ≡ p = cc in
          let own : filter (is_of (client_of x.event)) xs ≡ [] = cc in
          let rest = none_of xs (λ client. elim (cases_eq (client_of x.event) client) [
            | inl is ↦ ap (λ k. filter (is_of k) xs) (sym is) ∙ own
            | inr apart ↦ sym (left_out (is_of client) x xs (ne_eqb (client_of x.event) client apart)) ∙ each client
                ∙ left_out (is_of client) p [] (ne_eqb (client_of p.event) client (λ e. apart (sym same ∙ e)))
          ]) in
          cc
    ]

-- so lists with the same events of each client, of which one has at most one event, are the same
same_one : (xs ys : List Placed) → AtMostOne ys → ((client : ℕ) → filter (is_of client) xs ≡ filter (is_of client) ys) → xs ≡ ys
same_one xs ys (inl none) each = none_of xs (λ client. each client ∙ ap (filter (is_of client)) none) ∙ sym none
same_one xs ys (inr (p, one)) each = single xs p (λ client. each client ∙ ap (filter (is_of client)) one) ∙ sym one

-- the changes to a position in the logs are those in the history
pub changes_in_history : (start : Record) (logs : List ClientLog) (history : List Event) → IsLinear start logs history → (position : ℕ)
    → changes_at logs position ≡ changes_of (changes_to position (stamped 0 history))
changes_in_history start logs history linear position =
    let test = λ (p : Placed). is_change p.event && (p.position == position) in
    changes-at logs position
    ∙ ap changes_of (same_one (changes_to position (placed_in 0 logs)) (changes_to position (stamped 0 history)) (at_most_one position history)
    (λ client. filter_swap (is_of client) test (placed_in 0 logs) ∙ ap (filter test) (own_in client 0 client logs (omega arith) ∙ sym (own_placed start logs history linear client))
    ∙ filter_swap test (is_of client) (stamped 0 history)))

-- ---- order

-- where calls never go back, each begins where the one before it ended or later, ends no earlier, and later where it changes
in_order : (before : ℕ) (calls : List Call) (place : ℕ) (call : Call) → NeverGoesBack before calls → slice_get calls place ≡ Some call
    → GoesForward (position_after_calls before (take place calls)) call
in_order before [] place call forward at = absurd (none-some call at)
in_order before (first ∷ calls) zero call forward at = subst (GoesForward before) (same_Some first call at) forward.0
in_order before (first ∷ calls) (suc place) call forward at = in_order first.position calls place call forward.1 at

-- ---- answers

-- an answer that the register gives is not wrong
right_answer : (start : Record) (logs : List ClientLog) (client place position : ℕ) (answer : CallAnswer)
    → AllByRecursion (IsRight (register_at start logs)) (placed_call client place position answer) → IsWrongAnswer start logs position answer → ⊥
right_answer start logs client place position (Version rec limits locked_out) right wrong = wrong right.0
right_answer start logs client place position (Acked rec raised true) right (inl up) = up right.0.0
right_answer start logs client place position (Acked rec raised true) right (inr changed) = changed right.0.1
right_answer start logs client place position (Acked rec raised false) right (inl up) = up right.0.0
right_answer start logs client place position (Acked rec raised false) right (inr changed) = changed right.0.1
right_answer start logs client place position _ right wrong = wrong

-- nor is any of a log
right_answers : (start : Record) (logs : List ClientLog) (client first : ℕ) (calls : List Call) (place : ℕ) (call : Call)
    → AllByRecursion (IsRight (register_at start logs)) (placed_from client first calls) → slice_get calls place ≡ Some call
    → IsWrongAnswer start logs call.position call.answer → ⊥
right_answers start logs client first [] place call right at = absurd (none-some call at)
right_answers start logs client first (one ∷ calls) zero call right at =
    let parts = all_parts (IsRight (register_at start logs)) (placed_call client first one.position one.answer) (placed_from client (first + 1) calls) right in
    subst (λ (c : Call). IsWrongAnswer start logs c.position c.answer → ⊥) (same_Some one call at) (right_answer start logs client first one.position one.answer parts.0)
right_answers start logs client first (one ∷ calls) (suc place) call right at =
    let parts = all_parts (IsRight (register_at start logs)) (placed_call client first one.position one.answer) (placed_from client (first + 1) calls) right in
    right_answers start logs client (first + 1) calls place call parts.1 at

-- ---- the whole

-- the logs have as many changes at a position as the history
same_count : (start : Record) (logs : List ClientLog) (history : List Event) → IsLinear start logs history → (position : ℕ)
    → length (changes_at logs position) ≡ length (changes_to position (stamped 0 history))
same_count start logs history linear position = ap length (changes_in_history start logs history linear position) ∙ length-changes position (stamped 0 history)

-- at most one is not two
not_two : (found : List Placed) → AtMostOne found → 1 < length found → ⊥
not_two found (inl none) two = let size = ap length none in absurd (omega arith)
not_two found (inr (p, one)) two = let size = ap length one in absurd (omega arith)

-- logs that a history explains are without a fault of the history
pub faultless : (start : Record) (logs : List ClientLog) (history : List Event) → IsLinear start logs history → IsFaultless start logs
faultless start logs history linear =
    record {
      order = λ client place stands.
          stands.2 (in_order 0 (calls_of logs client) place stands.0 (of_client (NeverGoesBack 0) tt logs client linear.ordered) stands.1);
      clash = λ position clash.
          not_two (changes_to position (stamped 0 history)) (at_most_one position history) (rw (← same_count start logs history linear position) clash);
      gap = λ position gap.
          let (client, place, call, at, most) = gap.2 in
          let within = all_at (λ call. call.position ≤ change_count history) (calls_of logs client) place call
          (of_client (AllByRecursion (λ call. call.position ≤ change_count history)) tt logs client linear.bounded) at in
          let none = ap length gap.1 in
          let same = same_count start logs history linear position in
          elim (found 0 position history gap.0) [
            | inl beyond ↦ let come = come_to-is 0 history in omega (arith, beyond.1)
            | inr one ↦ let size = ap length one.1 in omega arith
          ];
      wrong = λ client place stands.
          let right = (legal_right (register_at start logs) (changes_at logs) (λ p. rw add-one refl) 0 history (λ p above. changes_in_history start logs history linear p)).0 linear.legal in
          let R = IsRight (register_at start logs) in
          right_answers start logs client 0 (calls_of logs client) place stands.0
          (subst (AllByRecursion R) (own_placed start logs history linear client)
          (recursion_from_All R _ (All-filter (is_of client) R (stamped 0 history) (All-from_recursion R (stamped 0 history) right))))
          stands.1 stands.2;
    }
