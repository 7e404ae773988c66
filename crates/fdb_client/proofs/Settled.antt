-- The logs of all clients, beside one list of changes that all their tokens have seen.
use Rattle.std.proofs.Common.{◌≡◌, ℕ, zero, suc, ◌+◌, ◌-◌, ◌<◌, ◌≤◌, ◌==◌, Bool, true, false, List, [], ◌∷◌, map, ◌++◌, length, Option, None, Some, if◌then◌else◌, refl, sym, ap, ◌∙◌, arith, slice_get, take, subst, inl, inr, length-append, append_assoc}
use Rattle.std.specs.Prelude.{All, nat_lt}
use Rattle.std.specs.List.{AllByRecursion, flat_map}
use Rattle.std.proofs.lemmas.Bool.{cases_lt}
use Rattle.std.proofs.lemmas.Bool.Decides.{nat_tests}
use Rattle.std.proofs.lemmas.Grind.{flat_map-append}
use Rattle.std.proofs.lemmas.List.{append-nil}
use Rattle.std.proofs.lemmas.List.Elements.{All-head, All-tail, filter-append}
use Rattle.std.proofs.lemmas.Option.{same_Some, slice_get_within}
use mathlib.Core.List.{IsPrefix}
use Rattle.fdb_history.specs.Audit.{Low}
use Rattle.fdb_history.specs.Faults.{Nowhere, change_in, changes_in, changes_at, at_position, register_at, IsFaultless, OutOfOrder, WronglyAnswered, IsClash, IsGap}
use Rattle.fdb_history.specs.Laws.{HasMinimumWithin, HaveMinimaWithin}
use Rattle.fdb_history.specs.Linear.{GoesForward, NeverGoesBack}
use Rattle.fdb_history.specs.Log.{answer_changes, calls_of, position_after_calls}
use Rattle.fdb_history.specs.Register.{after_report, after_reports}
use Rattle.fdb_history.specs.declared.auditing.registers.PlacedChange.{PlacedChange}
use Rattle.fdb_history.specs.declared.chain.Issued.{Issued}
use Rattle.fdb_history.specs.declared.log.Call.{Call}
use Rattle.fdb_history.specs.declared.log.CallAnswer.{CallAnswer}
use Rattle.fdb_history.specs.declared.log.CallAnswer.TheVariants.{Version, Acked, Answered, Told, Refused}
use Rattle.fdb_history.specs.declared.log.ClientLog.{ClientLog}
use Rattle.fdb_history.specs.declared.register.Record.{Record}
use Rattle.fdb_live.specs.Gathering.{AreNumbered, HasCaughtUp}
use Rattle.fdb_live.specs.Seen.{Sight, changed_by, last_record, own_among}
use Rattle.fdb_live.specs.declared.view.Change.{Change}
use Rattle.fdb_client.specs.Account.{Account}
use Rattle.fdb_client.specs.Agreeing.{Agrees, AgreesAt, IsMade, changed_positions, record_at}
use Rattle.fdb_client.specs.Settling.{AllAgree}
use Rattle.fdb_client.proofs.Chains.{at_each, at_place}
use Rattle.fdb_client.proofs.Agreements.{all_alike, comes_to, low_alike, wrong_alike}

-- ---- the changes of one client

-- a change at a position, if there is one
abbrev pub entry : ℕ → Option Change → List PlacedChange
entry position None = []
entry position (Some change) = record { position = position; rec = change.rec } ∷ []

-- the changes of a list at some positions, the first of which is 1
abbrev pub placed_at : List Change → List ℕ → List PlacedChange
placed_at log positions = flat_map (λ position. entry position (slice_get log (position - 1))) positions

-- the changes of a list that carry a number, each at its place, the first being `at`
abbrev pub placed_by : ℕ → ℕ → List Change → List PlacedChange
placed_by number at [] = []
placed_by number at (r ∷ rs) = if r.reporter == number then (record { position = at; rec = r.rec } ∷ placed_by number (at + 1) rs) else placed_by number (at + 1) rs

placed_own : (number : ℕ) (front log : List Change) → placed_at (front ++ log) (changed_by number (length front + 1) log) ≡ placed_by number (length front + 1) log
placed_own number front [] = refl
placed_own number front (r ∷ log) = own (r.reporter == number)
    (subst (λ (n : ℕ). placed_at (front ++ r ∷ log) (changed_by number (n + 1) log) ≡ placed_by number (n + 1) log) (length-append front (r ∷ []))
    (subst (λ (l : List Change). placed_at l (changed_by number (length (front ++ r ∷ []) + 1) log) ≡ placed_by number (length (front ++ r ∷ []) + 1) log) (append_assoc front (r ∷ []) log)
    (placed_own number (front ++ r ∷ []) log)))
  where
    at : ℕ
    at = length front + 1

    here : entry at (slice_get (front ++ r ∷ log) (at - 1)) ≡ record { position = at; rec = r.rec } ∷ []
    here = let place : at - 1 ≡ length front = omega arith in ap (entry at) (ap (slice_get (front ++ r ∷ log)) place ∙ at_place front r log)

    own : (b : Bool) → placed_at (front ++ r ∷ log) (changed_by number (at + 1) log) ≡ placed_by number (at + 1) log
        → placed_at (front ++ r ∷ log) (if b then (at ∷ changed_by number (at + 1) log) else changed_by number (at + 1) log)
        ≡ (if b then (record { position = at; rec = r.rec } ∷ placed_by number (at + 1) log) else placed_by number (at + 1) log)
    own true rest = cc (here, rest)
    own false rest = rest

abbrev pub changes_of : List Call → List PlacedChange
changes_of calls = flat_map (λ call. change_in call.position call.answer) calls

one_made : (number : ℕ) (log : List Change) (position : ℕ) (answer : CallAnswer) → IsMade number log position answer
    → change_in position answer ≡ placed_at log (if answer_changes answer then position ∷ [] else [])
one_made number log position (Version rec limits locked_out) made = refl
one_made number log position (Acked rec raised true) made = sym (ap (λ found. entry position found ++ []) made)
one_made number log position (Acked rec raised false) made = refl
one_made number log position (Answered issued) made = refl
one_made number log position Told made = refl
one_made number log position (Refused cause) made = refl

-- the changes in a client's calls are those of the list at the positions that its calls say
all_made : (start : Record) (number : ℕ) (log : List Change) (calls : List Call) → AllByRecursion (AgreesAt start number log) calls → changes_of calls ≡ placed_at log (changed_positions calls)
all_made start number log [] each = refl
all_made start number log (call ∷ calls) each =
    let here = one_made number log call.position call.answer each.0.made in
    let rest = all_made start number log calls each.1 in
    ap (λ first. first ++ changes_of calls) here ∙ (ap (λ more. placed_at log (if answer_changes call.answer then call.position ∷ [] else []) ++ more) rest
    ∙ sym (flat_map-append (λ position. entry position (slice_get log (position - 1))) (if answer_changes call.answer then call.position ∷ [] else []) (changed_positions calls)))

-- a client of which all is said beside the whole list
abbrev account_of : ℕ → List Call → List Change → Account
account_of number calls log = record { number = number; begun = 0; calls = calls; answers = []; changes = log }

-- what agrees with a list of changes does so whatever answers were seen
pub whatever : (start : Record) (number : ℕ) (calls : List Call) (these those : List Issued) (log : List Change) → Agrees start (record { number = number; begun = 0; calls = calls; answers = these; changes = log })
    → Agrees start (record { number = number; begun = 0; calls = calls; answers = those; changes = log })
whatever start number calls these those log agrees = record { own = agrees.own; order = agrees.order; come_to = agrees.come_to; each = agrees.each }

pub changes_by : (start : Record) (number : ℕ) (calls : List Call) (log : List Change) → Agrees start (account_of number calls log) → changes_of calls ≡ placed_by number 1 log
changes_by start number calls log agrees =
    all_made start number log calls agrees.each ∙ (ap (placed_at log) (sym agrees.own) ∙ placed_own number [] log)

-- What agrees with a list agrees with a longer one in which its client owns no more.
pub agrees_more : (start : Record) (number : ℕ) (calls : List Call) (log whole : List Change) → Agrees start (account_of number calls log) → IsPrefix log whole
    → changed_by number 1 whole ≡ changed_by number 1 log → Agrees start (account_of number calls whole)
agrees_more start number calls log whole agrees (more, is) own =
    let come = agrees.come_to in
    let longer : length log + length more ≡ length whole = sym (length-append log more) ∙ ap length is in record {
      own = own ∙ agrees.own;
      order = agrees.order;
      come_to = omega arith;
      each = subst (λ l. AllByRecursion (AgreesAt start number l) calls) is (all_alike start number 0 log more calls agrees.order come agrees.each);
    }

-- ---- the changes of all clients

-- the changes that carry the numbers from `first` on, of so many
abbrev pub spread : ℕ → ℕ → ℕ → List Change → List PlacedChange
spread first zero at log = []
spread first (suc count) at log = placed_by first at log ++ spread (first + 1) count at log

pub all_spread : (first : ℕ) (logs : List ClientLog) (log : List Change)
    → ((k : ℕ) (one : ClientLog) → slice_get logs k ≡ Some one → changes_of one.calls ≡ placed_by (first + k) 1 log)
    → changes_in logs ≡ spread first (length logs) 1 log
all_spread first [] log each = refl
all_spread first (one ∷ logs) log each =
    let here : changes_of one.calls ≡ placed_by first 1 log = each 0 one refl ∙ ap (λ n. placed_by n 1 log) (omega arith) in
    let rest = all_spread (first + 1) logs log (λ k other is. each (suc k) other is ∙ ap (λ n. placed_by n 1 log) (omega arith)) in
    cc (here, rest)

at_by_first : (number at position : ℕ) (r : Change) (log : List Change)
    → at_position position (placed_by number at (r ∷ log)) ≡ (if r.reporter == number then at_position position (record { position = at; rec = r.rec } ∷ []) else []) ++ at_position position (placed_by number (at + 1) log)
at_by_first number at position r log = go (r.reporter == number)
  where
    one : PlacedChange
    one = record { position = at; rec = r.rec }

    go : (b : Bool) → at_position position (if b then (one ∷ placed_by number (at + 1) log) else placed_by number (at + 1) log)
        ≡ (if b then at_position position (one ∷ []) else []) ++ at_position position (placed_by number (at + 1) log)
    go true = filter-append (λ change. change.position == position) (one ∷ []) (placed_by number (at + 1) log)
    go false = refl

-- one change at a position is there or not
at_one : (at position : ℕ) (rec : Record) (b : Bool) → (at == position) ≡ b → at_position position (record { position = at; rec = rec } ∷ []) ≡ (if b then record { position = at; rec = rec } ∷ [] else [])
at_one at position rec b is = ap (λ c. if c then record { position = at; rec = rec } ∷ [] else []) is

-- none before the first, whether that is of this number or not
before_first : (b : Bool) (at position : ℕ) (rec : Record) (rest : List PlacedChange) → (at == position) ≡ false
    → (if b then at_position position (record { position = at; rec = rec } ∷ []) else []) ++ at_position position rest ≡ at_position position rest
before_first true at position rec rest other = ap (λ xs. xs ++ at_position position rest) (at_one at position rec false other)
before_first false at position rec rest other = refl

none_below : (number at position : ℕ) (log : List Change) → position < at → at_position position (placed_by number at log) ≡ []
none_below number at position [] below = refl
none_below number at position (r ∷ log) below =
    at_by_first number at position r log
    ∙ (before_first (r.reporter == number) at position r.rec (placed_by number (at + 1) log) (grind (arith, nat_tests))
    ∙ none_below number (at + 1) position log (omega arith))

-- what one of several numbers has, where it is the reporter's
abbrev pub one_of : ℕ → ℕ → ℕ → List PlacedChange → List PlacedChange
one_of reporter first zero xs = []
one_of reporter first (suc count) xs = (if reporter == first then xs else []) ++ one_of reporter (first + 1) count xs

one_past : (reporter first count : ℕ) (xs : List PlacedChange) → reporter < first → one_of reporter first count xs ≡ []
one_past reporter first zero xs past = refl
one_past reporter first (suc count) xs past =
    let other : (reporter == first) ≡ false = grind (arith, nat_tests) in
    ap (λ b. (if b then xs else []) ++ one_of reporter (first + 1) count xs) other ∙ one_past reporter (first + 1) count xs (omega arith)

one_here : (b : Bool) (reporter first count : ℕ) (xs : List PlacedChange) → (reporter == first) ≡ b
    → ((reporter == first) ≡ false → one_of reporter (first + 1) count xs ≡ xs) → (if b then xs else []) ++ one_of reporter (first + 1) count xs ≡ xs
one_here true reporter first count xs is rest =
    let past : reporter < first + 1 = grind (arith, nat_tests) in
    ap (λ more. xs ++ more) (one_past reporter (first + 1) count xs past) ∙ append-nil xs
one_here false reporter first count xs is rest = rest is

one_found : (reporter first count : ℕ) (xs : List PlacedChange) → first ≤ reporter → reporter < first + count → one_of reporter first count xs ≡ xs
one_found reporter first zero xs least most = absurd (omega arith)
one_found reporter first (suc count) xs least most =
    one_here (reporter == first) reporter first count xs refl (λ other. one_found reporter (first + 1) count xs (grind (arith, nat_tests)) (omega arith))

first_here : (b : Bool) (at : ℕ) (rec : Record) (rest : List PlacedChange) → at_position at rest ≡ []
    → (if b then at_position at (record { position = at; rec = rec } ∷ []) else []) ++ at_position at rest ≡ (if b then record { position = at; rec = rec } ∷ [] else [])
first_here true at rec rest none =
    let same : (at == at) ≡ true = grind (arith, nat_tests) in
    ap (λ xs. xs ++ at_position at rest) (at_one at at rec true same) ∙ ap (λ more. (record { position = at; rec = rec } ∷ []) ++ more) none
first_here false at rec rest none = none

at_first : (first count at : ℕ) (r : Change) (log : List Change) → at_position at (spread first count at (r ∷ log)) ≡ one_of r.reporter first count (record { position = at; rec = r.rec } ∷ [])
at_first first zero at r log = refl
at_first first (suc count) at r log =
    let here = at_by_first first at at r log ∙ first_here (r.reporter == first) at r.rec (placed_by first (at + 1) log) (none_below first (at + 1) at log (omega arith)) in
    let rest = at_first (first + 1) count at r log in
    filter-append (λ change. change.position == at) (placed_by first at (r ∷ log)) (spread (first + 1) count at (r ∷ log)) ∙ cc (here, rest)

at_later : (first count at position : ℕ) (r : Change) (log : List Change) → at < position → at_position position (spread first count at (r ∷ log)) ≡ at_position position (spread first count (at + 1) log)
at_later first zero at position r log later = refl
at_later first (suc count) at position r log later =
    let here = at_by_first first at position r log ∙ before_first (r.reporter == first) at position r.rec (placed_by first (at + 1) log) (grind (arith, nat_tests)) in
    let rest = at_later (first + 1) count at position r log later in
    filter-append (λ change. change.position == position) (placed_by first at (r ∷ log)) (spread (first + 1) count at (r ∷ log))
    ∙ (cc (here, rest) ∙ sym (filter-append (λ change. change.position == position) (placed_by first (at + 1) log) (spread (first + 1) count (at + 1) log)))

spread_none : (first count at : ℕ) → spread first count at [] ≡ []
spread_none first zero at = refl
spread_none first (suc count) at = spread_none (first + 1) count at

none_spread : (first count at position : ℕ) (log : List Change) → position < at → at_position position (spread first count at log) ≡ []
none_spread first zero at position log below = refl
none_spread first (suc count) at position log below =
    filter-append (λ change. change.position == position) (placed_by first at log) (spread (first + 1) count at log)
    ∙ cc (none_below first at position log below, none_spread (first + 1) count at position log below)

-- a change, and each of some, is by one of so many numbers
abbrev IsBy : ℕ → ℕ → Change → Type 0
IsBy first count r = (first ≤ r.reporter) × (r.reporter < first + count)

abbrev AreBy : ℕ → ℕ → List Change → Type 0
AreBy first count log = All (IsBy first count) log

-- at a position there is what the list has there
at_spread : (first count at position : ℕ) (log : List Change) → AreBy first count log → at ≤ position → at_position position (spread first count at log) ≡ entry position (slice_get log (position - at))
at_spread first count at position [] by least = ap (at_position position) (spread_none first count at)
at_spread first count at position (r ∷ log) by least = go (nat_lt at position) refl (at_spread first count (at + 1) position log (All-tail (IsBy first count) r log by))
  where
    go : (b : Bool) → nat_lt at position ≡ b → (at + 1 ≤ position → at_position position (spread first count (at + 1) log) ≡ entry position (slice_get log (position - (at + 1))))
        → at_position position (spread first count at (r ∷ log)) ≡ entry position (slice_get (r ∷ log) (position - at))
    go true is rest =
        let place : suc (position - (at + 1)) ≡ position - at = grind (arith, nat_tests) in
        at_later first count at position r log (grind (arith, nat_tests)) ∙ (rest (grind (arith, nat_tests)) ∙ ap (λ n. entry position (slice_get (r ∷ log) n)) place)
    go false is rest =
        let same : at ≡ position = grind (arith, nat_tests) in
        let place : 0 ≡ position - at = omega arith in
        let bounds = All-head (IsBy first count) r log by in
        subst (λ p. at_position p (spread first count at (r ∷ log)) ≡ record { position = p; rec = r.rec } ∷ []) same
        (at_first first count at r log ∙ one_found r.reporter first count (record { position = at; rec = r.rec } ∷ []) bounds.0 bounds.1)
        ∙ ap (λ n. entry position (slice_get (r ∷ log) n)) place

-- ---- how many there are

length_by : (b : Bool) (one : PlacedChange) (rest : List PlacedChange) → length (if b then (one ∷ rest) else rest) ≡ length (if b then one ∷ [] else []) + length rest
length_by true one rest = omega arith
length_by false one rest = omega arith

length_first : (first count at : ℕ) (r : Change) (log : List Change) → length (spread first count at (r ∷ log)) ≡ length (one_of r.reporter first count (record { position = at; rec = r.rec } ∷ [])) + length (spread first count (at + 1) log)
length_first first zero at r log = refl
length_first first (suc count) at r log =
    let one : PlacedChange = record { position = at; rec = r.rec } in
    let here = length_by (r.reporter == first) one (placed_by first (at + 1) log) in
    let rest = length_first (first + 1) count at r log in
    omega (
      arith,
      here,
      rest,
      length-append (placed_by first at (r ∷ log)) (spread (first + 1) count at (r ∷ log)),
      length-append (if r.reporter == first then one ∷ [] else []) (one_of r.reporter (first + 1) count (one ∷ [])),
      length-append (placed_by first (at + 1) log) (spread (first + 1) count (at + 1) log),
    )

length_spread : (first count at : ℕ) (log : List Change) → AreBy first count log → length (spread first count at log) ≡ length log
length_spread first count at [] by = ap length (spread_none first count at)
length_spread first count at (r ∷ log) by =
    let bounds = All-head (IsBy first count) r log by in
    let one = ap length (one_found r.reporter first count (record { position = at; rec = r.rec } ∷ []) bounds.0 bounds.1) in
    let rest = length_spread first count (at + 1) log (All-tail (IsBy first count) r log by) in
    omega (arith, one, rest, length_first first count at r log)

-- ---- the register

last_record_more : (start : Record) (log : List Change) (r : Change) → last_record start (log ++ r ∷ []) ≡ after_report (last_record start log) r.rec
last_record_more start [] r = refl
last_record_more start (q ∷ log) r = last_record_more (after_report start q.rec) log r

pub take_more : {A : Type 0} (xs : List A) (i : ℕ) → i < length xs → (x : A) × (slice_get xs i ≡ Some x) × (take (suc i) xs ≡ take i xs ++ x ∷ [])
take_more [] i within = absurd (omega arith)
take_more (y ∷ xs) zero within = (y, refl, refl)
take_more (y ∷ xs) (suc i) within = let (x, is, more) = take_more xs i (omega arith) in (x, is, ap (λ l. y ∷ l) more)

-- Where at each position there is what a list has there, the register is the record after so much of the list.
register_is : (start : Record) (logs : List ClientLog) (log : List Change) → ((position : ℕ) → 1 ≤ position → changes_at logs position ≡ entry position (slice_get log (position - 1)))
    → (position : ℕ) → position ≤ length log → register_at start logs position ≡ record_at start log position
register_is start logs log each zero within = refl
register_is start logs log each (suc i) within =
    let (r, is, more) = take_more log i (omega arith) in
    let place : suc i - 1 ≡ i = omega arith in
    let here : changes_at logs (suc i) ≡ record { position = suc i; rec = r.rec } ∷ [] = each (suc i) (omega arith) ∙ ap (entry (suc i)) (ap (slice_get log) place ∙ is) in
    let before = register_is start logs log each i (omega arith) in
    ap (λ changes. after_reports (register_at start logs i) (map (λ change. change.rec) changes)) here ∙ (ap (λ current. after_report current r.rec) before
    ∙ sym (ap (last_record start) more ∙ last_record_more start (take i log) r))

-- ---- no fault

-- a call among some that never go back
record IsInOrder (before : ℕ) (calls : List Call) (place : ℕ) (call : Call) : Type 0 where
  pub forward : GoesForward (position_after_calls before (take place calls)) call
  pub most : call.position ≤ position_after_calls before calls

in_order : (before : ℕ) (calls : List Call) (place : ℕ) (call : Call) → NeverGoesBack before calls → slice_get calls place ≡ Some call → IsInOrder before calls place call
in_order before [] place call order is = absurd (cc is)
in_order before (one ∷ calls) zero call order is =
    let same : one ≡ call = cc is in
    subst (IsInOrder before (one ∷ calls) zero) same (record { forward = order.0; most = comes_to one.position calls order.1 })
in_order before (one ∷ calls) (suc place) call order is =
    let rest = in_order one.position calls place call order.1 is in
    record { forward = rest.forward; most = rest.most }

-- What is known of the logs of so many clients, beside the one list that all of them have seen.
pub record AreSettled (start : Record) (logs : List ClientLog) (log : List Change) : Type 0 where
  pub by : All (λ r. r.reporter < length logs) log
  pub each : (k : ℕ) → k < length logs → Agrees start (account_of k (calls_of logs k) log)

pub inside : (logs : List ClientLog) (client place : ℕ) (call : Call) → slice_get (calls_of logs client) place ≡ Some call → client < length logs
inside [] client place call is = absurd (cc is)
inside (one ∷ logs) zero place call is = omega arith
inside (one ∷ logs) (suc client) place call is = let rest = inside logs client place call is in omega arith

calls_is : (logs : List ClientLog) (k : ℕ) (one : ClientLog) → slice_get logs k ≡ Some one → calls_of logs k ≡ one.calls
calls_is logs k one is = rw is refl

pub calls_beyond : (logs : List ClientLog) (client : ℕ) → (client < length logs → ⊥) → calls_of logs client ≡ []
calls_beyond [] client beyond = refl
calls_beyond (one ∷ logs) zero beyond = absurd (beyond (omega arith))
calls_beyond (one ∷ logs) (suc client) beyond = calls_beyond logs client (λ below. beyond (omega arith))

all_within : (start : Record) (number : ℕ) (log : List Change) (calls : List Call) → AllByRecursion (AgreesAt start number log) calls → AllByRecursion (λ call. HasMinimumWithin call.answer) calls
all_within start number log [] each = tt
all_within start number log (call ∷ calls) each = (each.0.within, all_within start number log calls each.1)

few : (position : ℕ) (found : Option Change) → 1 < length (entry position found) → ⊥
few position None more = omega arith
few position (Some change) more = omega arith

module _ (start : Record) (logs : List ClientLog) (log : List Change) (settled : AreSettled start logs log) where
  are_by : AreBy 0 (length logs) log
  are_by = λ k d within. let below = settled.by k d within in (omega arith, omega arith)

  in_spread : changes_in logs ≡ spread 0 (length logs) 1 log
  in_spread = all_spread 0 logs log (λ k one is.
      changes_by start k one.calls log (subst (λ calls. Agrees start (account_of k calls log)) (calls_is logs k one is) (settled.each k (slice_get_within logs k one is)))
      ∙ ap (λ n. placed_by n 1 log) (omega arith))

  -- how many reports changed the record
  pub counted : length (changes_in logs) ≡ length log
  counted = ap length in_spread ∙ length_spread 0 (length logs) 1 log are_by

  here : (position : ℕ) → 1 ≤ position → changes_at logs position ≡ entry position (slice_get log (position - 1))
  here position some = ap (at_position position) in_spread ∙ at_spread 0 (length logs) 1 position log are_by some

  no_clash : (position : ℕ) → IsClash logs position → ⊥
  no_clash zero two =
      let none = ap length (ap (at_position 0) in_spread ∙ none_spread 0 (length logs) 1 0 log (omega arith)) in
      omega (arith, none, two)
  no_clash (suc i) two = few (suc i) (slice_get log (suc i - 1)) (subst (λ xs. 1 < length xs) (here (suc i) (omega arith)) two)

  reached : (client place : ℕ) (call : Call) → slice_get (calls_of logs client) place ≡ Some call → IsInOrder 0 (calls_of logs client) place call × (call.position ≤ length log)
  reached client place call is =
      let agrees = settled.each client (inside logs client place call is) in
      let order = in_order 0 (calls_of logs client) place call agrees.order is in
      let most = order.most in let come = agrees.come_to in
      (order, omega arith)

  no_gap : (position : ℕ) → IsGap logs position → ⊥
  no_gap position (some, none, is_reached) =
      let (client, place, call, is, reaches) = is_reached in
      let (order, within) = reached client place call is in
      let (r, found, more) = take_more log (position - 1) (omega arith) in
      let one = here position some ∙ ap (entry position) found in
      absurd (cc (none, one))

  register : (position : ℕ) → position ≤ length log → register_at start logs position ≡ record_at start log position
  register = register_is start logs log here

  no_wrong : (client place : ℕ) → WronglyAnswered start logs client place → ⊥
  no_wrong client place (call, is, wrong) =
      let (order, within) = reached client place call is in
      let agrees = settled.each client (inside logs client place call is) in
      let right = at_each (AgreesAt start client log) (calls_of logs client) place call agrees.each is in
      right.right (wrong_alike (register_at start logs) (record_at start log) call.position call.answer (register call.position within) (register (call.position - 1) (omega arith)) wrong)

  -- no drawn version that is not above what its asker had seen
  pub no_low : Nowhere (Low start logs)
  no_low client place (call, is, low) =
      let (order, within) = reached client place call is in
      let no_later = order.forward.1 in
      let agrees = settled.each client (inside logs client place call is) in
      let right = at_each (AgreesAt start client log) (calls_of logs client) place call agrees.each is in
      right.above (low_alike (register_at start logs) (record_at start log) call.asked call.answer (register call.asked (omega arith)) low)

  no_disorder : (client place : ℕ) → OutOfOrder logs client place → ⊥
  no_disorder client place (call, is, out) = out (reached client place call is).0.forward

  pub faultless : IsFaultless start logs
  faultless = record { order = no_disorder; clash = no_clash; gap = no_gap; wrong = no_wrong }

  pub minima : HaveMinimaWithin logs
  minima client = elim (cases_lt client (length logs)) [
    | inl below ↦ all_within start client log (calls_of logs client) (settled.each client below).each
    | inr beyond ↦ subst (AllByRecursion (λ (call : Call). HasMinimumWithin call.answer)) (sym (calls_beyond logs client (λ below. omega arith))) tt
  ]

-- ---- tokens that were brought together

module _ (start : Record) (reporters : ℕ) (logs : List ClientLog) (first : Sight) (old new : List Sight) (logs_count : length logs ≡ reporters)
    (told : (k : ℕ) (token : Sight) → slice_get old k ≡ Some token → HasCaughtUp first token k new) where
  abbrev log : List Change
  log = first.changes

  -- what agrees with the tokens before agrees with the list that all of them have then
  pub settled_by : length old ≡ reporters → AreNumbered old → AllAgree start logs old → All (λ r. r.reporter < reporters) log
      → AreSettled start logs log
  settled_by old_count numbered agree by = record {
    by = subst (λ n. All (λ r. r.reporter < n) log) (sym logs_count) by;
    each = λ k within. settled k (omega (arith, logs_count)) (take_more old k (omega (arith, logs_count, old_count)));
  }
    where
      settled : (k : ℕ) → k < reporters → (token : Sight) × (slice_get old k ≡ Some token) × (take (suc k) old ≡ take k old ++ token ∷ []) → Agrees start (account_of k (calls_of logs k) log)
      settled k within (token, at, _) =
          let all = told k token at in
          let whose : token.reporter ≡ Some k = numbered k token at in
          let same : changed_by k 1 log ≡ changed_by k 1 token.changes =
          ap (λ who. own_among who log) (sym whose) ∙ (all.own.positions ∙ ap (λ who. own_among who token.changes) whose) in
          agrees_more start k (calls_of logs k) token.changes log (whatever start k (calls_of logs k) token.answers [] token.changes (agree k token at)) all.seen.changes same

  -- and so with the tokens after
  pub still_agree : length old ≡ reporters → length new ≡ reporters → AreSettled start logs log → AllAgree start logs new
  still_agree old_count new_count settled k token at =
      let within : k < reporters = omega (arith, new_count, slice_get_within new k token at) in
      let (was, before, _) = take_more old k (omega (arith, old_count)) in
      let all = told k was before in
      let is : record first { reporter = was.reporter } ≡ token = same_Some _ token (sym all.at ∙ at) in
      subst (λ (seen : List Change). Agrees start (record { number = k; begun = 0; calls = calls_of logs k; answers = token.answers; changes = seen })) (ap (λ (t : Sight). t.changes) is)
      (whatever start k (calls_of logs k) [] token.answers log (settled.each k (omega (arith, logs_count))))
