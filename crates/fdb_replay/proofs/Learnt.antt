-- What is learnt tell by tell is what each client learns of all tells.
use Rattle.std.proofs.Common.{◌≡◌, ◌≢◌, ℕ, zero, suc, ◌+◌, ◌<◌, ◌≤◌, ◌==◌, Bool, true, false, List, [], ◌∷◌, ◌++◌, length, map, filter, fold, drop, set, get_or, refl, ap, sym, ◌∙◌, arith}
use Rattle.std.proofs.lemmas.Bool.{eq-eqb, ne_eqb}
use Rattle.std.proofs.Math.Seq.{map-set_same}
use Rattle.std.proofs.lemmas.List.{length-map, map-set, set_past}
use Rattle.std.proofs.lemmas.List.Sums.{fold-append}
use Rattle.fdb_client.specs.Account.{Account}
use Rattle.fdb_history.specs.Log.{calls_of}
use Rattle.fdb_history.specs.declared.log.Call.{Call}
use Rattle.fdb_history.specs.declared.log.ClientLog.{ClientLog}
use Rattle.fdb_history.specs.declared.log.Input.{Input}
use Rattle.fdb_history.specs.declared.log.Input.TheVariants as input
use Rattle.fdb_client.specs.Settling.{logs_of}
use Rattle.fdb_replay.specs.private.Rounds.{Tell, all_tells, numbers_of, teach, tells_in}
use Rattle.fdb_script.specs.Answering.{Told, added_calls, learnt_from, learns, told_from, tells}

abbrev told_of : Tell → Told
told_of tell = record { teller = tell.from; position = tell.position }

-- what some tells tell a client, in their order
abbrev told_to : ℕ → List Tell → List Told
told_to client those = map told_of (filter (λ tell. tell.to == client) those)

-- the logs, from this client on, once each client has learnt what it is told
abbrev taught : ℕ → List Tell → List ClientLog → List ClientLog
taught client those [] = []
taught client those (log ∷ others) = record { calls = fold learns log.calls (told_to client those) } ∷ taught (client + 1) those others

-- ---- tell by tell

own_told : (client : ℕ) (tell : Tell) (those : List Tell) → tell.to ≡ client → told_to client (tell ∷ those) ≡ told_of tell ∷ told_to client those
own_told client tell those own = rw (eq-eqb tell.to client own) refl

other_told : (client : ℕ) (tell : Tell) (those : List Tell) → tell.to ≢ client → told_to client (tell ∷ those) ≡ told_to client those
other_told client tell those other = rw (ne_eqb tell.to client other) refl

taught_none : (client : ℕ) (logs : List ClientLog) → taught client [] logs ≡ logs
taught_none client [] = refl
taught_none client (log ∷ others) = ap (λ rest. log ∷ rest) (taught_none (client + 1) others)

-- a tell to a client before these teaches them nothing
taught_before : (client : ℕ) (tell : Tell) (those : List Tell) (logs : List ClientLog) → tell.to < client → taught client (tell ∷ those) logs ≡ taught client those logs
taught_before client tell those [] before = refl
taught_before client tell those (log ∷ others) before =
    let other : tell.to ≢ client = λ same. absurd (omega (arith, same)) in
    rw (other_told client tell those other, taught_before (client + 1) tell those others (omega arith)) refl

taught_first : (client place : ℕ) (tell : Tell) (those : List Tell) (logs : List ClientLog) → tell.to ≡ client + place
    → taught client those (set logs place (record { calls = learns (calls_of logs place) (told_of tell) })) ≡ taught client (tell ∷ those) logs
taught_first client place tell those [] is = refl
taught_first client zero tell those (log ∷ others) is =
    rw (own_told client tell those (omega (arith, is)), taught_before (client + 1) tell those others (omega (arith, is))) refl
taught_first client (suc place) tell those (log ∷ others) is =
    let other : tell.to ≢ client = λ same. absurd (omega (arith, is, same)) in
    rw (other_told client tell those other, taught_first (client + 1) place tell those others (omega (arith, is))) refl

all_taught : (those : List Tell) (logs : List ClientLog) → fold teach logs those ≡ taught 0 those logs
all_taught [] logs = sym (taught_none 0 logs)
all_taught (tell ∷ those) logs = all_taught those (teach logs tell) ∙ taught_first 0 tell.to tell those logs (omega arith)

-- ---- which tells

abbrev told_by_call : ℕ → Call → Told
told_by_call teller call = record { teller = teller; position = call.position }

-- what a client is told in some calls, and in what comes after them
abbrev AreTold : ℕ → ℕ → List Call → List Tell → Type 0
AreTold client teller calls rest = told_to client (tells_in teller calls ++ rest) ≡ map (told_by_call teller) (filter (λ call. tells client call.input) calls) ++ told_to client rest

told_one : (client teller : ℕ) (call : Call) (calls : List Call) (rest : List Tell) (to : ℕ) (own : Bool) → call.input ≡ input.Tell to → (to == client) ≡ own → AreTold client teller calls rest
    → AreTold client teller (call ∷ calls) rest
told_one client teller call calls rest to true is own others = rw (is, own) (ap (λ those. told_by_call teller call ∷ those) others)
told_one client teller call calls rest to false is own others = rw (is, own) others

told_more : (client teller : ℕ) (call : Call) (calls : List Call) (rest : List Tell) (input : Input) → call.input ≡ input → AreTold client teller calls rest → AreTold client teller (call ∷ calls) rest
told_more client teller call calls rest (input.Grv opts) is others = rw is others
told_more client teller call calls rest (input.Ask num processed at) is others = rw is others
told_more client teller call calls rest (input.Report num locked metadata min_known) is others = rw is others
told_more client teller call calls rest (input.Learn from) is others = rw is others
told_more client teller call calls rest (input.Tell to) is others = told_one client teller call calls rest to (to == client) is refl others

are_told : (client teller : ℕ) (calls : List Call) (rest : List Tell) → AreTold client teller calls rest
are_told client teller [] rest = refl
are_told client teller (call ∷ calls) rest = told_more client teller call calls rest call.input refl (are_told client teller calls rest)

all_told_to : (client teller : ℕ) (before after : List Account) → told_to client (all_tells teller before after) ≡ told_from client teller (added_calls (logs_of before) (logs_of after))
all_told_to client teller [] after = refl
all_told_to client teller (own ∷ before) [] = refl
all_told_to client teller (own ∷ before) (more ∷ after) =
    let added = drop (length own.calls) more.calls in
    are_told client teller added (all_tells (teller + 1) before after)
    ∙ ap (λ those. map (told_by_call teller) (filter (λ call. tells client call.input) added) ++ those) (all_told_to client (teller + 1) before after)

-- ---- as the logs say

taught_logs : (client : ℕ) (those : List Tell) (added : List (List Call)) (logs : List ClientLog) → ((client : ℕ) → told_to client those ≡ told_from client 0 added)
    → taught client those logs ≡ learnt_from client added logs
taught_logs client those added [] same = refl
taught_logs client those added (log ∷ others) same = rw (same client, taught_logs (client + 1) those added others same) refl

-- once all that was told in a round is learnt, the logs are those after it
pub learnt : (before after : List Account) (those : List Tell) → those ≡ all_tells 0 before after
    → fold teach (logs_of after) those ≡ learnt_from 0 (added_calls (logs_of before) (logs_of after)) (logs_of after)
learnt before after those is =
    all_taught those (logs_of after) ∙ taught_logs 0 those (added_calls (logs_of before) (logs_of after)) (logs_of after) (λ client. ap (told_to client) is ∙ all_told_to client 0 before after)

-- ---- client by client

calls_at : (clients : List Account) (place : ℕ) (client : Account) → place < length clients → client ≡ get_or clients place client → calls_of (logs_of clients) place ≡ client.calls
calls_at [] place client within is = absurd (omega arith)
calls_at (own ∷ clients) zero client within is = ap (λ one. one.calls) (sym is)
calls_at (own ∷ clients) (suc place) client within is = calls_at clients place client (omega arith) is

-- one client learns what it is told
pub one_learns : (first : List ClientLog) (those : List Tell) (clients : List Account) (tell : Tell) (before after : Account) → logs_of clients ≡ fold teach first those → tell.to < length clients
    → before ≡ get_or clients tell.to before → after.calls ≡ learns before.calls (told_of tell) → logs_of (set clients tell.to after) ≡ fold teach first (those ++ tell ∷ [])
one_learns first those clients tell before after so_far within is learns =
    map-set {B = ClientLog} (λ client. record { calls = client.calls }) clients tell.to after
    ∙ rw (fold-append teach first those (tell ∷ []), ← so_far, calls_at clients tell.to before within is, learns) refl

-- what is told to nobody is learnt by nobody
pub nobody_learns : (first : List ClientLog) (those : List Tell) (clients : List Account) (tell : Tell) → logs_of clients ≡ fold teach first those → length clients ≤ tell.to
    → logs_of clients ≡ fold teach first (those ++ tell ∷ [])
nobody_learns first those clients tell so_far beyond =
    let none = set_past (logs_of clients) tell.to (record { calls = learns (calls_of (logs_of clients) tell.to) (told_of tell) }) (omega (arith, beyond, length-map {B = ClientLog} clients (λ client. record { calls = client.calls }))) in
    rw (fold-append teach first those (tell ∷ []), ← so_far) (sym none)

-- who learns keeps its number
pub same_numbers : (clients : List Account) (place : ℕ) (before after : Account) → before ≡ get_or clients place before → after.number ≡ before.number → numbers_of (set clients place after) ≡ numbers_of clients
same_numbers clients place before after is same =
    map-set_same (λ (client : Account). client.number) clients place after before (same ∙ ap (λ client. client.number) is)
