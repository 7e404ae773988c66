-- A script that is read is within the limits.
use Rattle.std.proofs.Common.{◌≡◌, ℕ, suc, ◌+◌, ◌<◌, ◌≤◌, ◌==◌, ◌&&◌, not, Bool, true, false, cond, IsTrue, List, [], ◌∷◌, Result, Ok, Err, Option, None, Some, length, sum_by, nat_lt, nat_le, nat_eq, option_and_then, codes, refl, ap, subst, arith}
use Rattle.std.specs.Option.{option_map}
use Rattle.std.specs.List.{AllByRecursion, list_all}
use Rattle.std.specs.Cmp.Lexicographic.{pointwise}
use Rattle.std.proofs.lemmas.Bool.{and_parts, le-leb, leb-true}
use Rattle.std.proofs.lemmas.List.Sums.{sum_by-cons}
use Rattle.std.proofs.lemmas.Option.{cond_some, none-some, same_Some, option_and_then_some}
use Rattle.serde_json.specs.Data.{Data}
use Rattle.serde_json.specs.Find.{as_str, get}
use Rattle.fdb_history.specs.declared.log.Priority.{Priority}
use Rattle.fdb_history.specs.declared.register.TheConstants.{MAX_VERSION}
use Rattle.fdb_queue.specs.Config.{IsConfig, IsElapsed}
use Rattle.fdb_queue.specs.declared.config.QueueConfig.{QueueConfig}
use Rattle.fdb_script.specs.Plan.{IsPlan, is_tag, is_act, is_command}
use Rattle.fdb_script.specs.Reading.{array_within, ask_of, ask_with, grv_of, reask_of, report_of, tell_of, act_named, act_of, array_of, arrays_of, checked, command_of, commands_from, every, Frame, frame_of, frame_with, grv_with, is_frame, member, member_or, or_absent, reask_with, report_with, rounds_from, tag_of, tags_of, then_commands, then_rounds, throttle_of, throttle_with, throttles_of, whole, whole_below}
use Rattle.fdb_script.specs.declared.script.ScriptError.{ScriptError}
use Rattle.fdb_script.specs.declared.script.Act.{Act}
use Rattle.fdb_script.specs.declared.script.Act.TheVariants.{Tell}
use Rattle.fdb_script.specs.declared.script.Command.{Command}
use Rattle.fdb_queue.specs.declared.throttles.Throttle.{Throttle}
use Rattle.fdb_script.specs.declared.script.TheConstants.{MAX_CLIENTS, MAX_THROTTLES, MAX_ROUNDS, MAX_TAGS}

-- ---- what passes a test, and lists

checked_some : {T : Type 0} (test : T → Bool) (read : Option T) (value : T) → checked test read ≡ Some value → (test value ≡ true) × (read ≡ Some value)
checked_some test None value e = absurd (none-some value e)
checked_some test (Some found) value e =
    let h = cond_some (test found) found value e in
    (subst (λ v. test v ≡ true) h.1 h.0, ap Some h.1)

both_true : (a b : Bool) → a ≡ true → b ≡ true → (a && b) ≡ true
both_true a b first second = rw (first, second) refl

chosen : {T : Type 0} (P : Type 0) (b : Bool) (first other : Option T) (value : T) → (first ≡ Some value → P) → (other ≡ Some value → P) → cond b first other ≡ Some value → P
chosen P true first other value at_first at_other e = at_first e
chosen P false first other value at_first at_other e = at_other e

-- each of so many values fits
abbrev FitAll : {T : Type 0} → (T → Type 0) → ℕ → List T → Type 0
FitAll fits count values = AllByRecursion fits values × (length values ≡ count)

joined : {T : Type 0} (fits : T → Type 0) (count : ℕ) (first : Option T) (rest : Option (List T)) (all : List T) → ((x : T) → first ≡ Some x → fits x)
    → ((xs : List T) → rest ≡ Some xs → FitAll fits count xs) → option_and_then (λ x. option_map (λ xs. x ∷ xs) rest) first ≡ Some all → FitAll fits (suc count) all
joined fits count None rest all one others e = absurd (none-some all e)
joined fits count (Some x) None all one others e = absurd (none-some all e)
joined fits count (Some x) (Some xs) all one others e =
    let h = others xs refl in
    subst (FitAll fits (suc count)) (same_Some (x ∷ xs) all e) ((one x refl, h.0), ap suc h.1)

every_fits : {T : Type 0} (fits : T → Type 0) (reading : Data → Option T) → ((value : Data) (found : T) → reading value ≡ Some found → fits found)
    → (values : List Data) (all : List T) → every reading values ≡ Some all → FitAll fits (length values) all
every_fits fits reading one [] all e = subst (FitAll fits 0) (same_Some [] all e) (tt, refl)
every_fits fits reading one (value ∷ values) all e =
    joined fits (length values) (reading value) (every reading values) all (one value) (every_fits fits reading one values) e

-- what is read of each item of an array that is not too long
listed : {T : Type 0} (fits : T → Type 0) (reading : Data → Option T) (most : ℕ) (value : Data) (all : List T) → ((value : Data) (found : T) → reading value ≡ Some found → fits found)
    → option_and_then (every reading) (array_within most value) ≡ Some all → AllByRecursion fits all × (length all ≤ most)
listed fits reading most value all one e =
    option_and_then_some (every reading) (array_within most value) all e (λ items is_array are_all.
    let fit = every_fits fits reading one items all are_all in
    let few : length items ≤ most = leb-true (length items) most (checked_some (λ xs. nat_le (length xs) most) (array_of value) items is_array).0 in
    (fit.0, omega (arith, fit.1)))

-- ---- tags and throttles

abbrev IsTag : List ℕ → Type 0
IsTag tag = is_tag tag ≡ true

abbrev pub IsTagged : Throttle → Type 0
IsTagged throttle = IsTrue (is_tag throttle.tag)

throttle_tagged : (tag : Option (List ℕ)) (priority : Option Priority) (rate expires : Option ℕ) (throttle : Throttle) → ((t : List ℕ) → tag ≡ Some t → IsTag t)
    → throttle_with tag priority rate expires ≡ Some throttle → IsTagged throttle
throttle_tagged (Some tag) (Some priority) (Some rate) (Some expires) throttle tagged e = subst IsTagged (same_Some _ throttle e) (tagged tag refl)
throttle_tagged _ _ _ _ throttle tagged e = absurd (none-some throttle e)

tag_fits : (value : Data) (tag : List ℕ) → tag_of value ≡ Some tag → IsTag tag
tag_fits value tag e = (checked_some is_tag (as_str value) tag e).0

throttle_fits : (value : Data) (throttle : Throttle) → throttle_of value ≡ Some throttle → IsTagged throttle
throttle_fits value throttle e =
    throttle_tagged _ _ _ _ throttle
    (λ tag is. option_and_then_some tag_of (get (codes "tag") value) tag is (λ text found read. tag_fits text tag read)) e

-- a member that may be absent
or_fits : {T : Type 0} (P : T → Type 0) (absent : T) (reading : Data → Option T) (found : Option Data) (value : T) → P absent → ((d : Data) → reading d ≡ Some value → P value)
    → or_absent absent reading found ≡ Some value → P value
or_fits P absent reading None value none some e = subst P (same_Some absent value e) none
or_fits P absent reading (Some d) value none some e = some d e

abbrev AreThrottles : List Throttle → Type 0
AreThrottles throttles = AllByRecursion IsTagged throttles × (length throttles ≤ MAX_THROTTLES)

throttles_fit : (value : Data) (throttles : List Throttle) → member_or [] throttles_of (codes "throttles") value ≡ Some throttles → AreThrottles throttles
throttles_fit value throttles e =
    or_fits AreThrottles [] throttles_of (get (codes "throttles") value) throttles (tt, omega arith)
    (λ d read. listed IsTagged throttle_of MAX_THROTTLES d throttles throttle_fits read) e

-- ---- commands

all_true : {T : Type 0} (test : T → Bool) (xs : List T) → AllByRecursion (λ x. test x ≡ true) xs → list_all test xs ≡ true
all_true test [] all = refl
all_true test (x ∷ xs) all = both_true (test x) (list_all test xs) all.0 (all_true test xs all.1)

abbrev AreTags : List (List ℕ) → Type 0
AreTags tags = (nat_le (length tags) MAX_TAGS && list_all is_tag tags) ≡ true

are_tags : (tags : List (List ℕ)) → AllByRecursion IsTag tags → length tags ≤ MAX_TAGS → AreTags tags
are_tags tags all few = both_true (nat_le (length tags) MAX_TAGS) (list_all is_tag tags) (le-leb (length tags) MAX_TAGS few) (all_true is_tag tags all)

tags_fit : (value : Data) (tags : List (List ℕ)) → member_or [] tags_of (codes "tags") value ≡ Some tags → AreTags tags
tags_fit value tags e =
    or_fits AreTags [] tags_of (get (codes "tags") value) tags refl
    (λ d read. let h = listed IsTag tag_of MAX_TAGS d tags tag_fits read in are_tags tags h.0 h.1) e

-- what this client may do
abbrev IsAct : ℕ → ℕ → Act → Type 0
IsAct clients client act = is_act clients client act ≡ true

grv_fits : (clients client : ℕ) (tags : Option (List (List ℕ))) (at : Option ℕ) (priority : Option Priority) (count : Option ℕ) (lock_aware use_min : Option Bool) (act : Act)
    → ((found : List (List ℕ)) → tags ≡ Some found → AreTags found) → grv_with tags at priority count lock_aware use_min ≡ Some act → IsAct clients client act
grv_fits clients client (Some tags) (Some at) (Some priority) (Some count) (Some lock_aware) (Some use_min) act fit e = subst (IsAct clients client) (same_Some _ act e) (fit tags refl)
grv_fits clients client _ _ _ _ _ _ act fit e = absurd (none-some act e)

ask_fits : (clients client : ℕ) (at processed : Option ℕ) (act : Act) → ask_with at processed ≡ Some act → IsAct clients client act
ask_fits clients client (Some at) (Some processed) act e = subst (IsAct clients client) (same_Some _ act e) refl
ask_fits clients client _ _ act e = absurd (none-some act e)

reask_fits : (clients client : ℕ) (num at processed : Option ℕ) (act : Act) → reask_with num at processed ≡ Some act → IsAct clients client act
reask_fits clients client (Some num) (Some at) (Some processed) act e = subst (IsAct clients client) (same_Some _ act e) refl
reask_fits clients client _ _ _ act e = absurd (none-some act e)

report_fits : (clients client : ℕ) (num : Option ℕ) (locked : Option Bool) (metadata : Option (Option (List ℕ))) (min_known : Option ℕ) (act : Act) → report_with num locked metadata min_known ≡ Some act → IsAct clients client act
report_fits clients client (Some num) (Some locked) (Some metadata) (Some min_known) act e = subst (IsAct clients client) (same_Some _ act e) refl
report_fits clients client _ _ _ _ act e = absurd (none-some act e)

tell_to : (clients client : ℕ) (found : Option ℕ) (act : Act) → ((to : ℕ) → found ≡ Some to → (nat_lt to clients && not (to == client)) ≡ true) → option_map Tell found ≡ Some act → IsAct clients client act
tell_to clients client None act fit e = absurd (none-some act e)
tell_to clients client (Some to) act fit e = subst (IsAct clients client) (same_Some _ act e) (fit to refl)

tell_fits : (clients client : ℕ) (found : Option ℕ) (act : Act) → ((to : ℕ) → found ≡ Some to → nat_lt to clients ≡ true)
    → option_map Tell (checked (λ to. not (to == client)) found) ≡ Some act → IsAct clients client act
tell_fits clients client found act below e =
    tell_to clients client (checked (λ to. not (to == client)) found) act
    (λ to is. let h = checked_some (λ other. not (other == client)) found to is in both_true (nat_lt to clients) (not (to == client)) (below to h.1) h.0) e

client_below : (clients : ℕ) (name : List ℕ) (value : Data) (client : ℕ) → member (whole_below clients) name value ≡ Some client → nat_lt client clients ≡ true
client_below clients name value client e =
    option_and_then_some (whole_below clients) (get name value) client e (λ found there read. (checked_some (λ number. nat_lt number clients) (whole found) client read).0)

act_fits : (clients client : ℕ) (value : Data) (act : Act) → act_of clients client value ≡ Some act → IsAct clients client act
act_fits clients client value act e =
    option_and_then_some (λ name. act_named clients client name value) (member as_str (codes "do") value) act e (λ name found named.
    let P = IsAct clients client act in
    chosen P (pointwise nat_eq name (codes "grv")) (grv_of value) _ act (grv_fits clients client _ _ _ _ _ _ act (tags_fit value))
    (chosen P (pointwise nat_eq name (codes "ask")) (ask_of value) _ act (ask_fits clients client _ _ act)
    (chosen P (pointwise nat_eq name (codes "reask")) (reask_of value) _ act (reask_fits clients client _ _ _ act)
    (chosen P (pointwise nat_eq name (codes "report")) (report_of value) _ act (report_fits clients client _ _ _ _ act)
    (chosen P (pointwise nat_eq name (codes "tell")) (tell_of clients client value) None act (tell_fits clients client _ act (client_below clients (codes "to") value))
    (λ none. absurd (none-some act none)))))) named)

abbrev Fits : ℕ → Command → Type 0
Fits clients command = IsTrue (is_command clients command)

made : (clients client : ℕ) (act : Option Act) (command : Command) → nat_lt client clients ≡ true → ((a : Act) → act ≡ Some a → IsAct clients client a)
    → option_map (λ a. record { client = client; act = a }) act ≡ Some command → Fits clients command
made clients client None command below fit e = absurd (none-some command e)
made clients client (Some act) command below fit e =
    subst (Fits clients) (same_Some _ command e) (both_true (nat_lt client clients) (is_act clients client act) below (fit act refl))

command_fits : (clients : ℕ) (value : Data) (command : Command) → command_of clients value ≡ Some command → Fits clients command
command_fits clients value command e =
    option_and_then_some _ (member (whole_below clients) (codes "client") value) command e (λ client found read.
    made clients client (act_of clients client value) command (client_below clients (codes "client") value client found) (act_fits clients client value) read)

-- ---- rounds

abbrev AllFit : ℕ → List Command → Type 0
AllFit clients = AllByRecursion (Fits clients)

-- as many commands as values, each of which fits
abbrev FitRound : ℕ → ℕ → List Command → Type 0
FitRound clients count commands = (length commands ≡ count) × AllFit clients commands

one_more : (clients round place count : ℕ) (first : Option Command) (rest : Result (List Command) ScriptError) (all : List Command)
    → ((command : Command) → first ≡ Some command → Fits clients command) → ((commands : List Command) → rest ≡ Ok commands → FitRound clients count commands)
    → then_commands round place first rest ≡ Ok all → FitRound clients (suc count) all
one_more clients round place count None rest all fits others e = absurd cc
one_more clients round place count (Some command) (Err error) all fits others e = absurd cc
one_more clients round place count (Some command) (Ok commands) all fits others e =
    let same : command ∷ commands ≡ all = cc in
    let h = others commands refl in
    subst (FitRound clients (suc count)) same (ap suc h.0, (fits command refl, h.1))

commands_fit : (clients round place : ℕ) (values : List Data) (commands : List Command)
    → commands_from clients round place values ≡ Ok commands → FitRound clients (length values) commands
commands_fit clients round place [] commands e =
    let same : [] ≡ commands = cc in
    subst (FitRound clients 0) same (refl, tt)
commands_fit clients round place (value ∷ values) commands e =
    one_more clients round place (length values) (command_of clients value) (commands_from clients round (place + 1) values) commands
    (λ command h. command_fits clients value command h)
    (λ rest h. commands_fit clients round (place + 1) values rest h)
    e

-- as many rounds as values, as many commands in all, each of which fits
pub record FitRounds (clients : ℕ) (values : List (List Data)) (rounds : List (List Command)) : Type 0 where
  pub rounds_read : length rounds ≡ length values
  pub commands_read : sum_by length rounds ≡ sum_by length values
  pub fit : AllByRecursion (AllFit clients) rounds

one_round_more : (clients : ℕ) (values : List Data) (more : List (List Data)) (first : Result (List Command) ScriptError) (rest : Result (List (List Command)) ScriptError) (all : List (List Command))
    → ((commands : List Command) → first ≡ Ok commands → FitRound clients (length values) commands) → ((rounds : List (List Command)) → rest ≡ Ok rounds → FitRounds clients more rounds)
    → then_rounds first rest ≡ Ok all → FitRounds clients (values ∷ more) all
one_round_more clients values more (Err error) rest all round rounds e = absurd cc
one_round_more clients values more (Ok commands) (Err error) all round rounds e = absurd cc
one_round_more clients values more (Ok commands) (Ok others) all round rounds e =
    let same : commands ∷ others ≡ all = cc in
    let first = round commands refl in
    let rest = rounds others refl in
    let sums : sum_by length (commands ∷ others) ≡ sum_by length (values ∷ more) =
    rw (sum_by-cons length commands others, sum_by-cons length values more, first.0, rest.commands_read) in
    subst (FitRounds clients (values ∷ more)) same (record { rounds_read = ap suc rest.rounds_read; commands_read = sums; fit = (first.1, rest.fit) })

rounds_fit : (clients round : ℕ) (values : List (List Data)) (rounds : List (List Command))
    → rounds_from clients round values ≡ Ok rounds → FitRounds clients values rounds
rounds_fit clients round [] rounds e =
    let same : [] ≡ rounds = cc in
    subst (FitRounds clients []) same (record { rounds_read = refl; commands_read = refl; fit = tt })
rounds_fit clients round (values ∷ more) rounds e =
    one_round_more clients values more (commands_from clients round 0 values) (rounds_from clients (round + 1) more) rounds
    (λ commands h. commands_fit clients round 0 values commands h) (λ rest h. rounds_fit clients (round + 1) more rest h) e

-- ---- the whole

-- the lists of a frame are those that were read
listed_in : (throttles : Option (List Throttle)) (rounds : Option (List (List Data))) (epoch_end recovery clients : Option ℕ) (config : Option QueueConfig) (elapsed : Option ℕ) (frame : Frame)
    → frame_with throttles rounds epoch_end recovery clients config elapsed ≡ Some frame → (throttles ≡ Some frame.setup.throttles) × (rounds ≡ Some frame.rounds)
listed_in (Some throttles) (Some rounds) (Some epoch_end) (Some recovery) (Some clients) (Some config) (Some elapsed) frame e =
    let same = same_Some _ frame e in
    (ap (λ f. Some f.setup.throttles) same, ap (λ f. Some f.rounds) same)
listed_in _ _ _ _ _ _ _ frame e = absurd (none-some frame e)

few_rounds : (value : Data) (rounds : List (List Data)) → member arrays_of (codes "rounds") value ≡ Some rounds → length rounds ≤ MAX_ROUNDS
few_rounds value rounds e =
    option_and_then_some arrays_of (get (codes "rounds") value) rounds e (λ d found read.
    (listed (λ round. Unit {0}) array_of MAX_ROUNDS d rounds (λ v r is. tt) read).1)

-- what is read of a script whose whole is within the limits is within them
pub IsPlan-read : (value : Data) (frame : Frame) (rounds : List (List Command)) → frame_of value ≡ Some frame → rounds_from frame.setup.clients 0 frame.rounds ≡ Ok rounds
    → frame.setup.epoch_end < frame.setup.recovery → frame.setup.recovery ≤ MAX_VERSION → 1 ≤ frame.setup.clients → frame.setup.clients ≤ MAX_CLIENTS
    → IsConfig frame.setup.config → IsElapsed frame.setup.elapsed → IsPlan (record { setup = frame.setup; rounds = rounds })
IsPlan-read value frame rounds framed read ends recovery some few config elapsed =
    let fit = rounds_fit frame.setup.clients 0 frame.rounds rounds read in
    let test = checked_some is_frame _ frame framed in
    let limits = and_parts _ _ test.0 in
    let lists = listed_in _ _ _ _ _ _ _ frame test.1 in
    let throttles = throttles_fit value frame.setup.throttles lists.0 in
    let in_range : length frame.rounds ≤ MAX_ROUNDS = few_rounds value frame.rounds lists.1 in
    record {
      epoch_ends_before = ends;
      recovery_in_range = recovery;
      some_client = some;
      clients_in_range = few;
      config_in_range = config;
      elapsed_in_range = elapsed;
      throttles_in_range = throttles.1;
      throttles_tagged = throttles.0;
      rounds_in_range = rw fit.rounds_read in_range;
      commands_in_range = rw fit.commands_read (leb-true _ _ limits.1);
      commands_fit = fit.fit;
    }
