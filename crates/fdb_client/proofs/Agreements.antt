-- Each call leaves what a client has logged in agreement with its token.
use Rattle.std.proofs.Common.{◌≡◌, ℕ, ◌+◌, ◌-◌, ◌<◌, ◌≤◌, Bool, true, false, IsTrue, List, [], ◌∷◌, ◌++◌, length, Option, Some, Result, Ok, Err, if◌then◌else◌, refl, sym, ap, ◌∙◌, arith, slice_get, take, subst, inl, inr, length-append}
use Rattle.std.specs.List.{AllByRecursion}
use Rattle.std.proofs.lemmas.Grind.{flat_map-append}
use Rattle.std.proofs.lemmas.List.{append-nil, take-append-le}
use Rattle.std.proofs.lemmas.Option.{slice_get_within}
use Rattle.std.proofs.Math.Seq.{take-append_seam, take-length}
use Rattle.fdb_history.specs.Audit.{IsNotAbove}
use Rattle.fdb_history.specs.Faults.{IsMisanswered, IsWrongBy}
use Rattle.fdb_history.specs.Issuing.{Chain, answer_to}
use Rattle.fdb_history.specs.Laws.{HasMinimumWithin}
use Rattle.fdb_history.specs.Linear.{NeverGoesBack}
use Rattle.fdb_history.specs.Log.{answer_changes, position_after_calls}
use Rattle.fdb_history.specs.Register.{changes, raises}
use Rattle.fdb_history.specs.declared.log.Call.{Call}
use Rattle.fdb_history.specs.declared.log.CallAnswer.{CallAnswer}
use Rattle.fdb_history.specs.declared.log.CallAnswer.TheVariants.{Version, Acked, Answered, Told, Refused}
use Rattle.fdb_history.specs.Strays.{issued_under, logged_as}
use Rattle.fdb_history.specs.declared.chain.Issued.{Issued}
use Rattle.fdb_history.specs.declared.log.GrvOpts.{GrvOpts}
use Rattle.fdb_history.specs.declared.log.Input.{Input}
use Rattle.fdb_history.specs.declared.log.Input.TheVariants as input
use Rattle.fdb_history.specs.declared.log.Refusal.{Refusal}
use Rattle.fdb_history.specs.declared.register.Record.{Record}
use Rattle.fdb_live.specs.Seen.{IsChangedBy, last_record, own_positions}
use Rattle.fdb_live.specs.declared.live_record.Ack.{Ack}
use Rattle.fdb_live.specs.declared.view.Change.{Change}
use Rattle.fdb_client.specs.Account.{Account, Logs, sight}
use Rattle.fdb_client.specs.Calls.{Asks, IsReadAnswer, IsReportAnswer, Reads, Reports, request_of}
use Rattle.fdb_client.specs.declared.error.ClientError.{ClientError}
use Rattle.fdb_client.specs.declared.reply.ReadVersion.{ReadVersion}
use Rattle.fdb_client.proofs.Calls.{position_of_added}
use Rattle.fdb_client.proofs.Chains.{at_left, at_place, each-append}
use Rattle.fdb_client.specs.Agreeing.{Agrees, AgreesAt, IsMade, changed_positions, record_at}

-- ---- more changes

-- what two registers say of a call, where they have one record at its position and at the one before
pub wrong_alike : (these those : ℕ → Record) (position : ℕ) (answer : CallAnswer) → these position ≡ those position → these (position - 1) ≡ those (position - 1)
    → IsWrongBy these position answer → IsWrongBy those position answer
wrong_alike these those position (Version rec limits locked_out) here before wrong = λ is. wrong (is ∙ sym here)
wrong_alike these those position (Acked rec raised true) here before wrong = subst (λ (r : Record). IsWrongBy (λ _. r) position (Acked rec raised true)) before wrong
wrong_alike these those position (Acked rec raised false) here before wrong = subst (λ (r : Record). IsWrongBy (λ _. r) position (Acked rec raised false)) here wrong
wrong_alike these those position (Answered issued) here before wrong = wrong
wrong_alike these those position Told here before wrong = wrong
wrong_alike these those position (Refused cause) here before wrong = wrong

record_alike : (start : Record) (log more : List Change) (position : ℕ) → position ≤ length log → record_at start (log ++ more) position ≡ record_at start log position
record_alike start log more position within = ap (last_record start) (take-append-le position log more within)

get_alike : {A : Type 0} (xs ys : List A) (i : ℕ) (x : A) → slice_get xs i ≡ Some x → slice_get (xs ++ ys) i ≡ Some x
get_alike xs ys i x is = at_left xs ys i (slice_get_within xs i x is) ∙ is

made_alike : (number : ℕ) (log more : List Change) (position : ℕ) (answer : CallAnswer) → IsMade number log position answer → IsMade number (log ++ more) position answer
made_alike number log more position (Version rec limits locked_out) made = made
made_alike number log more position (Acked rec raised true) made = get_alike log more (position - 1) (record { reporter = number; rec = rec }) made
made_alike number log more position (Acked rec raised false) made = made
made_alike number log more position (Answered issued) made = made
made_alike number log more position Told made = made
made_alike number log more position (Refused cause) made = made

pub low_alike : (these those : ℕ → Record) (asked : ℕ) (answer : CallAnswer) → these asked ≡ those asked → IsNotAbove these asked answer → IsNotAbove those asked answer
low_alike these those asked (Answered issued) here low = (low.0, low.1, subst (λ (r : Record). issued.version ≤ r.version) here low.2)
low_alike these those asked (Version rec limits locked_out) here low = low
low_alike these those asked (Acked rec raised changed) here low = low
low_alike these those asked Told here low = low
low_alike these those asked (Refused cause) here low = low

agrees_alike : (start : Record) (number : ℕ) (log more : List Change) (call : Call) → call.asked ≤ call.position → call.position ≤ length log → AgreesAt start number log call → AgreesAt start number (log ++ more) call
agrees_alike start number log more call no_earlier within agrees = record {
  right = λ wrong. agrees.right (wrong_alike (record_at start (log ++ more)) (record_at start log) call.position call.answer
      (record_alike start log more call.position within) (record_alike start log more (call.position - 1) (omega arith)) wrong);
  made = made_alike number log more call.position call.answer agrees.made;
  within = agrees.within;
  above = λ low. agrees.above (low_alike (record_at start (log ++ more)) (record_at start log) call.asked call.answer (record_alike start log more call.asked (omega arith)) low);
}

-- ---- calls that never go back

pub comes_to : (before : ℕ) (calls : List Call) → NeverGoesBack before calls → before ≤ position_after_calls before calls
comes_to before [] order = omega arith
comes_to before (call ∷ calls) order = let rest = comes_to call.position calls order.1 in let least = order.0.0 in let more = order.0.1 in omega arith

order_added : (before : ℕ) (calls : List Call) (call : Call) → NeverGoesBack before calls → position_after_calls before calls ≤ call.asked → call.asked ≤ call.position
    → (IsTrue (answer_changes call.answer) → call.asked < call.position) → NeverGoesBack before (calls ++ call ∷ [])
order_added before [] call order least more new = ((least, more, new), tt)
order_added before (first ∷ calls) call order least more new = (order.0, order_added first.position calls call order.1 least more new)

pub all_alike : (start : Record) (number before : ℕ) (log more : List Change) (calls : List Call) → NeverGoesBack before calls → position_after_calls before calls ≤ length log
    → AllByRecursion (AgreesAt start number log) calls → AllByRecursion (AgreesAt start number (log ++ more)) calls
all_alike start number before log more [] order within each = each
all_alike start number before log more (call ∷ calls) order within each =
    let least = comes_to call.position calls order.1 in
    (agrees_alike start number log more call order.0.1 (omega arith) each.0, all_alike start number call.position log more calls order.1 within each.1)

-- ---- one more call

positions_added : (calls : List Call) (call : Call) → changed_positions (calls ++ call ∷ []) ≡ changed_positions calls ++ (if answer_changes call.answer then call.position ∷ [] else [])
positions_added calls call =
    flat_map-append (λ one. if answer_changes one.answer then one.position ∷ [] else []) calls (call ∷ [])
    ∙ ap (λ last. changed_positions calls ++ last) (append-nil (if answer_changes call.answer then call.position ∷ [] else []))

-- Where a call was logged that agrees with what its client has seen since, all its calls agree.
agrees_logged : (start : Record) (input : Input) (answer : CallAnswer) (before after : Account) → Agrees start before → Logs before input answer after
    → (IsTrue (answer_changes answer) → length before.changes < length after.changes)
    → (IsWrongBy (record_at start after.changes) (length after.changes) answer → ⊥)
    → IsMade after.number after.changes (length after.changes) answer
    → HasMinimumWithin answer
    → (IsNotAbove (record_at start after.changes) (length before.changes) answer → ⊥)
    → Agrees start after
agrees_logged start input answer before after agrees logged new right made within above =
    let call : Call = record { input = input; asked = length before.changes; position = length after.changes; answer = answer } in
    let (more, whole) = logged.extends in
    let longer : length before.changes ≤ length after.changes = omega (arith, sym (ap length whole) ∙ length-append before.changes more) in
    let come_to = logged.come_to in
    let order = order_added before.begun before.calls call agrees.order (omega arith) longer new in
    let all = all_alike start before.number before.begun before.changes more before.calls agrees.order (omega arith) agrees.each in
    let seen : AllByRecursion (AgreesAt start before.number after.changes) before.calls = subst (λ log. AllByRecursion (AgreesAt start before.number log) before.calls) whole all in
    let own : AllByRecursion (AgreesAt start after.number after.changes) before.calls = subst (λ number. AllByRecursion (AgreesAt start number after.changes) before.calls) (sym logged.number) seen in
    let here : AgreesAt start after.number after.changes call = record { right = right; made = made; within = within; above = above } in
    record {
      own = owned (answer_changes answer) refl;
      order = subst (NeverGoesBack after.begun) (sym logged.calls) (subst (λ begun. NeverGoesBack begun (before.calls ++ call ∷ [])) (sym logged.begun) order);
      come_to = omega (arith, ap (position_after_calls after.begun) logged.calls ∙ position_of_added after.begun before.calls call);
      each = subst (AllByRecursion (AgreesAt start after.number after.changes)) (sym logged.calls) (each-append (AgreesAt start after.number after.changes) before.calls (call ∷ []) own (here, tt));
    }
  where
    added : changed_positions after.calls ≡ changed_positions before.calls ++ (if answer_changes answer then length after.changes ∷ [] else [])
    added = ap changed_positions logged.calls ∙ positions_added before.calls (record { input = input; asked = length before.changes; position = length after.changes; answer = answer })

    owned : (b : Bool) → answer_changes answer ≡ b → own_positions (sight after) ≡ changed_positions after.calls
    owned true is = logged.changed is ∙ (ap (λ ps. ps ++ length after.changes ∷ []) agrees.own
        ∙ sym (added ∙ ap (λ b. changed_positions before.calls ++ (if b then length after.changes ∷ [] else [])) is))
    owned false is = logged.own is ∙ (agrees.own
        ∙ sym (added ∙ (ap (λ b. changed_positions before.calls ++ (if b then length after.changes ∷ [] else [])) is ∙ append-nil (changed_positions before.calls))))

-- ---- each kind of call

last_at : (start : Record) (log : List Change) → record_at start log (length log) ≡ last_record start log
last_at start log = ap (last_record start) (take-length log)

-- an answer of which the register says nothing
abbrev pub IsQuiet : CallAnswer → Type 0
IsQuiet (Version rec limits locked_out) = ⊥
IsQuiet (Acked rec raised changed) = ⊥
IsQuiet (Answered issued) = ⊥
IsQuiet Told = Unit {0}
IsQuiet (Refused cause) = Unit {0}

pub agrees_quiet : (start : Record) (input : Input) (answer : CallAnswer) (before after : Account) → IsQuiet answer → Agrees start before → Logs before input answer after → Agrees start after
agrees_quiet start input (Version rec limits locked_out) before after quiet agrees logged = absurd quiet
agrees_quiet start input (Acked rec raised changed) before after quiet agrees logged = absurd quiet
agrees_quiet start input (Answered issued) before after quiet agrees logged = absurd quiet
agrees_quiet start input Told before after quiet agrees logged = agrees_logged start input Told before after agrees logged (λ is. absurd (cc is)) (λ wrong. wrong) tt tt (λ low. low)
agrees_quiet start input (Refused cause) before after quiet agrees logged = agrees_logged start input (Refused cause) before after agrees logged (λ is. absurd (cc is)) (λ wrong. wrong) tt tt (λ low. low)

-- of a request for a commit version the register says only that its version is above what was seen
ask_agrees : (start : Record) (num processed at : ℕ) (given : Result Issued Refusal) (before after : Account) → (IsNotAbove (λ _. last_record start before.changes) (length before.changes) (logged_as given) → ⊥)
    → Agrees start before → Logs before (input.Ask num processed at) (logged_as given) after → Agrees start after
ask_agrees start num processed at (Ok issued) before after above agrees logged =
    let same : after.changes ≡ before.changes = logged.stays refl in
    let seen : record_at start after.changes (length before.changes) ≡ last_record start before.changes = ap (λ log. record_at start log (length before.changes)) same ∙ last_at start before.changes in
    agrees_logged start (input.Ask num processed at) (Answered issued) before after agrees logged (λ is. absurd (cc is)) (λ wrong. wrong) tt tt
    (λ low. above (low_alike (record_at start after.changes) (λ _. last_record start before.changes) (length before.changes) (Answered issued) seen low))
ask_agrees start num processed at (Err cause) before after above agrees logged = agrees_quiet start (input.Ask num processed at) (Refused cause) before after tt agrees logged

pub agrees_asked : (begun : Chain) (start : Record) (num processed at : ℕ) (before after : Account) (result : Result Issued ClientError) → Agrees start before → Asks begun start num processed at before after result → Agrees start after
agrees_asked begun start num processed at before after result agrees asks =
    let both = subst (λ (a : CallAnswer). (IsNotAbove (λ _. last_record start before.changes) (length before.changes) a → ⊥) × Logs before (input.Ask num processed at) a after) asks.answered (asks.above, asks.logged) in
    ask_agrees start num processed at (answer_to (record begun { answers = asks.by_then }) (request_of before num processed at)) before after both.0 agrees both.1

read_agrees : (start : Record) (opts : GrvOpts) (answer : CallAnswer) (before after : Account) → IsReadAnswer start opts after answer → Agrees start before → Logs before (input.Grv opts) answer after → Agrees start after
read_agrees start opts (Version rec limits locked_out) before after answered agrees logged =
    agrees_logged start (input.Grv opts) (Version rec limits locked_out) before after agrees logged (λ is. absurd (cc is)) (λ wrong. wrong (answered.0 ∙ sym (last_at start after.changes))) tt tt (λ low. low)
read_agrees start opts (Acked rec raised changed) before after answered agrees logged = absurd answered
read_agrees start opts (Answered issued) before after answered agrees logged = absurd answered
read_agrees start opts Told before after answered agrees logged = absurd answered
read_agrees start opts (Refused cause) before after answered agrees logged = agrees_quiet start (input.Grv opts) (Refused cause) before after tt agrees logged

pub agrees_read : (start : Record) (opts : GrvOpts) (before after : Account) (result : Result ReadVersion ClientError) → Agrees start before → Reads start opts before after result → Agrees start after
agrees_read start opts before after result agrees reads = read_agrees start opts reads.answer before after reads.answered agrees reads.logged

-- a change is the last of what its client has then seen
pub record IsLast (start rec : Record) (raised : Bool) (before after : Account) : Type 0 where
  pub longer : length before.changes < length after.changes
  pub right : IsWrongBy (record_at start after.changes) (length after.changes) (Acked rec raised true) → ⊥
  pub made : slice_get after.changes (length after.changes - 1) ≡ Some (record { reporter = before.number; rec = rec })

change_last : (start rec : Record) (raised : Bool) (before after : Account) → IsChangedBy start rec raised (sight before) (sight after) → IsLast start rec raised before after
change_last start rec raised before after changed =
    let own : changed.number ≡ before.number = cc changed.reporter in
    let one : Change = record { reporter = changed.number; rec = rec } in
    let count : length after.changes ≡ length changed.before + 1 = ap length changed.last ∙ length-append changed.before (one ∷ []) in
    let place : length after.changes - 1 ≡ length changed.before = omega arith in
    let (more, whole) = changed.seen in
    let taken : take (length after.changes - 1) after.changes ≡ changed.before =
    ap (λ n. take n after.changes) place ∙ (ap (take (length changed.before)) changed.last ∙ take-append_seam changed.before (one ∷ [])) in
    let found : record_at start after.changes (length after.changes - 1) ≡ last_record start changed.before = ap (last_record start) taken in
    record {
      longer = omega (arith, sym (ap length whole) ∙ length-append before.changes more);
      right = misanswered (record_at start after.changes (length after.changes - 1)) (changed.raised_is ∙ ap (λ (r : Record). raises r rec) (sym found)) (ap (λ (r : Record). changes r rec) found ∙ changed.changes);
      made = ap (slice_get after.changes) place ∙ (ap (λ log. slice_get log (length changed.before)) changed.last ∙ (at_place changed.before one [] ∙ ap (λ number. Some (record { reporter = number; rec = rec })) own));
    }
  where
    misanswered : (current : Record) → raised ≡ raises current rec → changes current rec ≡ true → IsMisanswered current rec raised true → ⊥
    misanswered current same up (inl differs) = differs same
    misanswered current same up (inr differs) = differs (sym up)

not_raised : (current rec : Record) → changes current rec ≡ false → raises current rec ≡ false
not_raised current rec same = go (raises current rec) refl
  where
    go : (b : Bool) → raises current rec ≡ b → raises current rec ≡ false
    go false is = is
    go true is = absurd (cc (is, same))

report_agrees : (start : Record) (num : ℕ) (locked : Bool) (metadata : Option (List ℕ)) (min_known : ℕ) (version : Option ℕ) (answer : CallAnswer) (before after : Account)
    → IsReportAnswer start version locked metadata min_known before after answer → Agrees start before → Logs before (input.Report num locked metadata min_known) answer after → Agrees start after
report_agrees start num locked metadata min_known version (Version rec limits locked_out) before after answered agrees logged = absurd answered
report_agrees start num locked metadata min_known version (Answered issued) before after answered agrees logged = absurd answered
report_agrees start num locked metadata min_known version Told before after answered agrees logged = absurd answered
report_agrees start num locked metadata min_known version (Refused cause) before after answered agrees logged = agrees_quiet start (input.Report num locked metadata min_known) (Refused cause) before after tt agrees logged
report_agrees start num locked metadata min_known version (Acked rec raised true) before after answered agrees logged =
    let last = change_last start rec raised before after answered.5 in
    agrees_logged start (input.Report num locked metadata min_known) (Acked rec raised true) before after agrees logged (λ _. last.longer) last.right
    (last.made ∙ ap (λ number. Some (record { reporter = number; rec = rec })) (sym logged.number)) answered.4.within (λ low. low)
report_agrees start num locked metadata min_known version (Acked rec raised false) before after answered agrees logged =
    agrees_logged start (input.Report num locked metadata min_known) (Acked rec raised false) before after agrees logged (λ is. absurd (cc is)) right tt answered.4.within (λ low. low)
  where
    none : changes (record_at start after.changes (length after.changes)) rec ≡ false
    none = ap (λ (r : Record). changes r rec) (last_at start after.changes) ∙ answered.5.changes

    right : IsMisanswered (record_at start after.changes (length after.changes)) rec raised false → ⊥
    right (inl differs) = differs (answered.5.raised_is ∙ sym (not_raised (record_at start after.changes (length after.changes)) rec none))
    right (inr differs) = differs (sym none)

pub agrees_reported : (start : Record) (num : ℕ) (locked : Bool) (metadata : Option (List ℕ)) (min_known : ℕ) (before after : Account) (result : Result Ack ClientError) → Agrees start before
    → Reports start num locked metadata min_known before after result → Agrees start after
agrees_reported start num locked metadata min_known before after result agrees reports =
    report_agrees start num locked metadata min_known (issued_under before.calls num) reports.answer before after reports.answered agrees reports.logged
