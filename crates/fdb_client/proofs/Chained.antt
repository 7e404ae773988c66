-- Each call leaves what a client has logged in agreement with the answers that its token proves.
use Rattle.std.proofs.Common.{◌≡◌, ◌≢◌, ℕ, ◌<◌, ◌≤◌, arith, ◌==◌, Bool, true, false, cond, List, [], ◌∷◌, ◌++◌, length, Option, Some, Result, Ok, Err, refl, sym, ap, ◌∙◌, subst, append-nil, filter}
use Rattle.std.specs.Prelude.{Contains}
use mathlib.Core.List.{IsPrefix}
use mathlib.Core.Path.{Path}
use Rattle.fdb_chain.specs.ChainCore.{IsEpoch, new_chain}
use Rattle.fdb_history.specs.Chain.{IsChain}
use Rattle.fdb_history.specs.Issuing as issuing
use Rattle.fdb_history.specs.Issuing.{answer_to, chain_after, with_answer}
use Rattle.fdb_history.specs.Log.{answer_changes, answer_in, fresh_answers, position_after_calls}
use Rattle.fdb_history.specs.Strays.{is_justified, issued_under, logged_as}
use Rattle.fdb_history.specs.declared.chain.Ask.{Ask}
use Rattle.fdb_history.specs.declared.chain.Issued.{Issued}
use Rattle.fdb_history.specs.declared.log.GrvOpts.{GrvOpts}
use Rattle.fdb_history.specs.declared.log.Call.{Call}
use Rattle.fdb_history.specs.declared.log.CallAnswer.{CallAnswer}
use Rattle.fdb_history.specs.declared.log.CallAnswer.TheVariants.{Version, Acked, Answered, Told, Refused}
use Rattle.fdb_history.specs.declared.log.Input.{Input}
use Rattle.fdb_history.specs.declared.log.Refusal.{Refusal}
use Rattle.fdb_live.specs.Seen.{last_record, own_positions}
use Rattle.fdb_live.specs.declared.view.Change.{Change}
use Rattle.fdb_history.specs.declared.log.Input.TheVariants as input
use Rattle.fdb_history.specs.declared.register.Record.{Record}
use Rattle.fdb_history.specs.declared.register.TheConstants.{MAX_VERSION}
use Rattle.fdb_chain.specs.declared.error.ChainError.{ChainError}
use Rattle.fdb_live.specs.Holding.{IsAsked, answers_to, own_answers, versions}
use Rattle.fdb_live.specs.Seen.{Sight}
use Rattle.fdb_client.proofs.Chains.{answers_to-append, prefix_trans, version_stays}
use Rattle.fdb_client.specs.Account.{Account, Logs, drawn_in, may_hear_more, sight}
use Rattle.fdb_live.specs.declared.live_record.Ack.{Ack}
use Rattle.fdb_client.specs.Agreeing.{Agrees, AgreesWithChain, AreJustified}
use Rattle.fdb_client.specs.Calls.{Asks, IsReadAnswer, IsReportAnswer, Reads, Reports, request_of}
use Rattle.fdb_client.specs.Returned.{AskReturns, error_of}
use Rattle.fdb_client.proofs.Own.{own_answers_same}
use Rattle.fdb_client.specs.declared.error.ClientError.{ClientError}
use Rattle.fdb_client.specs.declared.error.ClientError.TheVariants.{Locked, Stranger, ProxyClosed, Chain, Queue, NotIssued, Live, Memory}
use Rattle.fdb_client.specs.declared.reply.ReadVersion.{ReadVersion}
use Rattle.fdb_client.proofs.Agreements.{agrees_asked, agrees_quiet, agrees_read, agrees_reported}
use Rattle.fdb_client.proofs.Calls.{fresh_of_added, position_of_added, versions_of_added}
use Rattle.fdb_client.proofs.Justified.{justified_after, justified_read, justified_report, same_number}

-- Where a call was logged whose answer, if it is fresh, became the client's own, and which is justified, its calls agree.
pub chain_logged : (epoch_end recovery : ℕ) (input : Input) (answer : CallAnswer) (before after : Account) → AgreesWithChain epoch_end recovery before → Logs before input answer after
    → own_answers (sight after) ≡ own_answers (sight before) ++ drawn_in answer
    → ((issued : Issued) → answer ≡ Answered issued → Contains (versions after.answers) issued.version)
    → ((chain : List Issued) → IsChain epoch_end recovery chain → IsPrefix after.answers chain → is_justified chain before.number before.calls (record { input = input; asked = length before.changes; position = length after.changes; answer = answer }) ≡ true)
    → AgreesWithChain epoch_end recovery after
chain_logged epoch_end recovery input answer before after agrees logged own drawn justified =
    let call : Call = record { input = input; asked = length before.changes; position = length after.changes; answer = answer } in
    record {
      own = own ∙ (ap (λ l. l ++ drawn_in answer) agrees.own ∙ sym (ap fresh_answers logged.calls ∙ fresh_of_added before.calls call));
      drawn = subst (λ (calls : List Call). (num version : ℕ) → issued_under calls num ≡ Some version → Contains (versions after.answers) version) (sym logged.calls)
          (versions_of_added (Contains (versions after.answers)) before.calls call drawn (λ num version is. version_stays before.answers after.answers version logged.answers (agrees.drawn num version is)));
      justified = λ chain one begins.
          subst (λ (p : ℕ × List Call). AreJustified chain p.0 [] p.1) (λ i. (sym logged.number i, sym logged.calls i))
          (justified_after chain before.number [] before.calls call (agrees.justified chain one (prefix_trans before.answers after.answers chain logged.answers begins)) (justified chain one begins));
    }

-- a call that got no commit version
pub chain_quiet : (epoch_end recovery : ℕ) (input : Input) (answer : CallAnswer) (before after : Account) → answer_in answer ≡ [] → AgreesWithChain epoch_end recovery before → Logs before input answer after
    → ((chain : List Issued) → is_justified chain before.number before.calls (record { input = input; asked = length before.changes; position = length after.changes; answer = answer }) ≡ true)
    → AgreesWithChain epoch_end recovery after
chain_quiet epoch_end recovery input answer before after none agrees logged justified =
    let not_drawn : drawn_in answer ≡ [] = ap (filter (λ (issued : Issued). issued.fresh)) none in
    chain_logged epoch_end recovery input answer before after agrees logged
    (logged.not_drawn not_drawn ∙ (sym (append-nil (own_answers (sight before))) ∙ ap (λ l. own_answers (sight before) ++ l) (sym not_drawn)))
    (λ issued is. absurd (cc (none, ap answer_in is)))
    (λ chain one begins. justified chain)

of_client : (n : ℕ) (answer : CallAnswer) → ((issued : Issued) → answer ≡ Answered issued → issued.proxy ≡ n) → answers_to n (drawn_in answer) ≡ drawn_in answer
of_client n (Answered issued) own = go issued.fresh (issued.proxy == n) (rw (own issued refl) (same_number n))
  where
    go : (fresh mine : Bool) → mine ≡ true → answers_to n (cond fresh (issued ∷ []) []) ≡ cond fresh (issued ∷ []) []
    go true mine is = rw (own issued refl, same_number n) refl
    go false mine is = refl
of_client n (Version rec limits locked_out) own = refl
of_client n (Acked rec raised changed) own = refl
of_client n Told own = refl
of_client n (Refused cause) own = refl

-- that each chain which goes on from the answer to a request justifies the call
abbrev pub AreJustifiedAnswers : Type 0
AreJustifiedAnswers = (given : issuing.Chain) (ask : Ask) (calls : List Call) (chain : List Issued) (asked position : ℕ) → ask.proxy < given.proxies → given.recovery ≤ MAX_VERSION → fresh_answers calls ≡ answers_to ask.proxy given.answers
    → IsChain given.epoch_end given.recovery chain → IsPrefix (chain_after given (answer_to given ask)).answers chain
    → is_justified chain ask.proxy calls (record { input = input.Ask ask.num ask.processed ask.at; asked = asked; position = position; answer = logged_as (answer_to given ask) }) ≡ true

-- what has been answered after a request
seen_after : (given : issuing.Chain) (answer : Result Issued Refusal) → given.answers ++ drawn_in (logged_as answer) ≡ (chain_after given answer).answers
seen_after given (Err cause) = append-nil given.answers
seen_after given (Ok issued) = go issued.fresh
  where
    go : (b : Bool) → given.answers ++ cond b (issued ∷ []) [] ≡ (cond b (record given { answers = given.answers ++ issued ∷ [] }) given).answers
    go true = refl
    go false = append-nil given.answers

pub chain_asked : (law : AreJustifiedAnswers) (epoch_end recovery reporters : ℕ) (start : Record) (num processed at : ℕ) (before after : Account) (result : Result Issued ClientError) → IsEpoch epoch_end recovery → before.number < reporters → AgreesWithChain epoch_end recovery before
    → (asks : Asks (new_chain epoch_end recovery reporters) start num processed at before after result)
    → ((issued : Issued) → result ≡ Ok issued → (issued.proxy ≡ before.number) × Contains (versions after.answers) issued.version)
    → AgreesWithChain epoch_end recovery after
chain_asked law epoch_end recovery reporters start num processed at before after result epoch below agrees asks issued_is =
    let given : issuing.Chain = record { epoch_end = epoch_end; recovery = recovery; proxies = reporters; answers = asks.by_then } in
    let ask : Ask = request_of before num processed at in
    let told : (issued : Issued) → asks.answer ≡ Answered issued → (issued.proxy ≡ before.number) × Contains (versions after.answers) issued.version = λ issued is. issued_is issued (subst (λ (a : CallAnswer). AskReturns a result) is asks.returned) in
    let own : answers_to before.number after.answers ≡ own_answers (sight before) ++ drawn_in asks.answer =
    ap (answers_to before.number) asks.now ∙ (answers_to-append before.number asks.by_then (drawn_in asks.answer) ∙ ap (λ (p : List Issued × List Issued). p.0 ++ p.1) (λ i. (asks.own i, of_client before.number asks.answer (λ issued is. (told issued is).0) i))) in
    let mine : fresh_answers before.calls ≡ answers_to before.number asks.by_then = sym agrees.own ∙ sym asks.own in
    let now : after.answers ≡ (chain_after given (answer_to given ask)).answers = asks.now ∙ (ap (λ (a : CallAnswer). asks.by_then ++ drawn_in a) asks.answered ∙ seen_after given (answer_to given ask)) in
    chain_logged epoch_end recovery (input.Ask num processed at) asks.answer before after agrees asks.logged
    (ap (λ n. answers_to n after.answers) asks.logged.number ∙ own)
    (λ issued is. (told issued is).1)
    (λ chain one begins.
    subst (λ (a : CallAnswer). is_justified chain before.number before.calls (record { input = input.Ask num processed at; asked = length before.changes; position = length after.changes; answer = a }) ≡ true) (sym asks.answered)
    (law given ask before.calls chain (length before.changes) (length after.changes) below epoch.in_range mine one (subst (λ l. IsPrefix l chain) now begins)))

-- who has seen more answers, none of which is its own, agrees as before
pub chain_more : (epoch_end recovery : ℕ) (before after : Account) → after.number ≡ before.number → after.calls ≡ before.calls → IsPrefix before.answers after.answers → own_answers (sight after) ≡ own_answers (sight before)
    → AgreesWithChain epoch_end recovery before → AgreesWithChain epoch_end recovery after
chain_more epoch_end recovery before after number calls more own agrees = record {
  own = own ∙ (agrees.own ∙ ap fresh_answers (sym calls));
  drawn = subst (λ (all : List Call). (num version : ℕ) → issued_under all num ≡ Some version → Contains (versions after.answers) version) (sym calls)
      (λ num version is. version_stays before.answers after.answers version more (agrees.drawn num version is));
  justified = λ chain one begins. subst (λ (p : ℕ × List Call). AreJustified chain p.0 [] p.1) (λ i. (sym number i, sym calls i)) (agrees.justified chain one (prefix_trans before.answers after.answers chain more begins));
}

-- ---- all that a client's log keeps to

-- where a client's log has come to, and that it agrees with its token
abbrev pub HasAgreed : ℕ → ℕ → Record → Account → Type 0
HasAgreed epoch_end recovery start account =
    (position_after_calls account.begun account.calls ≡ length account.changes) × Agrees start account × AgreesWithChain epoch_end recovery account

comes_to_last : (input : Input) (answer : CallAnswer) (before after : Account) → Logs before input answer after → position_after_calls after.begun after.calls ≡ length after.changes
comes_to_last input answer before after logged =
    ap (position_after_calls after.begun) logged.calls ∙ position_of_added after.begun before.calls (record { input = input; asked = length before.changes; position = length after.changes; answer = answer })

module _ (epoch_end recovery : ℕ) (start : Record) (before after : Account) (agreed : HasAgreed epoch_end recovery start before) where
  read_answer : (opts : GrvOpts) (answer : CallAnswer) → IsReadAnswer start opts after answer → answer_in answer ≡ []
  read_answer opts (Version rec limits locked_out) answered = refl
  read_answer opts (Refused cause) answered = refl
  read_answer opts (Acked rec raised changed) answered = absurd answered
  read_answer opts (Answered issued) answered = absurd answered
  read_answer opts Told answered = absurd answered

  pub agreed_read : (opts : GrvOpts) (result : Result ReadVersion ClientError) → Reads start opts before after result → HasAgreed epoch_end recovery start after
  agreed_read opts result reads = (
    comes_to_last (input.Grv opts) reads.answer before after reads.logged,
    agrees_read start opts before after result agreed.1 reads,
    chain_quiet epoch_end recovery (input.Grv opts) reads.answer before after (read_answer opts reads.answer reads.answered) agreed.2 reads.logged
        (λ chain. justified_read start opts after reads.answer chain before.number before.calls (length before.changes) (length after.changes) reads.answered),
  )

  report_answer : (version : Option ℕ) (locked : Bool) (metadata : Option (List ℕ)) (min_known : ℕ) (answer : CallAnswer) → IsReportAnswer start version locked metadata min_known before after answer → answer_in answer ≡ []
  report_answer version locked metadata min_known (Acked rec raised changed) answered = refl
  report_answer version locked metadata min_known (Refused cause) answered = refl
  report_answer version locked metadata min_known (Version rec limits locked_out) answered = absurd answered
  report_answer version locked metadata min_known (Answered issued) answered = absurd answered
  report_answer version locked metadata min_known Told answered = absurd answered

  pub agreed_reported : (num : ℕ) (locked : Bool) (metadata : Option (List ℕ)) (min_known : ℕ) (result : Result Ack ClientError) → Reports start num locked metadata min_known before after result → HasAgreed epoch_end recovery start after
  agreed_reported num locked metadata min_known result reports = (
    comes_to_last (input.Report num locked metadata min_known) reports.answer before after reports.logged,
    agrees_reported start num locked metadata min_known before after result agreed.1 reports,
    chain_quiet epoch_end recovery (input.Report num locked metadata min_known) reports.answer before after (report_answer (issued_under before.calls num) locked metadata min_known reports.answer reports.answered) agreed.2 reports.logged
        (λ chain. justified_report start num locked metadata min_known before after reports.answer chain before.number before.calls (length before.changes) (length after.changes) reports.answered),
  )

  pub agreed_told : (asked : Input) → ((chain : List Issued) → is_justified chain before.number before.calls (record { input = asked; asked = length before.changes; position = length after.changes; answer = Told }) ≡ true)
      → Logs before asked Told after → HasAgreed epoch_end recovery start after
  agreed_told asked justified logged = (
    comes_to_last asked Told before after logged,
    agrees_quiet start asked Told before after tt agreed.1 logged,
    chain_quiet epoch_end recovery asked Told before after refl agreed.2 logged justified,
  )

  pub agreed_asked : (law : AreJustifiedAnswers) (reporters num processed at : ℕ) (result : Result Issued ClientError) → IsEpoch epoch_end recovery → before.number < reporters
      → (asks : Asks (new_chain epoch_end recovery reporters) start num processed at before after result)
      → ((issued : Issued) → result ≡ Ok issued → (issued.proxy ≡ before.number) × Contains (versions after.answers) issued.version)
      → HasAgreed epoch_end recovery start after
  agreed_asked law reporters num processed at result epoch below asks issued_is = (
    comes_to_last (input.Ask num processed at) asks.answer before after asks.logged,
    agrees_asked (new_chain epoch_end recovery reporters) start num processed at before after result agreed.1 asks,
    chain_asked law epoch_end recovery reporters start num processed at before after result epoch below agreed.2 asks issued_is,
  )

-- a call that changed nothing of the record and by which a client saw no change of it, as it is logged
logs_still : (asked : Input) (answer : CallAnswer) (before after : Account) → answer_changes answer ≡ false → position_after_calls before.begun before.calls ≡ length before.changes → after.number ≡ before.number → after.begun ≡ before.begun → after.changes ≡ before.changes
    → IsPrefix before.answers after.answers → (may_hear_more asked answer ≡ false → after.answers ≡ before.answers) → (drawn_in answer ≡ [] → own_answers (sight after) ≡ own_answers (sight before))
    → after.calls ≡ before.calls ++ record { input = asked; asked = length before.changes; position = length before.changes; answer = answer } ∷ []
    → Logs before asked answer after
logs_still asked answer before after still come_to number begun changes more hears not_drawn calls = record {
  number = number;
  begun = begun;
  calls = calls ∙ ap (λ n. before.calls ++ record { input = asked; asked = length before.changes; position = n; answer = answer } ∷ []) (sym (ap length changes));
  come_to = come_to;
  extends = ([], append-nil before.changes ∙ sym changes);
  stays = λ _. changes;
  own = λ _. ap (λ (p : ℕ × List Change). own_positions (record { reporter = Some p.0; changes = p.1; answers = [] })) (λ i. (number i, changes i));
  changed = λ is. absurd (cc (is, still));
  answers = more;
  hears = hears;
  not_drawn = not_drawn;
}

-- a refused call by which a client saw nothing new, as it is logged
pub logs_refused : (asked : Input) (cause : Refusal) (before after : Account) → position_after_calls before.begun before.calls ≡ length before.changes → after.number ≡ before.number → after.begun ≡ before.begun → after.answers ≡ before.answers → after.changes ≡ before.changes
    → after.calls ≡ before.calls ++ record { input = asked; asked = length before.changes; position = length before.changes; answer = Refused cause } ∷ []
    → Logs before asked (Refused cause) after
logs_refused asked cause before after come_to number begun answers changes calls =
    logs_still asked (Refused cause) before after refl come_to number begun changes ([], append-nil before.answers ∙ sym answers) (λ _. answers)
    (λ _. ap (λ (p : ℕ × List Issued). answers_to p.0 p.1) (λ i. (number i, answers i))) calls

pub same_issued : {one other : Issued} → Path (Result Issued ClientError) (Ok one) (Ok other) → one ≡ other
same_issued is = cc is

-- a client that asked with its token
module _ (begun : issuing.Chain) (start : Record) (number begun_at num processed at : ℕ) (calls now_calls : List Call) (old new : Sight)
    (whose : old.reporter ≡ Some number) (come_to : position_after_calls begun_at calls ≡ length old.changes) (stays : new.reporter ≡ old.reporter) (same : new.changes ≡ old.changes) (more : IsPrefix old.answers new.answers) where
  abbrev before : Account
  before = record { number = number; begun = begun_at; calls = calls; answers = old.answers; changes = old.changes }

  abbrev after : Account
  after = record { number = number; begun = begun_at; calls = now_calls; answers = new.answers; changes = new.changes }

  abbrev AddsCall : CallAnswer → Type 0
  AddsCall answer = now_calls ≡ calls ++ record { input = input.Ask num processed at; asked = length old.changes; position = length old.changes; answer = answer } ∷ []

  asked_still : (answer : CallAnswer) → answer_changes answer ≡ false → (drawn_in answer ≡ [] → own_answers new ≡ own_answers old) → AddsCall answer → Logs before (input.Ask num processed at) answer after
  asked_still answer still own adds = logs_still (input.Ask num processed at) answer before after still come_to refl refl same more (λ is. absurd (cc is)) (λ none. own_answers_same number old new whose stays (own none)) adds

  now_is : (by_then : List Issued) (issued : Issued) (b : Bool) → issued.fresh ≡ b → record begun { answers = new.answers } ≡ with_answer (record begun { answers = by_then }) issued
      → new.answers ≡ by_then ++ cond b (issued ∷ []) []
  now_is by_then issued true fresh is = ap (λ (c : issuing.Chain). c.answers) (is ∙ ap (λ b. cond b (record begun { answers = by_then ++ issued ∷ [] }) (record begun { answers = by_then })) fresh)
  now_is by_then issued false fresh is = ap (λ (c : issuing.Chain). c.answers) (is ∙ ap (λ b. cond b (record begun { answers = by_then ++ issued ∷ [] }) (record begun { answers = by_then })) fresh) ∙ sym (append-nil by_then)

  not_fresh : (issued : Issued) (b : Bool) → issued.fresh ≡ b → cond b (issued ∷ []) [] ≡ [] → issued.fresh ≡ false
  not_fresh issued true is none = absurd (cc none)
  not_fresh issued false is none = is

  pub asks_ok : (issued : Issued) → IsAsked begun (request_of before num processed at) old (Ok issued) new → (issued.fresh ≡ false → own_answers new ≡ own_answers old)
      → (issued.fresh ≡ true → 0 < issued.ordinal → (last_record start old.changes).version < issued.version) → AddsCall (Answered issued) → Asks begun start num processed at before after (Ok issued)
  asks_ok issued asked again above adds = record {
    answer = Answered issued;
    logged = asked_still (Answered issued) refl (λ none. again (not_fresh issued issued.fresh refl none)) adds;
    by_then = asked.before;
    seen = asked.seen;
    own = asked.own;
    answered = sym (ap logged_as asked.answer);
    now = now_is asked.before issued issued.fresh refl asked.ok;
    above = λ low. (let up = above low.0 (omega (arith, low.1)) in let most = low.2 in omega arith);
    returned = refl;
  }

  pub asks_err : (cause : ChainError) (refusal : Refusal) (error : ClientError) (asked : IsAsked begun (request_of before num processed at) old (Err cause) new) → own_answers new ≡ own_answers old
      → answer_to (record begun { answers = asked.before }) (request_of before num processed at) ≡ Err refusal → error ≡ error_of refusal → AddsCall (Refused refusal) → Asks begun start num processed at before after (Err error)
  asks_err cause refusal error asked own is error_is adds = record {
    answer = Refused refusal;
    logged = asked_still (Refused refusal) refl (λ none. own) adds;
    by_then = asked.before;
    seen = asked.seen;
    own = asked.own;
    answered = sym (ap logged_as is);
    now = asked.err ∙ sym (append-nil asked.before);
    above = λ low. low;
    returned = ap Err error_is;
  }

  -- and was refused for memory: it has seen more answers, and logged nothing
  pub agreed_more : (epoch_end recovery : ℕ) → own_answers new ≡ own_answers old → now_calls ≡ calls → HasAgreed epoch_end recovery start before → HasAgreed epoch_end recovery start after
  agreed_more epoch_end recovery own is agreed = (
    ap (position_after_calls begun_at) is ∙ (agreed.0 ∙ sym (ap length same)),
    subst (λ (p : List Call × List Change). Agrees start (record { number = number; begun = begun_at; calls = p.0; answers = new.answers; changes = p.1 })) (λ i. (sym is i, sym same i))
        (record { own = agreed.1.own; order = agreed.1.order; come_to = agreed.1.come_to; each = agreed.1.each }),
    chain_more epoch_end recovery before after refl is more (own_answers_same number old new whose stays own) agreed.2,
  )

-- what was added to a log, by the log and the position before
pub added_alike : {now had was : List Call} {at position : ℕ} (asked : Input) (cause : Refusal) → had ≡ was → at ≡ position → now ≡ had ++ record { input = asked; asked = at; position = at; answer = Refused cause } ∷ []
    → now ≡ was ++ record { input = asked; asked = position; position = position; answer = Refused cause } ∷ []
added_alike asked cause had at now = now ∙ ap (λ (p : List Call × ℕ). p.0 ++ record { input = asked; asked = p.1; position = p.1; answer = Refused cause } ∷ []) (λ i. (had i, at i))

pub same_error : {X : Type 0} {one other : ClientError} → Path (Result X ClientError) (Err one) (Err other) → one ≡ other
same_error is = cc is

pub not_answered : {P : Type 0} {cause : ClientError} {issued : Issued} → Path (Result Issued ClientError) (Err cause) (Ok issued) → P
not_answered is = absurd (cc is)

-- What holds of a client after a call, whether or not that was refused for memory, holds.
pub either_way : {X : Type 0} (P : Type 0) (result : Result X ClientError) → (result ≢ Err Memory → P) → (result ≡ Err Memory → P) → P
either_way P (Ok value) done none = done (λ is. absurd (cc is))
either_way P (Err Memory) done none = none refl
either_way P (Err (Locked version)) done none = done (λ is. absurd (cc is))
either_way P (Err Stranger) done none = done (λ is. absurd (cc is))
either_way P (Err ProxyClosed) done none = done (λ is. absurd (cc is))
either_way P (Err (Chain cause)) done none = done (λ is. absurd (cc is))
either_way P (Err (Queue cause)) done none = done (λ is. absurd (cc is))
either_way P (Err NotIssued) done none = done (λ is. absurd (cc is))
either_way P (Err (Live cause)) done none = done (λ is. absurd (cc is))
