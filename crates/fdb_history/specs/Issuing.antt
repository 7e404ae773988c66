-- What the sequencer answers to a commit version request.
use Rattle.std.specs.Prelude.{ℕ, ◌+◌, ◌==◌, ◌&&◌, nat_lt, nat_le, not, true, false, List, [], ◌∷◌, ◌++◌, length, reverse, Option, None, Some, Result, Ok, Err, if◌then◌else◌}
use Rattle.fdb_history.specs.Chain.{last_answer, prev_after, version_after, latest}
use Rattle.fdb_history.specs.declared.chain.Ask.{Ask}
use Rattle.fdb_history.specs.declared.chain.Issued.{Issued}
use Rattle.fdb_history.specs.declared.log.Refusal.{Refusal}
use Rattle.fdb_history.specs.declared.log.Refusal.TheVariants.{UnknownProxy, Early, Forgotten, Exhausted}
use Rattle.fdb_history.specs.declared.register.TheConstants.{MAX_VERSION}

-- What a sequencer was recruited with, and the fresh answers that it has given.
-- (MasterData of masterserver, FoundationDB 7.1)
pub record Chain : Type 0 where
  pub epoch_end : ℕ
  pub recovery : ℕ
  pub proxies : ℕ
  pub answers : List Issued

-- A search, newest first, for the answer that is kept. The first answer of the proxy with this
-- number is found, unless an answer of the proxy that has processed the number comes before it.
abbrev pub kept_among : ℕ → ℕ → List Issued → Option Issued
kept_among proxy num [] = None
kept_among proxy num (answer ∷ older) =
    if answer.proxy == proxy && (answer.num == num) then Some answer
    else (if answer.proxy == proxy && nat_le num answer.processed then None
    else kept_among proxy num older)

-- The answer that is kept under a proxy's number.
-- (getVersion of masterserver: replies.erase up to mostRecentProcessedRequestNum, and then
-- replies[requestNum])
abbrev pub kept : ℕ → ℕ → List Issued → Option Issued
kept proxy num answers = kept_among proxy num (reverse answers)

-- The next answer, with the request's members.
abbrev pub next_answer : Chain → Ask → Issued
next_answer chain ask =
    record {
      ordinal = length chain.answers;
      proxy = ask.proxy;
      num = ask.num;
      processed = ask.processed;
      prev = prev_after chain.epoch_end (last_answer chain.answers);
      version = version_after chain.recovery (last_answer chain.answers) ask.at;
      at = ask.at;
      fresh = true;
    }

-- A fresh request draws the next version, if there is one. (Exhausted is this product's own)
abbrev pub fresh_answer : Chain → Ask → Result Issued Refusal
fresh_answer chain ask =
    if nat_le (next_answer chain ask).version MAX_VERSION then Ok (next_answer chain ask)
    else Err Exhausted

-- A repeated request gets its kept answer again, all of it but `fresh`.
-- (in the source, nothing comes back for a number that is not kept;
-- Forgotten is this product's own)
abbrev pub kept_answer : Option Issued → Result Issued Refusal
kept_answer None = Err Forgotten
kept_answer (Some answer) = Ok (record answer { fresh = false })

-- A request is ahead of the next number, a repeat, or the next. A repeat is of a number up to its
-- proxy's latest one.
abbrev pub by_number : {A : Type 0} → ℕ → ℕ → A → A → A → A
by_number latest_num num ahead again next =
    if nat_lt (latest_num + 1) num then ahead
    else (if nat_le num latest_num then again else next)

-- The answer to a request after the answers so far.
-- (getVersion of masterserver;
-- in the source an early request waits, and an unknown proxy gets nothing)
abbrev pub answer_to : Chain → Ask → Result Issued Refusal
answer_to chain ask =
    if not (nat_lt ask.proxy chain.proxies) then Err UnknownProxy
    else by_number (latest ask.proxy chain.answers) ask.num
    (Err (Early (latest ask.proxy chain.answers + 1)))
    (kept_answer (kept ask.proxy ask.num chain.answers))
    (fresh_answer chain ask)

-- The chain after an answer: a fresh one is appended, and any other leaves the chain as it was.
abbrev pub with_answer : Chain → Issued → Chain
with_answer chain answer =
    if answer.fresh then record chain { answers = chain.answers ++ answer ∷ [] } else chain

-- The chain after a request was answered so, unchanged by a refusal.
abbrev pub chain_after : Chain → Result Issued Refusal → Chain
chain_after chain (Ok answer) = with_answer chain answer
chain_after chain (Err cause) = chain

-- The chain after some requests, each answered in its turn.
abbrev pub after_asks : Chain → List Ask → Chain
after_asks chain [] = chain
after_asks chain (ask ∷ asks) = after_asks (chain_after chain (answer_to chain ask)) asks
