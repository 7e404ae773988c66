-- Which chain a handle stands for, and what C is told of its answers.
use Rattle.std.specs.Prelude.{ℕ, false, List, [], ◌∷◌, Option, None, Some, Result, Ok, Err}
use Rattle.fdb_history.specs.Issuing.{Chain, answer_to, chain_after}
use Rattle.fdb_history.specs.declared.chain.Ask.{Ask}
use Rattle.fdb_history.specs.declared.chain.Issued.{Issued}
use Rattle.fdb_history.specs.declared.log.Refusal.{Refusal}
use Rattle.fdb_history.specs.declared.log.Refusal.TheVariants as refusal
use Rattle.fdb_chain.specs.Recent.{Recent, IsStateOf}
use Rattle.fdb_c.specs.declared.chain.FdbAsk.{FdbAsk}
use Rattle.fdb_c.specs.declared.chain.FdbAnswer.{FdbAnswer}
use Rattle.fdb_c.specs.declared.status.TheConstants.{FDB_OK, FDB_UNKNOWN_PROXY, FDB_EARLY, FDB_FORGOTTEN, FDB_EXHAUSTED, FDB_MEMORY}

-- What a handle has is kept of a chain; one without stands for none.
abbrev pub StandsFor : Option Recent → Chain → Type 0
StandsFor None chain = ⊥
StandsFor (Some state) chain = IsStateOf state chain

-- A request, as the library sees it.
abbrev pub ask_of : FdbAsk → Ask
ask_of ask = record { proxy = ask.proxy; num = ask.num; processed = ask.processed; at = ask.at }

-- A refusal by its number. What is expected is 0 but for an early request.
abbrev pub refused : ℕ → ℕ → FdbAnswer
refused status expected = record {
  ordinal = 0;
  num = expected;
  processed = 0;
  prev = 0;
  version = 0;
  at = 0;
  proxy = 0;
  status = status;
  fresh = false;
}

-- An answer, as C is told of it.
abbrev pub told : Result Issued Refusal → FdbAnswer
told (Ok issued) = record {
  ordinal = issued.ordinal;
  num = issued.num;
  processed = issued.processed;
  prev = issued.prev;
  version = issued.version;
  at = issued.at;
  proxy = issued.proxy;
  status = FDB_OK;
  fresh = issued.fresh;
}
told (Err refusal.UnknownProxy) = refused FDB_UNKNOWN_PROXY 0
told (Err (refusal.Early expected)) = refused FDB_EARLY expected
told (Err refusal.Forgotten) = refused FDB_FORGOTTEN 0
told (Err refusal.Exhausted) = refused FDB_EXHAUSTED 0
told (Err _) = refused FDB_MEMORY 0

-- The answers to some requests, each in its turn.
abbrev pub told_each : Chain → List FdbAsk → List FdbAnswer
told_each chain [] = []
told_each chain (ask ∷ asks) =
    told (answer_to chain (ask_of ask)) ∷ told_each (chain_after chain (answer_to chain (ask_of ask))) asks
