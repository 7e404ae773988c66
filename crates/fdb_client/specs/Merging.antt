-- The chain of commit versions, as the logs of those who drew them tell it. (all of this is this
-- product's own)
use Rattle.std.specs.Prelude.{ℕ, false, List, [], ◌∷◌, ◌++◌, flat_map, fold, replicate, slice_set, if◌then◌else◌}
use Rattle.std.specs.Coded.{×_prop, Unit-prop}
use Rattle.std.proofs.Props.{props}
use Rattle.fdb_history.specs.Chain.{GoesOn}
use Rattle.fdb_history.specs.Log.{answers_in}
use Rattle.fdb_history.specs.declared.chain.Issued.{Issued}
use Rattle.fdb_history.specs.declared.log.ClientLog.{ClientLog}

-- What stands where no answer was placed.
abbrev pub no_answer : Issued
no_answer =
    record {
      ordinal = 0;
      proxy = 0;
      num = 0;
      processed = 0;
      prev = 0;
      version = 0;
      at = 0;
      fresh = false;
    }

-- A list after one more answer: a fresh one stands at its ordinal, where there is such a place.
abbrev pub placed : List Issued → Issued → List Issued
placed chain issued = if issued.fresh then slice_set chain issued.ordinal issued else chain

-- A list after some answers, each in its turn.
abbrev pub all_placed : List Issued → List Issued → List Issued
all_placed chain answers = fold placed chain answers

-- The answers of all logs, by client and then by call.
abbrev pub answers_of_logs : List ClientLog → List Issued
answers_of_logs logs = flat_map (λ log. answers_in log.calls) logs

-- The chain of so many commit versions, as some logs tell it: each fresh answer of theirs stands at
-- its ordinal.
abbrev pub chain_in : ℕ → List ClientLog → List Issued
chain_in drawn logs = all_placed (replicate drawn no_answer) (answers_of_logs logs)

-- That some answers go on from others has one proof at most, so that a run may keep it as a fact.
pub goes_on_once : (epoch_end recovery : ℕ) (before answers : List Issued)
    → IsProp (GoesOn epoch_end recovery before answers)
goes_on_once epoch_end recovery before [] = Unit-prop
goes_on_once epoch_end recovery before (answer ∷ later) =
    ×_prop (Prim.hlevel props) (goes_on_once epoch_end recovery (before ++ answer ∷ []) later)
