-- The refusal that is logged for an error.
use Rattle.std.proofs.Common.{◌≡◌, ◌≢◌, Option, None, Some, MatchOption, Result, Err, true, refl}
use Rattle.fdb_chain.specs.ChainCore.{IsAnswer}
use Rattle.fdb_chain.specs.declared.error.ChainError.{ChainError}
use Rattle.fdb_chain.specs.declared.error.ChainError.TheVariants as chain
use Rattle.fdb_client.specs.Returned.{error_of_sequencer}
use Rattle.fdb_client.specs.private.Refusals.{IsOfRead, refusal_for}
use Rattle.fdb_client.specs.declared.error.ClientError.{ClientError}
use Rattle.fdb_client.specs.declared.error.ClientError.TheVariants.{Memory}
use Rattle.fdb_history.specs.Strays.{may_refuse}
use Rattle.fdb_history.specs.declared.chain.Issued.{Issued}
use Rattle.fdb_history.specs.declared.log.GrvOpts.{GrvOpts}
use Rattle.fdb_history.specs.declared.log.Input.TheVariants as input
use Rattle.fdb_history.specs.declared.log.Refusal.{Refusal}
use Rattle.fdb_history.specs.declared.log.Refusal.TheVariants as refusal

-- what the sequencer refuses is logged as the definition's answer
pub of_sequencer : (answer : Result Issued Refusal) (cause : ChainError) → IsAnswer answer (Err cause) → error_of_sequencer cause ≢ Memory
    → (logged : Refusal) × (refusal_for (error_of_sequencer cause) ≡ Some logged) × (answer ≡ Err logged)
of_sequencer answer chain.UnknownProxy is not_memory = (refusal.UnknownProxy, refl, is)
of_sequencer answer (chain.Early expected) is not_memory = (refusal.Early expected, refl, is)
of_sequencer answer chain.Forgotten is not_memory = (refusal.Forgotten, refl, is)
of_sequencer answer chain.Exhausted is not_memory = (refusal.Exhausted, refl, is)
of_sequencer answer chain.Memory is not_memory = absurd (not_memory refl)
of_sequencer answer chain.BadEpoch is not_memory = absurd is
of_sequencer answer chain.NoProxy is not_memory = absurd is

-- what a read fails with is logged as what a read may be refused for
pub of_read : (error : ClientError) → IsOfRead error → error ≢ Memory
    → (logged : Refusal) × (refusal_for error ≡ Some logged) × ((opts : GrvOpts) → may_refuse (input.Grv opts) logged ≡ true)
of_read error is not_memory = go (refusal_for error) refl is
  where
    go : (found : Option Refusal) → refusal_for error ≡ found → MatchOption found (error ≡ Memory) (λ cause. (opts : GrvOpts) → may_refuse (input.Grv opts) cause ≡ true)
        → (logged : Refusal) × (refusal_for error ≡ Some logged) × ((opts : GrvOpts) → may_refuse (input.Grv opts) logged ≡ true)
    go None same memory = absurd (not_memory memory)
    go (Some cause) same of = (cause, same, of)
