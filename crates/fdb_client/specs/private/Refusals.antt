-- How what a call is refused for is logged. (this product's own)
use Rattle.std.specs.Prelude.{◌≡◌, true, Option, None, Some, MatchOption}
use Rattle.fdb_chain.specs.declared.error.ChainError.TheVariants as chain
use Rattle.fdb_history.specs.Strays.{may_refuse}
use Rattle.fdb_history.specs.declared.log.GrvOpts.{GrvOpts}
use Rattle.fdb_history.specs.declared.log.Input.TheVariants as input
use Rattle.fdb_history.specs.declared.log.Refusal.{Refusal}
use Rattle.fdb_history.specs.declared.log.Refusal.TheVariants as refusal
use Rattle.fdb_live.specs.declared.live_record.LiveError.TheVariants as live
use Rattle.fdb_queue.specs.declared.error.QueueError.TheVariants as queue
use Rattle.fdb_client.specs.declared.error.ClientError.{ClientError}
use Rattle.fdb_client.specs.declared.error.ClientError.TheVariants.{Stranger, ProxyClosed, Chain}
use Rattle.fdb_client.specs.declared.error.ClientError.TheVariants.{Queue, NotIssued, Live, Memory}

-- the refusal whose error this is (`error_of`), if there is one
abbrev pub refusal_for : ClientError → Option Refusal
refusal_for (Chain (chain.Early expected)) = Some (refusal.Early expected)
refusal_for (Chain chain.Forgotten) = Some refusal.Forgotten
refusal_for (Chain chain.UnknownProxy) = Some refusal.UnknownProxy
refusal_for (Chain chain.Exhausted) = Some refusal.Exhausted
refusal_for (Queue queue.BadCount) = Some refusal.BadCount
refusal_for (Queue queue.BatchThrottled) = Some refusal.BatchThrottled
refusal_for (Queue queue.Full) = Some refusal.Full
refusal_for ProxyClosed = Some refusal.ProxyClosed
refusal_for NotIssued = Some refusal.NotIssued
refusal_for Stranger = Some refusal.Stranger
refusal_for (Live live.TooLarge) = Some refusal.TooLarge
refusal_for (Live live.MinAbove) = Some refusal.MinAbove
refusal_for _ = None

-- A read may fail so, whatever its options: it is refused, or for memory alone it is not logged.
abbrev pub IsOfRead : ClientError → Type 0
IsOfRead error = MatchOption (refusal_for error) (error ≡ Memory)
    (λ cause. (opts : GrvOpts) → may_refuse (input.Grv opts) cause ≡ true)
