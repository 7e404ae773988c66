-- Which value a call of a client returns for the answer that it logged. (all of this is this
-- product's own)
use Rattle.std.specs.Prelude.{◌≡◌, ℕ, true, false, Result, Ok, Err}
use Rattle.fdb_chain.specs.declared.error.ChainError.{ChainError}
use Rattle.fdb_chain.specs.declared.error.ChainError.TheVariants as chain
use Rattle.fdb_history.specs.Register.{version_for}
use Rattle.fdb_history.specs.declared.chain.Issued.{Issued}
use Rattle.fdb_history.specs.declared.log.GrvOpts.{GrvOpts}
use Rattle.fdb_history.specs.declared.log.CallAnswer.{CallAnswer}
use Rattle.fdb_history.specs.declared.log.CallAnswer.TheVariants.{Version, Answered, Acked, Told}
use Rattle.fdb_history.specs.declared.log.CallAnswer.TheVariants.{Refused}
use Rattle.fdb_history.specs.declared.log.Refusal.{Refusal}
use Rattle.fdb_history.specs.declared.log.Refusal.TheVariants as refusal
use Rattle.fdb_live.specs.declared.live_record.Ack.{Ack}
use Rattle.fdb_live.specs.declared.live_record.LiveError.TheVariants as live
use Rattle.fdb_proxy.specs.declared.error.Cause.{Cause}
use Rattle.fdb_proxy.specs.declared.error.Cause.TheVariants as cause
use Rattle.fdb_proxy.specs.declared.error.ProxyError.{ProxyError}
use Rattle.fdb_proxy.specs.declared.error.ProxyError.TheVariants as desk
use Rattle.fdb_queue.specs.declared.error.QueueError.TheVariants as queue
use Rattle.fdb_client.specs.declared.error.ClientError.{ClientError}
use Rattle.fdb_client.specs.declared.error.ClientError.TheVariants.{Locked, Stranger, ProxyClosed}
use Rattle.fdb_client.specs.declared.error.ClientError.TheVariants.{Chain, Queue, NotIssued, Live}
use Rattle.fdb_client.specs.declared.error.ClientError.TheVariants.{Memory}
use Rattle.fdb_client.specs.declared.reply.ReadVersion.{ReadVersion}

-- the error for a refusal that was logged
abbrev pub error_of : Refusal → ClientError
error_of (refusal.Early expected) = Chain (chain.Early expected)
error_of refusal.Forgotten = Chain chain.Forgotten
error_of refusal.UnknownProxy = Chain chain.UnknownProxy
error_of refusal.Exhausted = Chain chain.Exhausted
error_of refusal.BadCount = Queue queue.BadCount
error_of refusal.BatchThrottled = Queue queue.BatchThrottled
error_of refusal.Full = Queue queue.Full
error_of refusal.ProxyClosed = ProxyClosed
error_of refusal.NotIssued = NotIssued
error_of refusal.Stranger = Stranger
error_of refusal.TooLarge = Live live.TooLarge
error_of refusal.MinAbove = Live live.MinAbove

-- the error where a desk does not take a request: for memory that is not the desk's end
abbrev pub error_of_desk : ProxyError → ClientError
error_of_desk desk.Memory = Memory
error_of_desk desk.Closed = ProxyClosed

-- the error where a GRV proxy does not start a request
abbrev pub error_of_proxy : Cause → ClientError
error_of_proxy (cause.Queue queue.Memory) = Memory
error_of_proxy (cause.Queue refused) = Queue refused
error_of_proxy cause.Closed = ProxyClosed

-- the error where the sequencer does not answer
abbrev pub error_of_sequencer : ChainError → ClientError
error_of_sequencer chain.Memory = Memory
error_of_sequencer refused = Chain refused

-- A read returns what was read, at the position after it, with the read version that its options
-- ask for; the live committed version alone, where it is turned away by the lock.
abbrev pub ReadReturns : GrvOpts → ℕ → CallAnswer → Result ReadVersion ClientError → Type 0
ReadReturns opts position (Version rec limits false) result = result ≡ Ok (record {
  version = version_for opts.use_min rec;
  rec = rec;
  position = position;
  limits = limits;
})
ReadReturns opts position (Version rec limits true) result = result ≡ Err (Locked rec.version)
ReadReturns opts position (Refused cause) result = result ≡ Err (error_of cause)
ReadReturns opts position (Answered issued) result = ⊥
ReadReturns opts position (Acked rec raised changed) result = ⊥
ReadReturns opts position Told result = ⊥

-- A request for a commit version returns the answer.
abbrev pub AskReturns : CallAnswer → Result Issued ClientError → Type 0
AskReturns (Answered issued) result = result ≡ Ok issued
AskReturns (Refused cause) result = result ≡ Err (error_of cause)
AskReturns (Version rec limits locked_out) result = ⊥
AskReturns (Acked rec raised changed) result = ⊥
AskReturns Told result = ⊥

-- A report returns whether it raised the record, whether it changed it, and the position after it.
abbrev pub ReportReturns : ℕ → CallAnswer → Result Ack ClientError → Type 0
ReportReturns position (Acked rec raised changed) result =
    result ≡ Ok (record { raised = raised; changed = changed; position = position })
ReportReturns position (Refused cause) result = result ≡ Err (error_of cause)
ReportReturns position (Version rec limits locked_out) result = ⊥
ReportReturns position (Answered issued) result = ⊥
ReportReturns position Told result = ⊥
