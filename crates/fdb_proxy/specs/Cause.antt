-- For which causes an offer or a request may be refused.
use Rattle.std.specs.Prelude.{Bool, true, false}
use Rattle.fdb_proxy.specs.declared.error.Cause.{Cause}
use Rattle.fdb_proxy.specs.declared.error.Cause.TheVariants.{Queue, Closed}
use Rattle.fdb_queue.specs.declared.error.QueueError.{QueueError}
use Rattle.fdb_queue.specs.declared.error.QueueError.TheVariants.{BadConfig, BadCount, BatchThrottled, Full, TagTooLong, Memory}

-- Whether an offer to a queue may be refused for this, or a request pushed out. (this product's
-- own)
abbrev pub is_of_an_offer : QueueError → Bool
is_of_an_offer BadConfig = false
is_of_an_offer BadCount = true
is_of_an_offer BatchThrottled = true
is_of_an_offer Full = true
is_of_an_offer TagTooLong = false
is_of_an_offer Memory = true

-- Whether a request may be refused for this: for what an offer is refused for, or since the desk
-- was closed. (this product's own)
abbrev pub may_be_refused_for : Cause → Bool
may_be_refused_for (Queue cause) = is_of_an_offer cause
may_be_refused_for Closed = true
