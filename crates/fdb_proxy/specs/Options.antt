-- What a request says of itself to the queue.
use Rattle.std.specs.Prelude.{Bool, ◌&&◌, ◌==◌}
use Rattle.fdb_history.specs.declared.service.Service.{Ghosts as ServiceGhosts}
use Rattle.fdb_live.specs.declared.seen.Live.{Ghosts as LiveGhosts}
use Rattle.fdb_proxy.specs.declared.request.Request.{Request}
use Rattle.fdb_queue.specs.declared.waiting.Req.{Req}
use Rattle.fdb_queue.specs.Waiting.{is_priority}

-- Whether a request stands in the queue by its own options: with their priority, and with their
-- count. (this product's own)
abbrev pub has_own_options : {S : Type 0} {live : LiveGhosts S} {service : ServiceGhosts S}
    → Req (Request S live service) → Bool
has_own_options request =
    is_priority request.priority request.payload.opts.priority
    && (request.count == request.payload.opts.count)
