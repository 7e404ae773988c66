-- What a handle owns.
use Rattle.std.specs.Prelude.{ℕ, Option, None, Some}
use Rattle.std.specs.Global.{Global}
use Rattle.std.specs.Box.Ownership.{box_owns}
use Rattle.std_heap.specs.contracts.GlobalAllocator.TheImpl.{ghosts}
use Rattle.fdb_chain.specs.Recent.{Recent}
use Rattle.fdb_chain.specs.contracts.recent_chain.RecentChain as chain
use Rattle.fdb_queue.specs.Queue.{Queue}
use Rattle.fdb_queue.specs.contracts.queue.GrvQueue as queue
use Rattle.fdb_c.specs.Audited.{AuditState}
use Rattle.fdb_c.specs.Watch.{Watch}
use Rattle.fdb_c.specs.contracts.audited.Audited as audited
use Rattle.fdb_c.specs.contracts.watched.Watched as watched
use denote.Builtin.{u64}
use base.Fml.{Fml, feq}
use denote.RattleType.{RattleType}
use denote.RawPtr.{Ptr, null_ptr}

-- the C library's heap
abbrev pub heap : Global
heap = record { memory = record { seal = tt } }

-- A handle with something owns it and the right to free its block; one without owns nothing, and its pointer is null.
abbrev pub held : (R : RattleType) → Ptr → Option R.Denot → Fml
held R at None = feq Ptr at null_ptr
held R at (Some it) = box_owns (ghosts.dealloc_token heap) R at it

abbrev pub chain_held : Ptr → Option Recent → Fml
chain_held = held chain.the_row

abbrev pub queue_held : Ptr → Option (Queue ℕ) → Fml
queue_held = held (queue.the_row u64)

abbrev pub watch_held : Ptr → Option Watch → Fml
watch_held = held watched.the_row

abbrev pub audit_held : Ptr → Option AuditState → Fml
audit_held = held audited.the_row
