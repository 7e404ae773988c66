use Rattle.std.proofs.Common.{◌≡◌, drop}
use Rattle.fdb_history.specs.Event.{register_after}
use Rattle.fdb_history.proofs.register.register_after.Given as goal

-- the events that are left lead from here to where all of them lead
abbrev pub invariant-loop-event : goal.invariant-loop-event
invariant-loop-event l = register_after l.current (drop l.event-index l.events) ≡ register_after l.fn.start l.events
