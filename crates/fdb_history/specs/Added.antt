-- How a client's log grows: by one call for each thing that it was told to do. (this product's own)
use Rattle.std.specs.Prelude.{◌≡◌, Bool, true, false, List, [], ◌∷◌, ◌++◌}
use Rattle.fdb_history.specs.Log.{position_after_calls}
use Rattle.fdb_history.specs.declared.log.Call.{Call}
use Rattle.fdb_history.specs.declared.log.CallAnswer.{CallAnswer}
use Rattle.fdb_history.specs.declared.log.CallAnswer.TheVariants.{Version, Acked}
use Rattle.fdb_history.specs.declared.log.Input.{Input}
use Rattle.fdb_history.specs.declared.log.Input.TheVariants.{Grv, Report}

-- Whether the register answered a call, so that its client may have seen more. That is a read that
-- was answered, or a report that was acknowledged.
abbrev pub may_advance : Input → CallAnswer → Bool
may_advance (Grv opts) (Version rec limits locked_out) = true
may_advance (Report num locked metadata min_known) (Acked rec raised changed) = true
may_advance _ _ = false

-- The log has one more call than before, with this input. The call begins at the position that the
-- log had come to, and ends there too unless the register answered it.
pub record AddsCall (before : List Call) (wanted : Input) (after : List Call) : Type 0 where
  pub call : Call
  pub added : after ≡ before ++ call ∷ []
  pub input : call.input ≡ wanted
  pub asked : call.asked ≡ position_after_calls 0 before
  pub stays : may_advance call.input call.answer ≡ false → call.position ≡ call.asked
