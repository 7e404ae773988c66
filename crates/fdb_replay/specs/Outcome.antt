-- What a run promises of its outcome. (this product's own)
use Rattle.std.specs.Prelude.{◌≡◌, ℕ, ◌≤◌, ◌∷◌, All, false, None}
use Rattle.fdb_history.specs.Audit.{Low}
use Rattle.fdb_history.specs.Chain.{IsChain}
use Rattle.fdb_history.specs.Explained.{explained}
use Rattle.fdb_history.specs.Faults.{Nowhere}
use Rattle.fdb_history.specs.Event.{reports_of}
use Rattle.fdb_history.specs.Linear.{IsLinear}
use Rattle.fdb_history.specs.Strays.{IsStray}
use Rattle.fdb_history.specs.declared.register.Record.{Record}
use Rattle.fdb_script.specs.Answering.{Answers}
use Rattle.fdb_script.specs.Plan.{Plan}
use Rattle.fdb_script.specs.declared.script.Outcome.{Outcome}

-- The record before any report: the recovery version, unlocked. It has no metadata version, and no
-- minimum known committed version yet.
abbrev pub opening : ℕ → Record
opening recovery = record { version = recovery; locked = false; metadata = None; min_known = 0 }

-- The outcome is that of a run of the script: its logs answer the script, and one chain and one
-- register explain them.
pub record IsRunOf (plan : Plan) (outcome : Outcome) : Type 0 where
  -- each client did its commands, in their order, learnt what others told it, and logged no other call
  pub answers : Answers plan outcome.logs.items
  -- the commit versions are one chain, without gap or fork
  pub one_chain : IsChain plan.setup.epoch_end plan.setup.recovery outcome.chain.items
  -- the replies are those of one register that takes reports and reads one at a time
  pub linear : IsLinear (opening plan.setup.recovery) outcome.logs.items outcome.history.events
  -- no report of it tells of a minimum known committed version above its own version, nor does
  -- the record before any report
  pub minima : All (λ rec. rec.min_known ≤ rec.version)
      (opening plan.setup.recovery ∷ reports_of outcome.history.events)
  -- the history is in the fixed order
  pub in_order : outcome.history.events ≡ explained outcome.logs.items
  -- each answer is justified by its input, the chain and its
  -- client's own log, and each commit version was drawn by a call
  pub none_stray : Nowhere (IsStray outcome.chain.items outcome.logs.items)
  -- each commit version that was drawn, but for the first,
  -- is above the register that its asker had seen
  pub none_low : Nowhere (Low (opening plan.setup.recovery) outcome.logs.items)
