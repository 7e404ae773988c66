-- An order of the effects of a log, with the lines whose effects they are. (this product's own)
use Rattle.std.specs.Prelude.{◌≡◌, ℕ, suc, ◌<◌, List, [], ◌∷◌, cond, length, slice_get, take, IfSome, IsTrue, Some}
use Rattle.fdb_lines.specs.declared.slot.Effect.{Effect}
use Rattle.fdb_lines.specs.declared.slot.OrderStep.{OrderStep}
use Rattle.fdb_lines.specs.Explained.{Explains, Happens, IsMoment}
use Rattle.fdb_lines.specs.Lines.{Case}

-- the effects: a step that shares the effect above adds none
abbrev pub effects_of : List OrderStep → List Effect
effects_of [] = []
effects_of (step ∷ steps) = cond step.shared (effects_of steps) (step.effect ∷ effects_of steps)

-- the step at a place stands at a moment: that of the last effect up to it
abbrev pub IsStepAt : List OrderStep → ℕ → ℕ → Type 0
IsStepAt steps i m = length (effects_of (take (suc i) steps)) ≡ suc m

-- OrderSteps are an order of lines: their effects explain these, and each step stands where its line does.
pub record IsOrderOf (c : Case) (steps : List OrderStep) : Type 0 where
  pub explains : Explains c (effects_of steps)
  -- a step has the effect of the moment at which it stands, and that is one of its line, where it is of one
  pub each : (i : ℕ) (step : OrderStep) → slice_get steps i ≡ Some step
      → (m : ℕ) × IsStepAt steps i m × Happens (effects_of steps) m step.effect
      × IfSome step.place (λ k. (k < length c.lines) × IsMoment c explains.asked explains.took k m)
  -- at each moment of a line stands a step of it
  pub all : (k m : ℕ) → k < length c.lines → IsMoment c explains.asked explains.took k m
      → (i : ℕ) × (step : OrderStep) × (slice_get steps i ≡ Some step) × (step.place ≡ Some k) × IsStepAt steps i m
  -- and steps that share an effect are of lines, in their order
  pub shared : (i : ℕ) (above step : OrderStep) → slice_get steps i ≡ Some above → slice_get steps (suc i) ≡ Some step → IsTrue step.shared
      → (a b : ℕ) × (above.place ≡ Some a) × (step.place ≡ Some b) × (a < b)
