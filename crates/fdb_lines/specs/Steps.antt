-- Register and sequencer, one effect at a time.
use Rattle.std.specs.Prelude.{ℕ, max, ◌==◌, ◌&&◌, ◌||◌, nat_lt, Bool, true, false, List, [], ◌∷◌}
use Rattle.fdb_lines.specs.declared.slot.Effect.{Effect}
use Rattle.fdb_lines.specs.declared.slot.Effect.TheVariants.{Asks, Reports, Reads}

-- the version that a read has, the last that was asked for, and all that were
pub record State : Type 0 where
  pub register : ℕ
  pub last : ℕ
  pub drawn : List ℕ

abbrev pub is_in : ℕ → List ℕ → Bool
is_in v [] = false
is_in v (w ∷ ws) = w == v || is_in v ws

abbrev pub may : State → Effect → Bool
may s (Asks v) = nat_lt s.last v && nat_lt s.register v
may s (Reports v) = is_in v s.drawn
may s (Reads v) = s.register == v

abbrev pub after : State → Effect → State
after s (Asks v) = record { register = s.register; last = v; drawn = v ∷ s.drawn }
after s (Reports v) = record { register = max s.register v; last = s.last; drawn = s.drawn }
after s (Reads v) = s

abbrev pub runs : State → List Effect → Bool
runs s [] = true
runs s (effect ∷ effects) = may s effect && runs (after s effect) effects

abbrev pub fresh : ℕ → State
fresh start = record { register = start; last = start; drawn = [] }
