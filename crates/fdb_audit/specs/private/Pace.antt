-- How often something that takes time is done. (this product's own)
use Rattle.std.specs.Prelude.{ℕ, ◌+◌, ◌-◌, ◌*◌, ◌^◌, Bool, true, None, Option, Some, max, min, nat_le}
use Rattle.fdb_audit.specs.declared.pace.Pace.{Pace}

-- whether it may be done at a moment: where that is not known it may
abbrev pub is_due_at : Pace → Option ℕ → Bool
is_due_at pace None = true
is_due_at pace (Some now) = nat_le (pace.due - pace.ahead) now

-- when it may be done again that was begun and ended: once many times as long has passed, behind what was to pass before
abbrev pub due_after : Pace → Option ℕ → Option ℕ → ℕ
due_after pace (Some begun) (Some ended) =
    min (max pace.due ended + max (min ((ended - begun) * pace.times) (2 ^ 64 - 1)) pace.least) (2 ^ 64 - 1)
due_after pace begun ended = pace.due
