-- A table of calls that ended, by group, time and place.
use Rattle.std.specs.Prelude.{◌≡◌, ℕ, suc, ◌+◌, ◌*◌, ◌^◌, ◌<◌, ◌≤◌, ◌==◌, ◌&&◌, ◌||◌, nat_lt, Bool, List, Some, length, slice_index, slice_index_or}
use Rattle.std.proofs.Math.Dec.{lit<}
use Rattle.fdb_lines.specs.declared.line.End.{End}
use Rattle.fdb_lines.specs.private.Entries.{IsNewest}

-- one number for group, time and place, which orders as they do
abbrev pub key : ℕ → ℕ → ℕ → ℕ
key group time place = (group * 2 ^ 64 + time) * 2 ^ 32 + place

abbrev pub end_key : End → ℕ
end_key end = key end.group end.time end.place

-- whether an end comes before a moment, by time and then by place
abbrev pub is_earlier : ℕ → ℕ → ℕ → ℕ → Bool
is_earlier end above time place = nat_lt end time || (end == time && nat_lt above place)

-- a moment, of a group
pub record Moment : Type 0 where
  pub group : ℕ
  pub time : ℕ
  pub place : ℕ

abbrev pub comes_by : Moment → End → Bool
comes_by moment end = end.group == moment.group && is_earlier end.time end.place moment.time moment.place

abbrev pub no_end : End
no_end = record { group = 0; place = 0; time = 0; version = 0; fits = (lit< tt, lit< tt) }

abbrev pub end_at : List End → ℕ → End
end_at ends i = slice_index_or ends i no_end

-- the ends in front come before a moment, and no other
abbrev pub IsFront : List End → ℕ → ℕ → Type 0
IsFront ends moment front =
    ((i : ℕ) → i < front → end_key (end_at ends i) < moment)
    × ((i : ℕ) → front ≤ i → i < length ends → moment ≤ end_key (end_at ends i))

-- of the group at a place, one of the newest up to there
abbrev pub IsNewestAt : List End → ℕ → ℕ → Type 0
IsNewestAt ends i k = IsNewest (λ j. (end_at ends j).group == (end_at ends i).group) (λ j. (end_at ends j).version) (suc i) (Some k)

abbrev pub AreNewest : List End → List ℕ → Type 0
AreNewest ends newest = (length newest ≡ length ends) × ((i : ℕ) → i < length newest → IsNewestAt ends i (slice_index newest i))
