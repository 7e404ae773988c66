-- What is kept of the clocks of a log's lines. (this product's own)
use Rattle.std.specs.Prelude.{◌≡◌, ℕ, ◌+◌, Bool, Option, is_some, max, nat_lt, unwrap_or, if◌then◌else◌}
use Rattle.fdb_lines.specs.declared.line.Line.{Line}
use Rattle.fdb_lines.specs.Before.{ended}
use Rattle.fdb_audit.specs.Clocks.{ahead_of_end, believed_from, end_of, end_of_another, floor_of, newer}
use Rattle.fdb_audit.specs.declared.clocks.Clocks.{Clocks}
pub use Rattle.fdb_audit.specs.Taken.{others_of, HasHeard}

-- what is known when a line comes
abbrev pub known_to : Clocks → Line → ℕ
known_to clocks line = max clocks.believed (unwrap_or (others_of clocks line.client) clocks.newest)

-- the newest end that is believed with it
abbrev pub believed_by : Clocks → Line → ℕ
believed_by clocks line =
    let known = known_to clocks line in if nat_lt (known + clocks.behind) (end_of line) then known else max clocks.believed (end_of line)

-- by how much others are ahead of it
abbrev pub ahead_of : Clocks → Line → ℕ
ahead_of clocks line = ahead_of_end clocks.behind clocks.ahead (unwrap_or (others_of clocks line.client) 0) (ended line)

-- and the newest end that was found to be
abbrev pub ahead_on : Clocks → Line → ℕ
ahead_on clocks line = if nat_lt 0 (ahead_of clocks line) then unwrap_or (others_of clocks line.client) 0 else clocks.ahead

-- a line more has been heard
pub record Hears (old new : Clocks) (line : Line) : Type 0 where
  pub newest : new.newest ≡ max old.newest (end_of line)
  pub others : (client : Option ℕ) → others_of new client ≡ newer (others_of old client) (end_of_another client line)
  pub believed : new.believed ≡ believed_by old line
  pub ahead : new.ahead ≡ ahead_on old line
  pub behind : new.behind ≡ old.behind

-- it goes on where it was settled up to a moment
pub record GoesOn (old new : Clocks) (settled : ℕ) (are_many : Bool) : Type 0 where
  pub believed : new.believed ≡ believed_from settled old.behind
  pub others : (client : Option ℕ) → others_of new client ≡ newer (floor_of are_many) (others_of old client)
  pub behind : new.behind ≡ old.behind
  pub newest : new.newest ≡ old.newest
  pub ahead : new.ahead ≡ old.ahead

-- or from others
pub record Carries (others old new : Clocks) : Type 0 where
  pub believed : new.believed ≡ others.believed
  pub others_are : (client : Option ℕ) → others_of new client ≡ newer (floor_of (is_some others.second)) (others_of old client)
  pub behind : new.behind ≡ old.behind
  pub newest : new.newest ≡ max old.newest others.newest
  pub ahead : new.ahead ≡ others.ahead
