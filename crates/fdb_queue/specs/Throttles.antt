-- Tag throttles. (`PrioritizedTransactionTagMap` of GrvProxyServer; that one is forgotten only where
-- that is asked for is this product's own)
use Rattle.std.specs.Prelude.{◌≡◌, ℕ, ◌≤◌, Bool, ◌&&◌, nat_eq, nat_le, nat_lt, length, if◌then◌else◌, List, [], ◌∷◌, Option, None, Some}
use Rattle.std.specs.List.{flat_map}
use Rattle.std.specs.Cmp.Lexicographic.{pointwise}
use Rattle.fdb_history.specs.declared.log.Priority.{Priority}
use Rattle.fdb_history.specs.declared.log.TagLimit.{TagLimit}
use Rattle.fdb_queue.specs.Waiting.{is_priority}
use Rattle.fdb_queue.specs.declared.config.TheConstants.{MAX_TAG}
use Rattle.fdb_queue.specs.declared.throttles.Throttle.{Throttle}

-- whether a throttle may be set: its tag is within its limit (this product's own)
abbrev pub is_throttle : Throttle → Bool
is_throttle throttle = nat_le (length throttle.tag) MAX_TAG

-- the limit of its tag that a throttle sets
abbrev pub limit_set : Throttle → TagLimit
limit_set throttle =
    record { tag = throttle.tag; rate = throttle.rate; expires = throttle.expires }

-- whether a throttle is for a priority and a tag
abbrev pub is_for : Priority → List ℕ → Throttle → Bool
is_for priority tag throttle =
    is_priority priority throttle.priority && pointwise nat_eq tag throttle.tag

-- What was last set for a priority and a tag: the first in the list of all that were set, the
-- newest first.
abbrev pub last_set : List Throttle → Priority → List ℕ → Option TagLimit
last_set [] priority tag = None
last_set (throttle ∷ throttles) priority tag =
    if is_for priority tag throttle then Some (limit_set throttle) else last_set throttles priority tag

-- a limit, if it expires later than this moment
abbrev pub unexpired : ℕ → Option TagLimit → List TagLimit
unexpired at None = []
unexpired at (Some limit) = if nat_lt at limit.expires then limit ∷ [] else []

-- The limits of some tags at a priority and a moment: for each tag in order, also for one that
-- stands twice, what was last set, if it has not expired.
abbrev pub limits_of : List Throttle → Priority → ℕ → List (List ℕ) → List TagLimit
limits_of throttles priority at tags =
    flat_map (λ tag. unexpired at (last_set throttles priority tag)) tags

-- Two lists of throttles stand for the same.
abbrev pub SameThrottles : List Throttle → List Throttle → Type 0
SameThrottles these those =
    (priority : Priority) (tag : List ℕ) → last_set these priority tag ≡ last_set those priority tag

-- what was set, if it expires later than this moment
abbrev pub still_set : ℕ → Option TagLimit → Option TagLimit
still_set at None = None
still_set at (Some limit) = if nat_lt at limit.expires then Some limit else None

-- Of two lists of throttles one stands for all of the other that expire later than this moment.
abbrev pub IsLeftAt : ℕ → List Throttle → List Throttle → Type 0
IsLeftAt at left throttles =
    (priority : Priority) (tag : List ℕ)
    → last_set left priority tag ≡ still_set at (last_set throttles priority tag)

-- Two lists of throttles give the same limits at each moment from this one on.
abbrev pub SameFrom : ℕ → List Throttle → List Throttle → Type 0
SameFrom at these those =
    (priority : Priority) (moment : ℕ) (tags : List (List ℕ)) → at ≤ moment
    → limits_of these priority moment tags ≡ limits_of those priority moment tags
