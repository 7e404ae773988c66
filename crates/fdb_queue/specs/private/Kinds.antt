-- The throttles that three maps keep. (this product's own)
use Rattle.std.specs.Prelude.{ℕ, List, ◌++◌, map}
use Rattle.std.specs.BTreeMap.{BTreeMap}
use Rattle.std.specs.Global.{Vec}
use Rattle.fdb_history.specs.declared.log.Priority.{Priority}
use Rattle.fdb_history.specs.declared.log.Priority.TheVariants.{System, Default, Batch}
use Rattle.fdb_queue.specs.declared.throttles.Limit.{Limit}
use Rattle.fdb_queue.specs.declared.throttles.Throttle.{Throttle}

-- the throttles of one priority, as the entries of its map have them
abbrev pub kept_for : Priority → List (Vec ℕ × Limit) → List Throttle
kept_for priority entries =
    map (λ entry. record {
      priority = priority;
      tag = entry.0.items;
      rate = entry.1.rate;
      expires = entry.1.expires;
    }) entries

abbrev pub all_of : BTreeMap (Vec ℕ) Limit → BTreeMap (Vec ℕ) Limit → BTreeMap (Vec ℕ) Limit
    → List Throttle
all_of system default_ batch =
    kept_for System system.entries ++ kept_for Default default_.entries
    ++ kept_for Batch batch.entries
