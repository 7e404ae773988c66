-- New rates for a proxy. (this product's own)
use Rattle.std.specs.Prelude.{ℕ, ◌≤◌}
use Rattle.fdb_queue.specs.declared.config.TheConstants.{MAX_RATE}

-- Two limits of rates are in the ranges in which a queue is made with them.
pub record AreRates (normal batch : ℕ) : Type 0 where
  pub normal_some : 1 ≤ normal
  pub normal_in_range : normal ≤ MAX_RATE
  pub batch_in_range : batch ≤ MAX_RATE
