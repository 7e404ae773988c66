-- The limits of what a cluster is made with, and what it was opened with. (this product's own)
use Rattle.std.specs.Prelude.{◌<◌, ◌≤◌, IsTrue}
use Rattle.std.specs.List.{list_all}
use Rattle.fdb_chain.specs.ChainCore.{IsEpoch, IsProxyCount}
use Rattle.fdb_live.specs.Seen.{Origin}
use Rattle.fdb_queue.specs.Config.{IsConfig, IsElapsed}
use Rattle.fdb_queue.specs.Throttles.{is_throttle}
use Rattle.fdb_client.specs.declared.cluster.ClusterConfig.{ClusterConfig}
use Rattle.fdb_client.specs.declared.cluster.TheConstants.{MAX_GRV_PROXIES}

-- The configuration of a cluster is within its limits: an epoch whose end is below the start, a
-- record whose minimum is not above its version, and counts, rates and times in their ranges.
pub record IsClusterConfig (config : ClusterConfig) : Type 0 where
  pub epoch : IsEpoch config.epoch_end config.start.version
  pub start : config.start.min_known ≤ config.start.version
  pub clients : IsProxyCount config.clients
  pub some_proxy : 0 < config.grv_proxies
  pub few_proxies : config.grv_proxies ≤ MAX_GRV_PROXIES
  pub queue : IsConfig config.queue
  pub throttles : IsTrue (list_all is_throttle config.throttles.now)
  pub elapsed : IsElapsed config.elapsed

-- A cluster that was opened: what its master was opened with, and what it is made with.
pub record Opening : Type 0 where
  pub founding : Origin
  pub config : ClusterConfig
