-- How the GRV proxies of a cluster are made from its configuration. (this product's own)
use Rattle.std.specs.Prelude.{◌≡◌, reverse}
use Rattle.fdb_proxy.specs.Proxy.{Proxy}
use Rattle.fdb_queue.specs.Throttles.{SameThrottles}
use Rattle.fdb_client.specs.declared.cluster.ClusterConfig.{ClusterConfig}

-- A GRV proxy is made as the configuration of its cluster says. The throttles
-- were set one after another, the newest first in what stands for them.
pub record IsMadeFor (config : ClusterConfig) (proxy : Proxy) : Type 0 where
  pub queue : proxy.config ≡ config.queue
  pub throttles : SameThrottles proxy.throttles (reverse config.throttles.now)
  pub elapsed : proxy.elapsed ≡ config.elapsed
