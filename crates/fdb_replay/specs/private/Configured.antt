-- What the cluster of a run is made with. (this product's own)
use Rattle.std.specs.Prelude.{◌≡◌}
use Rattle.fdb_client.specs.declared.cluster.ClusterConfig.{ClusterConfig}
use Rattle.fdb_replay.specs.Outcome.{opening}
use Rattle.fdb_script.specs.Plan.{Plan}

-- The configuration is the one that the plan of a script asks for. How many
-- GRV proxies there are it does not say.
pub record IsConfigFor (plan : Plan) (config : ClusterConfig) : Type 0 where
  pub epoch_end : config.epoch_end ≡ plan.setup.epoch_end
  pub start : config.start ≡ opening plan.setup.recovery
  pub clients : config.clients ≡ plan.setup.clients
  pub queue : config.queue ≡ plan.setup.config
  pub throttles : config.throttles.now ≡ plan.setup.throttles
  pub elapsed : config.elapsed ≡ plan.setup.elapsed
