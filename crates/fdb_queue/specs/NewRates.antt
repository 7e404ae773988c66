-- New rates for a queue in which requests wait. (that a proxy is given new rates is so in
-- GrvProxyServer; who waits no more under them is this product's own)
use Rattle.std.specs.Prelude.{ℕ, Bool, List, Option, filter, option_map}
use Rattle.std.specs.List.{filter_map}
use Rattle.std.specs.Option.{is_none}
use Rattle.fdb_queue.specs.declared.config.QueueConfig.{QueueConfig}
use Rattle.fdb_queue.specs.declared.error.QueueError.{QueueError}
use Rattle.fdb_queue.specs.declared.waiting.Req.{Req}
use Rattle.fdb_queue.specs.declared.waiting.TurnedAway.{TurnedAway}
use Rattle.fdb_queue.specs.Admission.{refusal_of}
use Rattle.fdb_queue.specs.Queue.{Queue, new_queue}

-- a configuration with other rates, and the same capacity
abbrev pub with_rates : ℕ → ℕ → QueueConfig → QueueConfig
with_rates normal batch config = record config { normal = normal; batch = batch }

-- What a configuration has against a request, whatever else waits: why a new queue would refuse it.
abbrev pub refusal_under : {T : Type 0} → QueueConfig → Req T → Option QueueError
refusal_under {T = T} config request = refusal_of (new_queue {T = T} config) request

-- whether a request may wait under a configuration
abbrev pub may_wait : {T : Type 0} → QueueConfig → Req T → Bool
may_wait config request = is_none (refusal_under config request)

-- a request that may not wait under a configuration, with why
abbrev pub turned_away_from : {T : Type 0} → QueueConfig → Req T → Option (TurnedAway T)
turned_away_from config request =
    option_map (λ cause. record { cause = cause; request = request })
    (refusal_under config request)

-- Those of some requests that may not wait under a configuration, in order, each with why.
abbrev pub turned_away : {T : Type 0} → QueueConfig → List (Req T) → List (TurnedAway T)
turned_away config requests = filter_map (λ request. turned_away_from config request) requests

-- those of some requests that may
abbrev pub staying : {T : Type 0} → QueueConfig → List (Req T) → List (Req T)
staying config requests = filter (λ request. may_wait config request) requests

-- The queue under other rates: those that may not wait under them are gone, all others stay in
-- order, and so do capacity, budgets and throttles.
abbrev pub under_rates : {T : Type 0} → ℕ → ℕ → Queue T → Queue T
under_rates normal batch queue =
    let config = with_rates normal batch queue.config in
    record queue {
      config = config;
      waiting = record {
        system = staying config queue.waiting.system;
        default_ = staying config queue.waiting.default_;
        batch = staying config queue.waiting.batch;
      };
    }
