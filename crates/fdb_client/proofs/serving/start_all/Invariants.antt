use Rattle.std.proofs.Common.{◌≡◌, ◌+◌, vec_len}
use Rattle.fdb_client.proofs.serving.start_all.Given as goal

-- each proxy is still to start, or has a thread
abbrev pub invariant-loop-proxy : goal.invariant-loop-proxy
invariant-loop-proxy g l = vec_len l.threads + l.proxy-iterator.rest.len ≡ vec_len l.fn.proxies
