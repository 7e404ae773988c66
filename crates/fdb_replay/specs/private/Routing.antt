-- Which GRV proxy a read goes to.
use Rattle.std.specs.Prelude.{ℕ, ◌+◌, ◌%◌, Bool, true, false, List, filter, length}
use Rattle.fdb_history.specs.declared.log.Call.{Call}
use Rattle.fdb_history.specs.declared.log.Input.{Input}
use Rattle.fdb_history.specs.declared.log.Input.TheVariants.{Grv}

-- Of so many proxies, that to which a client's read goes,
-- where it has made so many reads before. (this product's own)
abbrev pub desk_for : ℕ → ℕ → ℕ → ℕ
desk_for proxies client reads = (client + reads) % proxies

-- whether a call is a read: only these are routed in turn
abbrev pub is_read : Input → Bool
is_read (Grv opts) = true
is_read _ = false

abbrev pub reads_of : List Call → ℕ
reads_of calls = length (filter (λ call. is_read call.input) calls)
