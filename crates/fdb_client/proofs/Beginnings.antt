-- What agrees from the position at which a client began agrees from the first one too.
use Rattle.std.proofs.Common.{ℕ, ◌≤◌, List, [], ◌∷◌, arith}
use Rattle.fdb_client.specs.Account.{Account}
use Rattle.fdb_client.specs.Agreeing.{Agrees}
use Rattle.fdb_history.specs.Linear.{NeverGoesBack}
use Rattle.fdb_history.specs.Log.{position_after_calls}
use Rattle.fdb_history.specs.declared.log.Call.{Call}
use Rattle.fdb_history.specs.declared.register.Record.{Record}

order_from_0 : (begun : ℕ) (calls : List Call) → NeverGoesBack begun calls → NeverGoesBack 0 calls
order_from_0 begun [] order = order
order_from_0 begun (call ∷ calls) order = ((omega arith, order.0.1, order.0.2), order.1)

reached_from_0 : (begun : ℕ) (calls : List Call) → position_after_calls 0 calls ≤ position_after_calls begun calls
reached_from_0 begun [] = omega arith
reached_from_0 begun (call ∷ calls) = omega arith

pub begun_anywhere : (start : Record) (account : Account) → Agrees start account → Agrees start (record account { begun = 0 })
begun_anywhere start account agrees =
    let from = reached_from_0 account.begun account.calls in
    let come = agrees.come_to in
    record {
      own = agrees.own;
      order = order_from_0 account.begun account.calls agrees.order;
      come_to = omega (arith, from, come);
      each = agrees.each;
    }
