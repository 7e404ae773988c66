use Rattle.std.proofs.Common.{None, Some, inl, arith}
use Rattle.fdb_history.proofs.faults.FirstStray.{calls_only, call_first, entry_first, least_undrawn}
use Rattle.fdb_history.proofs.auditing.stray.first_stray.Goals as goal
use Rattle.fdb_history.proofs.auditing.stray.first_stray.Goals.{in_default-unjustified-via-in-Some-unjustified+else-name-client, in_default-unjustified-via-in_default-unjustified}

pub returns-in_default : goal.returns-in_default
returns-in_default c =
    let none = least_undrawn c.args.chain.now c.args.logs.now c.as_slice.result.now None (rw c.as_slice.ensures.value c.in_ok-drawn.ensures) c.in_default.ensures in
    calls_only c.args.chain.now c.args.logs.now c.in_ok-unjustified.unjustified none c.in_ok-unjustified.ensures

pub returns-in-Some-unjustified : goal.returns-in-Some-unjustified
returns-in-Some-unjustified c =
    let entry = least_undrawn c.args.chain.now c.args.logs.now c.as_slice.result.now (Some c.in-Some.client) (rw c.as_slice.ensures.value c.in_ok-drawn.ensures) c.in-Some.ensures in
    let first = rw c.in-Some-unjustified.is at c.in_ok-unjustified.ensures in
    call_first c.args.chain.now c.args.logs.now c.in-Some-unjustified.name.client c.in-Some-unjustified.name.call c.in-Some.client c.if-name-client.true first entry

pub returns : goal.returns
returns c =
    let entry = least_undrawn c.args.chain.now c.args.logs.now c.as_slice.result.now (Some c.in-Some.client) (rw c.as_slice.ensures.value c.in_ok-drawn.ensures) c.in-Some.ensures in
    rw c.count_calls.ensures
    (entry_first c.args.chain.now c.args.logs.now c.in-Some.client
    (elim c.in_default-unjustified.branch [
      | in_default-unjustified-via-in-Some-unjustified+else-name-client w ↦
          let first = rw w.in-Some-unjustified.is at c.in_ok-unjustified.ensures in
          λ client place no_later call. first.none_before client place (inl (omega (arith, no_later, w.if-name-client.false))) call
      | in_default-unjustified-via-in_default-unjustified w ↦
          let nowhere = rw w.in_default-unjustified.is at c.in_ok-unjustified.ensures in
          λ client place no_later call. nowhere client place call
    ])
    entry)
