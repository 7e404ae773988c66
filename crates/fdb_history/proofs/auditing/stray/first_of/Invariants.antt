use Rattle.std.proofs.Common.{◌≡◌, false, take}
use Rattle.fdb_history.specs.private.Auditing.{NoneBefore}
use Rattle.fdb_history.specs.Strays.{is_justified}
use Rattle.fdb_history.proofs.chains.Own.{OwnAfter}
use Rattle.fdb_history.proofs.auditing.stray.first_of.Given as goal

-- the calls before this one are justified, and `own` is what they have drawn
abbrev pub invariant-loop-place : goal.invariant-loop-place
invariant-loop-place l =
    record {
      own : OwnAfter l.chain l.client (take l.place l.calls) l.own;
      justified : NoneBefore (λ before call. is_justified l.chain l.client before call ≡ false) l.calls l.place;
    }
