-- The times of a call: they carry that none ended before it began.
use Rattle.std.proofs.Common.{◌≡◌, ℕ, ◌≤◌, Bool, true, false, nat_le, Option, None, Some, IfSome, refl, ap, arith, leb-true}
use Rattle.std.proofs.Props.{props}
use Rattle.std.proofs.lemmas.Bool.Decides.{nat_tests}
use Rattle.fdb_lines.specs.declared.line.Times.{Times}
use Rattle.fdb_log_reader.specs.Members.{times_if, times_with}

-- there is one way to say that two moments are in order
in_order : (began end : ℕ) (order : began ≤ end) (b : Bool) (is : nat_le began end ≡ b)
    → times_if began end b is ≡ Some (record { began = began; ended = Some end; in_order = order })
in_order began end order true is =
    let one : IsProp (began ≤ end) = Prim.hlevel props in
    ap (λ (it : began ≤ end). Some (record { began = began; ended = Some end; in_order = it })) (one (leb-true began end is) order)
in_order began end order false is = absurd (grind (arith, nat_tests))

-- times are those of when they began and ended
pub times_are : (times : Times) → times_with times.began times.ended ≡ Some times
times_are times = by times.began times.ended times.in_order
  where
    by : (began : ℕ) (ended : Option ℕ) (order : IfSome ended (λ end. began ≤ end))
        → times_with began ended ≡ Some (record { began = began; ended = ended; in_order = order })
    by began None order = refl
    by began (Some end) order = in_order began end order (nat_le began end) refl
