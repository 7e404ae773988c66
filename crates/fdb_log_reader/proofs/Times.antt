-- Times, and when there are none: if the call ended before it began.
use Rattle.std.proofs.Common.{◌≡◌, ℕ, ◌<◌, ◌≤◌, Bool, true, false, nat_le, Option, None, Some, IfSome, IsSomeAnd, refl, ap, arith, leb-true}
use Rattle.std.proofs.Props.{props}
use Rattle.std.proofs.lemmas.Bool.Decides.{nat_tests}
use Rattle.fdb_lines.specs.declared.line.Times.{Times}
use Rattle.fdb_log_reader.specs.Members.{times_if, times_with}

ordered : (began end : ℕ) (order : began ≤ end) (b : Bool) (is : nat_le began end ≡ b)
    → times_if began end b is ≡ Some (record { began = began; ended = Some end; in_order = order })
ordered began end order true is = ap (λ (o : began ≤ end). Some (record { began = began; ended = Some end; in_order = o })) (let one : IsProp (began ≤ end) = Prim.hlevel props in one (leb-true began end is) order)
ordered began end order false is = absurd (grind (arith, nat_tests))

unordered : (began end : ℕ) → end < began → (b : Bool) (is : nat_le began end ≡ b) → times_if began end b is ≡ None
unordered began end before true is = absurd (grind (arith, nat_tests))
unordered began end before false is = refl

times_are : (began : ℕ) (ended : Option ℕ) (order : IfSome ended (λ end. began ≤ end))
    → times_with began ended ≡ Some (record { began = began; ended = ended; in_order = order })
times_are began None order = refl
times_are began (Some end) order = ordered began end order (nat_le began end) refl

-- times are those of when they began and ended
pub taken : (times : Times) → times_with times.began times.ended ≡ Some times
taken times = times_are times.began times.ended times.in_order

pub refused : (began : ℕ) (ended : Option ℕ) → IsSomeAnd ended (λ end. end < began) → times_with began ended ≡ None
refused began None wrong = absurd wrong
refused began (Some end) wrong = unordered began end wrong (nat_le began end) refl
