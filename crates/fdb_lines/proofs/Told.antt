-- Without times: what clients have told one another is transitive, and stands above.
use Rattle.std.proofs.Common.{◌≡◌, ℕ, zero, suc, ◌<◌, true, false, List, refl, arith}
use Rattle.std.proofs.lemmas.Bool.{both_ways}
use Rattle.std.proofs.lemmas.Bool.Decides.{nat_tests}
use Rattle.fdb_lines.specs.declared.line.Line.{Line}
use Rattle.fdb_lines.specs.Lines.{line_at, teller_of}
use Rattle.fdb_lines.specs.Before.{has_heard, by_telling}

pub heard_above : (lines : List Line) (n a j : ℕ) → has_heard lines n a j ≡ true → j < n
heard_above lines zero a j h = absurd (both_ways false refl h)
heard_above lines (suc n) a j h =
    let old = heard_above lines n a j in
    let told = heard_above lines n (teller_of (line_at lines n).call) j in
    grind (arith, nat_tests)

heard_on : (lines : List Line) (n a i j : ℕ) → by_telling lines i j ≡ true → has_heard lines n a j ≡ true → has_heard lines n a i ≡ true
heard_on lines zero a i j t h = absurd (both_ways false refl h)
heard_on lines (suc n) a i j t h =
    let old = heard_on lines n a i j t in
    let told = heard_on lines n (teller_of (line_at lines n).call) i j t in
    grind (arith, nat_tests)

pub transitive : (lines : List Line) (i j k : ℕ) → by_telling lines i j ≡ true → by_telling lines j k ≡ true → by_telling lines i k ≡ true
transitive lines i j k p q = let on = λ (a : ℕ). heard_on lines k a i j p in grind arith

pub climbs : (lines : List Line) (j k : ℕ) → by_telling lines j k ≡ true → j < k
climbs lines j k p = let above = λ (a : ℕ). heard_above lines k a j in grind arith
