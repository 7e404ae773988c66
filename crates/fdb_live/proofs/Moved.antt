-- Who sits where, once one has taken the place of another.
use Rattle.std.proofs.Common.{◌≡◌, ◌≢◌, ℕ, ◌==◌, true, false, true≢false, if◌then◌else◌, sym, arith}
use Rattle.std.proofs.lemmas.Grind.{common_steps}
use Rattle.std.proofs.lemmas.Bool.Decides.{nat_tests}

pub off : false ≡ true → ⊥
off e = true≢false (sym e)

-- whoever `from` was is now `to`
abbrev pub moved : ℕ → ℕ → ℕ → ℕ
moved from to k = if k == from then to else k

pub moved_here : (from to k : ℕ) → k ≡ from → to ≡ moved from to k
moved_here from to k e = grind (arith, nat_tests)

pub moved_else : (from to k j : ℕ) → j ≢ from → j ≡ k → j ≡ moved from to k
moved_else from to k j n e = grind (arith, common_steps, nat_tests)
