-- The greatest of some numbers, and tests on numbers below one.
use Rattle.std.proofs.Common.{◌≡◌, ◌⊎◌, ℕ, zero, suc, ◌<◌, ◌≤◌, Bool, true, false, cond, refl, inl, inr, arith}
use Rattle.std.proofs.lemmas.Bool.{cases_lt, false_from_ne_true, both_ways}
use Rattle.fdb_lines.specs.Faults.{greatest_of, some_below}

pub greatest_bound : (test : ℕ → Bool) (f : ℕ → ℕ) (n i : ℕ) → i < n → test i ≡ true → f i ≤ greatest_of test f n
greatest_bound test f zero i h p = absurd (omega arith)
greatest_bound test f (suc n) i h p = let rest = greatest_bound test f n i in grind arith

-- the greatest is of one that passes, or is 0
pub greatest_among : (test : ℕ → Bool) (f : ℕ → ℕ) (n : ℕ) → (greatest_of test f n ≡ 0) ⊎ ((i : ℕ) × (i < n) × (test i ≡ true) × (f i ≡ greatest_of test f n))
greatest_among test f zero = inl refl
greatest_among test f (suc n) =
    elim (cases_lt (greatest_of test f n) (cond (test n) (f n) 0)) [
      | inl more ↦ inr (n, omega arith, let p : test n ≡ true = grind arith in p, grind arith)
      | inr less ↦ elim (greatest_among test f n) [ inl none ↦ inl (omega arith) | inr some ↦ inr (some.0, omega (arith, some.1), some.2, omega (arith, some.3)) ]
    ]

pub greatest_least : (test : ℕ → Bool) (f : ℕ → ℕ) (n b : ℕ) → ((i : ℕ) → i < n → test i ≡ true → f i ≤ b) → greatest_of test f n ≤ b
greatest_least test f n b h = elim (greatest_among test f n) [ inl none ↦ omega arith | inr some ↦ omega (arith, h some.0 some.1 some.2, some.3) ]

pub some_at : (test : ℕ → Bool) (n i : ℕ) → i < n → test i ≡ true → some_below test n ≡ true
some_at test zero i h p = absurd (omega arith)
some_at test (suc n) i h p = let rest = some_at test n i in grind arith

pub some_find : (test : ℕ → Bool) (n : ℕ) → some_below test n ≡ true → (i : ℕ) × (i < n) × (test i ≡ true)
some_find test zero h = absurd (both_ways false refl h)
some_find test (suc n) h = let rest = some_find test n in grind arith

pub none_at : (test : ℕ → Bool) (n i : ℕ) → some_below test n ≡ false → i < n → test i ≡ false
none_at test n i none h = false_from_ne_true (test i) (λ p. both_ways (some_below test n) none (some_at test n i h p))
