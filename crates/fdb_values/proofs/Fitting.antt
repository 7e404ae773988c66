-- Lines are by value where each fits those above it.
use Rattle.std.proofs.Common.{◌≡◌, ◌⊎◌, ℕ, ◌<◌, Bool, true, false, List, length, sym, inl, inr, arith}
use Rattle.std.proofs.lemmas.Bool.{both_ways, cases_order, false_from_ne_true}
use Rattle.std.proofs.lemmas.Bool.Decides.{nat_tests}
use Rattle.fdb_lines.specs.declared.line.Line.{Line}
use Rattle.fdb_lines.specs.Faults.{some_below}
use Rattle.fdb_lines.specs.Lines.{Kind, Read, Commit}
use Rattle.fdb_values.specs.ByValue.{AreByValue, call_at, start_value, value_at}
use Rattle.fdb_values.specs.Fits.{commits_it, fits, fits_with}
use Rattle.fdb_values.proofs.Facts.{none_at, some_find}

call_of : (is_committed : ℕ → Bool) (kind : Kind) (v : ℕ) → fits_with is_committed kind v ≡ true → (kind ≡ Read) ⊎ (kind ≡ Commit)
call_of is_committed kind v fit = grind arith

commit_of : (is_committed : ℕ → Bool) (kind : Kind) (v : ℕ) → fits_with is_committed kind v ≡ true → kind ≡ Commit → (v ≡ start_value → ⊥) × (is_committed v ≡ false)
commit_of is_committed kind v fit commit = ((λ zero. grind (arith, nat_tests)), grind (arith, nat_tests))

read_fits : (is_committed : ℕ → Bool) (kind : Kind) (v : ℕ) → kind ≡ Read → fits_with is_committed kind v ≡ true
read_fits is_committed kind v read = grind arith

commit_fits : (is_committed : ℕ → Bool) (kind : Kind) (v : ℕ) → kind ≡ Commit → (v ≡ start_value → ⊥) → is_committed v ≡ false → fits_with is_committed kind v ≡ true
commit_fits is_committed kind v commit other fresh = grind (arith, nat_tests)

module _ (lines : List Line) where
  pub commits : (j v : ℕ) → call_at lines j ≡ Commit → value_at lines j ≡ v → commits_it lines v j ≡ true
  commits j v commit is = grind (arith, nat_tests)

  pub committed : (j v : ℕ) → commits_it lines v j ≡ true → (call_at lines j ≡ Commit) × (value_at lines j ≡ v)
  committed j v it = grind (arith, nat_tests)

  again : (j k : ℕ) → j < k → fits lines k ≡ true → call_at lines j ≡ Commit → call_at lines k ≡ Commit → value_at lines j ≡ value_at lines k → ⊥
  again j k lt fit one other same =
      let none = (commit_of (λ v. some_below (commits_it lines v) k) (call_at lines k) (value_at lines k) fit other).1 in
      both_ways (commits_it lines (value_at lines k) j) (none_at (commits_it lines (value_at lines k)) k j none lt) (commits j (value_at lines k) one same)

  pub all_fit : ((k : ℕ) → k < length lines → fits lines k ≡ true) → AreByValue lines
  all_fit fit = record {
    calls = λ k lt. call_of (λ v. some_below (commits_it lines v) k) (call_at lines k) (value_at lines k) (fit k lt);
    once = λ j k lj lk one other same. elim (cases_order j k) [
      | inl it ↦ it
      | inr either ↦ elim either [
        | inl lt ↦ absurd (again j k lt (fit k lk) one other same)
        | inr gt ↦ absurd (again k j gt (fit j lj) other one (sym same))
      ]
    ];
    new = λ k lt commit. (commit_of (λ v. some_below (commits_it lines v) k) (call_at lines k) (value_at lines k) (fit k lt) commit).0;
  }

  pub fit_all : AreByValue lines → (k : ℕ) → k < length lines → fits lines k ≡ true
  fit_all by k lt = elim (by.calls k lt) [
    | inl read ↦ read_fits (λ v. some_below (commits_it lines v) k) (call_at lines k) (value_at lines k) read
    | inr commit ↦
        commit_fits (λ v. some_below (commits_it lines v) k) (call_at lines k) (value_at lines k) commit (by.new k lt commit)
        (false_from_ne_true (some_below (commits_it lines (value_at lines k)) k) (λ some.
        let j = some_find (commits_it lines (value_at lines k)) k some in
        let it = committed j.0 (value_at lines k) j.2 in
        let same = by.once j.0 k (omega (arith, j.1)) lt it.0 commit it.1 in
        omega (arith, j.1, same)))
  ]
