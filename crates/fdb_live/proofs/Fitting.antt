-- The passes of a table that fit, after one of them has changed or a new one has come.
use Rattle.std.proofs.Common.{◌≡◌, ◌≢◌, ◌⊎◌, ℕ, zero, suc, List, [], ◌∷◌, ◌++◌, length, set, refl, sym, ap, ◌∙◌, subst, ⊎_elim, inl, inr, arith}
use mathlib.Core.Option.{some, some-ne-none, some-injective}
use lib.ListN.{get_elem?, length-set}
use Rattle.fdb_live.specs.private.Rule.{Fits, Whole, spent}
use Rattle.fdb_live.specs.declared.view.View.{View}
use Rattle.fdb_live.proofs.ChainParts.{chain_spent}
use Rattle.fdb_live.proofs.Moved.{off}
use Rattle.fdb_live.proofs.Prefixes.{prefix_nil}

-- what is at a place once one was set is the new one, there, and else what was there before
pub at_set : {A : Type 0} (l : List A) (i j : ℕ) (a b : A) → get_elem? (set l i a) j ≡ some b → ((j ≡ i) × (a ≡ b)) ⊎ ((j ≢ i) × (get_elem? l j ≡ some b))
at_set [] i j a b e = absurd (some-ne-none b (sym e))
at_set (x ∷ xs) zero zero a b e = inl (refl, some-injective a b e)
at_set (x ∷ xs) zero (suc j) a b e = inr ((λ h. omega arith), e)
at_set (x ∷ xs) (suc i) zero a b e = inr ((λ h. omega arith), e)
at_set (x ∷ xs) (suc i) (suc j) a b e = ⊎_elim (λ t. inl (ap suc t.0, t.1)) (λ t. let n = t.0 in inr ((λ h. n (omega arith)), t.1)) (at_set xs i j a b e)

at_new : {A : Type 0} (l : List A) (a b : A) (j : ℕ) → get_elem? (l ++ a ∷ []) j ≡ some b → (get_elem? l j ≡ some b) ⊎ ((j ≡ length l) × (a ≡ b))
at_new [] a b zero e = inr (refl, some-injective a b e)
at_new [] a b (suc j) e = absurd (some-ne-none b (sym e))
at_new (x ∷ xs) a b zero e = inl e
at_new (x ∷ xs) a b (suc j) e = ⊎_elim (λ old. inl old) (λ new. inr (ap suc new.0, new.1)) (at_new xs a b j e)

module _ (whole : Whole) where
  abbrev pub Fit : ℕ → View → Type 0
  Fit pass v = Fits whole pass v

  -- each pass but one fits
  abbrev pub Others : List View → ℕ → Type 0
  Others views pass = (j : ℕ) (u : View) → j ≢ pass → get_elem? views j ≡ some u → Fit j u

  abbrev pub Each : List View → Type 0
  Each views = (j : ℕ) (u : View) → get_elem? views j ≡ some u → Fit j u

  pub fits_set : (views : List View) (pass : ℕ) (w : View) → Others views pass → Fit pass w → Each (set views pass w)
  fits_set views pass w others mine j u e =
      ⊎_elim
      (λ (x : (j ≡ pass) × (w ≡ u)). subst (λ (y : ℕ × View). Fit y.0 y.1) (λ i. (sym x.0 i, x.1 i)) mine)
      (λ (x : (j ≢ pass) × (get_elem? views j ≡ some u)). others j u x.0 x.1)
      (at_set views pass j w u e)

  pub fits_fork : (views : List View) (pass : ℕ) (left right : View) → Others views pass → Fit pass left → Fit (length views) right → Each (set views pass left ++ right ∷ [])
  fits_fork views pass left right others mine new j u e =
      ⊎_elim
      (λ old. fits_set views pass left others mine j u old)
      (λ (x : (j ≡ length (set views pass left)) × (right ≡ u)). subst (λ (y : ℕ × View). Fit y.0 y.1) (λ i. (sym (x.0 ∙ length-set views pass left) i, x.1 i)) new)
      (at_new (set views pass left) right u j e)

  pub fits_spent : (pass : ℕ) → Fit pass spent
  fits_spent pass = record { opened = λ o. absurd (omega arith); right = λ e. absurd (off e); seen = prefix_nil whole.log; mine = prefix_nil []; theirs = prefix_nil []; own = λ n low high. absurd (omega arith); numbers = omega arith; held = λ n low high. absurd (omega arith); chain = chain_spent whole.answers whole.drawer pass }

  pub fits_merge : (views : List View) (pass other : ℕ) (both : View) → ((j : ℕ) (u : View) → j ≢ pass → j ≢ other → get_elem? views j ≡ some u → Fit j u) → Fit pass both → Each (set (set views pass both) other spent)
  fits_merge views pass other both others mine = fits_set (set views pass both) other spent rest (fits_spent other)
    where
      rest : Others (set views pass both) other
      rest j u apart e =
          ⊎_elim
          (λ (x : (j ≡ pass) × (both ≡ u)). subst (λ (y : ℕ × View). Fit y.0 y.1) (λ i. (sym x.0 i, x.1 i)) mine)
          (λ (x : (j ≢ pass) × (get_elem? views j ≡ some u)). others j u x.0 apart x.1)
          (at_set views pass j both u e)
