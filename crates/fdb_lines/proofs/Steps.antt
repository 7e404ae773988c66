-- A history is legal exactly where register and sequencer run through it.
use Rattle.std.proofs.Common.{◌≡◌, ◌⊎◌, ◌↔◌, ℕ, suc, ◌+◌, ◌-◌, ◌<◌, ◌≤◌, true, false, List, [], ◌∷◌, slice_get, refl, ap, sym, subst, ◌∙◌, inl, inr, arith}
use Rattle.std.proofs.lemmas.Bool.{cases_eq, and_parts, and_from, both_ways}
use Rattle.std.proofs.lemmas.Bool.Decides.{nat_tests}
use Rattle.std.proofs.lemmas.Option.{same_Some, none-some}
use Rattle.fdb_lines.specs.declared.slot.Effect.{Effect}
use Rattle.fdb_lines.specs.declared.slot.Effect.TheVariants.{Asks, Reports, Reads}
use Rattle.fdb_lines.specs.Explained.{Happens, ReportedBefore, AskedBefore, IsLegalHistory}
use Rattle.fdb_lines.specs.Steps.{State, is_in, may, after, runs, fresh}

-- whether an effect is legal at a moment
abbrev pub IsAllowed : ℕ → List Effect → ℕ → Effect → Type 0
IsAllowed start history m (Asks v) = ((w : ℕ) → AskedBefore history m w → w < v) × ((w : ℕ) → ReportedBefore start history m w → w < v)
IsAllowed start history m (Reports v) = AskedBefore history m v
IsAllowed start history m (Reads v) = ReportedBefore start history m v × ((w : ℕ) → ReportedBefore start history m w → w ≤ v)

-- a state is that after the first effects
record IsStateAt (start : ℕ) (history : List Effect) (m : ℕ) (s : State) : Type 0 where
  register : ReportedBefore start history m s.register
  most : (v : ℕ) → ReportedBefore start history m v → v ≤ s.register
  drawn : (v : ℕ) → is_in v s.drawn ≡ true → AskedBefore history m v
  asked : (v : ℕ) → AskedBefore history m v → (is_in v s.drawn ≡ true) × (v ≤ s.last)
  last : AskedBefore history m s.last ⊎ ReportedBefore start history m s.last

module _ (start : ℕ) (history : List Effect) where
  reported_next : (m v : ℕ) → ReportedBefore start history (suc m) v ↔ (ReportedBefore start history m v ⊎ Happens history m (Reports v))
  reported_next m v = (λ r. grind arith, λ r. grind arith)

  asked_next : (m v : ℕ) → AskedBefore history (suc m) v ↔ (AskedBefore history m v ⊎ Happens history m (Asks v))
  asked_next m v = (λ r. grind arith, λ r. grind arith)

  may_allowed : (m : ℕ) (s : State) (effect : Effect) → IsStateAt start history m s → (may s effect ≡ true) ↔ IsAllowed start history m effect
  may_allowed m s (Asks v) at = (
    λ h. (λ w b. let old = (at.asked w b).1 in grind (arith, nat_tests), λ w b. let old = at.most w b in grind (arith, nat_tests)),
    λ h. let register = h.1 s.register at.register in let asked = h.0 s.last in let reported = h.1 s.last in let last = at.last in grind (arith, nat_tests),
  )
  may_allowed m s (Reports v) at = (at.drawn v, λ h. (at.asked v h).0)
  may_allowed m s (Reads v) at = (
    λ h. (let register = at.register in grind (arith, nat_tests), λ w b. let old = at.most w b in grind (arith, nat_tests)),
    λ h. let most = at.most v h.0 in let least = h.1 s.register at.register in grind (arith, nat_tests),
  )

  next : (m : ℕ) (s : State) (effect : Effect) → IsStateAt start history m s → Happens history m effect → may s effect ≡ true → IsStateAt start history (suc m) (after s effect)
  next m s effect at h may = record {
    register = let old = at.register in (reported_next m (after s effect).register).1 (grind (arith, nat_tests));
    most = λ v r. let old = at.most v in let new = (reported_next m v).0 r in grind (arith, nat_tests);
    drawn = λ v i. let old = at.drawn v in (asked_next m v).1 (grind (arith, nat_tests));
    asked = λ v a. let old = at.asked v in let new = (asked_next m v).0 a in grind (arith, nat_tests);
    last = let old = at.last in let asked = (asked_next m (after s effect).last).1 in let reported = (reported_next m s.last).1 in grind (arith, nat_tests);
  }

  -- what is left of the history after the first effects
  abbrev IsRest : ℕ → List Effect → Type 0
  IsRest m rest = (i n : ℕ) → n ≡ i + m → slice_get rest i ≡ slice_get history n

  -- the rest runs from a state exactly where each of its effects is allowed
  walk : (rest : List Effect) (m : ℕ) (s : State) → IsRest m rest → IsStateAt start history m s
      → (runs s rest ≡ true) ↔ ((n : ℕ) (effect : Effect) → m ≤ n → Happens history n effect → IsAllowed start history n effect)
  walk [] m s left at = (λ h n effect le is. absurd (none-some effect (left (n - m) n (omega arith) ∙ is)), λ all. refl)
  walk (a ∷ rest) m s left at =
      let here = sym (left 0 m (omega arith)) in
      let on = λ (may_here : may s a ≡ true). walk rest (suc m) (after s a) (λ i k e. left (suc i) k (omega arith)) (next m s a at here may_here) in (
        λ h n effect le is.
            let p = and_parts (may s a) (runs (after s a) rest) h in
            elim (cases_eq m n) [
              | inl same ↦ let is : a ≡ effect = same_Some a effect (sym here ∙ (ap (slice_get history) same ∙ is)) in
                  subst (IsAllowed start history n) is (subst (λ k. IsAllowed start history k a) same ((may_allowed m s a at).0 p.0))
              | inr other ↦ (on p.0).0 p.1 n effect (omega arith) is
            ],
        λ all. let may_here = (may_allowed m s a at).1 (all m a (omega arith) here) in and_from _ _ may_here ((on may_here).1 (λ n effect le. all n effect (omega arith))),
      )

  pub legal_allowed : ((m : ℕ) (effect : Effect) → Happens history m effect → IsAllowed start history m effect) ↔ IsLegalHistory start history
  legal_allowed = (
    λ all. record {
      had = λ m v is. (all m (Reads v) is).0;
      greatest = λ m v w is. (all m (Reads v) is).1 w;
      drawn = λ m v. all m (Reports v);
      rising = λ m v w is. (all m (Asks v) is).0 w;
      above = λ m v w is. (all m (Asks v) is).1 w;
    },
    λ l m effect. elim effect as (λ a. Happens history m a → IsAllowed start history m a) [
      | Asks v ↦ λ is. (λ w. l.rising m v w is, λ w. l.above m v w is)
      | Reports v ↦ l.drawn m v
      | Reads v ↦ λ is. (l.had m v is, λ w. l.greatest m v w is)
    ],
  )

  pub legal_runs : (runs (fresh start) history ≡ true) ↔ IsLegalHistory start history
  legal_runs =
      let begun : IsStateAt start history 0 (fresh start) = record {
        register = inl refl;
        most = λ v r. grind arith;
        drawn = λ v i. absurd (both_ways false refl i);
        asked = λ v a. absurd (omega (arith, a.1));
        last = inr (inl refl);
      } in
      let all = walk history 0 (fresh start) (λ i n e. ap (slice_get history) (let same : i ≡ n = omega arith in same)) begun in
      (λ h. legal_allowed.0 (λ m effect. all.0 h m effect (omega arith)), λ l. all.1 (λ n effect le. legal_allowed.1 l n effect))
