-- What a report that was answered logs, of a token whose number is its client's.
use Rattle.std.proofs.Common.{◌≡◌, ℕ, Bool, true, false, Some, MatchBool, refl, subst, ◌∙◌}
use Rattle.fdb_history.specs.declared.register.Record.{Record}
use Rattle.fdb_live.specs.Seen.{IsChangedBy, IsNotChangedBy, Sight}

-- the token, written out with its number
abbrev pub written : ℕ → Sight → Sight
written number seen = record { reporter = Some number; changes = seen.changes; answers = seen.answers }

written_is : (number : ℕ) (seen : Sight) → seen.reporter ≡ Some number → seen ≡ written number seen
written_is number seen whose = λ i. record { reporter = whose i; changes = seen.changes; answers = seen.answers }

module _ (start rec : Record) (raised : Bool) (number : ℕ) (old new : Sight) (whose : old.reporter ≡ Some number) (stays : new.reporter ≡ old.reporter) where
  of_both : (P : Sight → Sight → Type 0) → P old new → P (written number old) (written number new)
  of_both P holds = subst (λ (p : Sight × Sight). P p.0 p.1) (λ i. (written_is number old whose i, written_is number new (stays ∙ whose) i)) holds

  pub changed_or_not : (changed : Bool) → (changed ≡ true → IsChangedBy start rec raised old new) → (changed ≡ false → IsNotChangedBy start rec raised old new)
      → MatchBool changed (IsChangedBy start rec raised (written number old) (written number new)) (IsNotChangedBy start rec raised (written number old) (written number new))
  changed_or_not true is not = of_both (IsChangedBy start rec raised) (is refl)
  changed_or_not false is not = of_both (IsNotChangedBy start rec raised) (not refl)
