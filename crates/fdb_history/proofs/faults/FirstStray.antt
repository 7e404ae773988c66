-- The first stray answer, by the first call that is not justified and the least client with an entry that was not drawn.
use Rattle.std.proofs.Common.{◌≡◌, ℕ, ◌≤◌, Bool, List, length, Option, Some, None, refl, ap, sym, ◌∙◌, inl, inr, arith}
use Rattle.std.proofs.lemmas.Option.{slice_get_within}
use Rattle.fdb_history.specs.private.Auditing.{AreMarks, HasUnmarked, IsFirstCall, IsLeastIfAny}
use Rattle.fdb_history.specs.Faults.{AtNoPosition, ComesBefore, IsFirst, IsLeast}
use Rattle.fdb_history.specs.Log.{calls_of}
use Rattle.fdb_history.specs.Strays.{HasUndrawn, IsStray, NotJustified, is_drawn}
use Rattle.fdb_history.specs.declared.auditing.call_fault.CallName.{CallName}
use Rattle.fdb_history.specs.declared.chain.Issued.{Issued}
use Rattle.fdb_history.specs.declared.log.ClientLog.{ClientLog}

module _ (chain : List Issued) (logs : List ClientLog) where
  -- ---- entries with no mark are those that were not drawn

  undrawn : (marks : List Bool) (client : ℕ) → AreMarks chain marks (λ place entry. is_drawn (calls_of logs entry.proxy) place entry) → HasUnmarked chain marks client → HasUndrawn chain logs client
  undrawn marks client are has =
      (has.0, has.1, has.2, has.3, ap (λ c. is_drawn (calls_of logs c) has.0 has.1) (sym has.3) ∙ (sym (are.each has.0 has.1 has.2) ∙ has.4))

  unmarked : (marks : List Bool) (client : ℕ) → AreMarks chain marks (λ place entry. is_drawn (calls_of logs entry.proxy) place entry) → HasUndrawn chain logs client → HasUnmarked chain marks client
  unmarked marks client are has =
      (has.0, has.1, has.2, has.3, are.each has.0 has.1 has.2 ∙ (ap (λ c. is_drawn (calls_of logs c) has.0 has.1) has.3 ∙ has.4))

  pub least_undrawn : (marks : List Bool) (least : Option ℕ) → AreMarks chain marks (λ place entry. is_drawn (calls_of logs entry.proxy) place entry) → IsLeastIfAny (HasUnmarked chain marks) least → IsLeastIfAny (HasUndrawn chain logs) least
  least_undrawn marks None are none = λ client has. none client (unmarked marks client are has)
  least_undrawn marks (Some least) are first =
      record { stands = undrawn marks least are first.stands; none_below = λ client below has. first.none_below client below (unmarked marks client are has) }

  -- ---- which of the two comes first

  -- every entry was drawn
  pub calls_only : (unjustified : Option CallName) → AtNoPosition (HasUndrawn chain logs) → IsFirstCall (NotJustified chain logs) unjustified → IsFirstCall (IsStray chain logs) unjustified
  calls_only None none nowhere = λ client place stray. elim stray [ inl call ↦ nowhere client place call | inr at_end ↦ none client at_end.1 ]
  calls_only (Some name) none first =
      record {
        stands = inl first.stands;
        none_before = λ client place before stray. elim stray [ inl call ↦ first.none_before client place before call | inr at_end ↦ none client at_end.1 ];
      }

  -- the call is of no later client than the entry
  pub call_first : (client place least : ℕ) → client ≤ least → IsFirst (NotJustified chain logs) client place → IsLeast (HasUndrawn chain logs) least → IsFirst (IsStray chain logs) client place
  call_first client place least no_later first entry =
      record { stands = inl first.stands; none_before = λ c p before stray. elim stray [ inl call ↦ first.none_before c p before call | inr at_end ↦ no_end c p before at_end ] }
    where
      no_end : (c p : ℕ) → ComesBefore c p client place → (p ≡ length (calls_of logs c)) × HasUndrawn chain logs c → ⊥
      no_end c p (inl below) at_end = entry.none_below c (omega arith) at_end.1
      no_end c p (inr (same, earlier)) at_end =
          let within = slice_get_within (calls_of logs client) place first.stands.0 first.stands.1 in
          let one = ap (λ k. length (calls_of logs k)) same in
          absurd (omega (arith, at_end.0))

  -- no call of a client up to that of the entry is not justified
  pub entry_first : (least : ℕ) → ((c p : ℕ) → c ≤ least → NotJustified chain logs c p → ⊥) → IsLeast (HasUndrawn chain logs) least → IsFirst (IsStray chain logs) least (length (calls_of logs least))
  entry_first least justified entry = record { stands = inr (refl, entry.stands); none_before = none }
    where
      none : (c p : ℕ) → ComesBefore c p least (length (calls_of logs least)) → IsStray chain logs c p → ⊥
      none c p (inl below) (inl call) = justified c p (omega arith) call
      none c p (inl below) (inr at_end) = entry.none_below c below at_end.1
      none c p (inr (same, earlier)) (inl call) = justified c p (omega arith) call
      none c p (inr (same, earlier)) (inr at_end) = let one = ap (λ k. length (calls_of logs k)) same in absurd (omega (arith, at_end.0))
