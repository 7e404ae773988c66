-- The first call at which something stands, found client by client.
use Rattle.std.proofs.Common.{◌≡◌, ℕ, zero, suc, ◌+◌, ◌<◌, ◌≤◌, List, [], ◌∷◌, length, take, None, Some, slice_get, get_or, refl, ap, sym, subst, inl, inr, arith}
use Rattle.std.proofs.lemmas.Grind.{common_steps}
use Rattle.std.proofs.lemmas.Bool.Decides.{nat_tests}
use Rattle.std.proofs.lemmas.Bool.{cases_eq, cases_lt}
use Rattle.std.proofs.lemmas.Option.{none-some}
use Rattle.fdb_history.specs.private.Auditing.{IsFirstOf, NoneBefore}
use Rattle.fdb_history.specs.Faults.{StandsAt, IsFirst, ComesBefore}
use Rattle.fdb_history.specs.Log.{calls_of, position_after_calls}
use Rattle.fdb_history.specs.declared.log.Call.{Call}
use Rattle.fdb_history.specs.declared.log.ClientLog.{ClientLog}

-- the calls of a client that has a log
pub calls-at : (logs : List ClientLog) (client : ℕ) (log : ClientLog) → client < length logs → log ≡ get_or logs client log → calls_of logs client ≡ log.calls
calls-at [] client log within is = absurd (omega arith)
calls-at (first ∷ logs) zero log within is = ap (λ (l : ClientLog). l.calls) (sym is)
calls-at (first ∷ logs) (suc client) log within is = calls-at logs client log (omega arith) is

-- and of one that has none
pub calls-past : (logs : List ClientLog) (client : ℕ) → length logs ≤ client → calls_of logs client ≡ []
calls-past [] client past = refl
calls-past (first ∷ logs) zero past = absurd (omega arith)
calls-past (first ∷ logs) (suc client) past = calls-past logs client (omega arith)

-- nothing stands at a client's calls where nothing is found in its log
none_in : (Fault : List Call → Call → Type 0) (logs : List ClientLog) (client place : ℕ) (calls : List Call) → calls_of logs client ≡ calls
    → IsFirstOf Fault calls None → StandsAt Fault logs client place → ⊥
none_in Fault logs client place calls is none stands = grind (arith, common_steps, nat_tests)

-- one call more without
pub call_more : (Fault : List Call → Call → Type 0) (calls : List Call) (place : ℕ) (call : Call) → slice_get calls place ≡ Some call → (Fault (take place calls) call → ⊥) → NoneBefore Fault calls place → NoneBefore Fault calls (place + 1)
call_more Fault calls place call at fine before p other below here fault = grind (arith, common_steps, nat_tests)

-- one client more without; the fault of a call may depend on its client
pub none_more : (Fault : ℕ → List Call → Call → Type 0) (logs : List ClientLog) (client : ℕ) (calls : List Call) → calls_of logs client ≡ calls
    → ((c p : ℕ) → c < client → StandsAt (Fault c) logs c p → ⊥) → IsFirstOf (Fault client) calls None → (c p : ℕ) → c < client + 1 → StandsAt (Fault c) logs c p → ⊥
none_more Fault logs client calls is before none c p below stands =
    elim (cases_eq c client) [
      | inl same ↦ none_in (Fault client) logs client p calls is none (subst (λ (k : ℕ). StandsAt (Fault k) logs k p) same stands)
      | inr apart ↦ before c p (omega arith) stands
    ]

-- it stands nowhere where it stands at no client that has a log
pub nowhere : (Fault : ℕ → List Call → Call → Type 0) (logs : List ClientLog) (count : ℕ) → length logs ≤ count
    → ((c p : ℕ) → c < count → StandsAt (Fault c) logs c p → ⊥) → (c p : ℕ) → StandsAt (Fault c) logs c p → ⊥
nowhere Fault logs count all before c p stands =
    elim (cases_lt c count) [
      | inl below ↦ before c p below stands
      | inr past ↦ none_in (Fault c) logs c p [] (calls-past logs c (omega arith)) (λ place call at. absurd (none-some call at)) stands
    ]

-- the first of the first log that has one
pub first : (Fault : ℕ → List Call → Call → Type 0) (logs : List ClientLog) (client place : ℕ) (calls : List Call) → calls_of logs client ≡ calls
    → ((c p : ℕ) → c < client → StandsAt (Fault c) logs c p → ⊥) → IsFirstOf (Fault client) calls (Some place) → IsFirst (λ c p. StandsAt (Fault c) logs c p) client place
first Fault logs client place calls is before found =
    let P : List Call → Type 0 = λ l. (call : Call) × (slice_get l place ≡ Some call) × Fault client (take place l) call in
    record {
      stands = subst P (sym is) found.0;
      none_before = λ c p comes. first_before c p comes;
    }
  where
    first_before : (c p : ℕ) → ComesBefore c p client place → StandsAt (Fault c) logs c p → ⊥
    first_before c p (inl below) stands = before c p below stands
    first_before c p (inr (same, earlier)) stands =
        let Q : List Call → Type 0 = λ l. (call : Call) × (slice_get l p ≡ Some call) × Fault client (take p l) call in
        let there = subst Q is (subst (λ (k : ℕ). StandsAt (Fault k) logs k p) same stands) in
        found.1 p there.0 earlier there.1 there.2

-- the position after some calls is that of the last
pub position-last : (before : ℕ) (calls : List Call) (place : ℕ) (last : Call) → length calls ≡ suc place → last ≡ get_or calls place last → last.position ≡ position_after_calls before calls
position-last before [] place last size is = absurd (omega arith)
position-last before (call ∷ []) zero last size is = ap (λ (c : Call). c.position) is
position-last before (call ∷ []) (suc place) last size is = absurd (omega arith)
position-last before (call ∷ next ∷ calls) zero last size is = absurd (omega arith)
position-last before (call ∷ next ∷ calls) (suc place) last size is = position-last call.position (next ∷ calls) place last (omega arith) is
