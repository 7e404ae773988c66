-- Where each event is answered as the register at its position would, and only there, stamped events are legal.
use Rattle.std.proofs.Common.{◌≡◌, ◌≢◌, ◌↔◌, ℕ, ◌+◌, ◌-◌, ◌<◌, ◌⊎◌, Bool, true, false, List, [], ◌∷◌, map, Option, Some, None, refl, ap, sym, subst, ◌∙◌, inl, inr, arith}
use Rattle.std.specs.List.{AllByRecursion}
use Rattle.std.proofs.lemmas.Grind.{common_steps}
use Rattle.std.proofs.lemmas.Bool.Decides.{nat_tests}
use Rattle.std.proofs.lemmas.Bool.{cases_eq, true≢false, false≢true, ne_eqb}
use Rattle.fdb_history.specs.Event.{IsTrueOf, IsLegal, stamped}
use Rattle.fdb_history.specs.Faults.{register_at, IsMisanswered, IsWrongAnswer}
use Rattle.fdb_history.specs.Register.{raises, changes, after_report, after_reports}
use Rattle.fdb_history.specs.private.Explaining.{changes_of}
use Rattle.fdb_history.specs.declared.auditing.registers.PlacedChange.{PlacedChange}
use Rattle.fdb_history.specs.declared.register.Event.{Event}
use Rattle.fdb_history.specs.declared.register.Event.TheVariants.{Report, Read}
use Rattle.fdb_history.specs.declared.register.Placed.{Placed}
use Rattle.fdb_history.specs.declared.log.CallAnswer.TheVariants.{Version, Acked}
use Rattle.fdb_history.specs.declared.log.ClientLog.{ClientLog}
use Rattle.fdb_history.specs.declared.register.Record.{Record}
use Rattle.fdb_history.proofs.explained.Stamps.{change_to}
use Rattle.fdb_history.proofs.histories.AfterReport.{unchanged}
use Rattle.fdb_history.proofs.faultless.Logs.{Passes}
use Rattle.fdb_history.proofs.faultless.Ranks.{changes_to}

-- ---- two records are one or not

-- one or not
abbrev OneOrNot : {X : Type 0} → X → X → Type 0
OneOrNot x y = (x ≡ y) ⊎ (x ≡ y → ⊥)

-- two tests are one or not
decide_Bool : (x y : Bool) → OneOrNot x y
decide_Bool true true = inl refl
decide_Bool true false = inr true≢false
decide_Bool false true = inr false≢true
decide_Bool false false = inl refl

-- and so are two lists of bytes
decide_bytes : (x y : List ℕ) → OneOrNot x y
decide_bytes [] [] = inl refl
decide_bytes [] (n ∷ y) = inr (λ e. cc)
decide_bytes (m ∷ x) [] = inr (λ e. cc)
decide_bytes (m ∷ x) (n ∷ y) = grind (arith, common_steps, nat_tests, decide_bytes x y)

-- and so are two metadata versions
decide_metadata : (x y : Option (List ℕ)) → OneOrNot x y
decide_metadata None None = inl refl
decide_metadata None (Some n) = inr (λ e. cc)
decide_metadata (Some m) None = inr (λ e. cc)
decide_metadata (Some m) (Some n) = elim (decide_bytes m n) [ inl same ↦ inl (ap Some same) | inr apart ↦ inr (λ e. apart cc) ]

-- what is not apart between two records that are not apart is one
field : {A : Type 0} (get : Record → A) (x y : Record) → OneOrNot (get x) (get y) → (x ≢ y → ⊥) → get x ≡ get y
field get x y (inl same) close = same
field get x y (inr apart) close = absurd (close (λ e. apart (ap get e)))

-- records that are not apart are one
pub same_record : (x y : Record) → (x ≢ y → ⊥) → x ≡ y
same_record x y close =
    let a = field (λ r. r.version) x y (cases_eq x.version y.version) close in
    let b = field (λ r. r.locked) x y (decide_Bool x.locked y.locked) close in
    let c = field (λ r. r.metadata) x y (decide_metadata x.metadata y.metadata) close in
    let d = field (λ r. r.min_known) x y (cases_eq x.min_known y.min_known) close in
    let first : x ≡ record x { version = y.version } = ap (λ n. record x { version = n }) a in
    let second : record x { version = y.version } ≡ record x { version = y.version; locked = y.locked } = ap (λ l. record x { version = y.version; locked = l }) b in
    let third : record x { version = y.version; locked = y.locked } ≡ record y { min_known = x.min_known } = ap (λ m. record x { version = y.version; locked = y.locked; metadata = m }) c in
    let fourth : record y { min_known = x.min_known } ≡ y = ap (λ n. record y { min_known = n }) d in
    first ∙ second ∙ third ∙ fourth

-- ---- right answers

-- answered as the register at its position would, given the register at each position; a change, as
-- the one before its own
abbrev pub IsRightAt : (ℕ → Record) → ℕ → Event → Type 0
IsRightAt reg at (Report client call rec raised true) = IsTrueOf (reg (at - 1)) (Report client call rec raised true)
IsRightAt reg at (Report client call rec raised false) = IsTrueOf (reg at) (Report client call rec raised false)
IsRightAt reg at (Read client call rec) = IsTrueOf (reg at) (Read client call rec)

-- the same of an event with its position
abbrev pub IsRight : (ℕ → Record) → Placed → Type 0
IsRight reg p = IsRightAt reg p.position p.event

-- a report that is not answered otherwise is answered so
pub answered_so : (current rec : Record) (raised changed : Bool) → (IsMisanswered current rec raised changed → ⊥) → (raised ≡ raises current rec) × (changed ≡ changes current rec)
answered_so current rec raised changed fine = grind (arith, common_steps, nat_tests)

-- an event of a call that is not answered wrong is right
pub passes_right : (start : Record) (logs : List ClientLog) (client : ℕ) → Passes client (λ position answer. IsWrongAnswer start logs position answer → ⊥) (IsRight (register_at start logs))
passes_right start logs client place position (Version rec limits locked_out) fine = (same_record rec (register_at start logs position) fine, tt)
passes_right start logs client place position (Acked rec raised true) fine = (answered_so (register_at start logs (position - 1)) rec raised true fine, tt)
passes_right start logs client place position (Acked rec raised false) fine = (answered_so (register_at start logs position) rec raised false fine, tt)
passes_right start logs client place position _ fine = tt

-- ---- legal, event by event

-- a register that is made by the changes of the events
module _ (reg : ℕ → Record) (made : ℕ → List PlacedChange) (step : (p : ℕ) → reg (p + 1) ≡ after_reports (reg p) (map (λ change. change.rec) (made (p + 1)))) where
  pub legal_right : (before : ℕ) (events : List Event) → ((p : ℕ) → before < p → made p ≡ changes_of (changes_to p (stamped before events)))
      → IsLegal (reg before) events ↔ AllByRecursion (IsRight reg) (stamped before events)
  legal_right before [] each = (λ legal. tt, λ right. tt)
  legal_right before (Read client call rec ∷ events) each =
      let rest = legal_right before events each in (λ legal. (legal.0, rest.0 legal.1), λ right. (right.0, rest.1 right.1))
  legal_right before (Report client call rec raised false ∷ events) each =
      let rest = legal_right before events each in
      let stays = λ (t : IsTrueOf (reg before) (Report client call rec raised false)). unchanged (reg before) rec (sym t.1) in
      let P : Record → Type 0 = λ r. IsLegal r events in
      (λ legal. (legal.0, rest.0 (subst P (stays legal.0) legal.1)), λ right. (right.0, subst P (sym (stays right.0)) (rest.1 right.1)))
  legal_right before (Report client call rec raised true ∷ events) each =
      let here = each (before + 1) (omega arith) ∙ ap changes_of (change_to before client call rec raised events) in
      let after : reg (before + 1) ≡ after_report (reg before) rec = step before ∙ ap (λ changes. after_reports (reg before) (map (λ change. change.rec) changes)) here in
      let back : before + 1 - 1 ≡ before = omega arith in
      let rest = legal_right (before + 1) events (λ p above. each p (omega arith) ∙ rw (ne_eqb (before + 1) p (λ same. omega arith))) in
      let P : Record → Type 0 = λ r. IsLegal r events in
      let Q : ℕ → Type 0 = λ n. IsTrueOf (reg n) (Report client call rec raised true) in
      (λ legal. (subst Q (sym back) legal.0, rest.0 (subst P (sym after) legal.1)), λ right. (subst Q back right.0, subst P after (rest.1 right.1)))
