-- The changes among the stamps of some events: one at each position up to their number, and none elsewhere.
use Rattle.std.proofs.Common.{◌≡◌, ◌⊎◌, ℕ, ◌+◌, ◌<◌, ◌≤◌, true, false, List, [], ◌∷◌, ◌++◌, refl, ap, sym, ◌∙◌, inl, inr, arith, le_refl}
use Rattle.std.proofs.lemmas.Bool.{eq-eqb, ne_eqb, cases_eq}
use Rattle.fdb_history.specs.Event.{stamped, position_after, change_count}
use Rattle.fdb_history.specs.declared.register.Event.{Event}
use Rattle.fdb_history.specs.declared.register.Event.TheVariants.{Report, Read}
use Rattle.fdb_history.specs.declared.register.Placed.{Placed}
use Rattle.fdb_history.proofs.faultless.Ranks.{changes_to, events_of}
use Rattle.fdb_history.proofs.histories.HistoryLaws.{change_count-cons, position_after-is}

-- an event with its position
abbrev pub put_at : ℕ → Event → Placed
put_at position event = record { event = event; position = position }

-- the position after some events
abbrev pub come_to : ℕ → List Event → ℕ
come_to before [] = before
come_to before (event ∷ events) = come_to (position_after before event) events

pub come_to-is : (before : ℕ) (events : List Event) → come_to before events ≡ before + change_count events
come_to-is before [] = omega arith
come_to-is before (event ∷ events) = omega (arith, come_to-is (position_after before event) events, position_after-is before event, change_count-cons event events)

-- the stamps of two lists in a row
pub stamped-append : (before : ℕ) (xs ys : List Event) → stamped before (xs ++ ys) ≡ stamped before xs ++ stamped (come_to before xs) ys
stamped-append before [] ys = refl
stamped-append before (event ∷ xs) ys = ap (λ l. put_at (position_after before event) event ∷ l) (stamped-append (position_after before event) xs ys)

-- the events of the stamps are the events
pub events-stamped : (before : ℕ) (events : List Event) → events_of (stamped before events) ≡ events
events-stamped before [] = refl
events-stamped before (event ∷ events) = ap (λ l. event ∷ l) (events-stamped (position_after before event) events)

-- no event changes to a position at or below the one that it starts from
pub none_to : (before position : ℕ) (events : List Event) → position ≤ before → changes_to position (stamped before events) ≡ []
none_to before position [] below = refl
none_to before position (Read client call rec ∷ events) below = none_to before position events below
none_to before position (Report client call rec raised false ∷ events) below = none_to before position events below
none_to before position (Report client call rec raised true ∷ events) below =
    rw (ne_eqb (before + 1) position (λ same. omega arith)) (none_to (before + 1) position events (omega arith))

-- a change is the only one to its position
pub change_to : (before client call : ℕ) (rec : _) (raised : _) (events : List Event)
    → changes_to (before + 1) (stamped before (Report client call rec raised true ∷ events)) ≡ put_at (before + 1) (Report client call rec raised true) ∷ []
change_to before client call rec raised events =
    rw (eq-eqb (before + 1) (before + 1) refl) (ap (λ l. put_at (before + 1) (Report client call rec raised true) ∷ l) (none_to (before + 1) (before + 1) events (le_refl (before + 1))))

-- the position is beyond the events, and none changes to it, or one does
abbrev pub Found : ℕ → ℕ → List Event → Type 0
Found before position events =
    ((changes_to position (stamped before events) ≡ []) × (come_to before events < position)) ⊎ ((p : Placed) × (changes_to position (stamped before events) ≡ p ∷ []))

pub found : (before position : ℕ) (events : List Event) → before < position → Found before position events
found before position [] above = inl (refl, above)
found before position (Read client call rec ∷ events) above = found before position events above
found before position (Report client call rec raised false ∷ events) above = found before position events above
found before position (Report client call rec raised true ∷ events) above =
    elim (cases_eq (before + 1) position) [
      | inl same ↦ inr (put_at (before + 1) (Report client call rec raised true), ap (λ k. changes_to k (stamped before (Report client call rec raised true ∷ events))) (sym same) ∙ change_to before client call rec raised events)
      | inr other ↦ rw (ne_eqb (before + 1) position other) (found (before + 1) position events (omega arith))
    ]
