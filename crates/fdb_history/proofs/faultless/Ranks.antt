-- The events of a list by their ranks: a number for each position and kind, the change at a position before the others
-- there. The events in the fixed order are the groups of their ranks.
use Rattle.std.proofs.Common.{◌≡◌, ℕ, zero, suc, ◌+◌, ◌<◌, ◌≤◌, ◌==◌, ◌&&◌, not, Bool, true, false, List, [], ◌∷◌, ◌++◌, map, filter, ap, sym, ◌∙◌, arith}
use Rattle.std.proofs.lemmas.Grind.{common_steps}
use Rattle.std.proofs.lemmas.Bool.Decides.{nat_tests}
use Rattle.std.proofs.lemmas.List.{map-append}
use Rattle.std.proofs.lemmas.List.Elements.{filter_agree}
use Rattle.fdb_history.specs.Event.{is_change}
use Rattle.fdb_history.specs.Explained.{events_at, events_up_to}
use Rattle.fdb_history.specs.private.Auditing.{Rises}
use Rattle.fdb_history.specs.declared.register.Event.{Event}
use Rattle.fdb_history.specs.declared.register.Placed.{Placed}
use Rattle.fdb_history.proofs.faultless.Grouped.{of, groups, two_more}

-- the rank of a position and kind
abbrev pub rank : ℕ → Bool → ℕ
rank position true = position + position
rank position false = position + position + 1

pub rank-least : (position : ℕ) (raised : Bool) → position + position ≤ rank position raised
rank-least position true = omega arith
rank-least position false = omega arith

pub rank-most : (position : ℕ) (raised : Bool) → rank position raised ≤ position + position + 1
rank-most position true = omega arith
rank-most position false = omega arith

-- the rank of an event
abbrev pub rank_of : Placed → ℕ
rank_of p = rank p.position (is_change p.event)

-- the events alone
abbrev pub events_of : List Placed → List Event
events_of all = map (λ p. p.event) all

-- the changes among them to a position
abbrev pub changes_to : ℕ → List Placed → List Placed
changes_to position all = filter (λ p. is_change p.event && (p.position == position)) all

-- they are one rank
pub changes-rank : (position : ℕ) (all : List Placed) → changes_to position all ≡ of rank_of (position + position) all
changes-rank position all = grind (arith, common_steps, nat_tests)

-- the events at a position are two ranks
at-groups : (position : ℕ) (all : List Placed) → events_at position all ≡ events_of (of rank_of (position + position) all ++ of rank_of (position + position + 1) all)
at-groups position all =
    ap (λ l. events_of l ++ events_of (filter (λ p. p.position == position && not (is_change p.event)) all))
    (filter_agree (λ p. p.position == position && is_change p.event) (λ p. rank_of p == position + position) (λ p. change p.position (is_change p.event)) all)
    ∙ ap (λ l. events_of (of rank_of (position + position) all) ++ events_of l)
    (filter_agree (λ p. p.position == position && not (is_change p.event)) (λ p. rank_of p == position + position + 1) (λ p. other p.position (is_change p.event)) all)
    ∙ sym (map-append (λ p. p.event) (of rank_of (position + position) all) (of rank_of (position + position + 1) all))
  where
    change : (m : ℕ) (raised : Bool) → (m == position && raised) ≡ (rank m raised == position + position)
    change m true = grind (arith, nat_tests)
    change m false = grind (arith, nat_tests)

    other : (m : ℕ) (raised : Bool) → (m == position && not raised) ≡ (rank m raised == position + position + 1)
    other m true = grind (arith, nat_tests)
    other m false = grind (arith, nat_tests)

-- the groups of the ranks of the positions up to one
abbrev pub ranks_up_to : ℕ → List Placed → List Placed
ranks_up_to count all = groups rank_of (count + count + 1) all

pub ranks-more : (count : ℕ) (all : List Placed)
    → ranks_up_to (suc count) all ≡ ranks_up_to count all ++ (of rank_of (suc count + suc count) all ++ of rank_of (suc count + suc count + 1) all)
ranks-more count all = two_more rank_of (count + count + 1) (suc count + suc count) (suc count + suc count + 1) all (omega arith) (omega arith)

-- the events up to a position are theirs
pub events-ranks : (count : ℕ) (all : List Placed) → events_up_to count all ≡ events_of (ranks_up_to count all)
events-ranks zero all = at-groups 0 all
events-ranks (suc count) all =
    ap (λ l. l ++ events_at (suc count) all) (events-ranks count all) ∙ ap (λ l. events_of (ranks_up_to count all) ++ l) (at-groups (suc count) all)
    ∙ sym (ap events_of (ranks-more count all)
    ∙ map-append (λ p. p.event) (ranks_up_to count all) (of rank_of (suc count + suc count) all ++ of rank_of (suc count + suc count + 1) all))

-- ---- a climbing list

-- the positions never fall, and a change has a new one
abbrev pub Climbing : ℕ → List Placed → Type 0
Climbing before [] = Unit {0}
Climbing before (p ∷ all) = (before ≤ p.position) × (is_change p.event ≡ true → before < p.position) × Climbing p.position all

-- it rises by rank, from where an event may stand after another at the position before
pub climbing_rises : (before low : ℕ) (all : List Placed) → low ≤ before + before + 1 → Climbing before all → Rises rank_of low all
climbing_rises before low [] least climbs = tt
climbing_rises before low (p ∷ all) least climbs = grind (arith, common_steps, nat_tests, climbing_rises p.position (rank_of p) all (rank-most p.position (is_change p.event)) climbs.2)
