-- The events of the logs, sorted by position and each change before the others there, are the groups of their ranks,
-- and the changes among them stand by position.
use Rattle.std.proofs.Common.{◌≡◌, ℕ, zero, suc, ◌+◌, ◌≤◌, not, Bool, true, false, ltb, List, [], ◌∷◌, ◌++◌, map, count_by, None, Ordering, is_lt, nat_cmp, refl, ap, sym, ◌∙◌, arith, le_trans}
use Rattle.std.specs.List.Sorted.{IsSortedByKey, IsStableByKey, IsPermutation}
use Rattle.std.specs.Ordering.{bool_cmp, ordering_then}
use Rattle.std.proofs.lemmas.Grind.{common_steps}
use Rattle.std.proofs.lemmas.Bool.Decides.{nat_tests}
use Rattle.std.proofs.lemmas.List.Elements.{All-from_recursion, All-weaker, recursion_from_All}
use Rattle.std.proofs.lemmas.List.Sorted.{All-permutation}
use Rattle.fdb_history.specs.Event.{is_change}
use Rattle.fdb_history.specs.Explained.{placed_in, explained}
use Rattle.fdb_history.specs.private.Auditing.{AreByPosition, AreChangesOf, IsWithin, Rises}
use Rattle.fdb_history.specs.private.Explaining.{AreEventsByPosition, change_of_event, changes_of}
use Rattle.fdb_history.specs.declared.auditing.registers.PlacedChange.{PlacedChange}
use Rattle.fdb_history.specs.declared.register.Event.{Event}
use Rattle.fdb_history.specs.declared.register.Event.TheVariants.{Report}
use Rattle.fdb_history.specs.declared.register.Placed.{Placed}
use Rattle.fdb_history.specs.declared.log.ClientLog.{ClientLog}
use Rattle.fdb_history.proofs.faultless.Grouped.{of, groups_all, in_order, same_group}
use Rattle.fdb_history.proofs.faultless.Logs.{changes-at, changes-to}
use Rattle.fdb_history.proofs.faultless.Ranks.{rank, rank_of, rank-least, rank-most, changes-rank, events_of, ranks_up_to, ranks-more, events-ranks}

-- ---- the sort, by ranks

-- the order of the sort, of a position and of whether it is no change
abbrev pub pair_order : ℕ × Bool → ℕ × Bool → Ordering
pair_order x y = ordering_then (nat_cmp x.0 y.0) (bool_cmp x.1 y.1)

-- what the sort goes by
abbrev pub sort_key : Placed → ℕ × Bool
sort_key p = (p.position, not (is_change p.event))

-- whether the sort puts one before another
abbrev is_before : Placed → Placed → Bool
is_before x y = is_lt (pair_order (sort_key x) (sort_key y))

-- it does so by the ranks
by_rank : (x y : Placed) → is_before x y ≡ ltb (rank_of x) (rank_of y)
by_rank x y = grind (arith, common_steps, nat_tests)

-- what the sort leaves is in its order, and has been sorted from a list
abbrev pub IsInOrder : List Placed → Type 0
IsInOrder = IsSortedByKey sort_key pair_order

abbrev pub IsFrom : List Placed → List Placed → Type 0
IsFrom all ys = IsStableByKey sort_key pair_order all ys

-- so it rises by rank
rises : (ys : List Placed) → IsInOrder ys → Rises rank_of 0 ys
rises ys sorted = in_order rank_of is_before by_rank ys sorted

-- an event at a position, a change or not
abbrev an_event : Bool → ℕ → Placed
an_event up position = record { event = Report 0 0 (record { version = 0; locked = false; metadata = None; min_known = 0 }) up up; position = position }

-- and each rank is as it was
same_rank : (up : Bool) (position : ℕ) (all ys : List Placed) → IsFrom all ys → of rank_of (rank position up) ys ≡ of rank_of (rank position up) all
same_rank up position all ys stable = same_group rank_of is_before by_rank all ys stable (an_event up position)

same_ranks : (count : ℕ) (all ys : List Placed) → IsFrom all ys → ranks_up_to count ys ≡ ranks_up_to count all
same_ranks zero all ys stable = rw (same_rank true 0 all ys stable, same_rank false 0 all ys stable) refl
same_ranks (suc count) all ys stable =
    rw (ranks-more count ys, ranks-more count all, same_ranks count all ys stable, same_rank true (suc count) all ys stable, same_rank false (suc count) all ys stable) refl

-- ---- the changes

-- the sorted events stand by position
rises_by_position : (low position : ℕ) (ys : List Placed) → position + position ≤ low → Rises rank_of low ys → Rises (λ (p : Placed). p.position) position ys
rises_by_position low position [] least up = tt
rises_by_position low position (p ∷ ys) least up =
    let most = rank-most p.position (is_change p.event) in
    (omega (arith, up.0), rises_by_position (rank_of p) p.position ys (rank-least p.position (is_change p.event)) up.1)

pub sorted_by_position : (ys : List Placed) → IsInOrder ys → AreEventsByPosition ys
sorted_by_position ys sorted = rises_by_position 0 0 ys (omega arith) (rises ys sorted)

-- what rises from a position rises from each below it
rises_below : (before later : ℕ) (changes : List PlacedChange) → before ≤ later → Rises (λ (change : PlacedChange). change.position) later changes → Rises (λ (change : PlacedChange). change.position) before changes
rises_below before later [] below up = tt
rises_below before later (change ∷ changes) below up = (le_trans below up.0, up.1)

-- the change of an event, and then what rises from its position
rises_more : (low position : ℕ) (event : Event) (changes : List PlacedChange) → low ≤ position → Rises (λ (change : PlacedChange). change.position) position changes
    → Rises (λ (change : PlacedChange). change.position) low (change_of_event position event ++ changes)
rises_more low position (Report client call rec raised true) changes least up = (least, up)
rises_more low position _ changes least up = rises_below low position changes least up

-- the changes among events that rise do so too
rises_among : (low : ℕ) (ys : List Placed) → Rises (λ (p : Placed). p.position) low ys → Rises (λ (change : PlacedChange). change.position) low (changes_of ys)
rises_among low [] up = tt
rises_among low (p ∷ ys) up = rises_more low p.position p.event (changes_of ys) up.0 (rises_among p.position ys up.1)

-- The changes among events by position stand by position.
pub changes_by_position : (ys : List Placed) → AreEventsByPosition ys → AreByPosition (changes_of ys)
changes_by_position ys up = rises_among 0 ys up

-- The changes among the sorted events are those of the logs, at each position.
pub sorted_changes : (logs : List ClientLog) (all ys : List Placed) → all ≡ placed_in 0 logs → IsFrom all ys → AreChangesOf logs (changes_of ys)
sorted_changes logs all ys is stable position =
    changes-to position ys
    ∙ ap changes_of (changes-rank position ys ∙ same_rank true position all ys stable ∙ ap (of rank_of (position + position)) is ∙ sym (changes-rank position (placed_in 0 logs)))
    ∙ sym (changes-at logs position)

-- ---- the whole

-- the events of the sorted list are the history
pub sorted_explained : (logs : List ClientLog) (all ys : List Placed) → all ≡ placed_in 0 logs → IsWithin logs → IsPermutation all ys → IsInOrder ys → IsFrom all ys
    → map (λ p. p.event) ys ≡ explained logs
sorted_explained logs all ys is within moved sorted stable =
    let count = count_by (λ p. is_change p.event) (placed_in 0 logs) in
    let P : Placed → Type 0 = λ p. rank_of p ≤ count + count + 1 in
    let low : (p : Placed) → p.position ≤ count → P p = λ p most. let rank = rank-most p.position (is_change p.event) in omega arith in
    let bounded = All-permutation P all ys moved (rw is (All-weaker (λ p. p.position ≤ count) P low (placed_in 0 logs) (All-from_recursion (λ p. p.position ≤ count) (placed_in 0 logs) within))) in
    ap events_of (sym (groups_all rank_of 0 (count + count + 1) ys (rises ys sorted) (recursion_from_All P ys bounded)) ∙ same_ranks count all ys stable ∙ ap (ranks_up_to count) is)
    ∙ sym (events-ranks count (placed_in 0 logs))
