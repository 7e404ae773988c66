-- OrderSteps that share an effect are of lines, in their order.
use Rattle.std.proofs.Common.{◌≡◌, ◌≢◌, ℕ, zero, suc, ◌+◌, ◌*◌, ◌==◌, ◌&&◌, nat_lt, ◌<◌, ◌≤◌, Bool, true, false, cond, List, [], ◌∷◌, ◌++◌, map, length, slice_get, slice_index_or, Option, Some, None, refl, ap, sym, subst, ◌∙◌, arith, option_to_list, is_some}
use Rattle.std.proofs.lemmas.Bool.Decides.{nat_tests}
use Rattle.std.specs.Ordering.{bool_cmp, is_eq, is_lt, nat_cmp, ordering_then}
use Rattle.std.specs.Option.{is_none, option_cmp}
use Rattle.std.specs.declared.cmp.Ordering.{Ordering}
use Rattle.std.specs.declared.cmp.Ordering.TheVariants.{Less, Equal, Greater}
use Rattle.std.specs.List.{sum_by}
use Rattle.std.proofs.lemmas.Bool.{both_ways}
use Rattle.std.proofs.lemmas.Option.{none-some, same_Some}
use Rattle.std.proofs.lemmas.List.Sums.{sum_by-append, sum_by-cons}
use Rattle.fdb_lines.specs.contracts.slot.KeyOrd.TheImpl.{cmp-value}
use Rattle.fdb_lines.specs.contracts.slot.KeyOrd.TheImpl.Laws.{matches_eq-law}
use Rattle.fdb_lines.specs.declared.slot.Slot.{Slot}
use Rattle.fdb_lines.specs.declared.slot.OrderStep.{OrderStep}
use Rattle.fdb_lines.specs.Before.{is_of}
use Rattle.fdb_lines.specs.Lines.{Kind, Read, Commit, Ask, Report, Learn, Case, draws, kind_at, shows, version_at}
use Rattle.fdb_lines.specs.Order.{Item, ask_item, needs_ask, needs_report, report_item, shared_item, take_by, take_item}
use Rattle.fdb_lines.specs.private.Slots.{entries_below, entry_of, item_of, slot_rank, steps_from}
use Rattle.fdb_lines.proofs.Sorted.{SameKey}
use Rattle.fdb_lines.proofs.Stepped.{is_one, steps_by}

pub one_same : (x y : Slot) → is_one x y ≡ true → SameKey (item_of x) (item_of y)
one_same x y e = (grind (arith, nat_tests), grind (arith, nat_tests))

-- a line's slot at the place of the one above has that of a lower line there
abbrev IsNext : Slot → Slot → Type 0
IsNext x s = is_one s x ≡ true → (b : ℕ) → s.place ≡ Some b → (a : ℕ) × (x.place ≡ Some a) × (a < b)

abbrev Follow : Slot → List Slot → Type 0
Follow x [] = Unit {0}
Follow x (s ∷ ss) = IsNext x s × Follow s ss

-- a step that shares the effect above is of a line, and that above of a lower one
abbrev pub Chained : Option ℕ → List OrderStep → Type 0
Chained above [] = Unit {0}
Chained above (step ∷ steps) = (step.shared ≡ true → (a b : ℕ) × (above ≡ Some a) × (step.place ≡ Some b) × (a < b)) × Chained step.place steps

none_chained : (line above : Option ℕ) (steps : List OrderStep) → line ≡ None → Chained line steps → Chained above steps
none_chained line above [] none h = tt
none_chained line above (step ∷ steps) none h = (λ shared. let of = h.0 shared in absurd (none-some of.0 (sym none ∙ of.2)), h.1)

line_of : (line : Option ℕ) → is_some line ≡ true → (b : ℕ) × (line ≡ Some b)
line_of None some = absurd (both_ways false refl some)
line_of (Some b) some = (b, refl)

no_line : (line : Option ℕ) → is_some line ≡ false → line ≡ None
no_line None none = refl
no_line (Some b) none = absurd (both_ways true none refl)

-- others have no step where they share one
chained : (x : Slot) (ss : List Slot) → Follow x ss → Chained x.place (steps_from (Some x.key) ss)
chained x [] follow = tt
chained x (s ∷ ss) follow = by (is_one s x) (is_some s.place) refl refl (chained s ss follow.1)
  where
    by : (b d : Bool) → is_one s x ≡ b → is_some s.place ≡ d → Chained s.place (steps_from (Some s.key) ss)
        → Chained x.place (steps_by s (steps_from (Some s.key) ss) b d)
    by false d other line rest = (λ shared. absurd (both_ways false refl shared), rest)
    by true true same line rest = (λ _. let of = line_of s.place line in let up = follow.0 same of.0 of.1 in (up.0, of.0, up.1, of.1, up.2), rest)
    by true false same line rest = none_chained s.place x.place _ (no_line s.place line) rest

pub chained_at : (above : Option ℕ) (steps : List OrderStep) → Chained above steps → (i : ℕ) (one step : OrderStep) → slice_get steps i ≡ Some one
    → slice_get steps (suc i) ≡ Some step → step.shared ≡ true → (a b : ℕ) × (one.place ≡ Some a) × (step.place ≡ Some b) × (a < b)
chained_at above [] h i one step at next shared = absurd (none-some one at)
chained_at above (x ∷ []) h zero one step at next shared = absurd (none-some step next)
chained_at above (x ∷ y ∷ steps) h zero one step at next shared =
    let same = same_Some x one at in
    let own = same_Some y step next in
    let of = h.1.0 (ap (λ (t : OrderStep). t.shared) own ∙ shared) in
    (of.0, of.1, ap (λ (t : OrderStep). t.place) (sym same) ∙ of.2, ap (λ (t : OrderStep). t.place) (sym own) ∙ of.3, of.4)
chained_at above (x ∷ steps) h (suc i) one step at next shared = chained_at x.place steps h.1 i one step at next shared

-- ---- slots of one place are of different lines, and stand in the order of these

-- 1 for an entry of a line at a stage, and else 0
abbrev pub weight : ℕ → ℕ → Item × Option ℕ → ℕ
weight a stage e = cond (is_of a e.1 && e.0.stage == stage) 1 0

few_if : (f : Item × Option ℕ → ℕ) (b : Bool) (e : Item × Option ℕ) → sum_by f (option_to_list (cond b (Some e) None)) ≤ f e
few_if f true e = omega arith
few_if f false e = omega arith

report_stage : (b : Bool) (r known v : ℕ) → 4 * v ≢ (report_item b r known v).stage
report_stage true r known v e = omega (arith, e)
report_stage false r known v e = omega (arith, e)

other_stage : (kind : Kind) (r known v : ℕ) → 4 * v ≢ (take_by kind r known v).stage
other_stage Read r known v e = omega (arith, e)
other_stage Commit r known v e = omega (arith, e)
other_stage Ask r known v e = omega (arith, e)
other_stage Learn r known v e = omega (arith, e)
other_stage Report r known v e = report_stage (nat_lt known v) r known v e

one_weight : (a stage k : ℕ) (d : Bool) (x y : Item) → x.stage ≢ y.stage
    → weight a stage (x, cond d (Some k) None) + weight a stage (y, Some k) ≤ cond (a == k) 1 0
one_weight a stage k true x y ne = grind (arith, nat_tests)
one_weight a stage k false x y ne = grind (arith, nat_tests)

-- a line has at most one entry at a stage
pub single : (c : Case) (a stage n : ℕ) → (sum_by (weight a stage) (entries_below c n) ≤ 1) × (n ≤ a → sum_by (weight a stage) (entries_below c n) ≡ 0)
single c a stage zero = (omega arith, λ _. refl)
single c a stage (suc k) =
    let f = weight a stage in
    let ask : Item × Option ℕ = (ask_item (version_at c k), cond (draws (kind_at c k)) (Some k) None) in
    let take : Item × Option ℕ = (take_item c (slot_rank c.lines) k, Some k) in
    let report : Item × Option ℕ = (shared_item (version_at c k), None) in
    let asks = option_to_list (cond (needs_ask c k) (Some ask) None) in
    let takes = option_to_list (cond (shows (kind_at c k)) (Some take) None) in
    let reports = option_to_list (cond (needs_report c k) (Some report) None) in
    let below = single c a stage k in
    let one = few_if f (needs_ask c k) ask in
    let two = few_if f (shows (kind_at c k)) take in
    let three = few_if f (needs_report c k) report in
    let most = one_weight a stage k (draws (kind_at c k)) ask.0 take.0 (other_stage (kind_at c k) _ _ _) in
    let all = sum_by-append f (entries_below c k ++ asks ++ takes) reports in
    let but = sum_by-append f (entries_below c k ++ asks) takes in
    let first = sum_by-append f (entries_below c k) asks in
    let old = below.0 in
    let before = below.1 in
    grind (arith, nat_tests)

abbrev pub IsFew : List Slot → Type 0
IsFew slots = (a stage : ℕ) → sum_by (weight a stage) (map entry_of slots) ≤ 1

-- no slot is less than the one above: by the key, and then lines come first, in their order
abbrev pub IsPlaced : Slot → Slot → Type 0
IsPlaced x s = is_lt (ordering_then (ordering_then (cmp-value.it s.key x.key) (bool_cmp (is_none s.place) (is_none x.place))) (option_cmp nat_cmp s.place x.place)) ≡ false

abbrev pub ArePlaced : List Slot → Type 0
ArePlaced slots = (k : ℕ) (d : Slot) → k + 1 < length slots → IsPlaced (slice_index_or slots k d) (slice_index_or slots (k + 1) d)

placed_line : (o : Ordering) (mine above : Option ℕ) (b : ℕ) → is_eq o ≡ true → mine ≡ Some b
    → is_lt (ordering_then (ordering_then o (bool_cmp (is_none mine) (is_none above))) (option_cmp nat_cmp mine above)) ≡ false
    → (a : ℕ) × (above ≡ Some a) × (a ≤ b)
placed_line Less mine above b same own h = absurd (both_ways true h refl)
placed_line Greater mine above b same own h = absurd (both_ways false refl same)
placed_line Equal None above b same own h = absurd (none-some b own)
placed_line Equal (Some c) None b same own h = absurd (both_ways true h refl)
placed_line Equal (Some c) (Some a) b same own h = (a, refl, let is = same_Some c b own in grind (arith, nat_tests))

follow : (x : Slot) (ss : List Slot) → ArePlaced (x ∷ ss) → IsFew (x ∷ ss) → Follow x ss
follow x [] placed few = tt
follow x (s ∷ ss) placed few = (
  λ same b own.
      let above = placed_line _ s.place x.place b (sym (matches_eq-law s.key x.key) ∙ same) own (placed 0 x (omega arith)) in
      let one = few b (item_of s).stage in
      let sums = sum_by-cons (weight b (item_of s).stage) (entry_of x) (map entry_of (s ∷ ss)) in
      let more = sum_by-cons (weight b (item_of s).stage) (entry_of s) (map entry_of ss) in
      let stages = (one_same s x same).0 in
      let at_or_below = above.2 in
      let line = above.1 in
      (above.0, above.1, grind (arith, nat_tests)),
  follow s ss (λ k d lt.
      let next : suc k + 1 ≡ suc (k + 1) = omega arith in
      subst (λ n. IsPlaced (slice_index_or (s ∷ ss) k d) (slice_index_or (x ∷ s ∷ ss) n d)) next (placed (suc k) d (omega arith))) (λ a stage.
      let sums = sum_by-cons (weight a stage) (entry_of x) (map entry_of (s ∷ ss)) in
      let all = few a stage in
      omega arith),
)

pub chain : (slots : List Slot) → ArePlaced slots → IsFew slots → Chained None (steps_from None slots)
chain [] placed few = tt
chain (x ∷ ss) placed few = (λ shared. absurd (both_ways false refl shared), chained x ss (follow x ss placed few))
