-- The steps of slots: their effects, where they stand and whose they are, and that the slot of a line has one.
use Rattle.std.proofs.Common.{◌≡◌, ℕ, suc, zero, Bool, true, false, cond, List, [], ◌∷◌, length, map, slice_get, take, Option, Some, None, is_some, not, ◌&&◌, refl, ap, sym, subst, ◌∙◌, arith, Contains}
use Rattle.std.proofs.lemmas.Bool.{cond_both}
use Rattle.std.proofs.lemmas.Bool.Decides.{nat_tests}
use Rattle.std.proofs.lemmas.Option.{none-some, same_Some}
use Rattle.std.specs.List.{dedup, dedup_from}
use Rattle.fdb_lines.specs.contracts.slot.KeyEq.TheImpl.Laws.{laws-law}
use Rattle.fdb_lines.specs.contracts.slot.KeyPartialEq.TheImpl.{eq-value}
use Rattle.fdb_lines.specs.declared.slot.Effect.{Effect}
use Rattle.fdb_lines.specs.declared.slot.Key.{Key}
use Rattle.fdb_lines.specs.declared.slot.Slot.{Slot}
use Rattle.fdb_lines.specs.declared.slot.OrderStep.{OrderStep}
use Rattle.fdb_lines.specs.OrderSteps.{effects_of, IsStepAt}
use Rattle.fdb_lines.specs.private.Slots.{item_of, shares, steps_from}

-- whether two slots stand at one place, so that they are one effect
abbrev pub is_one : Slot → Slot → Bool
is_one x y = eq-value.it x.key y.key

from_one : (x y : Key) (ss : List Slot) → eq-value.it x y ≡ true → steps_from (Some x) ss ≡ steps_from (Some y) ss
from_one x y [] e = refl
from_one x y (s ∷ ss) e =
    let same = laws-law.symm s.key x ∙ laws-law.congr x y s.key e ∙ laws-law.symm y s.key in
    cc

effects_after : (x : Slot) (ss : List Slot) → x.effect ∷ effects_of (steps_from (Some x.key) ss) ≡ map (λ z. z.effect) (map item_of (dedup_from is_one x ss))
effects_after x [] = refl
effects_after x (s ∷ ss) =
    let same = from_one s.key x.key ss in
    let one = effects_after x ss in
    let two = effects_after s ss in
    grind arith

pub stepped_effects : (ss : List Slot) → effects_of (steps_from None ss) ≡ map (λ z. z.effect) (map item_of (dedup is_one ss))
stepped_effects [] = refl
stepped_effects (s ∷ ss) = effects_after s ss

-- ---- where steps stand

-- a step is that of a slot, and stands at a moment of the slots that are kept of their places
pub record IsOrderStepAt (slots kept : List Slot) (step : OrderStep) (m : ℕ) : Type 0 where
  pub slot : Slot
  pub there : Contains slots slot
  pub effect : slot.effect ≡ step.effect
  pub place : slot.place ≡ step.place
  pub first : Slot
  pub at : slice_get kept m ≡ Some first
  pub one : is_one slot first ≡ true

-- how many effects steps have, up to one
abbrev pub told : List OrderStep → ℕ → ℕ
told steps i = length (effects_of (take (suc i) steps))

kept_first : (x : Slot) (ss : List Slot) → slice_get (dedup_from is_one x ss) 0 ≡ Some x
kept_first x [] = refl
kept_first x (s ∷ ss) = cond_both (is_one s x) _ _ (λ (kept : List Slot). slice_get kept 0 ≡ Some x) (λ _. kept_first x ss) (λ _. refl)

further : (s : Slot) (ss kept : List Slot) (step : OrderStep) (m : ℕ) → IsOrderStepAt ss kept step m → IsOrderStepAt (s ∷ ss) kept step m
further s ss kept step m is =
    let in_ss = is.there in
    record { slot = is.slot; there = (suc in_ss.0, omega (arith, in_ss.1), in_ss.2); effect = is.effect; place = is.place; first = is.first; at = is.at; one = is.one }

beyond : (x s : Slot) (ss kept : List Slot) (step : OrderStep) (m : ℕ) → IsOrderStepAt ss kept step m → IsOrderStepAt (s ∷ ss) (x ∷ kept) step (suc m)
beyond x s ss kept step m is =
    let more = further s ss kept step m is in
    record { slot = more.slot; there = more.there; effect = more.effect; place = more.place; first = more.first; at = more.at; one = more.one }

-- the step of a slot itself
here : (s first : Slot) (ss kept : List Slot) (b : Bool) (m : ℕ) → slice_get kept m ≡ Some first → is_one s first ≡ true
    → (step : OrderStep) → Some (record { effect = s.effect; place = s.place; shared = b }) ≡ Some step → IsOrderStepAt (s ∷ ss) kept step m
here s first ss kept b m at one step e =
    subst (λ (t : OrderStep). IsOrderStepAt (s ∷ ss) kept t m) (same_Some _ step e)
    (record { slot = s; there = (0, omega arith, refl); effect = refl; place = refl; first = first; at = at; one = one })

-- what is to be shown of the steps behind a slot
abbrev After : List Slot → OrderStep → Slot → List OrderStep → ℕ → Type 0
After ss step x steps i = slice_get steps i ≡ Some step → IsOrderStepAt ss (dedup_from is_one x ss) step (told steps i)

-- the steps from a slot on, by whether it shares the effect above and has a line
abbrev pub steps_by : Slot → List OrderStep → Bool → Bool → List OrderStep
steps_by s steps b d = cond (b && not d) steps (record { effect = s.effect; place = s.place; shared = b } ∷ steps)

told_after : (x : Slot) (ss : List Slot) (i : ℕ) (step : OrderStep) → slice_get (steps_from (Some x.key) ss) i ≡ Some step
    → IsOrderStepAt ss (dedup_from is_one x ss) step (told (steps_from (Some x.key) ss) i)
told_after x [] i step h = absurd (none-some step h)
told_after x (s ∷ ss) i step h = by (is_one s x) (is_some s.place) refl i (λ x i h. told_after x ss i step h) h
  where
    by : (b d : Bool) → is_one s x ≡ b → (i : ℕ) → ((x : Slot) (i : ℕ) → After ss step x (steps_from (Some x.key) ss) i)
        → slice_get (steps_by s (steps_from (Some s.key) ss) b d) i ≡ Some step
        → IsOrderStepAt (s ∷ ss) (cond b (dedup_from is_one x ss) (x ∷ dedup_from is_one s ss)) step (told (steps_by s (steps_from (Some s.key) ss) b d) i)
    by false d other zero after h = here s s ss _ false _ (kept_first s ss) (laws-law.refl s.key) step h
    by false d other (suc i) after h = beyond x s ss _ step _ (after s i h)
    by true true same zero after h = here s x ss _ true _ (kept_first x ss) same step h
    by true true same (suc i) after h = further s ss _ step _ (subst (λ ts. After ss step x ts i) (sym (from_one s.key x.key ss same)) (after x i) h)
    by true false same i after h = further s ss _ step _ (subst (λ ts. After ss step x ts i) (sym (from_one s.key x.key ss same)) (after x i) h)

pub stepped_at : (ss : List Slot) (i : ℕ) (step : OrderStep) → slice_get (steps_from None ss) i ≡ Some step
    → (m : ℕ) × IsStepAt (steps_from None ss) i m × IsOrderStepAt ss (dedup is_one ss) step m
stepped_at [] i step h = absurd (none-some step h)
stepped_at (s ∷ ss) zero step h = (0, refl, here s s ss _ false 0 (kept_first s ss) (laws-law.refl s.key) step h)
stepped_at (s ∷ ss) (suc i) step h = (told (steps_from (Some s.key) ss) i, refl, further s ss _ step _ (told_after s ss i step h))

-- ---- the slot of a line has its step

abbrev pub HasOrderStep : List OrderStep → ℕ → Effect → Type 0
HasOrderStep steps k effect = (i : ℕ) × (step : OrderStep) × (slice_get steps i ≡ Some step) × (step.place ≡ Some k) × (step.effect ≡ effect)

pub stepped_one : (above : Option Key) (ss : List Slot) (s : Slot) (k : ℕ) → Contains ss s → s.place ≡ Some k → HasOrderStep (steps_from above ss) k s.effect
stepped_one above [] s k h e = absurd (omega (arith, h.1))
stepped_one above (x ∷ ss) s k (zero, lt, is) e =
    let own : x.place ≡ Some k = ap (λ z. z.place) is ∙ e in
    let some = ap is_some own in
    cond_both (shares above x && not (is_some x.place)) _ _ (λ ts. HasOrderStep ts k s.effect) (λ dropped. absurd (grind (arith, nat_tests)))
    (λ _. (0, _, refl, own, ap (λ z. z.effect) is))
stepped_one above (x ∷ ss) s k (suc j, lt, is) e =
    let rest = stepped_one (Some x.key) ss s k (j, omega arith, is) e in
    cond_both (shares above x && not (is_some x.place)) _ _ (λ ts. HasOrderStep ts k s.effect) (λ _. rest) (λ _. (suc rest.0, rest.1, rest.2, rest.3, rest.4))
