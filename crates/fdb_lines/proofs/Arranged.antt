-- Slots in order are an order of the effects.
use Rattle.std.proofs.Common.{◌≡◌, ◌≢◌, ℕ, zero, suc, nat_lt, ◌<◌, ◌≤◌, Bool, true, false, cond, List, [], ◌∷◌, map, length, slice_get, Option, Some, None, option_map, IfSome, refl, ap, sym, subst, ◌∙◌, inl, inr, arith, All, Contains, IsPermutation, option_to_list}
use Rattle.std.proofs.lemmas.Bool.Decides.{nat_tests}
use Rattle.std.specs.Ordering.{is_lt, on, ordering_then}
use Rattle.std.specs.declared.cmp.Ordering.{Ordering}
use Rattle.std.specs.declared.cmp.Ordering.TheVariants.{Less}
use Rattle.std.specs.List.{AllByRecursion, dedup}
use Rattle.std.specs.List.Sorted.{IsStrictlySortedBy}
use Rattle.std.proofs.lemmas.Bool.{cases_lt, cond_both}
use Rattle.std.proofs.lemmas.Cmp.{on_total, on_equiv}
use Rattle.std.proofs.lemmas.List.{get_or-map, length-map}
use Rattle.std.proofs.lemmas.Option.{slice_get-map, MatchOption-at_some}
use Rattle.std.proofs.lemmas.List.Elements.{All-append, All-cons, All-contains, All-nil, Contains-append_left, Contains-append_right, recursion_from_All}
use Rattle.std.proofs.lemmas.List.Filters.{All-dedup}
use Rattle.std.proofs.lemmas.List.Sorted.{All-permutation, Contains-permutation, sum_by-IsPermutation}
use Rattle.std.proofs.lemmas.List.Kept.{Any-dedup, IsStrictlySortedBy-dedup}
use Rattle.fdb_lines.specs.contracts.slot.KeyEq.TheImpl.Laws.{laws-law}
use Rattle.fdb_lines.specs.contracts.slot.KeyOrd.TheImpl.{cmp-value}
use Rattle.fdb_lines.specs.contracts.slot.KeyOrd.TheImpl.Laws.{total-law, matches_eq-law}
use Rattle.fdb_lines.specs.declared.slot.Slot.{Slot}
use Rattle.fdb_lines.specs.declared.slot.OrderStep.{OrderStep}
use Rattle.fdb_lines.specs.declared.slot.Effect.{Effect}
use Rattle.fdb_lines.specs.declared.slot.Effect.TheVariants.{Asks, Reports}
use Rattle.fdb_lines.specs.Explained.{taken, taken_by, Explains, Happens, IsMoment}
use Rattle.fdb_lines.specs.Faults.{IsFaultless}
use Rattle.fdb_lines.specs.Lines.{Kind, Read, Commit, Ask, Report, Learn, Case, draws, kind_at, shows, version_at}
use Rattle.fdb_lines.specs.Order.{Item, IsRanked, ask_item, needs_ask, needs_report, report_item, shared_item, take_by, take_item}
use Rattle.fdb_lines.specs.OrderSteps.{effects_of, IsOrderOf, IsStepAt}
use Rattle.fdb_lines.specs.private.Slots.{entries_below, entry_of, item_of, slot_rank, steps_from}
use Rattle.fdb_lines.proofs.Complete.{explained_by, IsEffectOf, IsExplained}
use Rattle.fdb_lines.proofs.Legal.{Origin, Asked as AskedBy, origin_take, origin_report, same_items}
use Rattle.fdb_lines.proofs.Sorted.{In, KeyLess, Rises, effect_at, in_at}
use Rattle.fdb_lines.proofs.Stepped.{is_one, stepped_effects, stepped_at, stepped_one, HasOrderStep}
use Rattle.fdb_lines.proofs.Shared.{chain, chained_at, one_same, single, weight, ArePlaced, IsFew}

-- ---- keys

less : (x y : Slot) → cmp-value.it x.key y.key ≡ Less → KeyLess (item_of x) (item_of y)
less x y e = grind (arith, nat_tests)

in_all : (P : Slot → Type 0) (Q : Item → Type 0) → ((s : Slot) → P s → Q (item_of s)) → (ss : List Slot) → AllByRecursion P ss → (x : Item) → In x (map item_of ss) → Q x
in_all P Q f [] all x i = absurd i
in_all P Q f (s ∷ ss) all x (inl e) = subst Q (sym e) (f s all.0)
in_all P Q f (s ∷ ss) all x (inr i) = in_all P Q f ss all.1 x i

rising : (ss : List Slot) → IsStrictlySortedBy (on (λ s. s.key) cmp-value.it) ss → Rises (map item_of ss)
unfolding IsStrictlySortedBy
rising [] h = tt
rising (s ∷ ss) h = (in_all (λ t. cmp-value.it s.key t.key ≡ Less) (KeyLess (item_of s)) (less s) ss h.0, rising ss h.1)

-- what is in order by the key and then by something else is in order by the key
pub by_key : (o rest : Ordering) → is_lt (ordering_then o rest) ≡ false → is_lt o ≡ false
by_key o rest h = grind arith

-- ---- what the lines need

-- an item has its origin, and is a line's own where it is of one
abbrev IsOwn : Case → Item → Option ℕ → Type 0
IsOwn c x None = Unit {0}
IsOwn c x (Some k) = (k < length c.lines) × IsEffectOf c (slot_rank c.lines) k x

abbrev IsNeeded : Case → Item × Option ℕ → Type 0
IsNeeded c e = Origin c (slot_rank c.lines) e.0 × IsOwn c e.0 e.1

take_effect : (kind : Kind) (r known v : ℕ) → (take_by kind r known v).effect ≡ taken_by kind v
take_effect Read r known v = refl
take_effect Commit r known v = refl
take_effect Ask r known v = refl
take_effect Learn r known v = refl
take_effect Report r known v = by (nat_lt known v)
  where
    by : (b : Bool) → (report_item b r known v).effect ≡ Reports v
    by true = refl
    by false = refl

asks_drawn : (c : Case) (k : ℕ) → draws (kind_at c k) ≡ true → needs_ask c k ≡ true
asks_drawn c k d = grind (arith, nat_tests)

all_if : (P : Item × Option ℕ → Type 0) (b : Bool) (e : Item × Option ℕ) → (b ≡ true → P e) → All P (option_to_list (cond b (Some e) None))
all_if P b e h = cond_both b (Some e) None (λ o. All P (option_to_list o)) (λ t. All-cons P e [] (h t) (All-nil P)) (λ _. All-nil P)

needed : (c : Case) → IsFaultless c → (i : ℕ) → i ≤ length c.lines → All (IsNeeded c) (entries_below c i)
needed c none zero le = All-nil (IsNeeded c)
needed c none (suc k) le =
    let lt : k < length c.lines = omega arith in
    All-append (IsNeeded c) _ _ (All-append (IsNeeded c) _ _ (All-append (IsNeeded c) _ _
    (needed c none k (omega arith))
    (all_if (IsNeeded c) (needs_ask c k) _ (λ need. (
      AskedBy k lt need refl,
      cond_both (draws (kind_at c k)) (Some k) None (IsOwn c (ask_item (version_at c k))) (λ d. (lt, inl (d, refl))) (λ _. tt),
    ))))
    (all_if (IsNeeded c) (shows (kind_at c k)) _ (λ s. (origin_take c (slot_rank c.lines) k lt s, (lt, inr (s, refl))))))
    (all_if (IsNeeded c) (needs_report c k) _ (λ need. (origin_report c (slot_rank c.lines) none k lt need, tt)))

has_if : (b : Bool) (e : Item × Option ℕ) → b ≡ true → Contains (option_to_list (cond b (Some e) None)) e
has_if b e t = subst (λ b. Contains (option_to_list (cond b (Some e) None)) e) (sym t) (0, omega arith, refl)

has_below : (c : Case) (k i : ℕ) (e : Item × Option ℕ) → k < i → Contains (entries_below c (suc k)) e → Contains (entries_below c i) e
has_below c k zero e lt h = absurd (omega arith)
has_below c k (suc n) e lt h =
    elim (cases_lt k n) [
      | inl less ↦ Contains-append_left _ _ e (Contains-append_left _ _ e (Contains-append_left _ _ e (has_below c k n e less h)))
      | inr more ↦ subst (λ m. Contains (entries_below c (suc m)) e) (let same : k ≡ n = omega arith in same) h
    ]

has_ask : (c : Case) (k : ℕ) → needs_ask c k ≡ true → Contains (entries_below c (suc k)) (ask_item (version_at c k), cond (draws (kind_at c k)) (Some k) None)
has_ask c k need = search (Contains-append_left, Contains-append_right, has_if)

has_take : (c : Case) (k : ℕ) → shows (kind_at c k) ≡ true → Contains (entries_below c (suc k)) (take_item c (slot_rank c.lines) k, Some k)
has_take c k s = search (Contains-append_left, Contains-append_right, has_if)

has_report : (c : Case) (k : ℕ) → needs_report c k ≡ true → Contains (entries_below c (suc k)) (shared_item (version_at c k), None)
has_report c k need = search (Contains-append_left, Contains-append_right, has_if)

unmapped : (ss : List Slot) (e : Item × Option ℕ) → Contains (map entry_of ss) e → (s : Slot) × Contains ss s × (entry_of s ≡ e)
unmapped [] e h = absurd (omega (arith, h.1))
unmapped (s ∷ ss) e (zero, lt, is) = (s, (0, omega arith, refl), is)
unmapped (s ∷ ss) e (suc k, lt, is) = let f = unmapped ss e (k, omega arith, is) in (f.0, (suc f.1.0, omega (arith, f.1.1), f.1.2), f.2)

in_map : (ss : List Slot) (s : Slot) → Contains ss s → In (item_of s) (map item_of ss)
in_map [] s h = absurd (omega (arith, h.1))
in_map (x ∷ ss) s (zero, lt, is) = inl (ap item_of (sym is))
in_map (x ∷ ss) s (suc k, lt, is) = inr (in_map ss s (k, omega arith, is))

-- ---- all of it

-- a line has one moment with an effect
one_moment : (c : Case) (history : List Effect) (explains : Explains c history) (k m n : ℕ) (effect : Effect) → k < length c.lines
    → IsMoment c explains.asked explains.took k m → IsMoment c explains.asked explains.took k n → Happens history m effect → Happens history n effect → m ≡ n
one_moment c history explains k m n effect lt p q at on =
    let asks = explains.asks k lt in
    let takes = explains.takes k lt in
    let other : taken c k ≢ Asks (version_at c k) = λ same. grind (arith, nat_tests) in
    grind arith

module _ (c : Case) (ranked : IsRanked c (slot_rank c.lines)) (none : IsFaultless c) (slots : List Slot)
    (are : IsPermutation (entries_below c (length c.lines)) (map entry_of slots)) (sorted : ArePlaced slots) where
  abbrev items : List Item
  items = map item_of (dedup is_one slots)

  all : All (λ s. IsNeeded c (entry_of s)) slots
  all k d lt =
      subst (IsNeeded c) (get_or-map entry_of slots k d (entry_of d) lt)
      (All-permutation (IsNeeded c) _ _ are (needed c none (length c.lines) (omega arith)) k (entry_of d) (omega (arith, length-map slots entry_of)))

  origins : (x : Item) → In x items → Origin c (slot_rank c.lines) x
  origins =
      in_all (λ s. IsNeeded c (entry_of s)) (Origin c (slot_rank c.lines)) (λ s need. need.0) (dedup is_one slots)
      (recursion_from_All (λ s. IsNeeded c (entry_of s)) (dedup is_one slots) (All-dedup is_one (λ s. IsNeeded c (entry_of s)) slots all))

  few : IsFew slots
  few a stage =
      let same = sum_by-IsPermutation (weight a stage) _ _ are in
      let once = (single c a stage (length c.lines)).0 in
      omega arith

  -- an effect that a line needs is there, and its step, if it is of a line
  found : (k : ℕ) (e : Item × Option ℕ) → k < length c.lines → Contains (entries_below c (suc k)) e
      → In e.0 items × (e.1 ≡ Some k → HasOrderStep (steps_from None slots) k e.0.effect)
  found k e lt h =
      let s = unmapped slots e (Contains-permutation _ _ e are (has_below c k (length c.lines) e lt h)) in
      let t = Any-dedup (on_equiv (λ (z : Slot). z.key) laws-law) slots s.0 s.1 in
      let kept = in_map (dedup is_one slots) t.1 (t.0, t.2, t.3) in
      let needs = All-contains (λ z. IsNeeded c (entry_of z)) slots s.0 all s.1 in
      let same = same_items c (slot_rank c.lines) ranked (item_of s.0) (item_of t.1) needs.0 (origins (item_of t.1) kept) (one_same s.0 t.1 t.4) in (
        subst (λ x. In x items) (sym same ∙ ap (λ x. x.0) s.2) kept,
        λ own. subst (λ x. HasOrderStep (steps_from None slots) k x.0.effect) s.2 (stepped_one None slots s.0 k s.1 (ap (λ x. x.1) s.2 ∙ own)),
      )

  explain : IsExplained c (slot_rank c.lines) items (effects_of (steps_from None slots))
  explain =
      subst (IsExplained c (slot_rank c.lines) items) (sym (stepped_effects slots)) (explained_by c (slot_rank c.lines) ranked none items record {
        rises = rising (dedup is_one slots) (IsStrictlySortedBy-dedup (on_total (λ s. s.key) total-law) (λ x y. matches_eq-law x.key y.key) slots (λ k d from lt. by_key _ _ (by_key _ _ (sorted k d lt))));
        origins = origins;
        asks = λ k lt need. (found k _ lt (has_ask c k need)).0;
        takes = λ k lt s. (found k _ lt (has_take c k s)).0;
        reports = λ k lt need. (found k _ lt (has_report c k need)).0;
      })

  abbrev asked : ℕ → ℕ
  asked = explain.explains.asked

  abbrev took : ℕ → ℕ
  took = explain.explains.took

  -- the item at which a step stands is that of its slot
  each : (i : ℕ) (step : OrderStep) → slice_get (steps_from None slots) i ≡ Some step
      → (m : ℕ) × IsStepAt (steps_from None slots) i m × Happens (effects_of (steps_from None slots)) m step.effect
      × IfSome step.place (λ k. (k < length c.lines) × IsMoment c asked took k m)
  each i step h =
      let it = stepped_at slots i step h in
      let m = it.0 in
      let is = it.2 in
      let x = item_of is.slot in
      let needs = All-contains (λ z. IsNeeded c (entry_of z)) slots is.slot all is.there in
      let first = slice_get-map item_of (dedup is_one slots) m ∙ ap (option_map item_of) is.at in
      let same = same_items c (slot_rank c.lines) ranked x (item_of is.first) needs.0 (origins _ (in_at items m _ first)) (one_same is.slot is.first is.one) in
      let at : slice_get items m ≡ Some x = first ∙ ap Some (sym same) in
      (m, it.1, ap (λ h. slice_get h m) (stepped_effects slots) ∙ (effect_at items m x at ∙ ap Some is.effect), of step.place m x at (subst (IsOwn c x) is.place needs.1))
    where
      of : (line : Option ℕ) (m : ℕ) (x : Item) → slice_get items m ≡ Some x → IsOwn c x line
          → IfSome line (λ k. (k < length c.lines) × IsMoment c asked took k m)
      of None m x at own = tt
      of (Some k) m x at own = (own.0, explain.moments k m x own.0 at own.1)

  -- a step with the effect of a moment of its line stands there
  stands : (k m : ℕ) (effect : Effect) → k < length c.lines → IsMoment c asked took k m → Happens (effects_of (steps_from None slots)) m effect
      → HasOrderStep (steps_from None slots) k effect
      → (i : ℕ) × (step : OrderStep) × (slice_get (steps_from None slots) i ≡ Some step) × (step.place ≡ Some k) × IsStepAt (steps_from None slots) i m
  stands k m effect lt is happens has =
      let it = each has.0 has.1 has.2 in
      let own = MatchOption-at_some (Unit {0}) (λ k. (k < length c.lines) × IsMoment c asked took k it.0) k has.3 it.3 in
      let same = one_moment c _ explain.explains k it.0 m effect lt own.1 is (it.2 ∙ ap Some has.4) happens in
      (has.0, has.1, has.2, has.3, it.1 ∙ ap suc same)

  at_all : (k m : ℕ) → k < length c.lines → IsMoment c asked took k m
      → (i : ℕ) × (step : OrderStep) × (slice_get (steps_from None slots) i ≡ Some step) × (step.place ≡ Some k) × IsStepAt (steps_from None slots) i m
  at_all k m lt (inl asks) =
      stands k m (Asks (version_at c k)) lt (inl asks) (ap (slice_get _) asks.1 ∙ explain.explains.asks k lt asks.0)
      ((found k _ lt (has_ask c k (asks_drawn c k asks.0))).1 (ap (λ b. cond b (Some k) None) asks.0))
  at_all k m lt (inr takes) =
      stands k m (taken c k) lt (inr takes) (ap (slice_get _) takes.1 ∙ explain.explains.takes k lt takes.0)
      (subst (HasOrderStep (steps_from None slots) k) (take_effect (kind_at c k) _ _ _) ((found k _ lt (has_take c k takes.0)).1 refl))

  pub arranged : (steps : List OrderStep) → steps ≡ steps_from None slots → IsOrderOf c steps
  arranged steps e = subst (IsOrderOf c) (sym e) (record { explains = explain.explains; each = each; all = at_all; shared = chained_at None (steps_from None slots) (chain slots sorted few) })
