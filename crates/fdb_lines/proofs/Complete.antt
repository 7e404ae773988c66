-- No fault is hidden: where none stands, the order by version explains the lines.
use Rattle.std.proofs.Common.{◌≡◌, ◌≢◌, ◌⊎◌, ℕ, zero, suc, ◌<◌, true, false, List, map, length, Some, slice_get, refl, ap, sym, subst, ◌∙◌, inl, inr, arith}
use Rattle.std.proofs.lemmas.Bool.{and_parts}
use Rattle.std.proofs.lemmas.Bool.Decides.{nat_tests}
use Rattle.std.proofs.lemmas.Option.{same_Some}
use Rattle.fdb_lines.specs.Lines.{Case, kind_at, version_at, draws, shows, is_commit}
use Rattle.fdb_lines.specs.declared.slot.Effect.{Effect}
use Rattle.fdb_lines.specs.declared.slot.Effect.TheVariants.{Reports}
use Rattle.fdb_lines.specs.declared.fault.Fault.TheVariants.{Order, NotAbove, Twice}
use Rattle.fdb_lines.specs.Explained.{OthersMay, precedes, taken, IsMoment, Explains}
use Rattle.fdb_lines.specs.Faults.{IsFaultless, draws_again, draws_it, reports_it}
use Rattle.fdb_lines.specs.Order.{Item, ask_item, shared_item, take_item, needs_ask, needs_report, sorted, history, IsRanked}
use Rattle.fdb_lines.proofs.Numbers.{some_find, none_at}
use Rattle.fdb_lines.proofs.Sorted.{In, KeyLess, IsSortedOf, put_if_sorted, index_of, places, effect_at}
use Rattle.fdb_lines.proofs.Facts.{shown_known, drawn_known, known_known, no_stray, no_wrong, asked_above}
use Rattle.fdb_lines.proofs.Legal.{IsItemBelow, IsItemOf, Origin, Asked, origin_take, same_items, IsOrder, place, item_of, legal}

-- ---- the sorted list has an item of each key that is needed, and no others

module _ (c : Case) (rank : ℕ → ℕ) where
  sorted_below : (n : ℕ) → IsSortedOf (IsItemBelow c rank n) (sorted c rank n)
  sorted_below zero = record { rises = tt; from = λ z i. absurd i; keyed = λ z is. absurd (omega (arith, is.there)) }
  sorted_below (suc k) =
      let all = put_if_sorted _ (needs_ask c k) (ask_item (version_at c k)) _ (put_if_sorted _ (shows (kind_at c k)) (take_item c rank k) _
      (put_if_sorted _ (needs_report c k) (shared_item (version_at c k)) _ (sorted_below k))) in
      record {
        rises = all.rises;
        from = λ z i.
            let is = all.from z i in
            let here : IsItemOf c rank k z → IsItemBelow c rank (suc k) z = λ is. record { place = k; there = omega arith; item = is } in
            let before : IsItemBelow c rank k z → IsItemBelow c rank (suc k) z = λ is. record { place = is.place; there = omega (arith, is.there); item = is.item } in
            grind arith;
        keyed = λ z is.
            let find = all.keyed z in
            let here = λ (same : is.place ≡ k). subst (λ j. IsItemOf c rank j z) same is.item in
            let before : is.place < k → IsItemBelow c rank k z = λ lt. record { place = is.place; there = lt; item = is.item } in
            grind arith;
      }

  sorted_order : IsRanked c rank → IsOrder c rank (sorted c rank (length c.lines))
  sorted_order ranked =
      let s = sorted_below (length c.lines) in
      let has : (x : Item) → Origin c rank x → In x (sorted c rank (length c.lines)) = λ x from.
      let y = s.keyed x from in
      subst (λ z. In z (sorted c rank (length c.lines))) (same_items c rank ranked y.0 x (s.from y.0 y.1) from y.2) y.1 in
      record {
        rises = s.rises;
        origins = s.from;
        asks = λ k lk need. has _ (Asked k lk need refl);
        takes = λ k lk shown. has _ (origin_take c rank k lk shown);
        reports = λ k lk need. has _ (record { place = k; there = lk; item = inr (inr (need, refl)) });
      }

-- ---- what comes before comes before, and no two lines have one effect, unless they are commits

-- an effect of a line's own
abbrev pub IsEffectOf : Case → (ℕ → ℕ) → ℕ → Item → Type 0
IsEffectOf c rank k x = ((draws (kind_at c k) ≡ true) × (x ≡ ask_item (version_at c k))) ⊎ ((shows (kind_at c k) ≡ true) × (x ≡ take_item c rank k))

module _ (c : Case) (rank : ℕ → ℕ) (ranked : IsRanked c rank) (none : IsFaultless c) (j k : ℕ) (lj : j < length c.lines) (lk : k < length c.lines) where
  before_key : precedes c j k ≡ true → (x y : Item) → IsEffectOf c rank j x → IsEffectOf c rank k y → KeyLess x y
  before_key pre x y p q =
      let b = (and_parts (c.before j k) _ pre).0 in
      let shown = shown_known c j k lj b in
      let drawn = drawn_known c j k lj b in
      let known = known_known c rank ranked j k lj lk b in
      let climbs = ranked.climbs j k lj lk b in
      let order = none Order k lk in
      let above = none NotAbove k lk in
      grind (arith, nat_tests)

  apart_by : j ≢ k → (x y : Item) → x ≡ y → IsEffectOf c rank j x → IsEffectOf c rank k y → (is_commit (kind_at c j) ≡ true) × (is_commit (kind_at c k) ≡ true)
  apart_by ne x y one p q =
      let twice = none Twice k lk in
      let others = none_at (draws_again c k) (length c.lines) j in
      let ranks = ranked.apart j k lj lk in
      grind (arith, nat_tests)

-- a read of what nobody reports, where no fault stands
unreported : (c : Case) → IsFaultless c → (k : ℕ) → k < length c.lines → needs_report c k ≡ true → (c.complete ≡ false) × OthersMay c (Reports (version_at c k))
unreported c none k lk need =
    let wrong = no_wrong c none k lk in
    let unsaid = none_at (reports_it c (version_at c k)) (length c.lines) in
    (grind (arith, nat_tests), λ j lj r same. let here = unsaid j in grind (arith, nat_tests))

-- whose effect it is
whose : (c : Case) (rank : ℕ → ℕ) → IsFaultless c → (x : Item) (p : Origin c rank x)
    → ((k : ℕ) × (k < length c.lines) × IsEffectOf c rank k x) ⊎ ((c.complete ≡ false) × OthersMay c x.effect)
whose c rank none x p = elim p.item [
  | inl ask ↦ elim (asked_above c none p.place p.there ask.0).1 [
    | inl drawn ↦ let some = some_find (draws_it c (version_at c p.place)) (length c.lines) drawn in inl (some.0, some.1, inl (grind (arith, nat_tests)))
    | inr part ↦ inr (part, subst (λ z. OthersMay c z.effect) (sym ask.1) tt)
  ]
  | inr own ↦ elim own [
    | inl take ↦ inl (p.place, p.there, inr take)
    | inr report ↦ inr (subst (λ z. (c.complete ≡ false) × OthersMay c z.effect) (sym report.1) (unreported c none p.place p.there report.0))
  ]
]

-- ---- all of it

-- a history explains the lines, and where a line's own item is in order is a moment of the line
pub record IsExplained (c : Case) (rank : ℕ → ℕ) (items : List Item) (history : List Effect) : Type 0 where
  pub explains : Explains c history
  pub moments : (k m : ℕ) (x : Item) → k < length c.lines → slice_get items m ≡ Some x → IsEffectOf c rank k x → IsMoment c explains.asked explains.took k m

module _ (c : Case) (rank : ℕ → ℕ) (ranked : IsRanked c rank) (none : IsFaultless c) (items : List Item) (o : IsOrder c rank items) where
  -- the moments of a line are the places of its items
  abbrev IsPlace : ℕ → ℕ → Type 0
  IsPlace = IsMoment c (λ k. index_of (ask_item (version_at c k)) items) (λ k. index_of (take_item c rank k) items)

  stands : (k : ℕ) (x : Item) → k < length c.lines → IsEffectOf c rank k x → slice_get items (index_of x items) ≡ Some x
  stands k x lk (inl d) = place c rank ranked none items o x (subst (λ z. In z items) (sym d.1) (o.asks k lk (grind (arith, nat_tests))))
  stands k x lk (inr s) = place c rank ranked none items o x (subst (λ z. In z items) (sym s.1) (o.takes k lk s.0))

  placed_item : (k m : ℕ) → k < length c.lines → IsPlace k m → (x : Item) × (slice_get items m ≡ Some x) × IsEffectOf c rank k x
  placed_item k m lk (inl d) = (_, ap (slice_get items) d.1 ∙ stands k _ lk (inl (d.0, refl)), inl (d.0, refl))
  placed_item k m lk (inr s) = (_, ap (slice_get items) s.1 ∙ stands k _ lk (inr (s.0, refl)), inr (s.0, refl))

  place_of : (k m : ℕ) (x : Item) → k < length c.lines → slice_get items m ≡ Some x → IsEffectOf c rank k x → IsPlace k m
  place_of k m x lk h (inl d) = inl (d.0, (places items m _ x _ o.rises h (stands k _ lk (inl (d.0, refl)))).1 d.1)
  place_of k m x lk h (inr s) = inr (s.0, (places items m _ x _ o.rises h (stands k _ lk (inr (s.0, refl)))).1 s.1)

  pub explained_by : IsExplained c rank items (map (λ z. z.effect) items)
  explained_by = record {
    moments = place_of;
    explains = record {
      legal = legal c rank ranked none items o;
      asked = λ k. index_of (ask_item (version_at c k)) items;
      took = λ k. index_of (take_item c rank k) items;
      asks = λ k lk d. effect_at items _ _ (stands k _ lk (inl (d, refl)));
      takes = λ k lk s. effect_at items _ _ (stands k _ lk (inr (s, refl))) ∙ ap Some (let same : (take_item c rank k).effect ≡ taken c k = grind (arith, nat_tests) in same);
      apart = λ j k m lj lk ne p q.
          let x = placed_item j m lj p in
          let y = placed_item k m lk q in
          apart_by c rank ranked none j k lj lk ne x.0 y.0 (same_Some x.0 y.0 (sym x.1 ∙ y.1)) x.2 y.2;
      ordered = λ j k m n lj lk pre p q.
          let x = placed_item j m lj p in
          let y = placed_item k n lk q in
          (places items m n x.0 y.0 o.rises x.1 y.1).0 (before_key c rank ranked none j k lj lk pre x.0 y.0 x.2 y.2);
      owned = λ j k lj lk is d same.
          let stray = no_stray c none k lk is in
          let undrawn = none_at (draws_it c (version_at c k)) (length c.lines) j in
          grind (arith, nat_tests);
      others = λ m effect h.
          let x = item_of c rank ranked none items o m effect h in
          elim (whose c rank none x.0 x.3) [
            | inl line ↦ inl (line.0, line.1, place_of line.0 m x.0 line.1 x.1 line.2)
            | inr others ↦ inr (others.0, subst (OthersMay c) x.2 others.1)
          ];
    };
  }

pub explained : (c : Case) (rank : ℕ → ℕ) → IsRanked c rank → IsFaultless c → Explains c (history c rank)
explained c rank ranked none = (explained_by c rank ranked none (sorted c rank (length c.lines)) (sorted_order c rank ranked)).explains
