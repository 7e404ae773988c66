-- Where the effects of the order by version come from, and that it is legal.
use Rattle.std.proofs.Common.{◌≡◌, ◌⊎◌, ℕ, ◌+◌, ◌*◌, ◌<◌, ◌≤◌, true, List, map, length, Some, slice_get, refl, ap, sym, ◌∙◌, inl, inr, arith}
use Rattle.std.proofs.lemmas.Bool.Decides.{nat_tests}
use Rattle.fdb_lines.specs.Faults.{IsFaultless}
use Rattle.fdb_lines.specs.Lines.{Case, Read, kind_at, version_at, shows}
use Rattle.fdb_lines.specs.declared.slot.Effect.{Effect}
use Rattle.fdb_lines.specs.declared.slot.Effect.TheVariants.{Asks, Reports, Reads}
use Rattle.fdb_lines.specs.Explained.{Happens, ReportedBefore, IsLegalHistory}
use Rattle.fdb_lines.specs.Order.{Item, ask_item, shared_item, take_item, needs_ask, needs_report, IsRanked}
use Rattle.fdb_lines.proofs.Sorted.{In, KeyLess, SameKey, Rises, index_of, in_at, rises_at, places, index_at, effect_at, item_at}
use Rattle.fdb_lines.proofs.Steps.{IsAllowed, legal_allowed}
use Rattle.fdb_lines.proofs.Facts.{no_order, no_wrong, asked_above, raises_it}

-- an item of a line: its ask, its read or report, or the report of others that it needs
abbrev pub IsItemOf : Case → (ℕ → ℕ) → ℕ → Item → Type 0
IsItemOf c rank k x =
    ((needs_ask c k ≡ true) × (x ≡ ask_item (version_at c k)))
    ⊎ (((shows (kind_at c k) ≡ true) × (x ≡ take_item c rank k)) ⊎ ((needs_report c k ≡ true) × (x ≡ shared_item (version_at c k))))

-- an item of one of the first n lines
pub record IsItemBelow (c : Case) (rank : ℕ → ℕ) (n : ℕ) (x : Item) : Type 0 where
  pub place : ℕ
  pub there : place < n
  pub item : IsItemOf c rank place x

-- where an item comes from
abbrev pub Origin : Case → (ℕ → ℕ) → Item → Type 0
Origin c rank = IsItemBelow c rank (length c.lines)

pub Asked : {c : Case} {rank : ℕ → ℕ} {x : Item} (k : ℕ) → k < length c.lines → needs_ask c k ≡ true → x ≡ ask_item (version_at c k) → Origin c rank x
Asked k lk need is = record { place = k; there = lk; item = inl (need, is) }

pub origin_take : (c : Case) (rank : ℕ → ℕ) (k : ℕ) → k < length c.lines → shows (kind_at c k) ≡ true → Origin c rank (take_item c rank k)
origin_take c rank k lk s = record { place = k; there = lk; item = inr (inl (s, refl)) }

pub origin_report : (c : Case) (rank : ℕ → ℕ) → IsFaultless c → (k : ℕ) → k < length c.lines → needs_report c k ≡ true → Origin c rank (shared_item (version_at c k))
origin_report c rank none k lk need = record { place = k; there = lk; item = inr (inr (need, refl)) }

-- one item for a key
pub same_items : (c : Case) (rank : ℕ → ℕ) → IsRanked c rank → (x y : Item) → Origin c rank x → Origin c rank y → SameKey x y → x ≡ y
same_items c rank ranked x y p q s =
    let one = ranked.apart p.place q.place p.there q.there in
    let same : p.place ≡ q.place → take_item c rank p.place ≡ take_item c rank q.place = ap (take_item c rank) in
    grind (arith, nat_tests)

-- what the item of an effect is
abbrev pub IsFor : Case → Effect → ℕ → Item → Type 0
IsFor c (Asks v) k x = (needs_ask c k ≡ true) × (version_at c k ≡ v) × (x.stage ≡ 4 * v) × (x.rank ≡ 0)
IsFor c (Reports v) k x = (needs_ask c k ≡ true) × (version_at c k ≡ v) × (4 * v + 1 ≤ x.stage)
IsFor c (Reads v) k x = (kind_at c k ≡ Read) × (version_at c k ≡ v) × (x.stage ≡ 4 * v + 3)

is_for : (c : Case) (rank : ℕ → ℕ) (x : Item) (p : Origin c rank x) (effect : Effect) → x.effect ≡ effect → IsFor c effect p.place x
is_for c rank x p effect e = grind (arith, nat_tests)

raising : (c : Case) (rank : ℕ → ℕ) (v k : ℕ) → raises_it c v k ≡ true
    → (shows (kind_at c k) ≡ true) × ((take_item c rank k).effect ≡ Reports v) × ((take_item c rank k).stage < 4 * v + 3)
raising c rank v k h = grind (arith, nat_tests)

-- ---- any list that rises by the keys and has the effects that are needed and no others

pub record IsOrder (c : Case) (rank : ℕ → ℕ) (s : List Item) : Type 0 where
  pub rises : Rises s
  pub origins : (x : Item) → In x s → Origin c rank x
  pub asks : (k : ℕ) → k < length c.lines → needs_ask c k ≡ true → In (ask_item (version_at c k)) s
  pub takes : (k : ℕ) → k < length c.lines → shows (kind_at c k) ≡ true → In (take_item c rank k) s
  pub reports : (k : ℕ) → k < length c.lines → needs_report c k ≡ true → In (shared_item (version_at c k)) s

module _ (c : Case) (rank : ℕ → ℕ) (ranked : IsRanked c rank) (none : IsFaultless c) (items : List Item) (o : IsOrder c rank items) where
  pub place : (x : Item) → In x items → slice_get items (index_of x items) ≡ Some x
  place x i = index_at items x (λ y j s. same_items c rank ranked x y (o.origins x i) (o.origins y j) s) i

  -- an item with a lower key happens before
  earlier : (x y : Item) (m : ℕ) (effect : Effect) → In x items → x.effect ≡ effect → slice_get items m ≡ Some y → KeyLess x y
      → (i : ℕ) × (i < m) × Happens (map (λ z. z.effect) items) i effect
  earlier x y m effect i e h less =
      (index_of x items, (places items (index_of x items) m x y o.rises (place x i) h).0 less, effect_at items (index_of x items) x (place x i) ∙ ap Some e)

  -- the item of an effect
  pub item_of : (m : ℕ) (effect : Effect) → Happens (map (λ z. z.effect) items) m effect
      → (x : Item) × (slice_get items m ≡ Some x) × (x.effect ≡ effect) × (p : Origin c rank x) × IsFor c effect p.place x
  item_of m effect h =
      let it = item_at items m effect h in
      let from = o.origins it.0 (in_at items m it.0 it.1) in
      (it.0, it.1, it.2, from, is_for c rank it.0 from effect it.2)

  -- what was reported before an effect is the start, or stands no higher
  low : (m w : ℕ) (x : Item) → slice_get items m ≡ Some x → ReportedBefore c.start (map (λ z. z.effect) items) m w → (w ≡ c.start) ⊎ (4 * w + 1 ≤ x.stage)
  low m w x at (inl first) = inl first
  low m w x at (inr q) =
      let y = item_of q.0 (Reports w) q.2 in
      let less = rises_at items q.0 m y.0 x o.rises y.1 at q.1 in
      inr (omega arith)

  allowed : (m : ℕ) (effect : Effect) → Happens (map (λ z. z.effect) items) m effect → IsAllowed c.start (map (λ z. z.effect) items) m effect
  allowed m (Asks v) h =
      let x = item_of m (Asks v) h in
      let above = asked_above c none x.3.place x.3.there x.4.0 in (
        λ w q. let y = item_of q.0 (Asks w) q.2 in let less = rises_at items q.0 m y.0 x.0 o.rises y.1 x.1 q.1 in omega arith,
        λ w r. let under = low m w x.0 x.1 r in omega arith,
      )
  allowed m (Reports v) h =
      let x = item_of m (Reports v) h in
      earlier (ask_item (version_at c x.3.place)) x.0 m (Asks v) (o.asks x.3.place x.3.there x.4.0) (ap Asks x.4.1) x.1 (inl (omega arith))
  allowed m (Reads v) h =
      let x = item_of m (Reads v) h in
      let k = x.3.place in
      let order = no_order c none k x.3.there x.4.0 in (
        elim (no_wrong c none k x.3.there x.4.0) [
          | inl first ↦ inl (sym x.4.1 ∙ first)
          | inr reported ↦ elim reported [
            | inl raised ↦
                let up = raising c rank (version_at c k) raised.0 raised.2 in
                inr (earlier (take_item c rank raised.0) x.0 m (Reports v) (o.takes raised.0 raised.1 up.0) (up.1 ∙ ap Reports x.4.1) x.1 (inl (omega arith)))
            | inr others ↦ inr (earlier (shared_item (version_at c k)) x.0 m (Reports v) (o.reports k x.3.there others.2) (ap Reports x.4.1) x.1 (inl (omega arith)))
          ]
        ],
        λ w r. let under = low m w x.0 x.1 r in omega arith,
      )

  pub legal : IsLegalHistory c.start (map (λ z. z.effect) items)
  legal = (legal_allowed c.start (map (λ z. z.effect) items)).0 allowed
