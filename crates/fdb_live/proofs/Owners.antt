-- Who owns the positions of one list.
use Rattle.std.proofs.Common.{◌≡◌, ◌≢◌, ℕ, zero, suc, ◌+◌, ◌-◌, ◌<◌, ◌≤◌, ◌==◌, Bool, true, false, List, [], ◌∷◌, length, Option, Some, if◌then◌else◌, refl, ap, ◌∙◌, arith, get_or, slice_get, slice_set, subst, ◌⊎◌, inl, inr}
use Rattle.std.specs.Prelude.{All, Contains, nat_lt}
use Rattle.std.proofs.lemmas.Grind.{common_steps}
use Rattle.std.proofs.lemmas.Bool.Decides.{nat_tests}
use Rattle.std.proofs.lemmas.List.Elements.{All-head, All-tail}
use Rattle.std.proofs.lemmas.Option.{get_or_from_slice_get, slice_get_within}
use Rattle.fdb_live.proofs.Prefixes.{prefix_trans}
use mathlib.Core.List.{IsPrefix}
use Rattle.fdb_live.specs.Gathering.{IsOwnKept, IsOwnedOnce, IsSeenBy}
use Rattle.fdb_live.specs.Seen.{Sight, changed_by, longer, own_positions}
use Rattle.fdb_live.specs.declared.view.Change.{Change}

module _ {A : Type 0} where
  pub some_at : (xs : List A) (i : ℕ) → i < length xs → (x : A) × (slice_get xs i ≡ Some x)
  some_at [] i within = absurd (omega arith)
  some_at (y ∷ ys) zero within = (y, refl)
  some_at (y ∷ ys) (suc i) within = some_at ys i (omega arith)

  pub get_written : (xs : List A) (i : ℕ) (x : A) → i < length xs → slice_get (slice_set xs i x) i ≡ Some x
  get_written [] i x within = absurd (omega arith)
  get_written (y ∷ ys) zero x within = refl
  get_written (y ∷ ys) (suc i) x within = get_written ys i x (omega arith)

  pub get_other : (xs : List A) (i j : ℕ) (x : A) → j ≢ i → slice_get (slice_set xs i x) j ≡ slice_get xs j
  get_other [] i j x other = refl
  get_other (y ∷ ys) zero zero x other = absurd (other refl)
  get_other (y ∷ ys) zero (suc j) x other = refl
  get_other (y ∷ ys) (suc i) zero x other = refl
  get_other (y ∷ ys) (suc i) (suc j) x other = get_other ys i j x (λ same. other (ap suc same))

  -- what holds of each that stands before a place and of what stands there holds of each before the next
  pub each_below : {P : ℕ → A → Type 0} (xs : List A) (i : ℕ) (d : A) → ((k : ℕ) (x : A) → k < i → slice_get xs k ≡ Some x → P k x) → P i (get_or xs i d)
      → (k : ℕ) (x : A) → k < i + 1 → slice_get xs k ≡ Some x → P k x
  each_below {P} xs i d before last k x below is = go (nat_lt k i) refl
    where
      go : (b : Bool) → nat_lt k i ≡ b → P k x
      go true e = before k x (grind (arith, nat_tests)) is
      go false e =
          let same : i ≡ k = grind (arith, nat_tests) in
          let there : get_or xs i d ≡ x = ap (λ n. get_or xs n d) same ∙ get_or_from_slice_get xs k x d is in
          subst (λ n. P n x) same (subst (P i) there last)

here : (x : ℕ) (xs : List ℕ) → Contains (x ∷ xs) x
here x xs = (0, omega arith, refl)

there : (y x : ℕ) (xs : List ℕ) → Contains xs x → Contains (y ∷ xs) x
there y x xs (k, within, is) = (suc k, omega arith, is)

either : (y x : ℕ) (xs : List ℕ) → Contains (y ∷ xs) x → (y ≡ x) ⊎ Contains xs x
either y x xs (zero, within, is) = inl is
either y x xs (suc k, within, is) = inr (k, omega arith, is)

-- the positions of a list, where its first change is of this number and where it is not
among_first : (b : Bool) (at position : ℕ) (rest : List ℕ) → b ≡ true → at ≡ position → Contains (if b then (at ∷ rest) else rest) position
among_first true at position rest is same = subst (Contains (at ∷ rest)) same (here at rest)
among_first false at position rest is same = absurd (cc is)

among_more : (b : Bool) (at position : ℕ) (rest : List ℕ) → Contains rest position → Contains (if b then (at ∷ rest) else rest) position
among_more true at position rest has = there at position rest has
among_more false at position rest has = has

-- whoever reported a change owns its position
pub owns_own : (number at : ℕ) (log : List Change) (i : ℕ) (r : Change) → slice_get log i ≡ Some r → r.reporter ≡ number → Contains (changed_by number at log) (at + i)
owns_own number at [] i r is own = absurd (cc is)
owns_own number at (q ∷ log) zero r is own =
    let same : q ≡ r = cc is in
    let whose : q.reporter ≡ number = ap (λ (c : Change). c.reporter) same ∙ own in
    among_first (q.reporter == number) at (at + zero) (changed_by number (at + 1) log) (grind (arith, nat_tests)) (omega arith)
owns_own number at (q ∷ log) (suc i) r is own =
    let rest = owns_own number (at + 1) log i r is own in
    let same : (at + 1) + i ≡ at + suc i = omega arith in
    among_more (q.reporter == number) at (at + suc i) (changed_by number (at + 1) log) (subst (Contains (changed_by number (at + 1) log)) same rest)

-- a change at this position that was reported under this number
pub record IsOwnChange (number at : ℕ) (log : List Change) (position : ℕ) : Type 0 where
  pub place : ℕ
  pub change : Change
  pub position_is : position ≡ at + place
  pub stands : slice_get log place ≡ Some change
  pub own : change.reporter ≡ number

later : (number at : ℕ) (q : Change) (log : List Change) (position : ℕ) → IsOwnChange number (at + 1) log position → IsOwnChange number at (q ∷ log) position
later number at q log position rest =
    let at_place = rest.position_is in
    record { place = suc rest.place; change = rest.change; position_is = omega arith; stands = rest.stands; own = rest.own }

first_or_later : (b : Bool) (number at : ℕ) (q : Change) (log : List Change) (position : ℕ) → (q.reporter == number) ≡ b
    → (Contains (changed_by number (at + 1) log) position → IsOwnChange number (at + 1) log position)
    → Contains (if b then (at ∷ changed_by number (at + 1) log) else changed_by number (at + 1) log) position → IsOwnChange number at (q ∷ log) position
first_or_later false number at q log position is rest has = later number at q log position (rest has)
first_or_later true number at q log position is rest has = pick (either at position (changed_by number (at + 1) log) has)
  where
    pick : (at ≡ position) ⊎ Contains (changed_by number (at + 1) log) position → IsOwnChange number at (q ∷ log) position
    pick (inl same) = record { place = zero; change = q; position_is = omega arith; stands = refl; own = grind (arith, nat_tests) }
    pick (inr has) = later number at q log position (rest has)

-- whoever owns a position reported the change at it
pub owned_own : (number at : ℕ) (log : List Change) (position : ℕ) → Contains (changed_by number at log) position → IsOwnChange number at log position
owned_own number at [] position (k, within, is) = absurd (omega arith)
owned_own number at (q ∷ log) position has = first_or_later (q.reporter == number) number at q log position refl (owned_own number (at + 1) log position) has

-- the change at a place, and that it is by one of the reporters
found : (reporters : ℕ) (log : List Change) (i : ℕ) → All (λ r. r.reporter < reporters) log → i < length log → (r : Change) × (slice_get log i ≡ Some r) × (r.reporter < reporters)
found reporters [] i all within = absurd (omega arith)
found reporters (q ∷ log) zero all within = (q, refl, All-head (λ r. r.reporter < reporters) q log all)
found reporters (q ∷ log) (suc i) all within = found reporters log i (All-tail (λ r. r.reporter < reporters) q log all) (omega arith)

-- Where the tokens of all reporters have seen one list, each of its positions has one owner.
pub owned_once : (reporters : ℕ) (first : Sight) (tokens : List Sight) (position : ℕ)
    → All (λ r. r.reporter < reporters) first.changes → length tokens ≡ reporters
    → ((k : ℕ) → k < reporters → slice_get tokens k ≡ Some (record first { reporter = Some k }))
    → 1 ≤ position → position ≤ length first.changes → IsOwnedOnce tokens position
owned_once reporters first tokens position all count each some within =
    let log : List Change = first.changes in
    let i : ℕ = position - 1 in
    let there_is = found reporters log i all (omega arith) in
    let r : Change = there_is.0 in
    let place : 1 + i ≡ position = omega arith in
    record {
      owner = r.reporter;
      token = record first { reporter = Some r.reporter };
      at = each r.reporter there_is.2;
      owns = subst (Contains (changed_by r.reporter 1 log)) place (owns_own r.reporter 1 log i r there_is.1 refl);
      alone = λ k other is has. alone i r place there_is.1 k other is has;
    }
  where
    alone : (i : ℕ) (r : Change) → 1 + i ≡ position → slice_get first.changes i ≡ Some r → (k : ℕ) (other : Sight) → slice_get tokens k ≡ Some other → Contains (own_positions other) position → k ≡ r.reporter
    alone i r place stands k other is has =
        let below : k < reporters = omega (arith, count, slice_get_within tokens k other is) in
        let same : other ≡ record first { reporter = Some k } = cc (is, each k below) in
        let own = owned_own k 1 first.changes position (subst (λ (t : Sight). Contains (own_positions t) position) same has) in
        let at_place = own.position_is in
        let one : own.place ≡ i = omega arith in
        cc (own.own, own.stands, one, stands)

-- where one list begins the other, the other is the longer
pub longer_of_prefix : {A : Type 0} (xs ys : List A) → IsPrefix xs ys → longer xs ys ≡ ys
longer_of_prefix xs ys begins = grind (arith, common_steps, nat_tests)

-- what stands at a place has learnt all that the first token has seen, and owns what it owned
abbrev pub IsTaught : List Sight → Sight → ℕ → Sight → Type 0
IsTaught tokens first k token =
    (slice_get tokens k ≡ Some (record first { reporter = token.reporter })) × IsOwnKept first token

pub sight_is : (sight first : Sight) (reporter : Option ℕ) → sight.reporter ≡ reporter → sight.changes ≡ first.changes → sight.answers ≡ first.answers → sight ≡ record first { reporter = reporter }
sight_is sight first reporter whose changes answers = λ i. record { reporter = whose i; changes = changes i; answers = answers i }

pub seen_trans : (first other third : Sight) → IsSeenBy other third → IsPrefix other.changes first.changes → IsPrefix other.answers first.answers → IsSeenBy first third
seen_trans first other third seen changes answers = record { changes = prefix_trans _ _ _ seen.changes changes; answers = prefix_trans _ _ _ seen.answers answers }
