-- Groups in order, each once, are ranked.
use Rattle.std.proofs.Common.{◌≡◌, ◌⊎◌, ℕ, zero, suc, ◌<◌, nat_eq, true, List, [], ◌∷◌, Option, None, Some, All, Contains, IsPermutation, refl, ap, sym, subst, ◌∙◌, arith, length}
use Rattle.std.proofs.lemmas.Bool.{eqb-true}
use Rattle.std.proofs.lemmas.Bool.Decides.{nat_tests}
use Rattle.std.proofs.lemmas.List.Elements.{All-cons, All-map, All-nil, recursion_from_All}
use Rattle.std.proofs.lemmas.List.Filters.{All-dedup}
use Rattle.std.proofs.lemmas.List.Kept.{AllPairs-cons, Any-dedup, IsStrictlySortedBy-dedup}
use Rattle.std.proofs.lemmas.List.{get_or-map, length-map}
use Rattle.std.proofs.lemmas.List.Sorted.{All-permutation, Contains-permutation}
use Rattle.std.specs.declared.cmp.Ordering.TheVariants.{Less}
use Rattle.std.specs.Option.{option_cmp, option_eq}
use Rattle.std.specs.Ordering.{nat_cmp, ordering_then}
use Rattle.std.specs.List.{dedup, AllByRecursion, AllPairs}
use Rattle.std.specs.List.Sorted.{IsSorted, IsStrictlySortedBy}
use Rattle.fdb_audit.specs.contracts.groups.GroupPartialEq.TheImpl.{eq-value}
use Rattle.fdb_audit.specs.contracts.groups.GroupEq.TheImpl.Laws.{laws-law}
use Rattle.fdb_audit.specs.contracts.groups.GroupOrd.TheImpl.{cmp-value}
use Rattle.fdb_audit.specs.contracts.groups.GroupOrd.TheImpl.Laws.{total-law, matches_eq-law}
use Rattle.fdb_audit.specs.declared.groups.Group.{Group}
use Rattle.fdb_audit.specs.Groups.{number_of, AreRanked, ComesBefore}
use Rattle.fdb_audit.specs.private.{owners_in}
use Rattle.fdb_audit.specs.Tallied.{IsGroupIn}

-- ---- owners

pub same_number : (a b : Option ℕ) → number_of a ≡ number_of b → a ≡ b
same_number None None e = refl
same_number None (Some b) e = absurd (omega arith)
same_number (Some a) None e = absurd (omega arith)
same_number (Some a) (Some b) e = ap Some (let same : a ≡ b = omega arith in same)

-- ---- groups, and their owners

grouped : (gs : List Group) (owner : Option ℕ) → Contains (owners_in gs) owner → (g : Group) × Contains gs g × (g.owner ≡ owner)
grouped [] owner h = absurd (omega (arith, h.1))
grouped (g ∷ gs) owner (zero, lt, is) = (g, (0, omega arith, refl), is)
grouped (g ∷ gs) owner (suc k, lt, is) = let f = grouped gs owner (k, omega arith, is) in (f.0, (suc f.1.0, omega (arith, f.1.1), f.1.2), f.2)

named : (gs : List Group) (g : Group) → Contains gs g → Contains (owners_in gs) g.owner
named [] g h = absurd (omega (arith, h.1))
named (x ∷ gs) g (zero, lt, is) = (0, omega arith, ap (λ (g : Group). g.owner) is)
named (x ∷ gs) g (suc k, lt, is) = let f = named gs g (k, omega arith, is) in (suc f.0, omega (arith, f.1), f.2)

same_owner : (x y : Group) → eq-value.it x y ≡ true → x.owner ≡ y.owner
same_owner x y e = by x.owner y.owner (grind (arith, nat_tests))
  where
    by : (a b : Option ℕ) → option_eq nat_eq a b ≡ true → a ≡ b
    by None None e = refl
    by None (Some b) e = grind arith
    by (Some a) None e = grind arith
    by (Some a) (Some b) e = ap Some (eqb-true a b e)

less : (count : Option ℕ → ℕ) (x y : Group) → IsGroupIn count x → IsGroupIn count y → cmp-value.it x y ≡ Less → ComesBefore count x.owner y.owner
less count x y a b e = rw (← a, ← b) (by x.faults.0 y.faults.0 x.owner y.owner e)
  where
    by : (m n : ℕ) (a b : Option ℕ) → ordering_then (nat_cmp n m) (option_cmp nat_cmp a b) ≡ Less → (n < m) ⊎ ((m ≡ n) × (number_of a < number_of b))
    by m n None None e = grind (arith, nat_tests)
    by m n None (Some b) e = grind (arith, nat_tests)
    by m n (Some a) None e = grind (arith, nat_tests)
    by m n (Some a) (Some b) e = grind (arith, nat_tests)

-- ---- in order, each once

first_of : (count : Option ℕ → ℕ) (g : Group) (gs : List Group) → IsGroupIn count g → AllByRecursion (IsGroupIn count) gs
    → AllByRecursion (λ y. cmp-value.it g y ≡ Less) gs → All (ComesBefore count g.owner) (owners_in gs)
first_of count g [] is all up = All-nil (ComesBefore count g.owner)
first_of count g (y ∷ gs) is all up =
    All-cons (ComesBefore count g.owner) y.owner (owners_in gs) (less count g y is all.0 up.0) (first_of count g gs is all.1 up.1)

pairs : (count : Option ℕ → ℕ) (gs : List Group) → AllByRecursion (IsGroupIn count) gs → IsStrictlySortedBy cmp-value.it gs
    → AllPairs (ComesBefore count) (owners_in gs)
unfolding IsStrictlySortedBy
pairs count [] all up = λ i j d less lt. absurd (omega arith)
pairs count (g ∷ gs) all up =
    AllPairs-cons (ComesBefore count) g.owner (owners_in gs) (first_of count g gs all.0 all.1 up.0) (pairs count gs all.1 up.1)

module _ (count : Option ℕ → ℕ) (groups sorted : List Group) (faulty : All (λ owner. 0 < count owner) (owners_in groups))
    (all : (owner : Option ℕ) → 0 < count owner → Contains (owners_in groups) owner) (counted : All (IsGroupIn count) groups)
    (moved : IsPermutation groups sorted) (up : IsSorted cmp-value.it sorted) where
  each : All (λ (g : Group). 0 < count g.owner) groups
  each k d lt =
      let size = length-map groups (λ (g : Group). g.owner) in
      let within : k < length (owners_in groups) = omega (arith, lt, size) in
      subst (λ o. 0 < count o) (get_or-map (λ (g : Group). g.owner) groups k d d.owner lt) (faulty k d.owner within)

  pub ranked : AreRanked count (owners_in (dedup eq-value.it sorted))
  ranked = record {
    faulty = All-map (λ owner. 0 < count owner) (λ (g : Group). g.owner) (dedup eq-value.it sorted)
        (All-dedup eq-value.it (λ (g : Group). 0 < count g.owner) sorted (All-permutation (λ (g : Group). 0 < count g.owner) groups sorted moved each));
    all = λ owner some.
        let g = grouped groups owner (all owner some) in
        let h = Any-dedup laws-law sorted g.0 (Contains-permutation groups sorted g.0 moved g.1) in
        subst (Contains (owners_in (dedup eq-value.it sorted))) (sym (same_owner g.0 h.1 h.4) ∙ g.2) (named (dedup eq-value.it sorted) h.1 (h.0, h.2, h.3));
    order = pairs count (dedup eq-value.it sorted)
        (recursion_from_All (IsGroupIn count) (dedup eq-value.it sorted) (All-dedup eq-value.it (IsGroupIn count) sorted (All-permutation (IsGroupIn count) groups sorted moved counted)))
        (IsStrictlySortedBy-dedup total-law matches_eq-law sorted up);
  }
