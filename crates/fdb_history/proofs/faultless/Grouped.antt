-- Lists that rise by a number are their groups, one number after another; and a stable sort leaves each group as it was.
use Rattle.std.proofs.Common.{◌≡◌, ℕ, zero, suc, ◌+◌, ◌<◌, ◌≤◌, ◌==◌, ◌&&◌, not, Bool, ltb, All, List, [], ◌∷◌, ◌++◌, length, slice_index_or, filter, refl, ap, sym, ◌∙◌, inl, inr, arith, append_assoc, le_refl, zero-le}
use Rattle.std.specs.List.{AllByRecursion}
use Rattle.std.specs.List.Sorted.{IsSortedBy, IsStableBy, IsNonDecreasingBy, ties}
use Rattle.std.proofs.lemmas.Bool.{ltb-false, eq-eqb, ne_eqb, cases_eq}
use Rattle.std.proofs.lemmas.Bool.Decides.{nat_tests}
use Rattle.std.proofs.lemmas.List.Elements.{filter-append, filter_agree, All-append, All-filter, recursion_from_All}
use Rattle.std.proofs.lemmas.List.Sorted.{IsNonDecreasingBy-from_all_adjacent}
use Rattle.fdb_history.specs.private.Auditing.{Rises}
use Rattle.fdb_history.proofs.Lists.{kept, left_out, filter_swap}

-- neither is less than the other where the numbers are one
tie_of : (i j : ℕ) (s t : Bool) → s ≡ ltb i j → t ≡ ltb j i → (not s && not t) ≡ (j == i)
tie_of i j s t e f = rw (e, f) (grind (arith, nat_tests))

module _ {X : Type 0} (n : X → ℕ) where
  -- those of a number, and those of the numbers from 0 up to it, one number after another
  abbrev pub of : ℕ → List X → List X
  of k xs = filter (λ x. n x == k) xs

  abbrev pub groups : ℕ → List X → List X
  groups zero xs = of 0 xs
  groups (suc k) xs = groups k xs ++ of (suc k) xs

  -- two groups more
  pub two_more : (j k l : ℕ) (xs : List X) → k ≡ suc j → l ≡ suc k → groups l xs ≡ groups j xs ++ (of k xs ++ of l xs)
  two_more j k l xs next after = rw (after, next) (append_assoc (groups j xs) (of (suc j) xs) (of (suc (suc j)) xs))

  -- a filter of the groups is the groups of the filtered
  pub groups-filter : (test : X → Bool) (k : ℕ) (xs : List X) → filter test (groups k xs) ≡ groups k (filter test xs)
  groups-filter test zero xs = filter_swap test (λ x. n x == 0) xs
  groups-filter test (suc k) xs =
      filter-append test (groups k xs) (of (suc k) xs) ∙ ap (λ l. l ++ filter test (of (suc k) xs)) (groups-filter test k xs)
      ∙ ap (λ l. groups k (filter test xs) ++ l) (filter_swap test (λ x. n x == suc k) xs)

  -- what is so of all is so of those in the groups
  pub groups-All : (P : X → Type 0) (k : ℕ) (xs : List X) → All P xs → All P (groups k xs)
  groups-All P zero xs all = All-filter (λ x. n x == 0) P xs all
  groups-All P (suc k) xs all = All-append P (groups k xs) (of (suc k) xs) (groups-All P k xs all) (All-filter (λ x. n x == suc k) P xs all)

  -- those of one number rise
  of_rises : (low k : ℕ) (xs : List X) → low ≤ k → Rises n low (of k xs)
  of_rises low k [] least = tt
  of_rises low k (x ∷ xs) least =
      elim (cases_eq (n x) k) [
        | inl here ↦ rw (eq-eqb (n x) k here) (omega arith, of_rises (n x) k xs (omega arith))
        | inr other ↦ rw (ne_eqb (n x) k other) (of_rises low k xs least)
      ]

  -- none is of a number below where a list begins
  pub of_none : (low k : ℕ) (xs : List X) → k < low → Rises n low xs → of k xs ≡ []
  of_none low k [] below up = refl
  of_none low k (x ∷ xs) below up = left_out (λ y. n y == k) x xs (ne_eqb (n x) k (λ same. omega (arith, up.0))) ∙ of_none (n x) k xs (omega (arith, up.0)) up.1

  groups_none : (low k : ℕ) (xs : List X) → k < low → Rises n low xs → groups k xs ≡ []
  groups_none low zero xs below up = of_none low 0 xs below up
  groups_none low (suc k) xs below up = rw (groups_none low k xs (omega arith) up, of_none low (suc k) xs below up)

  -- the first of a list that rises is the first of its groups
  front : (k : ℕ) (x : X) (xs : List X) → n x ≤ k → Rises n (n x) xs → groups k (x ∷ xs) ≡ x ∷ groups k xs
  front zero x xs most up = kept (λ y. n y == 0) x xs (eq-eqb (n x) 0 (omega arith))
  front (suc k) x xs most up =
      elim (cases_eq (n x) (suc k)) [
        | inl last ↦
            rw (groups_none (n x) k (x ∷ xs) (omega arith) (le_refl (n x), up), groups_none (n x) k xs (omega arith) up)
            (kept (λ y. n y == suc k) x xs (eq-eqb (n x) (suc k) last))
        | inr before ↦ rw (front k x xs (omega arith) up, ne_eqb (n x) (suc k) before)
      ]

  -- a list that rises is its groups
  pub groups_all : (low k : ℕ) (xs : List X) → Rises n low xs → AllByRecursion (λ x. n x ≤ k) xs → groups k xs ≡ xs
  groups_all low k [] up most = groups_none (suc k) k [] (omega arith) tt
  groups_all low k (x ∷ xs) up most = front k x xs most.0 up.1 ∙ ap (λ l. x ∷ l) (groups_all (n x) k xs up.1 most.1)

  -- those of one number among the groups are those among all
  pub of-groups : (j k : ℕ) (xs : List X) → All (λ x. n x ≤ k) xs → of j (groups k xs) ≡ of j xs
  of-groups j k xs most =
      groups-filter (λ x. n x == j) k xs
      ∙ groups_all 0 k (of j xs) (of_rises 0 j xs zero-le) (recursion_from_All (λ x. n x ≤ k) (of j xs) (All-filter (λ x. n x == j) (λ x. n x ≤ k) xs most))

  -- a list in its order rises
  rising_from : (low : ℕ) (xs : List X) → ((d : X) → 0 < length xs → low ≤ n (slice_index_or xs 0 d)) → IsNonDecreasingBy n xs → Rises n low xs
  rising_from low [] first up = tt
  rising_from low (x ∷ xs) first up =
      (first x (omega arith), rising_from (n x) xs (λ d some. up 0 1 d (omega arith) (omega arith)) (λ i j d le lt. up (suc i) (suc j) d (omega arith) (omega arith)))

  module _ (lt : X → X → Bool) (is : (x y : X) → lt x y ≡ ltb (n x) (n y)) where
    -- a list that is sorted by the number rises
    pub in_order : (xs : List X) → IsSortedBy lt xs → Rises n 0 xs
    in_order xs sorted =
        rising_from 0 xs (λ d some. zero-le)
        (IsNonDecreasingBy-from_all_adjacent n xs (λ k d below.
        ltb-false (n (slice_index_or xs (k + 1) d)) (n (slice_index_or xs k d)) (sym (is (slice_index_or xs (k + 1) d) (slice_index_or xs k d)) ∙ sorted k d (omega arith) below)))

    -- a stable sort leaves a group as it was
    pub same_group : (xs ys : List X) → IsStableBy lt xs ys → (x : X) → of (n x) ys ≡ of (n x) xs
    same_group xs ys stable x =
        let tied = λ (y : X). tie_of (n x) (n y) (lt x y) (lt y x) (is x y) (is y x) in
        sym (filter_agree (ties lt x) (λ y. n y == n x) tied ys) ∙ stable x ∙ filter_agree (ties lt x) (λ y. n y == n x) tied xs
