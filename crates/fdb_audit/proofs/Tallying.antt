-- Faults that are counted by their kinds and by whose they are, with one more.
use Rattle.std.proofs.Common.{◌≡◌, ◌∙◌, ◌==◌, ℕ, ◌<◌, Bool, true, false, cond, List, [], ◌∷◌, ◌++◌, Option, All, Contains, append-nil, ap, arith, length, refl, subst, sym, get_or}
use Rattle.std.proofs.lemmas.Bool.{eq-eqb, eqb-false, eqb-true}
use Rattle.std.proofs.lemmas.List.{length_push, map-append}
use Rattle.std.proofs.lemmas.List.Elements.{All-push, Contains-append_left, Contains-push, filter-append}
use Rattle.fdb_audit.specs.Groups.{Owned, kinds_of, number_of, of_group}
use Rattle.fdb_audit.specs.declared.groups.Tally.{Tally}
use Rattle.fdb_audit.specs.declared.figures.KindCounts.{KindCounts}
use Rattle.fdb_audit.specs.Tallied.{HasKinds, HasTallied, kinds_at}
use Rattle.fdb_audit.proofs.Most.{same_number}

-- ---- of each group

of_more : (owned : List Owned) (one : Owned) (group : Option ℕ)
    → of_group (owned ++ one ∷ []) group ≡ of_group owned group ++ cond (number_of one.owner == number_of group) (one ∷ []) []
of_more owned one group = filter-append (λ (it : Owned). number_of it.owner == number_of group) owned (one ∷ [])

with_it : (owned : List Owned) (one : Owned) (group : Option ℕ) → (number_of one.owner == number_of group) ≡ true → of_group (owned ++ one ∷ []) group ≡ of_group owned group ++ one ∷ []
with_it owned one group e = of_more owned one group ∙ ap (λ b. of_group owned group ++ cond b (one ∷ []) []) e

without : (owned : List Owned) (one : Owned) (group : Option ℕ) → (number_of one.owner == number_of group) ≡ false → of_group (owned ++ one ∷ []) group ≡ of_group owned group
without owned one group e = of_more owned one group ∙ (ap (λ b. of_group owned group ++ cond b (one ∷ []) []) e ∙ append-nil (of_group owned group))

-- no group has fewer
no_fewer : (owned : List Owned) (one : Owned) (group : Option ℕ) → 0 < length (of_group owned group) → 0 < length (of_group (owned ++ one ∷ []) group)
no_fewer owned one group some = by (number_of one.owner == number_of group) refl
  where
    by : (b : Bool) → (number_of one.owner == number_of group) ≡ b → 0 < length (of_group (owned ++ one ∷ []) group)
    by true e = let size = ap length (with_it owned one group e) in let more = length_push (of_group owned group) one in omega (arith, size, more)
    by false e = let size = ap length (without owned one group e) in omega (arith, size, some)

itself : (owned : List Owned) (one : Owned) (group : Option ℕ) → (number_of one.owner == number_of group) ≡ true → 0 < length (of_group (owned ++ one ∷ []) group)
itself owned one group e = let size = ap length (with_it owned one group e) in let more = length_push (of_group owned group) one in omega (arith, size, more)

-- the groups that have faults are known, where that of the further one is
module _ (old new : Tally) (owned : List Owned) (one : Owned) (counts : KindCounts) (has : HasTallied old owned)
    (counted : HasKinds counts (kinds_of (of_group owned one.owner) ++ one.kind ∷ []))
    (set : (q : ℕ) → kinds_at new q ≡ cond (q == number_of one.owner) counts (kinds_at old q)) where
  counts_of : (group : Option ℕ) → HasKinds (kinds_at new (number_of group)) (kinds_of (of_group (owned ++ one ∷ []) group))
  counts_of group = by (number_of group == number_of one.owner) (number_of one.owner == number_of group) refl refl
    where
      by : (b c : Bool) → (number_of group == number_of one.owner) ≡ b → (number_of one.owner == number_of group) ≡ c
          → HasKinds (kinds_at new (number_of group)) (kinds_of (of_group (owned ++ one ∷ []) group))
      by true true e f =
          let same : one.owner ≡ group = same_number one.owner group (eqb-true _ _ f) in
          let now : kinds_at new (number_of group) ≡ counts = set (number_of group) ∙ ap (λ b. cond b counts (kinds_at old (number_of group))) e in
          let those : kinds_of (of_group (owned ++ one ∷ []) group) ≡ kinds_of (of_group owned one.owner) ++ one.kind ∷ [] =
          ap kinds_of (with_it owned one group f)
          ∙ (map-append (λ (it : Owned). it.kind) (of_group owned group) (one ∷ [])
          ∙ ap (λ g. kinds_of (of_group owned g) ++ one.kind ∷ []) (sym same)) in
          subst (λ k. HasKinds k (kinds_of (of_group (owned ++ one ∷ []) group))) (sym now) (subst (HasKinds counts) (sym those) counted)
      by false false e f =
          let now : kinds_at new (number_of group) ≡ kinds_at old (number_of group) = set (number_of group) ∙ ap (λ b. cond b counts (kinds_at old (number_of group))) e in
          subst (λ k. HasKinds k (kinds_of (of_group (owned ++ one ∷ []) group))) (sym now)
          (subst (λ l. HasKinds (kinds_at old (number_of group)) (kinds_of l)) (sym (without owned one group f)) (has.counts group))
      by true false e f = absurd (eqb-false (number_of one.owner) (number_of group) f (sym (eqb-true _ _ e)))
      by false true e f = absurd (eqb-false (number_of group) (number_of one.owner) e (sym (eqb-true _ _ f)))

  -- of a group that was known
  pub tallied_old : new.owners.items ≡ old.owners.items → 0 < length (of_group owned one.owner) → HasTallied new (owned ++ one ∷ [])
  tallied_old owners some = record {
    faulty = subst (All (λ group. 0 < length (of_group (owned ++ one ∷ []) group))) (sym owners)
        (λ k d lt. no_fewer owned one (get_or old.owners.items k d) (has.faulty k d lt));
    all = λ group is. subst (λ owners. Contains owners group) (sym owners) (has.all group (was group (number_of one.owner == number_of group) refl is));
    counts = counts_of;
  }
    where
      was : (group : Option ℕ) (b : Bool) → (number_of one.owner == number_of group) ≡ b → 0 < length (of_group (owned ++ one ∷ []) group) → 0 < length (of_group owned group)
      was group true e is = subst (λ g. 0 < length (of_group owned g)) (same_number one.owner group (eqb-true _ _ e)) some
      was group false e is = let size = ap length (without owned one group e) in omega (arith, size, is)

  -- of a new one
  pub tallied_new : new.owners.items ≡ old.owners.items ++ one.owner ∷ [] → HasTallied new (owned ++ one ∷ [])
  tallied_new owners = record {
    faulty = subst (All (λ group. 0 < length (of_group (owned ++ one ∷ []) group))) (sym owners)
        (All-push (λ group. 0 < length (of_group (owned ++ one ∷ []) group)) old.owners.items one.owner
        (λ k d lt. no_fewer owned one (get_or old.owners.items k d) (has.faulty k d lt)) (itself owned one one.owner (eq-eqb (number_of one.owner) (number_of one.owner) refl)));
    all = λ group is. subst (λ owners. Contains owners group) (sym owners) (by group (number_of one.owner == number_of group) refl is);
    counts = counts_of;
  }
    where
      by : (group : Option ℕ) (b : Bool) → (number_of one.owner == number_of group) ≡ b → 0 < length (of_group (owned ++ one ∷ []) group)
          → Contains (old.owners.items ++ one.owner ∷ []) group
      by group true e is = subst (Contains (old.owners.items ++ one.owner ∷ [])) (same_number one.owner group (eqb-true _ _ e)) (Contains-push old.owners.items one.owner)
      by group false e is = let size = ap length (without owned one group e) in Contains-append_left old.owners.items (one.owner ∷ []) group (has.all group (omega (arith, size, is)))
