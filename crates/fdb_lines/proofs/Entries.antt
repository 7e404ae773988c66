-- Tables of lines grow by a line, may be moved, and have what is looked for.
use Rattle.std.proofs.Common.{◌≡◌, ℕ, ◌+◌, ◌<◌, ◌==◌, nat_lt, zero-le, Bool, true, false, List, [], ◌∷◌, ◌++◌, length, get_or, option_to_list, option_map, Option, None, Some, is_some, ap, sym, subst, ◌∙◌, arith, append-nil}
use Rattle.std.specs.List.{All}
use Rattle.std.specs.List.Sorted.{IsPartitionPoint, IsPermutation}
use Rattle.std.proofs.lemmas.Bool.{both_ways, eqb-true, false_from_ne_true}
use Rattle.std.proofs.lemmas.Bool.Decides.{nat_tests}
use Rattle.std.proofs.lemmas.List.{get_or_default}
use Rattle.std.proofs.lemmas.List.Elements.{All-get_or, All-push}
use Rattle.std.proofs.lemmas.List.Folds.{Any-from_list_any, list_any-append}
use Rattle.std.proofs.lemmas.List.Sorted.{All-permutation, list_any-IsPermutation}
use Rattle.fdb_lines.specs.Faults.{some_below}
use Rattle.fdb_lines.specs.private.Entries.{other, AreEntries, IsEntry, IsFirstFrom, IsFrontBy, IsNewest}
use Rattle.fdb_lines.proofs.Numbers.{some_at, some_find}

abbrev Is : {X Q : Type 0} → (X → ℕ) → (X → ℕ) → (Q → X → Bool) → (ℕ → ℕ) → (Q → ℕ → Bool) → ℕ → X → Type 0
Is {Q = Q} place number answers f test n x = (place x < n) × (number x ≡ f (place x)) × ((q : Q) → answers q x ≡ test q (place x))

-- ---- what tables are made by

-- in any order
pub moved : {X Q : Type 0} (place number : X → ℕ) (answers : Q → X → Bool) (f : ℕ → ℕ) (test : Q → ℕ → Bool) (n : ℕ) (xs ys : List X)
    → IsPermutation xs ys → AreEntries place number answers f test n xs → AreEntries place number answers f test n ys
moved place number answers f test n xs ys same are = record {
  of = All-permutation (Is place number answers f test n) xs ys same are.of;
  all = λ q j lt is. sym (list_any-IsPermutation (λ x. place x == j) xs ys same) ∙ are.all q j lt is;
}

further : {X Q : Type 0} (place number : X → ℕ) (answers : Q → X → Bool) (f : ℕ → ℕ) (test : Q → ℕ → Bool) (n : ℕ) (xs : List X)
    → All (Is place number answers f test n) xs → All (Is place number answers f test (n + 1)) xs
further place number answers f test n xs are i d lt = let x = are i d lt in let below = x.0 in (omega arith, x.1, x.2)

-- line by line
pub more : {X Q : Type 0} (place number : X → ℕ) (answers : Q → X → Bool) (f : ℕ → ℕ) (test : Q → ℕ → Bool) (n : ℕ) (xs : List X) (o : Option X)
    → AreEntries place number answers f test n xs → IsEntry place number answers n (f n) (λ q. test q n) o
    → AreEntries place number answers f test (n + 1) (xs ++ option_to_list o)
more place number answers f test n xs None are none =
    subst (AreEntries place number answers f test (n + 1)) (sym (append-nil xs)) (record {
      of = further place number answers f test n xs are.of;
      all = λ q j lt passes. let old = are.all q j in let no = none q in let same = λ (e : j ≡ n). ap (test q) e in grind arith;
    })
more place number answers f test n xs (Some x) are one =
    let at = one.0 in
    record {
      of = All-push (Is place number answers f test (n + 1)) xs x (further place number answers f test n xs are.of)
          (omega arith, one.1 ∙ ap f (sym at), λ q. one.2 q ∙ ap (test q) (sym at));
      all = λ q j lt passes. let joined = list_any-append (λ y. place y == j) xs (x ∷ []) in let old = are.all q j in grind (arith, nat_tests);
    }

-- ---- what stands in them

pub entry : {X Q : Type 0} (place number : X → ℕ) (answers : Q → X → Bool) (f : ℕ → ℕ) (test : Q → ℕ → Bool) (n : ℕ) (xs : List X) (d : X)
    → AreEntries place number answers f test n xs → (i : ℕ) → i < length xs → Is place number answers f test n (get_or xs i d)
entry place number answers f test n xs d are i lt = All-get_or (Is place number answers f test n) xs i d lt are.of

-- each line that answers a question has an entry that answers it
pub entry_for : {X Q : Type 0} (place number : X → ℕ) (answers : Q → X → Bool) (f : ℕ → ℕ) (test : Q → ℕ → Bool) (n : ℕ) (xs : List X) (d : X)
    → AreEntries place number answers f test n xs → (q : Q) (j : ℕ) → j < n → test q j ≡ true
    → (i : ℕ) × (i < length xs) × (place (get_or xs i d) ≡ j) × (answers q (get_or xs i d) ≡ true)
entry_for place number answers f test n xs d are q j lt passes =
    let some = Any-from_list_any (λ x. place x == j) xs (are.all q j lt passes) in
    let i = some.0 in
    let at : place (get_or xs i d) ≡ j = ap place (get_or_default xs i d some.1 some.2 ∙ some.3) ∙ eqb-true (place some.1) j some.4 in
    let is = entry place number answers f test n xs d are i some.2 in
    (i, some.2, at, is.2 q ∙ (ap (test q) at ∙ passes))

-- the newest entry is of the newest line
pub newest_line : {X Q : Type 0} (place number : X → ℕ) (answers : Q → X → Bool) (f : ℕ → ℕ) (test : Q → ℕ → Bool) (n : ℕ) (xs : List X) (d : X)
    → AreEntries place number answers f test n xs → (q : Q) (o : Option ℕ)
    → IsNewest (λ k. answers q (get_or xs k d)) (λ k. number (get_or xs k d)) (length xs) o → IsNewest (test q) f n (option_map (λ i. place (get_or xs i d)) o)
newest_line place number answers f test n xs d are q None none = λ j lt. false_from_ne_true (test q j) (λ passes.
    let own = entry_for place number answers f test n xs d are q j lt passes in
    both_ways _ (none own.0 own.1) own.3)
newest_line place number answers f test n xs d are q (Some i) found =
    let is = entry place number answers f test n xs d are i found.0 in (
      is.0,
      sym (is.2 q) ∙ found.1,
      λ j lt passes.
          let own = entry_for place number answers f test n xs d are q j lt passes in
          let up = found.2 own.0 own.1 own.3 in
          let here = (entry place number answers f test n xs d are own.0 own.1).1 ∙ ap f own.2 in
          let there = is.1 in
          omega arith,
    )

-- where the keys below one end
pub front_is : {X : Type 0} (key : X → ℕ) (d : X) (xs : List X) (moment front : ℕ)
    → IsPartitionPoint (λ x. nat_lt (key x) moment ≡ true) (λ x. nat_lt (key x) moment ≡ false) xs front → IsFrontBy key d xs moment front
front_is key d xs moment front point =
    (λ i below. let less = point.0 i d zero-le below in grind (arith, nat_tests), λ i above lt. let no_less = point.1 i d above lt in grind (arith, nat_tests))

-- ---- the first that passes a test

pub first_is : (test : ℕ → Bool) (n : ℕ) (o : Option ℕ) → IsFirstFrom test 0 n o → some_below test n ≡ is_some o
first_is test n None none = false_from_ne_true (some_below test n) (λ some. let f = some_find test n some in both_ways (test f.0) (none f.0 (omega arith) f.1) f.2)
first_is test n (Some j) first = some_at test n j first.1 first.2

-- tests that agree have one first
pub first_same : (one another : ℕ → Bool) (n : ℕ) (o : Option ℕ) → ((j : ℕ) → j < n → one j ≡ another j) → IsFirstFrom one 0 n o → IsFirstFrom another 0 n o
first_same one another n None same none = λ j ge lt. sym (same j lt) ∙ none j ge lt
first_same one another n (Some q) same first =
    (first.0, first.1, sym (same q first.1) ∙ first.2, λ i ge lt. sym (same i (let within = first.1 in omega arith)) ∙ first.3 i ge lt)

-- the first but one

-- those behind the first, where that is the one
pub other_behind : (test : ℕ → Bool) (k n : ℕ) (o : Option ℕ) → IsFirstFrom test 0 n (Some k) → IsFirstFrom test (k + 1) n o → IsFirstFrom (other test k) 0 n o
other_behind test k n None first none = λ j ge lt. let before = first.3 j in let behind = none j in grind (arith, nat_tests)
other_behind test k n (Some q) first next = (
  omega arith,
  next.1,
  grind (arith, nat_tests, next.0, next.2),
  λ i ge lt. let before = first.3 i in let behind = next.3 i in grind (arith, nat_tests),
)
