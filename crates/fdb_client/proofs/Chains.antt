-- What a client's proofs need of lists, of chains and of their answers.
use Rattle.std.proofs.Common.{◌≡◌, ℕ, zero, suc, ◌==◌, List, [], ◌∷◌, ◌++◌, length, slice_get, Some, refl, sym, ap, ◌∙◌, subst, ◌≢◌, ◌<◌, set, append_assoc, arith}
use Rattle.std.specs.List.{AllByRecursion}
use Rattle.std.specs.Prelude.{Contains}
use Rattle.std.proofs.lemmas.List.{map-append}
use Rattle.std.proofs.lemmas.List.Elements.{Contains-append_left, filter-append}
use mathlib.Core.List.{IsPrefix}
use Rattle.fdb_history.specs.declared.chain.Issued.{Issued}
use Rattle.fdb_live.specs.Holding.{answers_to, versions}

module _ {A : Type 0} where
  pub prefix_trans : (xs ys zs : List A) → IsPrefix xs ys → IsPrefix ys zs → IsPrefix xs zs
  prefix_trans xs ys zs p q = (p.0 ++ q.0, sym (append_assoc xs p.0 q.0) ∙ (ap (λ w. w ++ q.0) p.1 ∙ q.1))

  pub at_left : (xs ys : List A) (k : ℕ) → k < length xs → slice_get (xs ++ ys) k ≡ slice_get xs k
  at_left [] ys k below = absurd (omega arith)
  at_left (x ∷ xs) ys zero below = refl
  at_left (x ∷ xs) ys (suc k) below = at_left xs ys k (omega arith)

  pub get_written : (xs : List A) (k : ℕ) (x : A) → k < length xs → slice_get (set xs k x) k ≡ Some x
  get_written [] k x within = absurd (omega arith)
  get_written (y ∷ xs) zero x within = refl
  get_written (y ∷ xs) (suc k) x within = get_written xs k x (omega arith)

  pub get_other : (xs : List A) (k j : ℕ) (x : A) → j ≢ k → slice_get (set xs k x) j ≡ slice_get xs j
  get_other [] k j x other = refl
  get_other (y ∷ xs) zero zero x other = absurd (other refl)
  get_other (y ∷ xs) zero (suc j) x other = refl
  get_other (y ∷ xs) (suc k) zero x other = refl
  get_other (y ∷ xs) (suc k) (suc j) x other = get_other xs k j x (λ same. other (ap suc same))

  pub at_place : (before : List A) (next : A) (after : List A) → slice_get (before ++ next ∷ after) (length before) ≡ Some next
  at_place [] next after = refl
  at_place (x ∷ before) next after = at_place before next after

  pub at_each : (P : A → Type 0) (xs : List A) (k : ℕ) (x : A) → AllByRecursion P xs → slice_get xs k ≡ Some x → P x
  at_each P [] k x all is = absurd (cc is)
  at_each P (y ∷ xs) zero x all is = let same : y ≡ x = cc is in subst P same all.0
  at_each P (y ∷ xs) (suc k) x all is = at_each P xs k x all.1 is

  pub each-append : (P : A → Type 0) (xs ys : List A) → AllByRecursion P xs → AllByRecursion P ys → AllByRecursion P (xs ++ ys)
  each-append P [] ys one other = other
  each-append P (x ∷ xs) ys one other = (one.0, each-append P xs ys one.1 other)

pub answers_to-append : (n : ℕ) (xs ys : List Issued) → answers_to n (xs ++ ys) ≡ answers_to n xs ++ answers_to n ys
answers_to-append n xs ys = filter-append (λ (answer : Issued). answer.proxy == n) xs ys

versions-append : (xs ys : List Issued) → versions (xs ++ ys) ≡ versions xs ++ versions ys
versions-append xs ys = map-append (λ (answer : Issued). answer.version) xs ys

pub version_stays : (xs ys : List Issued) (version : ℕ) → IsPrefix xs ys → Contains (versions xs) version → Contains (versions ys) version
version_stays xs ys version p has =
    subst (λ l. Contains l version) (sym (versions-append xs p.0) ∙ ap versions p.1) (Contains-append_left (versions xs) (versions p.0) version has)
