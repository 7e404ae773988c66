-- A list read by place, with one more item at its end, and what a filter keeps of it.
use Rattle.std.proofs.Common.{◌≡◌, ◌⊎◌, ℕ, zero, suc, ◌+◌, ◌<◌, List, [], ◌∷◌, ◌++◌, length, take, Some, slice_get, refl, ap, subst, ◌∙◌, inl, inr, arith, Bool, true, false, cond, filter}
use Rattle.std.specs.List.{AllByRecursion}
use Rattle.std.proofs.lemmas.Grind.{common_steps}
use Rattle.std.proofs.lemmas.Bool.Decides.{nat_tests}
use Rattle.std.proofs.lemmas.Bool.{cond-true, cond-false}
use Rattle.std.proofs.lemmas.List.{take_more}
use Rattle.std.proofs.lemmas.Option.{get_or_from_slice_get, none-some, same_Some, slice_get_within}
use Rattle.fdb_history.specs.Log.{calls_of}
use Rattle.fdb_history.specs.declared.log.Call.{Call}
use Rattle.fdb_history.specs.declared.log.ClientLog.{ClientLog}

pub slice_get-append_left : {X : Type 0} (xs ys : List X) (i : ℕ) → i < length xs → slice_get (xs ++ ys) i ≡ slice_get xs i
slice_get-append_left [] ys i h = absurd (omega arith)
slice_get-append_left (x ∷ xs) ys zero h = refl
slice_get-append_left (x ∷ xs) ys (suc i) h = slice_get-append_left xs ys i (omega arith)

pub slice_get-append_seam : {X : Type 0} (xs : List X) (y : X) → slice_get (xs ++ y ∷ []) (length xs) ≡ Some y
slice_get-append_seam [] y = refl
slice_get-append_seam (x ∷ xs) y = slice_get-append_seam xs y

-- what is at a place of the longer list was there before, or is the new one
pub at_push : {X : Type 0} (xs : List X) (y : X) (place : ℕ) (x : X) → slice_get (xs ++ y ∷ []) place ≡ Some x → ((slice_get xs place ≡ Some x)) ⊎ ((place ≡ length xs) × (y ≡ x))
at_push [] y zero x at = inr (refl, same_Some y x at)
at_push [] y (suc place) x at = absurd (none-some x at)
at_push (z ∷ zs) y zero x at = inl at
at_push (z ∷ zs) y (suc place) x at = elim (at_push zs y place x at) [ inl before ↦ inl before | inr new ↦ inr (ap suc new.0, new.1) ]

pub at_left : {X : Type 0} (xs : List X) (y : X) (place : ℕ) (x : X) → slice_get xs place ≡ Some x → slice_get (xs ++ y ∷ []) place ≡ Some x
at_left xs y place x at = slice_get-append_left xs (y ∷ []) place (slice_get_within xs place x at) ∙ at

pub take-push : {X : Type 0} (xs : List X) (i : ℕ) (x : X) → slice_get xs i ≡ Some x → take (i + 1) xs ≡ take i xs ++ x ∷ []
take-push xs i x at = take_more xs i x (slice_get_within xs i x at) ∙ ap (λ y. take i xs ++ y ∷ []) (get_or_from_slice_get xs i x x at)

-- what holds of each element of two lists in a row holds of each element of both
pub all_parts : {X : Type 0} (P : X → Type 0) (xs ys : List X) → AllByRecursion P (xs ++ ys) → AllByRecursion P xs × AllByRecursion P ys
all_parts P [] ys all = (tt, all)
all_parts P (x ∷ xs) ys all = let rest = all_parts P xs ys all.1 in ((all.0, rest.0), rest.1)

-- what holds of each element holds of the one at a place
pub all_at : {X : Type 0} (P : X → Type 0) (xs : List X) (place : ℕ) (x : X) → AllByRecursion P xs → slice_get xs place ≡ Some x → P x
all_at P [] place x all at = absurd (none-some x at)
all_at P (y ∷ xs) zero x all at = subst P (same_Some y x at) all.0
all_at P (y ∷ xs) (suc place) x all at = all_at P xs place x all.1 at

-- what holds of no calls and of the calls of each log holds of the calls of each client
pub of_client : (P : List Call → Type 0) → P [] → (logs : List ClientLog) (client : ℕ) → AllByRecursion (λ log. P log.calls) logs → P (calls_of logs client)
of_client P none [] client all = none
of_client P none (log ∷ logs) zero all = all.0
of_client P none (log ∷ logs) (suc client) all = of_client P none logs client all.1

-- ---- filters

module _ {X : Type 0} (test : X → Bool) where
  -- the first passes
  pub kept : (x : X) (xs : List X) → test x ≡ true → filter test (x ∷ xs) ≡ x ∷ filter test xs
  kept x xs e = cond-true (test x) (x ∷ filter test xs) (filter test xs) e

  -- the first does not pass
  pub left_out : (x : X) (xs : List X) → test x ≡ false → filter test (x ∷ xs) ≡ filter test xs
  left_out x xs e = cond-false (test x) (x ∷ filter test xs) (filter test xs) e

  -- all pass
  pub filter_all : (xs : List X) → AllByRecursion (λ x. test x ≡ true) xs → filter test xs ≡ xs
  filter_all [] all = refl
  filter_all (x ∷ xs) all = kept x xs all.0 ∙ ap (λ l. x ∷ l) (filter_all xs all.1)

  -- none passes
  pub filter_none : (xs : List X) → AllByRecursion (λ x. test x ≡ false) xs → filter test xs ≡ []
  filter_none [] none = refl
  filter_none (x ∷ xs) none = left_out x xs none.0 ∙ filter_none xs none.1

  -- what the first adds to how many pass
  pub adds : (x : X) (xs : List X) → length (filter test (x ∷ xs)) ≡ cond (test x) 1 0 + length (filter test xs)
  adds x xs = by (test x) (filter test xs)
    where
      by : (b : Bool) (rest : List X) → length (cond b (x ∷ rest) rest) ≡ cond b 1 0 + length rest
      by true rest = omega arith
      by false rest = omega arith

-- two filters in either order
pub filter_swap : {X : Type 0} (one other : X → Bool) (xs : List X) → filter one (filter other xs) ≡ filter other (filter one xs)
filter_swap one other [] = refl
filter_swap one other (x ∷ xs) = grind (arith, common_steps, nat_tests, filter_swap one other xs)
