-- The clients that are made of a cluster's tokens, one after another.
use Rattle.std.proofs.Common.{◌≡◌, ℕ, ◌+◌, ◌<◌, List, [], ◌∷◌, ◌++◌, length, Some, slice_get, length-append, sym, ap, below_more, ◌∙◌, arith}
use Rattle.fdb_client.proofs.Chains.{at_left, at_place}
use Rattle.fdb_client.specs.Account.{Account, new_account}

-- each is new, and its number is its place
abbrev pub AreNew : List Account → ℕ → Type 0
AreNew accounts n = (k : ℕ) → k < n → slice_get accounts k ≡ Some (new_account k [] [])

pub one_more : (accounts : List Account) (n : ℕ) (new : Account) → length accounts ≡ n → AreNew accounts n → new ≡ new_account n [] [] → AreNew (accounts ++ new ∷ []) (n + 1)
one_more accounts n new long all is =
    below_more (λ k. slice_get (accounts ++ new ∷ []) k ≡ Some (new_account k [] [])) n
    (λ k before. at_left accounts (new ∷ []) k (omega arith) ∙ all k before)
    (ap (slice_get (accounts ++ new ∷ [])) (sym long) ∙ (at_place accounts new [] ∙ ap Some is))

module _ {X : Type 0} (before : List X) (next : X) (after all : List X) (whole : before ++ next ∷ after ≡ all) where
  -- one that comes after some is one of all
  pub is_one : length before < length all
  is_one = omega (arith, ap length whole, length-append before (next ∷ after))

  -- and is what the one at its place is
  pub next_of : (of : ℕ → X) (n : ℕ) → n ≡ length before → ((k : ℕ) → k < length all → slice_get all k ≡ Some (of k)) → next ≡ of n
  next_of of n is each =
      let place = ap (λ l. slice_get l (length before)) whole in
      let same : Some next ≡ Some (of (length before)) = sym (at_place before next after) ∙ place ∙ each (length before) is_one in
      let this : next ≡ of (length before) = cc same in
      rw is this
