-- What the clients of a run are at its start, and what they leave.
use Rattle.std.proofs.Common.{◌≡◌, ℕ, suc, ◌+◌, ◌<◌, List, [], ◌∷◌, Some, length, replicate, refl, ap, sym, ◌∙◌, subst, arith, zero, map}
use Rattle.std.specs.List.{slice_get}
use Rattle.std.specs.Option.{option_map}
use Rattle.std.proofs.lemmas.List.{length-map}
use Rattle.std.proofs.lemmas.Option.{slice_get-map, slice_get_within}
use Rattle.fdb_client.specs.Account.{Account, new_account}
use Rattle.fdb_client.specs.Settling.{AreAllInPlace, HaveNumbers, logs_of}
use Rattle.fdb_replay.specs.private.Rounds.{numbers_of}

-- ---- new clients

-- A client has called nobody yet.
pub record HasNotCalled (client : Account) : Type 0 where
  pub begun : client.begun ≡ 0
  pub calls : client.calls ≡ []

-- each of these is new, and the first has this number
abbrev AreNewFrom : ℕ → List Account → Type 0
AreNewFrom first clients = (k : ℕ) → k < length clients → slice_get clients k ≡ Some (new_account (first + k) [] [])

others_new : (first : ℕ) (client : Account) (clients : List Account) → AreNewFrom first (client ∷ clients) → AreNewFrom (first + 1) clients
others_new first client clients new k within = subst (λ n. slice_get clients k ≡ Some (new_account n [] [])) (omega arith) (new (suc k) (omega (arith, within)))

first_new : (first : ℕ) (client : Account) (clients : List Account) → AreNewFrom first (client ∷ clients) → client ≡ new_account first [] []
first_new first client clients new =
    let is : Some client ≡ Some (new_account (first + 0) [] []) = new 0 (omega arith) in
    let this : client ≡ new_account (first + 0) [] [] = cc in
    this ∙ ap (λ n. new_account n [] []) (omega arith)

no_calls_from : (first : ℕ) (clients : List Account) → AreNewFrom first clients → logs_of clients ≡ replicate (length clients) (record { calls = [] })
no_calls_from first [] new = refl
no_calls_from first (client ∷ clients) new =
    rw (ap (λ one. one.calls) (first_new first client clients new), no_calls_from (first + 1) clients (others_new first client clients new)) refl

-- so many clients, who are new
module _ (clients : List Account) (n : ℕ) (count : n ≡ length clients) (new : (k : ℕ) → k < n → slice_get clients k ≡ Some (new_account k [] [])) where
  from_first : AreNewFrom 0 clients
  from_first k within = subst (λ n. slice_get clients k ≡ Some (new_account n [] [])) (omega arith) (new k (omega (arith, within, count)))

  pub no_calls : logs_of clients ≡ replicate n (record { calls = [] })
  no_calls = no_calls_from 0 clients from_first ∙ ap (λ n. replicate n (record { calls = [] })) (sym count)

  pub in_order : HaveNumbers clients
  in_order k client is =
      let there : Some client ≡ Some (new_account k [] []) = sym is ∙ new k (omega (arith, count, slice_get_within clients k client is)) in
      let this : client ≡ new_account k [] [] = cc in
      ap (λ one. one.number) this

-- ---- numbers

at_map : {X Y : Type 0} (f : X → Y) (xs : List X) (k : ℕ) (y : Y) → slice_get (map f xs) k ≡ Some y → (x : X) × (slice_get xs k ≡ Some x) × (f x ≡ y)
at_map f [] k y is = absurd cc
at_map f (x ∷ xs) zero y is = (x, refl, cc)
at_map f (x ∷ xs) (suc k) y is = at_map f xs k y is

numbers_kept : (before after : List Account) → numbers_of after ≡ numbers_of before → HaveNumbers before → HaveNumbers after
numbers_kept before after same have k client is =
    let number = λ (one : Account). one.number in
    let there : slice_get (numbers_of before) k ≡ Some client.number = ap (λ numbers. slice_get numbers k) (sym same) ∙ slice_get-map number after k ∙ ap (option_map number) is in
    let was = at_map number before k client.number there in
    sym was.2 ∙ have k was.0 was.1

-- who keep their numbers stay in place
pub still_in_place : (n : ℕ) (before after : List Account) → numbers_of after ≡ numbers_of before → AreAllInPlace n before → AreAllInPlace n after
still_in_place n before after same were =
    let number = λ (one : Account). one.number in
    record {
      count = sym (length-map after number) ∙ ap length same ∙ length-map before number ∙ were.count;
      numbers = numbers_kept before after same were.numbers;
    }
