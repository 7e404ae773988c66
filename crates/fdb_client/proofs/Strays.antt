-- No answer is stray in the logs of clients whose tokens have closed the chain.
use Rattle.std.proofs.Common.{◌≡◌, ℕ, zero, suc, ◌<◌, ◌==◌, ◌||◌, Bool, true, false, cond, List, [], ◌∷◌, ◌++◌, length, Some, refl, sym, ap, ◌∙◌, arith, slice_get, take, subst, append-nil, append_assoc, inl, inr, filter}
use Rattle.std.specs.Prelude.{All}
use Rattle.std.specs.List.{list_any}
use Rattle.std.proofs.lemmas.Bool.{false≢true}
use Rattle.std.proofs.lemmas.List.{length-take-le}
use Rattle.std.proofs.lemmas.Option.{get_or_from_slice_get, slice_get_within}
use mathlib.Core.List.{IsPrefix}
use Rattle.fdb_history.specs.Chain.{IsChain, IsNext}
use Rattle.fdb_history.specs.Faults.{Nowhere}
use Rattle.fdb_history.specs.Log.{answers_in, calls_of, fresh_answers}
use Rattle.fdb_history.specs.Strays.{HasUndrawn, IsStray, NotJustified, is_justified, is_same}
use Rattle.fdb_history.specs.declared.chain.Issued.{Issued}
use Rattle.fdb_history.specs.declared.log.Call.{Call}
use Rattle.fdb_history.specs.declared.log.ClientLog.{ClientLog}
use Rattle.fdb_live.specs.Holding.{answers_to}
use Rattle.fdb_live.specs.Seen.{Sight}
use Rattle.fdb_client.specs.Agreeing.{AreJustified}
use Rattle.fdb_client.specs.Settling.{AllAgreeWithChain}
use Rattle.fdb_client.proofs.Justified.{same_answer, same_number}
use Rattle.fdb_client.proofs.Settled.{inside, take_more}

justified_at : (chain : List Issued) (client : ℕ) (before calls : List Call) (place : ℕ) (call : Call) → AreJustified chain client before calls → slice_get calls place ≡ Some call → is_justified chain client (before ++ take place calls) call ≡ true
justified_at chain client before [] place call each is = absurd (cc is)
justified_at chain client before (one ∷ calls) zero call each is =
    let same : one ≡ call = cc is in
    subst (λ (c : Call). is_justified chain client (before ++ []) c ≡ true) same (subst (λ l. is_justified chain client l one ≡ true) (sym (append-nil before)) each.0)
justified_at chain client before (one ∷ calls) (suc place) call each is =
    subst (λ l. is_justified chain client l call ≡ true) (append_assoc before (one ∷ []) (take place calls)) (justified_at chain client (before ++ one ∷ []) calls place call each.1 is)

-- what is found among some that are kept is found among all
any_kept : {X : Type 0} (p keep : X → Bool) (xs : List X) → list_any p (filter keep xs) ≡ true → list_any p xs ≡ true
any_kept p keep [] found = found
any_kept p keep (y ∷ xs) found = go (keep y) (p y) refl (any_kept p keep xs) found
  where
    go : (k b : Bool) → p y ≡ b → (list_any p (filter keep xs) ≡ true → list_any p xs ≡ true) → list_any p (cond k (y ∷ filter keep xs) (filter keep xs)) ≡ true → (b || list_any p xs) ≡ true
    go k true e rest some = refl
    go true false e rest some = rest (subst (λ t. (t || list_any p (filter keep xs)) ≡ true) e some)
    go false false e rest some = rest some

-- an entry that is kept is found among those that are
kept_at : {X : Type 0} (p keep : X → Bool) (xs : List X) (place : ℕ) (x : X) → slice_get xs place ≡ Some x → keep x ≡ true → p x ≡ true → list_any p (filter keep xs) ≡ true
kept_at p keep [] place x at kept is = absurd (cc at)
kept_at p keep (y ∷ xs) zero x at kept is = let same : y ≡ x = cc at in rw (same, kept, is) refl
kept_at p keep (y ∷ xs) (suc place) x at kept is = go (keep y) (p y) refl (kept_at p keep xs place x at kept is)
  where
    go : (k b : Bool) → p y ≡ b → list_any p (filter keep xs) ≡ true → list_any p (cond k (y ∷ filter keep xs) (filter keep xs)) ≡ true
    go true true e rest = rw e refl
    go true false e rest = rw e rest
    go false b e rest = rest

asked_at : (P : Issued → Type 0) (xs : List Issued) (place : ℕ) (x : Issued) → All P xs → slice_get xs place ≡ Some x → P x
asked_at P xs place x all at = subst P (get_or_from_slice_get xs place x x at) (all place x (slice_get_within xs place x at))

-- that each answer of a chain is the next one after those before it
abbrev pub EachIsNext : Type 0
EachIsNext = (epoch_end recovery : ℕ) (answers : List Issued) (place : ℕ) (answer : Issued) → IsChain epoch_end recovery answers → slice_get answers place ≡ Some answer → IsNext epoch_end recovery (take place answers) answer

module _ (each_is_next : EachIsNext) (epoch_end recovery reporters : ℕ) (logs : List ClientLog) (tokens : List Sight) (chain : List Issued)
    (logs_count : length logs ≡ reporters) (count : length tokens ≡ reporters) (agree : AllAgreeWithChain epoch_end recovery logs tokens)
    (one : IsChain epoch_end recovery chain) (asked : All (λ answer. answer.proxy < reporters) chain)
    (begins : (k : ℕ) (token : Sight) → slice_get tokens k ≡ Some token → IsPrefix token.answers chain)
    (own : (k : ℕ) (token : Sight) → slice_get tokens k ≡ Some token → answers_to k chain ≡ answers_to k token.answers) where
  no_unjustified : (client place : ℕ) → NotJustified chain logs client place → ⊥
  no_unjustified client place (call, is, not) =
      let (token, at, _) = take_more tokens client (omega (arith, logs_count, count, inside logs client place call is)) in
      let each = (agree client token at).justified chain one (begins client token at) in
      false≢true (sym not ∙ justified_at chain client [] (calls_of logs client) place call each is)

  no_undrawn : (client : ℕ) → HasUndrawn chain logs client → ⊥
  no_undrawn client (place, entry, at, whose, none) =
      let next = each_is_next epoch_end recovery chain place entry one at in
      let within = slice_get_within chain place entry at in
      let ordinal : entry.ordinal ≡ place = next.ordinal ∙ length-take-le place chain (omega arith) in
      let below : client < reporters = subst (λ n. n < reporters) whose (asked_at (λ answer. answer.proxy < reporters) chain place entry asked at) in
      let (token, there, _) = take_more tokens client (omega (arith, count)) in
      let test : Issued → Bool = λ issued. is_same issued (record entry { ordinal = place; fresh = true }) in
      let same : test entry ≡ true = ap (λ (p : ℕ × Bool). is_same entry (record entry { ordinal = p.0; fresh = p.1 })) (λ i. (sym ordinal i, sym next.fresh i)) ∙ same_answer entry in
      let mine : (entry.proxy == client) ≡ true = ap (λ n. n == client) whose ∙ same_number client in
      let among = kept_at test (λ (answer : Issued). answer.proxy == client) chain place entry at mine same in
      let fresh : answers_to client chain ≡ fresh_answers (calls_of logs client) = own client token there ∙ (agree client token there).own in
      let drawn = any_kept test (λ (issued : Issued). issued.fresh) (answers_in (calls_of logs client)) (subst (λ l. list_any test l ≡ true) fresh among) in
      false≢true (sym none ∙ drawn)

  pub no_stray : Nowhere (IsStray chain logs)
  no_stray client place (inl not) = no_unjustified client place not
  no_stray client place (inr (at, undrawn)) = no_undrawn client undrawn
