-- What clients that stand in the order of their numbers leave.
use Rattle.std.proofs.Common.{◌≡◌, ℕ, zero, suc, ◌+◌, ◌<◌, List, [], ◌∷◌, ◌++◌, Some, length, map, refl, ap, sym, ◌∙◌, append-nil, arith, below_more}
use Rattle.std.specs.List.{AllByRecursion, slice_get}
use Rattle.std.proofs.lemmas.Option.{same_Some, slice_get-map}
use Rattle.fdb_client.proofs.Chains.{at_each}
use Rattle.fdb_client.specs.Account.{Account, sight}
use Rattle.fdb_client.specs.Agreeing.{Agrees, AgreesWithChain}
use Rattle.fdb_client.specs.Settling.{AllAgree, AllAgreeWithChain, HaveNumbers, logs_of}
use Rattle.fdb_history.specs.Log.{calls_of}
use Rattle.fdb_history.specs.declared.log.Call.{Call}
use Rattle.fdb_history.specs.declared.log.ClientLog.{ClientLog}
use Rattle.fdb_history.specs.declared.register.Record.{Record}
use Rattle.fdb_history.specs.declared.chain.Issued.{Issued}
use Rattle.fdb_live.specs.Gathering.{AreNumbered}
use Rattle.fdb_live.specs.declared.view.Change.{Change}

-- a client's calls agree with its token, as those of one that began before any change
abbrev pub MaySettle : ℕ → ℕ → Record → Account → Type 0
MaySettle epoch_end recovery start client = Agrees start (record client { begun = 0 }) × AgreesWithChain epoch_end recovery client

at_map : {X Y : Type 0} (f : X → Y) (xs : List X) (k : ℕ) (y : Y) → slice_get (map f xs) k ≡ Some y → (x : X) × (slice_get xs k ≡ Some x) × (f x ≡ y)
at_map f [] k y is = absurd cc
at_map f (x ∷ xs) zero y is = (x, refl, cc)
at_map f (x ∷ xs) (suc k) y is = at_map f xs k y is

pub all_yielded : {X : Type 0} (yielded rest all : List X) → length rest ≡ 0 → yielded ++ rest ≡ all → yielded ≡ all
all_yielded yielded [] all none whole = sym (append-nil yielded) ∙ whole
all_yielded yielded (x ∷ rest) all none whole = absurd (omega (arith, none))

pub are_numbered : (clients : List Account) → HaveNumbers clients → AreNumbered (map sight clients)
are_numbered clients have k token is =
    let own = at_map sight clients k token is in
    sym (ap (λ one. one.reporter) own.2) ∙ ap Some (have k own.0 own.1)

said : (start : Record) (client : Account) (number : ℕ) (calls : List Call) (answers : List Issued) (changes : List Change) → client.number ≡ number → client.calls ≡ calls → client.answers ≡ answers → client.changes ≡ changes
    → Agrees start (record client { begun = 0 }) → Agrees start (record { number = number; begun = 0; calls = calls; answers = answers; changes = changes })
said start client number calls answers changes a c b d agrees = rw (← a, ← c, ← b, ← d) agrees

said_of_chain : (epoch_end recovery : ℕ) (client : Account) (number : ℕ) (calls : List Call) (answers : List Issued) (changes : List Change) → client.number ≡ number → client.calls ≡ calls → client.answers ≡ answers → client.changes ≡ changes
    → AgreesWithChain epoch_end recovery client → AgreesWithChain epoch_end recovery (record { number = number; begun = 0; calls = calls; answers = answers; changes = changes })
said_of_chain epoch_end recovery client number calls answers changes a c b d agrees = rw (← a, ← c, ← b, ← d) (record { own = agrees.own; drawn = agrees.drawn; justified = agrees.justified })

module _ (epoch_end recovery : ℕ) (start : Record) (clients : List Account) (have : HaveNumbers clients) (all : AllByRecursion (MaySettle epoch_end recovery start) clients) where
  calls_are : (k : ℕ) (client : Account) → slice_get clients k ≡ Some client → client.calls ≡ calls_of (logs_of clients) k
  calls_are k client is = sym (rw (slice_get-map {B = ClientLog} (λ (client : Account). record { calls = client.calls }) clients k, is) refl)

  pub all_agree : AllAgree start (logs_of clients) (map sight clients)
  all_agree k token is =
      let own = at_map sight clients k token is in
      said start own.0 k (calls_of (logs_of clients) k) token.answers token.changes (have k own.0 own.1) (calls_are k own.0 own.1) (ap (λ one. one.answers) own.2) (ap (λ one. one.changes) own.2)
      (at_each (MaySettle epoch_end recovery start) clients k own.0 all own.1).0

  pub all_agree_with_chain : AllAgreeWithChain epoch_end recovery (logs_of clients) (map sight clients)
  all_agree_with_chain k token is =
      let own = at_map sight clients k token is in
      said_of_chain epoch_end recovery own.0 k (calls_of (logs_of clients) k) token.answers token.changes (have k own.0 own.1) (calls_are k own.0 own.1) (ap (λ one. one.answers) own.2) (ap (λ one. one.changes) own.2)
      (at_each (MaySettle epoch_end recovery start) clients k own.0 all own.1).1

-- the clients before a place stand at their numbers
abbrev pub HaveNumbersBelow : ℕ → List Account → Type 0
HaveNumbersBelow place clients = (k : ℕ) (client : Account) → k < place → slice_get clients k ≡ Some client → client.number ≡ k

pub one_in_place : (clients : List Account) (place : ℕ) (here : Account) → slice_get clients place ≡ Some here → here.number ≡ place → HaveNumbersBelow place clients → HaveNumbersBelow (place + 1) clients
one_in_place clients place here at own before k client below is =
    below_more (λ k. (client : Account) → slice_get clients k ≡ Some client → client.number ≡ k) place
    (λ k less client is. before k client less is)
    (λ client is. (let this : here ≡ client = same_Some here client (sym at ∙ is) in ap (λ (one : Account). one.number) (sym this) ∙ own))
    k below client is
