-- What is kept of the chain after an ask, beside the pass that has drawn the answer.
use Rattle.std.proofs.Common.{◌≡◌, ℕ, ◌<◌, Bool, true, false, List, [], ◌∷◌, ◌++◌, All, cond, Option, None, Some, Result, Ok, Err, refl, sym, ap, ◌∙◌, subst}
use Rattle.std.specs.Prelude.{IfOk, IsSome, OnErr}
use Rattle.std.specs.Option.{ForSome}
use Rattle.std.proofs.lemmas.List.Elements.{All-push}
use Rattle.fdb_chain.specs.ChainCore.{IsAnswer, IsFor, chain_of, new_chain}
use Rattle.fdb_chain.specs.Recent.{Recent, IsStateOf}
use Rattle.fdb_chain.specs.declared.error.ChainError.{ChainError}
use Rattle.fdb_history.specs.Chain.{IsChain}
use Rattle.fdb_history.specs.Issuing.{Chain, answer_to, with_answer}
use Rattle.fdb_history.specs.declared.chain.Ask.{Ask}
use Rattle.fdb_history.specs.declared.chain.Issued.{Issued}
use Rattle.fdb_live.specs.Holding.{IsAsked}
use Rattle.fdb_live.specs.declared.view.View.{View}
use Rattle.fdb_live.specs.private.Token.{IsDrawer, IsServed, and_then, drawn_of}
use Rattle.fdb_live.proofs.Serving.{asked_as}

module _ (epoch_end recovery proxies : ℕ) (state after : Recent) (ask : Ask) (result : Result Issued ChainError) where
  abbrev pub begun : List Issued → Chain
  begun answers = chain_of epoch_end recovery proxies answers

  -- what an ask of the chain says
  pub record Says : Type 0 where
    pub answer : (chain : Chain) → IsStateOf state chain → IsAnswer (answer_to chain ask) result
    pub ok : IfOk result (λ issued. (chain : Chain) → IsStateOf state chain → IsStateOf after (with_answer chain issued))
    pub err : OnErr result (after ≡ state)
    pub one_chain : IfOk result (λ issued. (chain : Chain) → IsStateOf state chain → IsChain chain.epoch_end chain.recovery chain.answers → IsChain chain.epoch_end chain.recovery (with_answer chain issued).answers)
    pub request : IfOk result (IsFor ask)

  -- the chain with what is drawn is the one after the answer
  with-is : (answers : List Issued) (issued : Issued) (b : Bool) → begun (and_then answers (cond b (Some issued) None)) ≡ cond b (record (begun answers) { answers = answers ++ issued ∷ [] }) (begun answers)
  with-is answers issued true = refl
  with-is answers issued false = refl

  next-is : (answers : List Issued) (r : Result Issued ChainError) → IfOk r (λ issued. begun (and_then answers (drawn_of r)) ≡ with_answer (begun answers) issued)
  next-is answers (Ok issued) = with-is answers issued issued.fresh
  next-is answers (Err cause) = tt

  next-err : (answers : List Issued) (r : Result Issued ChainError) → OnErr r (begun (and_then answers (drawn_of r)) ≡ begun answers)
  next-err answers (Ok issued) = tt
  next-err answers (Err cause) = refl

  -- what is kept stands for it
  stands-next : (answers : List Issued) (r : Result Issued ChainError) → IsStateOf state (begun answers) → IfOk r (λ issued. (chain : Chain) → IsStateOf state chain → IsStateOf after (with_answer chain issued)) → OnErr r (after ≡ state) → IsStateOf after (begun (and_then answers (drawn_of r)))
  stands-next answers (Ok issued) is ok err = subst (IsStateOf after) (sym (next-is answers (Ok issued))) (ok (begun answers) is)
  stands-next answers (Err cause) is ok err = rw err is

  chain-next : (answers : List Issued) (r : Result Issued ChainError) → IsStateOf state (begun answers) → IsChain epoch_end recovery answers → IfOk r (λ issued. (chain : Chain) → IsStateOf state chain → IsChain chain.epoch_end chain.recovery chain.answers → IsChain chain.epoch_end chain.recovery (with_answer chain issued).answers) → IsChain epoch_end recovery (and_then answers (drawn_of r))
  chain-next answers (Ok issued) is one goes = subst (λ (chain : Chain). IsChain epoch_end recovery chain.answers) (sym (next-is answers (Ok issued))) (goes (begun answers) is one)
  chain-next answers (Err cause) is one goes = one

  asked-next : (answers : List Issued) (r : Result Issued ChainError) → ask.proxy < proxies → IfOk r (IsFor ask) → All (λ answer. answer.proxy < proxies) answers → All (λ answer. answer.proxy < proxies) (and_then answers (drawn_of r))
  asked-next answers (Ok issued) known request all = go issued.fresh
    where
      go : (b : Bool) → All (λ answer. answer.proxy < proxies) (and_then answers (cond b (Some issued) None))
      go true = All-push (λ answer. answer.proxy < proxies) answers issued all (rw request.proxy known)
      go false = all
  asked-next answers (Err cause) known request all = all

  drawn-fresh : (r : Result Issued ChainError) → IfOk r (λ issued. issued.fresh ≡ true → drawn_of r ≡ Some issued)
  drawn-fresh (Ok issued) = λ fresh. ap (λ b. cond b (Some issued) None) fresh
  drawn-fresh (Err cause) = tt

  module _ (drawn : Option Issued) (right token right' token' : View) (is_drawn : drawn ≡ drawn_of result) (says : Says) (held : IsDrawer epoch_end recovery proxies state right) where
    -- the answers after it are one chain
    pub goes_on : IsChain epoch_end recovery (and_then right.chain.seen drawn)
    goes_on = subst (λ o. IsChain epoch_end recovery (and_then right.chain.seen o)) (sym is_drawn) (chain-next right.chain.seen result held.stands held.one_chain says.one_chain)

    pub legal : ForSome drawn (λ answer. IsChain epoch_end recovery (right.chain.seen ++ answer ∷ []))
    legal = λ answer at. subst (λ o. IsChain epoch_end recovery (and_then right.chain.seen o)) at goes_on

    pub drawer-after : ask.proxy < proxies → IsServed drawn right token right' token' → IsDrawer epoch_end recovery proxies after right'
    drawer-after known served =
        let seen : right'.chain.seen ≡ and_then right.chain.seen (drawn_of result) = served.seen ∙ ap (and_then right.chain.seen) is_drawn in
        record {
          draws = served.draws;
          stands = subst (λ l. IsStateOf after (begun l)) (sym seen) (stands-next right.chain.seen result held.stands says.ok says.err);
          one_chain = subst (IsChain epoch_end recovery) (sym seen) (chain-next right.chain.seen result held.stands held.one_chain says.one_chain);
          asked = subst (All (λ answer. answer.proxy < proxies)) (sym seen) (asked-next right.chain.seen result known says.request held.asked);
        }

    pub token-chain : IsServed drawn right token right' token' → IsChain epoch_end recovery token'.chain.seen
    token-chain served = subst (IsChain epoch_end recovery) (sym (ap (λ (v : View). v.chain.seen) served.is ∙ served.seen)) goes_on

    pub asked-after : (number : Option ℕ) → IsServed drawn right token right' token' → token.low ≡ ask.proxy → token.chain.mine ≡ token.chain.seen → 0 < token.reporters → IsSome token.epoch
        → IsAsked (new_chain epoch_end recovery proxies) ask (record { reporter = number; changes = token.seen; answers = token.chain.seen }) result (record { reporter = number; changes = token'.seen; answers = token'.chain.seen })
    asked-after number served low settled opened chained =
        asked_as (new_chain epoch_end recovery proxies) (begun right.chain.seen) (begun (and_then right.chain.seen (drawn_of result))) ask drawn right token right' token' served result number
        (record { core_is = refl; before = refl; after = served.seen ∙ ap (and_then right.chain.seen) is_drawn; low = low; settled = settled; opened = opened; chained = chained })
        (says.answer (begun right.chain.seen) held.stands) (next-is right.chain.seen result) (next-err right.chain.seen result)
        (subst (λ o. IfOk result (λ issued. issued.fresh ≡ true → o ≡ Some issued)) (sym is_drawn) (drawn-fresh result))
