-- What the right to draw and a token are after an answer.
use Rattle.std.proofs.lemmas.Grind.{common_steps}
use Rattle.std.proofs.lemmas.Bool.Decides.{nat_tests}
use Rattle.std.proofs.Common.{◌≡◌, ℕ, ◌+◌, ◌<◌, Bool, true, false, true≢false, List, [], ◌∷◌, ◌++◌, cond, Option, None, Some, Result, Ok, Err, refl, sym, ap, ◌∙◌, subst, arith}
use Rattle.std.specs.Prelude.{IfOk, IsSome, OnErr}
use mathlib.Core.List.{IsPrefix}
use Rattle.fdb_chain.specs.ChainCore.{IsAnswer}
use Rattle.fdb_chain.specs.declared.error.ChainError.{ChainError}
use Rattle.fdb_history.specs.Issuing.{Chain, answer_to, with_answer}
use Rattle.fdb_history.specs.declared.chain.Ask.{Ask}
use Rattle.fdb_history.specs.declared.chain.Issued.{Issued}
use Rattle.fdb_live.specs.Holding.{AreDrawn, IsAsked, answers_to}
use Rattle.fdb_live.specs.Seen.{Sight}
use Rattle.fdb_live.specs.declared.held.Fetched.{Fetched}
use Rattle.fdb_live.specs.declared.view.View.{View}
use Rattle.fdb_live.specs.private.Rule.{Draws, Settles, lowest_of, served, without_lowest}
use Rattle.fdb_live.specs.private.Token.{DrawsAny, IsServed}

pub draws_some : {answer : Issued} {v w : View} {x : Fetched} → Draws answer v x x w → DrawsAny (Some answer) v w
draws_some d = record { is = d.is; chain = d.chain; read = λ _ o e. d.drawn o e }

pub draws_none : {v w : View} {x : Fetched} → Settles v x x w → DrawsAny None v w
draws_none s = record { is = s.is; chain = s.chain; read = λ e. absurd (true≢false (sym e)) }

served_as : (drawn : Option Issued) (right token w : View) → right.chain.draws ≡ true → token.high ≡ token.low + 1 → DrawsAny drawn (served right token) w → IsServed drawn right token (without_lowest w) (lowest_of w)
served_as drawn right token w draws high d = grind (arith, common_steps, nat_tests)

pub served_so : {drawn : Option Issued} {right token given u w right' token' : View} → given ≡ token → u ≡ served right given → right.chain.draws ≡ true → token.high ≡ token.low + 1 → DrawsAny drawn u w → right' ≡ without_lowest w → token' ≡ lowest_of w → IsServed drawn right token right' token'
served_so {drawn} {right} {token} {given} {u} {w} {right'} {token'} gives takes draws high d left split =
    let done : DrawsAny drawn (served right token) w = subst (λ (z : View). DrawsAny drawn z w) (takes ∙ ap (served right) gives) d in
    subst (λ (p : View × View). IsServed drawn right token p.0 p.1) (λ i. (sym left i, sym split i)) (served_as drawn right token w draws high done)

-- a chain that began so, after an answer
with_answer_is : (begun : Chain) (answers : List Issued) (issued : Issued) (b : Bool) → record begun { answers = (cond b (record begun { answers = answers ++ issued ∷ [] }) (record begun { answers = answers })).answers } ≡ cond b (record begun { answers = answers ++ issued ∷ [] }) (record begun { answers = answers })
with_answer_is begun answers issued true = refl
with_answer_is begun answers issued false = refl

module _ (begun core next : Chain) (ask : Ask) (drawn : Option Issued) (right token right' token' : View) (served : IsServed drawn right token right' token') where
  -- what the chain and both passes were, and what they are
  pub record Stands : Type 0 where
    pub core_is : core ≡ record begun { answers = core.answers }
    pub before : right.chain.seen ≡ core.answers
    pub after : right'.chain.seen ≡ next.answers
    pub low : token.low ≡ ask.proxy
    pub settled : token.chain.mine ≡ token.chain.seen
    pub opened : 0 < token.reporters
    pub chained : IsSome token.epoch

  abbrev old_of : Option ℕ → Sight
  old_of number = record { reporter = number; changes = token.seen; answers = token.chain.seen }

  abbrev new_of : Option ℕ → Sight
  new_of number = record { reporter = number; changes = token'.seen; answers = token'.chain.seen }

  is_next : Stands → token'.chain.seen ≡ next.answers
  is_next s = ap (λ (v : View). v.chain.seen) served.is ∙ s.after

  pub asked_as : (result : Result Issued ChainError) (number : Option ℕ) → Stands → IsAnswer (answer_to core ask) result → IfOk result (λ issued. next ≡ with_answer core issued) → OnErr result (next ≡ core) → IfOk result (λ issued. issued.fresh ≡ true → drawn ≡ Some issued)
      → IsAsked begun ask (old_of number) result (new_of number)
  asked_as result number s answer ok err draws = record {
    before = core.answers;
    seen = subst (IsPrefix token.chain.seen) s.before served.extends;
    own = subst (λ (p : ℕ × List Issued). answers_to p.0 p.1 ≡ answers_to p.0 token.chain.seen) (λ i. (s.low i, s.before i)) (served.own ∙ ap (answers_to token.low) s.settled);
    answer = subst (λ (c : Chain). IsAnswer (answer_to c ask) result) s.core_is answer;
    ok = goes_on result ok;
    err = stays result err;
    read = reads result draws;
  }
    where
      goes_on : (r : Result Issued ChainError) → IfOk r (λ issued. next ≡ with_answer core issued) → IfOk r (λ issued. record begun { answers = token'.chain.seen } ≡ with_answer (record begun { answers = core.answers }) issued)
      goes_on (Ok issued) is =
          let same : next ≡ with_answer (record begun { answers = core.answers }) issued = is ∙ ap (λ (c : Chain). with_answer c issued) s.core_is in
          ap (λ (l : List Issued). record begun { answers = l }) (is_next s ∙ ap (λ (c : Chain). c.answers) same) ∙ with_answer_is begun core.answers issued issued.fresh
      goes_on (Err cause) is = tt

      stays : (r : Result Issued ChainError) → OnErr r (next ≡ core) → OnErr r (token'.chain.seen ≡ core.answers)
      stays (Ok issued) is = tt
      stays (Err cause) is = is_next s ∙ ap (λ (c : Chain). c.answers) is

      reads : (r : Result Issued ChainError) → IfOk r (λ issued. issued.fresh ≡ true → drawn ≡ Some issued) → IfOk r (λ issued. issued.fresh ≡ true → AreDrawn core.answers token.seen)
      reads (Ok issued) is = λ fresh. subst (λ (l : List Issued). AreDrawn l token.seen) s.before (served.read (subst IsSome (sym (is fresh)) refl) s.opened s.chained)
      reads (Err cause) is = tt
