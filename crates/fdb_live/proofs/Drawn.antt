-- Versions that stand in the answers, and the answers to one commit proxy.
use Rattle.std.proofs.Common.{◌≡◌, ◌≢◌, ℕ, ◌==◌, List, [], ◌∷◌, ◌++◌, length, sym, ap, ◌∙◌, subst, arith, length-append}
use Rattle.std.specs.Prelude.{All, Contains}
use Rattle.std.proofs.lemmas.Grind.{common_steps}
use Rattle.std.proofs.lemmas.Bool.Decides.{nat_tests}
use Rattle.std.proofs.lemmas.List.{append-nil, map-append, nil_from_length, get_or_append_left}
use Rattle.std.proofs.lemmas.List.Elements.{All-push, All-weaker, Contains-append_left, filter-append}
use mathlib.Core.List.{IsPrefix}
use Rattle.fdb_history.specs.Chain.{GoesOn, IsChain, IsNext}
use Rattle.fdb_history.specs.declared.chain.Issued.{Issued}
use Rattle.fdb_live.specs.Holding.{AreDrawn, answers_to, own_answers, versions}
use Rattle.fdb_live.specs.Seen.{Sight}
use Rattle.fdb_live.specs.declared.view.Change.{Change}

pub versions-append : (xs ys : List Issued) → versions (xs ++ ys) ≡ versions xs ++ versions ys
versions-append xs ys = map-append (λ (answer : Issued). answer.version) xs ys

pub version_stays : (xs ys : List Issued) (version : ℕ) → IsPrefix xs ys → Contains (versions xs) version → Contains (versions ys) version
version_stays xs ys version p has =
    subst (λ l. Contains l version) (sym (versions-append xs p.0) ∙ ap versions p.1) (Contains-append_left (versions xs) (versions p.0) version has)

pub all_begins : {X : Type 0} (P : X → Type 0) (xs ys : List X) → IsPrefix xs ys → All P ys → All P xs
all_begins P xs ys p all k d lt =
    let long = length-append xs p.0 in
    subst P (get_or_append_left xs p.0 d k lt) (subst (All P) (sym p.1) all k d (omega arith))

pub drawn_more : (xs ys : List Issued) (changes : List Change) → IsPrefix xs ys → AreDrawn xs changes → AreDrawn ys changes
drawn_more xs ys changes p all =
    All-weaker (λ (change : Change). Contains (versions xs) change.rec.version) (λ change. Contains (versions ys) change.rec.version) (λ change has. version_stays xs ys change.rec.version p has) changes all

pub drawn_fewer : (xs : List Issued) (these those : List Change) → IsPrefix these those → AreDrawn xs those → AreDrawn xs these
drawn_fewer xs these those p all = all_begins (λ (change : Change). Contains (versions xs) change.rec.version) these those p all

pub drawn_push : (xs : List Issued) (changes : List Change) (change : Change) → AreDrawn xs changes → Contains (versions xs) change.rec.version → AreDrawn xs (changes ++ change ∷ [])
drawn_push xs changes change all has = All-push (λ (c : Change). Contains (versions xs) c.rec.version) changes change all has

pub answers_to-append : (n : ℕ) (xs ys : List Issued) → answers_to n (xs ++ ys) ≡ answers_to n xs ++ answers_to n ys
answers_to-append n xs ys = filter-append (λ (answer : Issued). answer.proxy == n) xs ys

pub answers_to-push_own : (n : ℕ) (xs : List Issued) (answer : Issued) → answer.proxy ≡ n → answers_to n (xs ++ answer ∷ []) ≡ answers_to n xs ++ answer ∷ []
answers_to-push_own n xs answer own = grind (arith, common_steps, nat_tests)

pub answers_to-push_other : (n : ℕ) (xs : List Issued) (answer : Issued) → answer.proxy ≢ n → answers_to n (xs ++ answer ∷ []) ≡ answers_to n xs
answers_to-push_other n xs answer other = grind (arith, common_steps, nat_tests)

nothing_more : (ms bs cs : List Issued) → ms ≡ (ms ++ bs) ++ cs → ms ≡ ms ++ bs
nothing_more ms bs cs e =
    let long = ap length e in
    let none : bs ≡ [] = nil_from_length bs (omega (arith, long, length-append (ms ++ bs) cs, length-append ms bs)) in
    sym (ap (λ l. ms ++ l) none ∙ append-nil ms)

-- where the whole has no more of a number than the least, what is between has none either
pub answers_to-between : (n : ℕ) (xs ys zs : List Issued) → IsPrefix xs ys → IsPrefix ys zs → answers_to n xs ≡ answers_to n zs → answers_to n xs ≡ answers_to n ys
answers_to-between n xs ys zs p q e =
    let inner = ap (answers_to n) (sym p.1) ∙ answers_to-append n xs p.0 in
    let outer = ap (answers_to n) (sym q.1) ∙ answers_to-append n ys q.0 in
    nothing_more _ _ _ (e ∙ (outer ∙ ap (λ l. l ++ answers_to n q.0) inner)) ∙ sym inner

-- what begins a chain is a chain
goes_on_begins : (before_epoch recovery : ℕ) (before xs ys : List Issued) → GoesOn before_epoch recovery before (xs ++ ys) → GoesOn before_epoch recovery before xs
goes_on_begins before_epoch recovery before [] ys g = tt
goes_on_begins before_epoch recovery before (x ∷ xs) ys g = (g.0, goes_on_begins before_epoch recovery (before ++ x ∷ []) xs ys g.1)

pub chain_begins : (before_epoch recovery : ℕ) (xs ys : List Issued) → IsPrefix xs ys → IsChain before_epoch recovery ys → IsChain before_epoch recovery xs
chain_begins before_epoch recovery xs ys p chain = goes_on_begins before_epoch recovery [] xs p.0 (subst (IsChain before_epoch recovery) (sym p.1) chain)

-- A fresh answer is the next one after all that had been answered by then, which is all that its
-- asker had seen and maybe more. It is the last that the asker has now seen, and the one that became
-- its own. The versions that it had read were all drawn before.
pub record IsDrawn (epoch_end recovery : ℕ) (issued : Issued) (old new : Sight) : Type 0 where
  pub before : List Issued
  pub seen : IsPrefix old.answers before
  pub next : IsNext epoch_end recovery before issued
  pub last : new.answers ≡ before ++ issued ∷ []
  pub own : own_answers new ≡ own_answers old ++ issued ∷ []
  pub read : AreDrawn before old.changes
