-- The laws of answers: what is kept, and that requests make a chain.
use Rattle.std.proofs.Common.{◌≡◌, ℕ, zero, suc, ◌+◌, ◌-◌, ◌<◌, ◌≤◌, Bool, true, false, cond, not, ◌&&◌, List, [], ◌∷◌, ◌++◌, reverse, length, take, slice_get, Option, Some, None, Ok, Err, refl, sym, ap, ◌∙◌, subst, le_refl, arith, eqb, ltb, leb, eqb-true, find}
use Rattle.std.proofs.lemmas.Grind.{common_steps}
use Rattle.std.proofs.lemmas.Bool.{cond-true, cond-false, and_parts, false_from_ne_true}
use Rattle.std.proofs.lemmas.Bool.Decides.{nat_tests}
use Rattle.std.proofs.lemmas.Option.{same_Some, none-some, slice_get_within, slice_get-get_or, get_or_from_slice_get}
use Rattle.std.proofs.lemmas.List.{append-nil, append_assoc, get_or-reverse, length-reverse, take_at, take_all}
use Rattle.std.proofs.lemmas.List.Sums.{sum_by-cons}
use Rattle.fdb_history.specs.Chain.{latest, IsChain}
use Rattle.fdb_history.specs.Issuing.{Chain, kept_among, kept, next_answer, kept_answer, answer_to, chain_after, after_asks}
use Rattle.fdb_history.specs.declared.chain.Ask.{Ask}
use Rattle.fdb_history.specs.declared.chain.Issued.{Issued}
use Rattle.fdb_history.specs.declared.log.Refusal.TheVariants.{UnknownProxy, Early, Exhausted}
use Rattle.fdb_history.specs.declared.register.TheConstants.{MAX_VERSION}
use Rattle.fdb_history.proofs.chains.ChainLaws.{IsNext-at, GoesOn-push}

-- whether an answer is the one of this proxy with this number
abbrev pub is_for : ℕ → ℕ → Issued → Bool
is_for proxy num answer = eqb answer.proxy proxy && eqb answer.num num

-- What the search through the answers finds stands among them, and is what was looked for.
pub record Found (proxy num : ℕ) (answers : List Issued) (answer : Issued) : Type 0 where
  pub place : ℕ
  pub at : slice_get answers place ≡ Some answer
  pub is : is_for proxy num answer ≡ true

found-later : {proxy num : ℕ} {older : List Issued} {answer : Issued} (first : Issued) → Found proxy num older answer → Found proxy num (first ∷ older) answer
found-later first found = record { place = suc found.place; at = found.at; is = found.is }

among-step : (proxy num : ℕ) (first answer : Issued) (older : List Issued) (hit processed : Bool) → is_for proxy num first ≡ hit → cond hit (Some first) (cond processed None (kept_among proxy num older)) ≡ Some answer → (kept_among proxy num older ≡ Some answer → Found proxy num older answer) → Found proxy num (first ∷ older) answer
among-step proxy num first answer older true processed e found deeper =
    let same = same_Some first answer found in
    record { place = zero; at = found; is = ap (is_for proxy num) (sym same) ∙ e }
among-step proxy num first answer older false true e found deeper = absurd (none-some answer found)
among-step proxy num first answer older false false e found deeper = found-later first (deeper found)

kept_among-found : (proxy num : ℕ) (answers : List Issued) (answer : Issued) → kept_among proxy num answers ≡ Some answer → Found proxy num answers answer
kept_among-found proxy num [] answer found = absurd (none-some answer found)
kept_among-found proxy num (first ∷ older) answer found =
    among-step proxy num first answer older (is_for proxy num first) (eqb first.proxy proxy && leb num first.processed) refl found (kept_among-found proxy num older answer)

-- The kept answer stands in the list, and is of the proxy with the number.
pub kept-found : (proxy num : ℕ) (answers : List Issued) (answer : Issued) → kept proxy num answers ≡ Some answer → Found proxy num answers answer
kept-found proxy num answers answer found =
    let in' = kept_among-found proxy num (reverse answers) answer found in
    let within = slice_get_within (reverse answers) in'.place answer in'.at in
    let within' : in'.place < length answers = omega (arith, length-reverse answers) in
    let is = sym (get_or_from_slice_get (reverse answers) in'.place answer answer in'.at) ∙ get_or-reverse answers in'.place answer within' in
    record {
      place = length answers - 1 - in'.place;
      at = slice_get-get_or answers (length answers - 1 - in'.place) answer (omega arith) ∙ ap Some (sym is);
      is = in'.is;
    }

pub kept-is : (answers : List Issued) (proxy num : ℕ) (answer : Issued) → kept proxy num answers ≡ Some answer → (answer.proxy ≡ proxy) × (answer.num ≡ num)
kept-is answers proxy num answer found =
    let both = and_parts (eqb answer.proxy proxy) (eqb answer.num num) (kept-found proxy num answers answer found).is in
    (eqb-true answer.proxy proxy both.0, eqb-true answer.num num both.1)

-- how many answers of a proxy one answer is
abbrev one_of : ℕ → Issued → ℕ
one_of proxy answer = cond (eqb answer.proxy proxy) 1 0

latest-cons : (proxy : ℕ) (answer : Issued) (answers : List Issued) → latest proxy (answer ∷ answers) ≡ one_of proxy answer + latest proxy answers
latest-cons proxy = sum_by-cons (one_of proxy)

-- From an answer of a proxy on, there is one more of that proxy than before it.
latest-beyond : (proxy : ℕ) (answers : List Issued) (j k : ℕ) (earlier : Issued) → slice_get answers j ≡ Some earlier → earlier.proxy ≡ proxy → j < k → latest proxy (take j answers) < latest proxy (take k answers)
latest-beyond proxy [] j k earlier at is order = absurd (none-some earlier at)
latest-beyond proxy (first ∷ answers) j zero earlier at is order = absurd (omega arith)
latest-beyond proxy (first ∷ answers) zero (suc k) earlier at is order = grind (arith, common_steps, nat_tests)
latest-beyond proxy (first ∷ answers) (suc j) (suc k) earlier at is order =
    let order' : j < k = omega arith in
    let deeper = latest-beyond proxy answers j k earlier at is order' in
    let one = latest-cons proxy first (take j answers) in
    let other = latest-cons proxy first (take k answers) in
    omega arith

-- the first element that passes a test
find-first : {X : Type 0} (test : X → Bool) (xs : List X) (place : ℕ) (x : X) → slice_get xs place ≡ Some x → test x ≡ true → ((k : ℕ) (y : X) → k < place → slice_get xs k ≡ Some y → test y ≡ false) → find test xs ≡ Some x
find-first test [] place x at passes none = absurd (none-some x at)
find-first test (y ∷ ys) zero x at passes none =
    cond-true (test y) (Some y) (find test ys) (ap test (same_Some y x at) ∙ passes) ∙ at
find-first test (y ∷ ys) (suc place) x at passes none =
    cond-false (test y) (Some y) (find test ys) (none zero y (omega arith) refl)
    ∙ find-first test ys place x at passes (λ k z below here. none (suc k) z (omega arith) here)

-- In a chain no answer before one of a proxy has its number.
none-before : (epoch_end recovery : ℕ) (answers : List Issued) (proxy num : ℕ) (place : ℕ) (answer : Issued) → IsChain epoch_end recovery answers → slice_get answers place ≡ Some answer → answer.proxy ≡ proxy → answer.num ≡ num → (k : ℕ) (earlier : Issued) → k < place → slice_get answers k ≡ Some earlier → is_for proxy num earlier ≡ false
none-before epoch_end recovery answers proxy num place answer chain at of' under k earlier order here =
    false_from_ne_true (is_for proxy num earlier) (λ hit.
    let both = and_parts (eqb earlier.proxy proxy) (eqb earlier.num num) hit in
    let of'' = eqb-true earlier.proxy proxy both.0 in
    let under' = eqb-true earlier.num num both.1 in
    let own = (IsNext-at epoch_end recovery answers place answer chain at).num ∙ ap (λ p. latest p (take place answers) + 1) of' in
    let its = (IsNext-at epoch_end recovery answers k earlier chain here).num ∙ ap (λ p. latest p (take k answers) + 1) of'' in
    let more = latest-beyond proxy answers k place earlier here of'' order in
    omega arith)

pub kept-first : (epoch_end recovery : ℕ) (answers : List Issued) (proxy num : ℕ) (answer : Issued) → IsChain epoch_end recovery answers → kept proxy num answers ≡ Some answer → find (is_for proxy num) answers ≡ Some answer
kept-first epoch_end recovery answers proxy num answer chain found =
    let in' = kept-found proxy num answers answer found in
    let is = kept-is answers proxy num answer found in
    find-first (is_for proxy num) answers in'.place answer in'.at in'.is
    (none-before epoch_end recovery answers proxy num in'.place answer chain in'.at is.0 is.1)

-- A kept number is none beyond the latest one.
kept-latest : (epoch_end recovery : ℕ) (answers : List Issued) (proxy num : ℕ) (answer : Issued) → IsChain epoch_end recovery answers → kept proxy num answers ≡ Some answer → num ≤ latest proxy answers
kept-latest epoch_end recovery answers proxy num answer chain found =
    let in' = kept-found proxy num answers answer found in
    let is = kept-is answers proxy num answer found in
    let own = (IsNext-at epoch_end recovery answers in'.place answer chain in'.at).num ∙ ap (λ p. latest p (take in'.place answers) + 1) is.0 in
    let within = slice_get_within answers in'.place answer in'.at in
    let more = latest-beyond proxy answers in'.place (length answers) answer in'.at is.0 within in
    let all = ap (latest proxy) (take_all (length answers) answers (le_refl (length answers))) in
    omega arith

pub repeated-kept : (chain : Chain) (ask : Ask) (answer : Issued) → IsChain chain.epoch_end chain.recovery chain.answers → ask.proxy < chain.proxies → kept ask.proxy ask.num chain.answers ≡ Some answer → answer_to chain ask ≡ Ok (record answer { fresh = false })
repeated-kept chain ask answer is known found =
    let old = kept-latest chain.epoch_end chain.recovery chain.answers ask.proxy ask.num answer is found in
    let again : answer_to chain ask ≡ kept_answer (kept ask.proxy ask.num chain.answers) = grind (arith, nat_tests) in
    again ∙ ap kept_answer found

-- the chain with one more answer
abbrev with_next : Chain → Ask → Chain
with_next chain ask = record chain { answers = chain.answers ++ next_answer chain ask ∷ [] }

kept-leaves : (P : Chain → Type 0) (chain : Chain) (found : Option Issued) → P chain → P (chain_after chain (kept_answer found))
kept-leaves P chain None is = is
kept-leaves P chain (Some answer) is = is

-- what a request leaves, by the tests that decide its answer
leaves-by : (P : Chain → Type 0) (chain : Chain) (ask : Ask) (unknown early old room : Bool) → ltb (latest ask.proxy chain.answers + 1) ask.num ≡ early → leb ask.num (latest ask.proxy chain.answers) ≡ old → leb (next_answer chain ask).version MAX_VERSION ≡ room → P chain → (ask.num ≡ latest ask.proxy chain.answers + 1 → (next_answer chain ask).version ≤ MAX_VERSION → P (with_next chain ask)) → P (chain_after chain (cond unknown (Err UnknownProxy) (cond early (Err (Early (latest ask.proxy chain.answers + 1))) (cond old (kept_answer (kept ask.proxy ask.num chain.answers)) (cond room (Ok (next_answer chain ask)) (Err Exhausted))))))
leaves-by P chain ask true early old room e o r is grows = is
leaves-by P chain ask false true old room e o r is grows = is
leaves-by P chain ask false false true room e o r is grows = kept-leaves P chain (kept ask.proxy ask.num chain.answers) is
leaves-by P chain ask false false false false e o r is grows = is
leaves-by P chain ask false false false true e o r is grows = grind (arith, common_steps, nat_tests)

-- A request leaves the chain as it was, or with the next answer, which has the next number of its proxy and is in range.
pub request-leaves : (P : Chain → Type 0) (chain : Chain) (ask : Ask) → P chain → (ask.num ≡ latest ask.proxy chain.answers + 1 → (next_answer chain ask).version ≤ MAX_VERSION → P (with_next chain ask)) → P (chain_after chain (answer_to chain ask))
request-leaves P chain ask =
    leaves-by P chain ask (not (ltb ask.proxy chain.proxies)) (ltb (latest ask.proxy chain.answers + 1) ask.num) (leb ask.num (latest ask.proxy chain.answers)) (leb (next_answer chain ask).version MAX_VERSION) refl refl refl

pub IsChain-step : (chain : Chain) (ask : Ask) → IsChain chain.epoch_end chain.recovery chain.answers → IsChain chain.epoch_end chain.recovery (chain_after chain (answer_to chain ask)).answers
IsChain-step chain ask is =
    request-leaves (λ after. IsChain chain.epoch_end chain.recovery after.answers) chain ask is (λ num in_range.
    GoesOn-push chain.epoch_end chain.recovery [] chain.answers (next_answer chain ask) is
    (record { fresh = refl; ordinal = refl; num = num; prev = refl; version = refl; in_range = in_range }))

-- A request changes no more of a chain than its answers.
step-stays : (chain : Chain) (ask : Ask) → chain_after chain (answer_to chain ask) ≡ record chain { answers = (chain_after chain (answer_to chain ask)).answers }
step-stays chain ask = request-leaves (λ after. after ≡ record chain { answers = after.answers }) chain ask refl (λ num in_range. refl)

pub asks-stay : (chain : Chain) (asks : List Ask) → after_asks chain asks ≡ record chain { answers = (after_asks chain asks).answers }
asks-stay chain [] = refl
asks-stay chain (ask ∷ asks) =
    let after = chain_after chain (answer_to chain ask) in
    asks-stay after asks ∙ ap (λ (c : Chain). record c { answers = (after_asks after asks).answers }) (step-stays chain ask)

pub IsChain-asks : (chain : Chain) (asks : List Ask) → IsChain chain.epoch_end chain.recovery chain.answers → IsChain chain.epoch_end chain.recovery (after_asks chain asks).answers
IsChain-asks chain [] is = is
IsChain-asks chain (ask ∷ asks) is =
    let after = chain_after chain (answer_to chain ask) in
    let is' = subst (λ (c : Chain). IsChain c.epoch_end c.recovery after.answers) (sym (step-stays chain ask)) (IsChain-step chain ask is) in
    subst (λ (c : Chain). IsChain c.epoch_end c.recovery (after_asks after asks).answers) (step-stays chain ask) (IsChain-asks after asks is')

pub IsChain-from_nothing : (chain : Chain) (asks : List Ask) → chain.answers ≡ [] → IsChain chain.epoch_end chain.recovery (after_asks chain asks).answers
IsChain-from_nothing chain asks none =
    IsChain-asks chain asks (subst (IsChain chain.epoch_end chain.recovery) (sym none) tt)

-- requests add to the answers, and leave those that were given
asks-add : (chain : Chain) (asks : List Ask) → (more : List Issued) × ((after_asks chain asks).answers ≡ chain.answers ++ more)
asks-add chain [] = ([], sym (append-nil chain.answers))
asks-add chain (ask ∷ asks) =
    let after = chain_after chain (answer_to chain ask) in
    let P : Chain → Type 0 = λ c. (more : List Issued) × (c.answers ≡ chain.answers ++ more) in
    let first = request-leaves P chain ask ([], sym (append-nil chain.answers)) (λ num in_range. (next_answer chain ask ∷ [], refl)) in
    let rest = asks-add after asks in
    (first.0 ++ rest.0, rest.1 ∙ (ap (λ answers. answers ++ rest.0) first.1 ∙ append_assoc chain.answers first.0 rest.0))

pub asks-keep : (chain : Chain) (asks : List Ask) → take (length chain.answers) (after_asks chain asks).answers ≡ chain.answers
asks-keep chain asks =
    let added = asks-add chain asks in
    rw added.1 (take_at chain.answers added.0 (length chain.answers) refl)
