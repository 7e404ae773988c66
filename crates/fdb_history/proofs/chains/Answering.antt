-- What the definition answers a request is justified by each chain that goes on from the answer.
use Rattle.std.proofs.Common.{◌≡◌, ℕ, ◌+◌, ◌-◌, ◌<◌, ◌≤◌, ◌==◌, ◌&&◌, not, Bool, true, false, cond, List, [], ◌∷◌, ◌++◌, length, reverse, filter, Option, None, Some, Result, Ok, Err, refl, sym, ap, ◌∙◌, arith, inl, inr, ◌⊎◌, slice_get, get_or, subst, append-nil}
use Rattle.std.specs.Prelude.{nat_le, nat_lt}
use Rattle.std.specs.Option.{option_map_or}
use Rattle.std.proofs.lemmas.Bool.{and_parts, cases_lt, eq-eqb}
use Rattle.std.proofs.lemmas.Bool.Decides.{nat_tests}
use Rattle.std.proofs.lemmas.List.{length-append, length-take-le, reverse-append}
use Rattle.std.proofs.lemmas.List.Elements.{filter-append}
use Rattle.std.proofs.lemmas.List.Sums.{length-filter}
use Rattle.std.proofs.lemmas.Option.{get_or_from_slice_get, none-some, slice_get_within, slice_get-get_or}
use mathlib.Core.Bool.{beq}
use mathlib.Core.List.{IsPrefix}
use Rattle.fdb_history.specs.Chain.{IsChain, last_answer, latest, step, version_after}
use Rattle.fdb_history.specs.Issuing.{Chain, answer_to, by_number, chain_after, fresh_answer, kept, kept_among, kept_answer, next_answer}
use Rattle.fdb_history.specs.Log.{fresh_answers}
use Rattle.fdb_history.specs.Strays.{goes_with, is_again, is_due, is_early, is_fresh_answer, is_justified, is_near_the_end, is_of_chain, is_same, logged_as}
use Rattle.fdb_history.specs.declared.chain.Ask.{Ask}
use Rattle.fdb_history.specs.declared.chain.Issued.{Issued}
use Rattle.fdb_history.specs.declared.chain.TheConstants.{MAX_STEP}
use Rattle.fdb_history.specs.declared.log.Call.{Call}
use Rattle.fdb_history.specs.declared.log.CallAnswer.{CallAnswer}
use Rattle.fdb_history.specs.declared.log.Input.{Input}
use Rattle.fdb_history.specs.declared.log.Input.TheVariants as input
use Rattle.fdb_history.specs.declared.log.Refusal.{Refusal}
use Rattle.fdb_history.specs.declared.log.Refusal.TheVariants.{Early, Exhausted, UnknownProxy}
use Rattle.fdb_history.specs.declared.register.TheConstants.{MAX_VERSION}
use Rattle.fdb_history.proofs.Lists.{slice_get-append_left, slice_get-append_seam}
use Rattle.fdb_history.proofs.chains.AnswerLaws.{kept-found, kept-is}
use Rattle.fdb_history.proofs.chains.ChainLaws.{IsNext-at, versions-AllPairs}

-- ---- a proxy's own answers

abbrev answers_to : ℕ → List Issued → List Issued
answers_to n xs = filter (λ answer. answer.proxy == n) xs

own_own : (n : ℕ) (xs : List Issued) → answers_to n (answers_to n xs) ≡ answers_to n xs
own_own n [] = refl
own_own n (x ∷ xs) = go (own_own n xs) (x.proxy == n) refl
  where
    go : answers_to n (answers_to n xs) ≡ answers_to n xs → (b : Bool) → (x.proxy == n) ≡ b → answers_to n (cond b (x ∷ answers_to n xs) (answers_to n xs)) ≡ cond b (x ∷ answers_to n xs) (answers_to n xs)
    go rest true e = rw e (ap (λ l. x ∷ l) rest)
    go rest false e = rest

pub latest_own : (n : ℕ) (xs : List Issued) → latest n (answers_to n xs) ≡ latest n xs
latest_own n xs =
    sym (length-filter (λ answer. answer.proxy == n) (answers_to n xs)) ∙ (ap length (own_own n xs) ∙ length-filter (λ answer. answer.proxy == n) xs)

among_own : (n num : ℕ) (xs : List Issued) → kept_among n num xs ≡ kept_among n num (answers_to n xs)
among_own n num [] = refl
among_own n num (x ∷ xs) = go (among_own n num xs) (x.proxy == n) refl
  where
    go : kept_among n num xs ≡ kept_among n num (answers_to n xs) → (b : Bool) → (x.proxy == n) ≡ b → cond (b && (x.num == num)) (Some x) (cond (b && nat_le num x.processed) None (kept_among n num xs)) ≡ kept_among n num (cond b (x ∷ answers_to n xs) (answers_to n xs))
    go rest true e = rw e (ap (λ o. cond (x.num == num) (Some x) (cond (nat_le num x.processed) None o)) rest)
    go rest false e = rest

own_reverse : (n : ℕ) (xs : List Issued) → answers_to n (reverse xs) ≡ reverse (answers_to n xs)
own_reverse n [] = refl
own_reverse n (x ∷ xs) = ap (answers_to n) (reverse-append (x ∷ []) xs) ∙ (filter-append (λ (answer : Issued). answer.proxy == n) (reverse xs) (x ∷ []) ∙ (ap (λ l. l ++ answers_to n (x ∷ [])) (own_reverse n xs) ∙ go (x.proxy == n)))
  where
    go : (b : Bool) → reverse (answers_to n xs) ++ cond b (x ∷ []) [] ≡ reverse (cond b (x ∷ answers_to n xs) (answers_to n xs))
    go true = sym (reverse-append (x ∷ []) (answers_to n xs))
    go false = append-nil _

pub kept_own : (n num : ℕ) (xs : List Issued) → kept n num (answers_to n xs) ≡ kept n num xs
kept_own n num xs = ap (kept_among n num) (sym (own_reverse n xs)) ∙ sym (among_own n num (reverse xs))

-- ---- tests of what is one with itself

same_number : (n : ℕ) → (n == n) ≡ true
same_number n = eq-eqb n n refl

both : {a b : Bool} → a ≡ true → b ≡ true → (a && b) ≡ true
both e f = rw e f

same_bool : (b : Bool) → beq b b ≡ true
same_bool true = refl
same_bool false = refl

same_answer : (a : Issued) → is_same a a ≡ true
same_answer a = rw (same_number a.ordinal, same_number a.proxy, same_number a.num, same_number a.processed, same_number a.prev, same_number a.version, same_number a.at) (same_bool a.fresh)

-- ---- what stands in a longer chain

get_alike : (xs ys : List Issued) (k : ℕ) (x : Issued) → IsPrefix xs ys → slice_get xs k ≡ Some x → slice_get ys k ≡ Some x
get_alike xs ys k x p is = ap (λ l. slice_get l k) (sym p.1) ∙ (slice_get-append_left xs p.0 k (slice_get_within xs k x is) ∙ is)

-- the entry of a chain at its ordinal is the answer that drew it
stands : (epoch_end recovery : ℕ) (chain : List Issued) (found : Issued) (place : ℕ) → IsChain epoch_end recovery chain → slice_get chain place ≡ Some found → slice_get chain found.ordinal ≡ Some found
stands epoch_end recovery chain found place one at =
    let within = slice_get_within chain place found at in
    let ordinal : found.ordinal ≡ place = (IsNext-at epoch_end recovery chain place found one at).ordinal ∙ length-take-le place chain (omega arith) in
    ap (slice_get chain) ordinal ∙ at

pub kept_stands : (epoch_end recovery : ℕ) (answers : List Issued) (proxy num : ℕ) (answer : Issued) → IsChain epoch_end recovery answers → kept proxy num answers ≡ Some answer → slice_get answers answer.ordinal ≡ Some answer
kept_stands epoch_end recovery answers proxy num answer one found =
    let there = kept-found proxy num answers answer found in
    stands epoch_end recovery answers answer there.place one there.at

-- the last answer of a longer chain has no lower version
last_grows : (epoch_end recovery : ℕ) (xs ys : List Issued) (last now : Issued) → IsChain epoch_end recovery ys → IsPrefix xs ys → last_answer xs ≡ Some last → last_answer ys ≡ Some now → last.version ≤ now.version
last_grows epoch_end recovery xs ys last now one p was is =
    let short : length xs ≤ length ys = omega (arith, sym (ap length p.1) ∙ length-append xs p.0) in
    let within = slice_get_within xs (length xs - 1) last was in
    let mine = get_or_from_slice_get ys (length xs - 1) last last (get_alike xs ys (length xs - 1) last p was) in
    let theirs = get_or_from_slice_get ys (length ys - 1) now last is in
    go short within mine theirs (cases_lt (length xs - 1) (length ys - 1))
  where
    go : length xs ≤ length ys → length xs - 1 < length xs → get_or ys (length xs - 1) last ≡ last → get_or ys (length ys - 1) last ≡ now → (length xs - 1 < length ys - 1) ⊎ (length ys - 1 ≤ length xs - 1) → last.version ≤ now.version
    go short within mine theirs (inl less) =
        let up = versions-AllPairs epoch_end recovery ys one (length xs - 1) (length ys - 1) last less (omega arith) in
        let one_is = ap (λ (a : Issued). a.version) mine in
        let other_is = ap (λ (a : Issued). a.version) theirs in
        omega arith
    go short within mine theirs (inr not_less) =
        let at : length ys - 1 ≡ length xs - 1 = omega arith in
        let same : last ≡ now = sym mine ∙ (ap (λ k. get_or ys k last) (sym at) ∙ theirs) in
        let is' = ap (λ (a : Issued). a.version) same in
        omega arith

-- what a list ends with, a longer one ends with something
some_last : (xs ys : List Issued) (last : Issued) → IsPrefix xs ys → last_answer xs ≡ Some last → last_answer ys ≡ None → ⊥
some_last xs ys last p was is =
    let short : length xs ≤ length ys = omega (arith, sym (ap length p.1) ∙ length-append xs p.0) in
    let within = slice_get_within xs (length xs - 1) last was in
    none-some (get_or ys (length ys - 1) last) (sym is ∙ slice_get-get_or ys (length ys - 1) last (omega arith))

step_most : (last at : ℕ) → step last at ≤ MAX_STEP
step_most last at = grind (arith, nat_tests)

-- ---- requests for commit versions

-- a commit proxy that is known is answered by its number
module _ (chain : Chain) (ask : Ask) (known : ask.proxy < chain.proxies) where
  whole : answer_to chain ask ≡ by_number (latest ask.proxy chain.answers) ask.num (Err (Early (latest ask.proxy chain.answers + 1))) (kept_answer (kept ask.proxy ask.num chain.answers)) (fresh_answer chain ask)
  whole = go (nat_lt ask.proxy chain.proxies) refl
    where
      go : (b : Bool) → nat_lt ask.proxy chain.proxies ≡ b → cond (not b) (Err UnknownProxy) (by_number (latest ask.proxy chain.answers) ask.num (Err (Early (latest ask.proxy chain.answers + 1))) (kept_answer (kept ask.proxy ask.num chain.answers)) (fresh_answer chain ask)) ≡ by_number (latest ask.proxy chain.answers) ask.num (Err (Early (latest ask.proxy chain.answers + 1))) (kept_answer (kept ask.proxy ask.num chain.answers)) (fresh_answer chain ask)
      go true e = refl
      go false e = absurd (grind (arith, nat_tests))

-- an answer, the chain that it was given on, and a chain that goes on from it
module _ (given : Chain) (ask : Ask) (chain : List Issued) (known : ask.proxy < given.proxies) (in_range : given.recovery ≤ MAX_VERSION) (one : IsChain given.epoch_end given.recovery chain) where
  abbrev last_num : ℕ
  last_num = latest ask.proxy given.answers

  abbrev asked_for : Input
  asked_for = input.Ask ask.num ask.processed ask.at

  -- what is answered, by how the number stands to the latest one, what is kept, and whether there is a next version
  abbrev answer_by : (early again fits : Bool) (found : Option Issued) → Result Issued Refusal
  answer_by early again fits found = cond early (Err (Early (last_num + 1))) (cond again (kept_answer found) (cond fits (Ok (next_answer given ask)) (Err Exhausted)))

  -- whether it is justified
  abbrev test_by : (early again : Bool) (found : Option Issued) → CallAnswer → Bool
  test_by early again found answer =
      goes_with asked_for answer
      && (is_of_chain chain ask.proxy asked_for answer
      && cond early (is_early (last_num + 1) answer) (cond again (is_again found answer) (is_fresh_answer chain ask.processed ask.at answer)))

  near_the_end : IsPrefix given.answers chain → nat_le (version_after given.recovery (last_answer given.answers) ask.at) MAX_VERSION ≡ false → is_near_the_end chain ≡ true
  near_the_end begins full = go (last_answer given.answers) (last_answer chain) refl refl
    where
      go : (last now : Option Issued) → last_answer given.answers ≡ last → last_answer chain ≡ now → option_map_or (λ (it : Issued). nat_lt (MAX_VERSION - MAX_STEP) it.version) now false ≡ true
      go None now was is =
          let no : nat_le given.recovery MAX_VERSION ≡ false = ap (λ o. nat_le (version_after given.recovery o ask.at) MAX_VERSION) (sym was) ∙ full in
          absurd (grind (arith, nat_tests))
      go (Some last) None was is = absurd (some_last given.answers chain last begins was is)
      go (Some last) (Some now) was is =
          let grows = last_grows given.epoch_end given.recovery given.answers chain last now one begins was is in
          let no : nat_le (last.version + step last.at ask.at) MAX_VERSION ≡ false = ap (λ o. nat_le (version_after given.recovery o ask.at) MAX_VERSION) (sym was) ∙ full in
          let most = step_most last.at ask.at in
          let above : MAX_VERSION < last.version + step last.at ask.at = grind (arith, nat_tests) in
          let high : MAX_VERSION - MAX_STEP < now.version = omega arith in
          grind (arith, nat_tests)

  test_of : (early again fits : Bool) (found : Option Issued)
      → nat_le (next_answer given ask).version MAX_VERSION ≡ fits → kept ask.proxy ask.num given.answers ≡ found
      → IsPrefix (chain_after given (answer_by early again fits found)).answers chain
      → test_by early again found (logged_as (answer_by early again fits found)) ≡ true
  test_of true again fits found h k begins = same_number (last_num + 1)
  test_of false true fits None h k begins = refl
  test_of false true fits (Some found) h k begins =
      let is = kept-is given.answers ask.proxy ask.num found k in
      let there = kept-found ask.proxy ask.num given.answers found k in
      let entry = stands given.epoch_end given.recovery chain found there.place one (get_alike given.answers chain there.place found begins there.at) in
      let again : Issued = record found { fresh = false } in
      let of_entry : option_map_or (λ (it : Issued). is_same again (record it { fresh = false })) (slice_get chain found.ordinal) false ≡ true = ap (λ o. option_map_or (λ (it : Issued). is_same again (record it { fresh = false })) o false) entry ∙ same_answer again in
      both (both (eq-eqb found.proxy ask.proxy is.0) (both (eq-eqb found.num ask.num is.1) of_entry)) (same_answer again)
  test_of false false true found h k begins =
      let drawn : Issued = next_answer given ask in
      let entry : slice_get chain (length given.answers) ≡ Some drawn = get_alike (given.answers ++ drawn ∷ []) chain (length given.answers) drawn begins (slice_get-append_seam given.answers drawn) in
      let of_entry : option_map_or (λ (it : Issued). is_same drawn (record it { fresh = true })) (slice_get chain (length given.answers)) false ≡ true = ap (λ o. option_map_or (λ (it : Issued). is_same drawn (record it { fresh = true })) o false) entry ∙ same_answer drawn in
      both (both (same_number ask.proxy) (both (same_number ask.num) of_entry)) (both (same_number ask.processed) (same_number ask.at))
  test_of false false false found h k begins = near_the_end begins h

  pub justified_answer : (calls : List Call) (asked position : ℕ) → fresh_answers calls ≡ answers_to ask.proxy given.answers → IsPrefix (chain_after given (answer_to given ask)).answers chain
      → is_justified chain ask.proxy calls (record { input = asked_for; asked = asked; position = position; answer = logged_as (answer_to given ask) }) ≡ true
  justified_answer calls asked position fresh begins =
      let early : Bool = nat_lt (last_num + 1) ask.num in
      let again : Bool = nat_le ask.num last_num in
      let fits : Bool = nat_le (next_answer given ask).version MAX_VERSION in
      let found : Option Issued = kept ask.proxy ask.num given.answers in
      let answer : CallAnswer = logged_as (answer_to given ask) in
      let is : answer_to given ask ≡ answer_by early again fits found = whole given ask known in
      let test = test_of early again fits found refl refl (subst (λ r. IsPrefix (chain_after given r).answers chain) is begins) in
      let here : test_by early again found answer ≡ true = ap (λ r. test_by early again found (logged_as r)) is ∙ test in
      let kind = and_parts (goes_with asked_for answer) _ here in
      let of_chain = and_parts (is_of_chain chain ask.proxy asked_for answer) _ kind.1 in
      let last : latest ask.proxy (fresh_answers calls) ≡ last_num = ap (latest ask.proxy) fresh ∙ latest_own ask.proxy given.answers in
      let same : kept ask.proxy ask.num (fresh_answers calls) ≡ found = ap (kept ask.proxy ask.num) fresh ∙ kept_own ask.proxy ask.num given.answers in
      both kind.0 (both of_chain.0 (both (ap (λ (p : ℕ × Option Issued). is_due chain p.0 p.1 asked_for answer) (λ i. (last i, same i)) ∙ of_chain.1) refl))
