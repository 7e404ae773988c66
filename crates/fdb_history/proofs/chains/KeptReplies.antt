-- The replies of a proxy after one more answer.
use Rattle.std.proofs.Common.{◌≡◌, ◌⊎◌, ℕ, zero, suc, ◌+◌, ◌-◌, ◌<◌, ◌≤◌, ◌==◌, cond, get_or, set, List, [], ◌∷◌, ◌++◌, length, reverse, All, IfSome, Option, None, Some, slice_get, ap, subst, sym, ◌∙◌, refl, inl, inr, arith, length-append}
use Rattle.std.specs.Option.{option_and_then}
use Rattle.std.proofs.lemmas.Grind.{common_steps}
use Rattle.std.proofs.lemmas.Bool.{cases_lt, cases_eq}
use Rattle.std.proofs.lemmas.Bool.Decides.{leb_tells, nat_tests}
use Rattle.std.proofs.lemmas.List.{reverse-append}
use Rattle.std.proofs.lemmas.List.Elements.{All-push}
use Rattle.std.proofs.lemmas.List.Sums.{sum_by_push}
use Rattle.std.proofs.lemmas.Option.{none-some, same_Some, slice_get_cases, slice_get_past, slice_get_read}
use Rattle.fdb_history.specs.Issuing.{kept, kept_among}
use Rattle.fdb_history.specs.Chain.{latest, IsNext}
use Rattle.fdb_history.specs.declared.chain.Issued.{Issued}
use Rattle.fdb_history.specs.Replies.{KeptReplies, AreRepliesOf, AreRepliesOfAll, place_of, reply, replies_after}
use Rattle.fdb_history.proofs.chains.AnswerLaws.{kept-is}
use Rattle.fdb_history.proofs.Lists.{slice_get-append_left, slice_get-append_seam}

-- a search begins with the newest answer
kept-append : (proxy num : ℕ) (answers : List Issued) (answer : Issued) → kept proxy num (answers ++ answer ∷ []) ≡ kept_among proxy num (answer ∷ reverse answers)
kept-append proxy num answers answer = ap (kept_among proxy num) (reverse-append answers (answer ∷ []))

kept-append_other : (proxy num : ℕ) (answers : List Issued) (answer : Issued) → (answer.proxy ≡ proxy → ⊥) → kept proxy num (answers ++ answer ∷ []) ≡ kept proxy num answers
kept-append_other proxy num answers answer other = rw (kept-append proxy num answers answer) (grind (arith, nat_tests))

kept-append_new : (num : ℕ) (answers : List Issued) (answer : Issued) → answer.num ≡ num → kept answer.proxy num (answers ++ answer ∷ []) ≡ Some answer
kept-append_new num answers answer new = rw (kept-append answer.proxy num answers answer) (grind (arith, nat_tests))

kept-append_erased : (num : ℕ) (answers : List Issued) (answer : Issued) → (answer.num ≡ num → ⊥) → num ≤ answer.processed → kept answer.proxy num (answers ++ answer ∷ []) ≡ None
kept-append_erased num answers answer old erased = rw (kept-append answer.proxy num answers answer) (grind (arith, nat_tests))

kept-append_old : (num : ℕ) (answers : List Issued) (answer : Issued) → (answer.num ≡ num → ⊥) → answer.processed < num → kept answer.proxy num (answers ++ answer ∷ []) ≡ kept answer.proxy num answers
kept-append_old num answers answer old wanted = rw (kept-append answer.proxy num answers answer) (grind (arith, nat_tests))

pub latest-append : (proxy : ℕ) (answers : List Issued) (answer : Issued) → latest proxy (answers ++ answer ∷ []) ≡ latest proxy answers + cond (answer.proxy == proxy) 1 0
latest-append proxy answers answer = sum_by_push (λ old. cond (old.proxy == proxy) 1 0) answers answer

-- the place under each number, after one more answer of the proxy
place_of-new : (replies : KeptReplies) (place processed num : ℕ) → length replies.places + 1 ≡ num → place_of (replies_after replies place processed) num ≡ Some place
place_of-new replies place processed num new =
    let e : num - 1 ≡ length replies.places = omega arith in
    let at_end : slice_get (replies.places ++ place ∷ []) (num - 1) ≡ Some place = rw e (slice_get-append_seam replies.places place) in
    grind (arith, nat_tests)

place_of-erased : (replies : KeptReplies) (place processed num : ℕ) → (length replies.places + 1 ≡ num → ⊥) → num ≤ processed → place_of (replies_after replies place processed) num ≡ None
place_of-erased replies place processed num old erased =
    elim (cases_lt num (length replies.places + 1)) [
      | inl before ↦ grind (arith, nat_tests)
      | inr after ↦
          let past : slice_get (replies.places ++ place ∷ []) (num - 1) ≡ None = slice_get_past (replies.places ++ place ∷ []) (num - 1) (omega (arith, length-append replies.places (place ∷ []))) in
          grind (arith, nat_tests)
    ]

place_of-old : (replies : KeptReplies) (place processed num : ℕ) → (length replies.places + 1 ≡ num → ⊥) → processed < num → place_of (replies_after replies place processed) num ≡ place_of replies num
place_of-old replies place processed num old wanted =
    elim (cases_lt num (length replies.places + 1)) [
      | inl before ↦
          let same : slice_get (replies.places ++ place ∷ []) (num - 1) ≡ slice_get replies.places (num - 1) = slice_get-append_left replies.places (place ∷ []) (num - 1) (omega arith) in
          grind (arith, nat_tests)
      | inr after ↦
          let past_new : slice_get (replies.places ++ place ∷ []) (num - 1) ≡ None = slice_get_past (replies.places ++ place ∷ []) (num - 1) (omega (arith, length-append replies.places (place ∷ []))) in
          let past : slice_get replies.places (num - 1) ≡ None = slice_get_past replies.places (num - 1) (omega arith) in
          grind (arith, nat_tests)
    ]

-- the answer at a place that was there before
look_up-append : {X : Type 0} (xs ys : List X) (place : Option ℕ) → IfSome place (λ at. at < length xs) → option_and_then (slice_get (xs ++ ys)) place ≡ option_and_then (slice_get xs) place
look_up-append xs ys None there = refl
look_up-append xs ys (Some at) there = slice_get-append_left xs ys at there

slice_get-All : {X : Type 0} (P : X → Type 0) (xs : List X) (i : ℕ) → All P xs → IfSome (slice_get xs i) P
slice_get-All P xs i all =
    elim (slice_get_cases xs i).1 [
      | inl w ↦ rw w.2 (subst P w.3 (all i w.0 w.1))
      | inr w ↦ rw w.1 tt
    ]

place_of-All : (P : ℕ → Type 0) (replies : KeptReplies) (num : ℕ) → All P replies.places → IfSome (place_of replies num) P
place_of-All P replies num all =
    elim (leb_tells num replies.erased) [
      | inl w ↦ rw w.0 tt
      | inr w ↦ rw w.0 (slice_get-All P replies.places (num - 1) all)
    ]

reply-append : (answers : List Issued) (answer : Issued) (replies : KeptReplies) (num : ℕ) → All (λ place. place < length answers) replies.places → reply (answers ++ answer ∷ []) replies num ≡ reply answers replies num
reply-append answers answer replies num in_range = look_up-append answers (answer ∷ []) (place_of replies num) (place_of-All _ replies num in_range)

in_range-append : (answers : List Issued) (answer : Issued) (places : List ℕ) → All (λ place. place < length answers) places → All (λ place. place < length (answers ++ answer ∷ [])) places
in_range-append answers answer places in_range = λ k d within. let before = in_range k d within in omega (arith, length-append answers (answer ∷ []))

-- an answer to another proxy changes nothing
pub AreRepliesOf-other : (proxy : ℕ) (answers : List Issued) (answer : Issued) (replies : KeptReplies) → (answer.proxy ≡ proxy → ⊥) → AreRepliesOf proxy answers replies → AreRepliesOf proxy (answers ++ answer ∷ []) replies
AreRepliesOf-other proxy answers answer replies other own =
    record {
      count = rw (latest-append proxy answers answer) (grind (arith, nat_tests));
      in_range = in_range-append answers answer replies.places own.in_range;
      look_up = λ num. kept-append_other proxy num answers answer other ∙ (own.look_up num ∙ sym (reply-append answers answer replies num own.in_range));
    }

-- the answer under each number, after one more, where the entries are found by their places
pub look_up-push : (entry : ℕ → Option Issued) (answers : List Issued) (answer : Issued) (replies : KeptReplies) (place : ℕ) → answer.num ≡ length replies.places + 1 → entry place ≡ Some answer
    → ((num : ℕ) → kept answer.proxy num answers ≡ option_and_then entry (place_of replies num))
    → (num : ℕ) → kept answer.proxy num (answers ++ answer ∷ []) ≡ option_and_then entry (place_of (replies_after replies place answer.processed) num)
look_up-push entry answers answer replies place next here before num =
    elim (cases_eq answer.num num) [
      | inl new ↦ kept-append_new num answers answer new ∙ sym (ap (option_and_then entry) (place_of-new replies place answer.processed num (omega arith)) ∙ here)
      | inr old ↦
          let not_new : length replies.places + 1 ≡ num → ⊥ = λ e. old (omega arith) in
          elim (cases_lt answer.processed num) [
            | inl wanted ↦ kept-append_old num answers answer old wanted ∙ before num ∙ sym (ap (option_and_then entry) (place_of-old replies place answer.processed num not_new wanted))
            | inr erased ↦ kept-append_erased num answers answer old erased ∙ sym (ap (option_and_then entry) (place_of-erased replies place answer.processed num not_new erased))
          ]
    ]

-- an answer of the proxy's own
pub AreRepliesOf-own : (answers : List Issued) (answer : Issued) (replies : KeptReplies) → answer.num ≡ latest answer.proxy answers + 1 → AreRepliesOf answer.proxy answers replies → AreRepliesOf answer.proxy (answers ++ answer ∷ []) (replies_after replies (length answers) answer.processed)
AreRepliesOf-own answers answer replies next own =
    record {
      count = rw (latest-append answer.proxy answers answer, length-append replies.places (length answers ∷ [])) (grind (arith, nat_tests));
      in_range = All-push (λ place. place < length (answers ++ answer ∷ [])) replies.places (length answers) (in_range-append answers answer replies.places own.in_range) (omega (arith, length-append answers (answer ∷ [])));
      look_up = look_up-push (slice_get (answers ++ answer ∷ [])) answers answer replies (length answers) (next ∙ ap (λ n. n + 1) (sym own.count)) (slice_get-append_seam answers answer)
          (λ num. own.look_up num ∙ sym (reply-append answers answer replies num own.in_range));
    }

-- an item of a list of which one was replaced: the new one, or one that was there
slice_get-set_cases : {X : Type 0} (xs : List X) (i j : ℕ) (y x : X) → i < length xs → slice_get (set xs i y) j ≡ Some x → ((j ≡ i) × (y ≡ x)) ⊎ ((j ≡ i → ⊥) × (slice_get xs j ≡ Some x))
slice_get-set_cases [] i j y x within at = absurd (none-some x at)
slice_get-set_cases (z ∷ zs) zero zero y x within at = inl (refl, same_Some y x at)
slice_get-set_cases (z ∷ zs) zero (suc j) y x within at = inr (λ e. cc e, at)
slice_get-set_cases (z ∷ zs) (suc i) zero y x within at = inr (λ e. cc e, at)
slice_get-set_cases (z ∷ zs) (suc i) (suc j) y x within at = grind (arith, common_steps, nat_tests, slice_get-set_cases zs i j y x (omega arith) at)

-- the replies of all proxies, after the next answer, for one that had these
pub AreRepliesOfAll-push : (epoch_end recovery : ℕ) (answers : List Issued) (all : List KeptReplies) (answer : Issued) (own : KeptReplies) → answer.proxy < length all → own ≡ get_or all answer.proxy own → IsNext epoch_end recovery answers answer → AreRepliesOfAll answers all → AreRepliesOfAll (answers ++ answer ∷ []) (set all answer.proxy (replies_after own answer.ordinal answer.processed))
AreRepliesOfAll-push epoch_end recovery answers all answer own known own_is next were proxy found at =
    elim (slice_get-set_cases all answer.proxy proxy (replies_after own answer.ordinal answer.processed) found known at) [
      | inl w ↦ rw (w.0, sym w.1 ∙ ap (λ place. replies_after own place answer.processed) next.ordinal) (AreRepliesOf-own answers answer own next.num (were answer.proxy own (slice_get_read all (length all) answer.proxy own refl known own_is)))
      | inr w ↦ AreRepliesOf-other proxy answers answer found (λ e. w.0 (sym e)) (were proxy found w.1)
    ]

-- the reply under a number is of the proxy, under that number
pub reply-of_the_request : (proxy : ℕ) (answers : List Issued) (replies : KeptReplies) (num : ℕ) (found : Option Issued) → AreRepliesOf proxy answers replies → found ≡ reply answers replies num → IfSome found (λ answer. (answer.proxy ≡ proxy) × (answer.num ≡ num))
reply-of_the_request proxy answers replies num None are is = tt
reply-of_the_request proxy answers replies num (Some answer) are is = kept-is answers proxy num answer (are.look_up num ∙ sym is)
