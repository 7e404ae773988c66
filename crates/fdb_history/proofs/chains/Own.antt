-- What a client has drawn, along the calls of its log, and which answers that bears out.
use Rattle.std.proofs.Common.{◌≡◌, ℕ, ◌+◌, ◌-◌, ◌==◌, ◌&&◌, Bool, true, false, cond, List, [], ◌∷◌, ◌++◌, filter, length, slice_get, Option, Some, None, refl, ap, sym, ◌∙◌, subst, inl, inr, arith, append-nil, length-append}
use Rattle.std.specs.List.{find}
use Rattle.std.specs.Option.{option_map, option_map_or, option_and_then, option_or}
use Rattle.std.proofs.lemmas.Grind.{common_steps}
use Rattle.std.proofs.lemmas.Bool.{and_parts, cases_eq, cases_lt, cond-true, eq-eqb, eqb-true, ne_eqb, false≢true}
use Rattle.std.proofs.lemmas.Bool.Decides.{eqb_tells, nat_tests}
use Rattle.std.proofs.lemmas.List.Concat.{flat_map-append}
use Rattle.std.proofs.lemmas.List.Elements.{filter-append}
use Rattle.std.proofs.lemmas.List.Folds.{find-append}
use Rattle.std.proofs.lemmas.Option.{none-some, slice_get_past}
use Rattle.fdb_history.specs.Issuing.{by_number, kept}
use Rattle.fdb_history.specs.private.Justifying.{drawn_version, own_after}
use Rattle.fdb_history.specs.Chain.{latest}
use Rattle.fdb_history.specs.Log.{answer_in, answers_in, fresh_answers}
use Rattle.fdb_history.specs.Replies.{KeptReplies, place_of, replies_after, reply}
use Rattle.fdb_history.specs.Strays.{goes_with, is_again, is_justified, is_justified_by, is_due, is_early, is_fresh_answer, is_of_chain, is_of_issued, is_rightly_locked_out, is_same, number_of}
use Rattle.fdb_history.specs.declared.chain.Issued.{Issued}
use Rattle.fdb_history.specs.declared.log.Call.{Call}
use Rattle.fdb_history.specs.declared.log.CallAnswer.{CallAnswer}
use Rattle.fdb_history.specs.declared.log.CallAnswer.TheVariants.{Version, Answered, Acked, Told, Refused}
use Rattle.fdb_history.specs.declared.log.Input.{Input}
use Rattle.fdb_history.specs.declared.log.Input.TheVariants as input
use Rattle.fdb_history.proofs.chains.KeptReplies.{latest-append, look_up-push}
use Rattle.fdb_history.proofs.Lists.{slice_get-append_left, slice_get-append_seam}
use Rattle.fdb_history.proofs.chains.SameIssued.{is_same-equal}

abbrev as_fresh : Issued → Issued
as_fresh entry = record entry { fresh = true }

abbrev version_of : Issued → ℕ
version_of issued = issued.version

-- the version of the first of some answers that has a number
abbrev version_among : List Issued → ℕ → Option ℕ
version_among answers num = option_map version_of (find (λ issued. issued.num == num) answers)

-- These are the replies of a client whose calls had these answers, of which these were fresh.
pub record AreOwn (chain : List Issued) (client : ℕ) (answers fresh : List Issued) (own : KeptReplies) : Type 0 where
  pub count : latest client fresh ≡ length own.places
  pub look_up : (num : ℕ) → kept client num fresh ≡ option_map as_fresh (reply chain own num)
  pub issued : (num : ℕ) → version_among answers num ≡ drawn_version chain own num

-- the replies of a client after some calls
abbrev pub OwnAfter : List Issued → ℕ → List Call → KeptReplies → Type 0
OwnAfter chain client before own = AreOwn chain client (answers_in before) (fresh_answers before) own

-- ---- the version under each number, after one more answer

or_none : (o : Option Issued) → option_or o None ≡ o
or_none None = refl
or_none (Some x) = refl

map_or-some : (o p : Option Issued) (version : ℕ) → option_map version_of o ≡ Some version → option_map version_of (option_or o p) ≡ Some version
map_or-some None p version is = absurd (none-some version is)
map_or-some (Some x) p version is = is

map_or-none : (o p : Option Issued) → option_map version_of o ≡ None → option_map version_of (option_or o p) ≡ option_map version_of p
map_or-none None p is = refl
map_or-none (Some x) p is = absurd (none-some x.version (sym is))

among-push : (answers : List Issued) (answer : Issued) (num : ℕ) → version_among (answers ++ answer ∷ []) num ≡ option_map version_of (option_or (find (λ issued. issued.num == num) answers) (cond (answer.num == num) (Some answer) None))
among-push answers answer num = ap (option_map version_of) (find-append (λ issued. issued.num == num) answers (answer ∷ []))

-- of another number
among-other : (answers : List Issued) (answer : Issued) (num : ℕ) → (answer.num ≡ num → ⊥) → version_among (answers ++ answer ∷ []) num ≡ version_among answers num
among-other answers answer num other =
    among-push answers answer num
    ∙ (ap (λ b. option_map version_of (option_or (find (λ issued. issued.num == num) answers) (cond b (Some answer) None))) (ne_eqb answer.num num other)
    ∙ ap (option_map version_of) (or_none (find (λ issued. issued.num == num) answers)))

-- of a number that had none
among-new : (answers : List Issued) (answer : Issued) (num : ℕ) → answer.num ≡ num → version_among answers num ≡ None → version_among (answers ++ answer ∷ []) num ≡ Some answer.version
among-new answers answer num this none =
    among-push answers answer num
    ∙ (map_or-none (find (λ issued. issued.num == num) answers) (cond (answer.num == num) (Some answer) None) none
    ∙ ap (λ b. option_map version_of (cond b (Some answer) None)) (eq-eqb answer.num num this))

-- of a number that had one
among-old : (answers : List Issued) (answer : Issued) (num version : ℕ) → version_among answers num ≡ Some version → version_among (answers ++ answer ∷ []) num ≡ Some version
among-old answers answer num version was =
    among-push answers answer num ∙ map_or-some (find (λ issued. issued.num == num) answers) (cond (answer.num == num) (Some answer) None) version was

-- what is drawn under a number, by the place of its answer
abbrev at_place : List Issued → Option ℕ → Option ℕ
at_place chain place = option_map version_of (option_and_then (slice_get chain) place)

drawn_new : (chain : List Issued) (own : KeptReplies) (place processed num : ℕ) (entry : Issued) → length own.places + 1 ≡ num → slice_get chain place ≡ Some entry → drawn_version chain (replies_after own place processed) num ≡ Some entry.version
drawn_new chain own place processed num entry new at =
    let e : num - 1 ≡ length own.places = omega arith in
    let is : slice_get (own.places ++ place ∷ []) (num - 1) ≡ Some place = rw e (slice_get-append_seam own.places place) in
    let some = ne_eqb num 0 (λ z. absurd (omega arith)) in
    ap (λ b. at_place chain (cond b None (slice_get (own.places ++ place ∷ []) (num - 1)))) some ∙ (ap (at_place chain) is ∙ ap (option_map version_of) at)

drawn_none : (chain : List Issued) (own : KeptReplies) (num : ℕ) → length own.places + 1 ≡ num → drawn_version chain own num ≡ None
drawn_none chain own num new =
    let past : slice_get own.places (num - 1) ≡ None = slice_get_past own.places (num - 1) (omega arith) in
    let some = ne_eqb num 0 (λ z. absurd (omega arith)) in
    ap (λ b. at_place chain (cond b None (slice_get own.places (num - 1)))) some ∙ ap (at_place chain) past

drawn_other : (chain : List Issued) (own : KeptReplies) (place processed num : ℕ) → (length own.places + 1 ≡ num → ⊥) → drawn_version chain (replies_after own place processed) num ≡ drawn_version chain own num
drawn_other chain own place processed num other =
    elim (cases_lt num (length own.places + 1)) [
      | inl before ↦
          elim (eqb_tells num 0) [
            | inl none ↦ rw none.0 refl
            | inr some ↦
                let positive = some.1 in
                ap (λ o. at_place chain (cond (num == 0) None o)) (slice_get-append_left own.places (place ∷ []) (num - 1) (omega arith))
          ]
      | inr after ↦
          ap (λ o. at_place chain (cond (num == 0) None o))
          (slice_get_past (own.places ++ place ∷ []) (num - 1) (omega (arith, length-append own.places (place ∷ [])))
          ∙ sym (slice_get_past own.places (num - 1) (omega arith)))
    ]

-- what is kept under a number was drawn under it
kept_drawn : (chain : List Issued) (own : KeptReplies) (num : ℕ) (entry : Issued) → reply chain own num ≡ Some entry → drawn_version chain own num ≡ Some entry.version
kept_drawn chain own num entry is = grind (arith, common_steps, nat_tests)

-- ---- one more answer

-- the entry at a place, as it was drawn
abbrev entry_at : List Issued → ℕ → Option Issued
entry_at chain place = option_map as_fresh (slice_get chain place)

entry_found : (chain : List Issued) (place : Option ℕ) → option_and_then (entry_at chain) place ≡ option_map as_fresh (option_and_then (slice_get chain) place)
entry_found chain None = refl
entry_found chain (Some place) = refl

-- after a fresh answer, which is the chain's entry at its ordinal under the client's next number
module _ (chain : List Issued) (client : ℕ) (answers fresh : List Issued) (own : KeptReplies) (answer entry : Issued) (are : AreOwn chain client answers fresh own)
    (at : slice_get chain answer.ordinal ≡ Some entry) (same : answer ≡ as_fresh entry) (of_client : answer.proxy ≡ client) (next : answer.num ≡ length own.places + 1) where
  abbrev more : KeptReplies
  more = replies_after own answer.ordinal answer.processed

  issued-fresh : (num : ℕ) → version_among (answers ++ answer ∷ []) num ≡ drawn_version chain more num
  issued-fresh num =
      elim (cases_eq answer.num num) [
        | inl this ↦
            let new : length own.places + 1 ≡ num = omega arith in
            among-new answers answer num this (are.issued num ∙ drawn_none chain own num new)
            ∙ (ap Some (ap version_of same) ∙ sym (drawn_new chain own answer.ordinal answer.processed num entry new at))
        | inr other ↦
            among-other answers answer num other
            ∙ (are.issued num ∙ sym (drawn_other chain own answer.ordinal answer.processed num (λ e. other (omega arith))))
      ]

  AreOwn-fresh : AreOwn chain client (answers ++ answer ∷ []) (fresh ++ answer ∷ []) more
  AreOwn-fresh =
      record {
        count =
            let one = cond-true {A = ℕ} (answer.proxy == client) 1 0 (eq-eqb answer.proxy client of_client) in
            let more_by_one = latest-append client fresh answer in
            let count = are.count in
            omega (arith, length-append own.places (answer.ordinal ∷ []));
        look_up = λ num.
            ap (λ p. kept p num (fresh ++ answer ∷ [])) (sym of_client)
            ∙ look_up-push (entry_at chain) fresh answer own answer.ordinal next (ap (option_map as_fresh) at ∙ ap Some (sym same))
            (λ n. ap (λ p. kept p n fresh) of_client ∙ are.look_up n ∙ sym (entry_found chain (place_of own n))) num
            ∙ entry_found chain (place_of more num);
        issued = issued-fresh;
      }

-- after an answer that was given again
AreOwn-again : (chain : List Issued) (client : ℕ) (answers fresh : List Issued) (own : KeptReplies) (answer entry : Issued) → AreOwn chain client answers fresh own → reply chain own answer.num ≡ Some entry → answer.version ≡ entry.version
    → AreOwn chain client (answers ++ answer ∷ []) fresh own
AreOwn-again chain client answers fresh own answer entry are found version =
    record {
      count = are.count;
      look_up = are.look_up;
      issued =
          λ num. elim (cases_eq answer.num num) [
            | inl this ↦
                let drawn = kept_drawn chain own num entry (ap (reply chain own) (sym this) ∙ found) in
                among-old answers answer num entry.version (are.issued num ∙ drawn) ∙ sym drawn
            | inr other ↦ among-other answers answer num other ∙ are.issued num
          ];
    }

-- ---- one more call

again-found : (found : Option Issued) (issued : Issued) → is_again found (Answered issued) ≡ true → (entry : Issued) × (found ≡ Some entry) × (issued ≡ record entry { fresh = false })
again-found None issued is = absurd (false≢true is)
again-found (Some entry) issued is = (entry, refl, is_same-equal issued (record entry { fresh = false }) is)

entry-found : (found : Option Issued) (issued : Issued) → option_map_or (λ entry. is_same issued (record entry { fresh = issued.fresh })) found false ≡ true → (entry : Issued) × (found ≡ Some entry) × (issued ≡ record entry { fresh = issued.fresh })
entry-found None issued is = absurd (false≢true is)
entry-found (Some entry) issued is = (entry, refl, is_same-equal issued (record entry { fresh = issued.fresh }) is)

-- what is to be shown after an answer whose `fresh` is this
AtFresh : List Issued → ℕ → List Issued → List Issued → KeptReplies → Issued → Bool → Type 0
AtFresh chain client answers fresh own issued is =
    AreOwn chain client (answers ++ issued ∷ []) (fresh ++ cond is (issued ∷ []) []) (cond is (replies_after own issued.ordinal issued.processed) own)

abbrev is_fresh : Issued → Bool
is_fresh issued = issued.fresh

-- what is due to a number that is not the next one, or is
due_cases : (latest_num num : ℕ) (again next : Bool) (P : Type 0) → by_number latest_num num false again next ≡ true → (again ≡ true → P) → (num ≡ latest_num + 1 → next ≡ true → P) → P
due_cases latest_num num again next P due if_again if_next = grind (arith, common_steps, nat_tests)

step-asked : (chain : List Issued) (client : ℕ) (answers fresh : List Issued) (own : KeptReplies) (num processed at : ℕ) (issued : Issued) → AreOwn chain client answers fresh own
    → is_of_chain chain client (input.Ask num processed at) (Answered issued) ≡ true → is_due chain (length own.places) (reply chain own num) (input.Ask num processed at) (Answered issued) ≡ true
    → AreOwn chain client (answers ++ issued ∷ []) (fresh ++ filter is_fresh (issued ∷ [])) (own_after own (Answered issued))
unfolding AtFresh
step-asked chain client answers fresh own num processed at issued are of_chain due =
    let of_client = and_parts (issued.proxy == client) _ of_chain in
    let under = and_parts (issued.num == num) _ of_client.1 in
    let num_is : issued.num ≡ num = eqb-true issued.num num under.0 in
    let entry = entry-found (slice_get chain issued.ordinal) issued under.1 in
    due_cases (length own.places) num (is_again (reply chain own num) (Answered issued)) (is_fresh_answer chain processed at (Answered issued)) _ due
    (λ again.
    let found = again-found (reply chain own num) issued again in
    subst (AtFresh chain client answers fresh own issued) (sym (ap is_fresh found.2))
    (rw (append-nil fresh) (AreOwn-again chain client answers fresh own issued found.0 are (ap (reply chain own) num_is ∙ found.1) (ap version_of found.2))))
    (λ next is_next.
    let is : issued.fresh ≡ true = (and_parts issued.fresh _ is_next).0 in
    subst (AtFresh chain client answers fresh own issued) (sym is)
    (AreOwn-fresh chain client answers fresh own issued entry.0 are entry.1 (entry.2 ∙ ap (λ b. record entry.0 { fresh = b }) is) (eqb-true issued.proxy client of_client.0) (num_is ∙ next)))

step-answer : (chain : List Issued) (client : ℕ) (answers fresh : List Issued) (own : KeptReplies) (asked : Input) (answer : CallAnswer) → AreOwn chain client answers fresh own
    → goes_with asked answer ≡ true → is_of_chain chain client asked answer ≡ true → is_due chain (length own.places) (reply chain own (number_of asked)) asked answer ≡ true
    → AreOwn chain client (answers ++ answer_in answer) (fresh ++ filter is_fresh (answer_in answer)) (own_after own answer)
step-answer chain client answers fresh own asked (Version rec limits locked_out) are kind of_chain due = rw (append-nil answers, append-nil fresh) are
step-answer chain client answers fresh own asked (Acked rec raised changed) are kind of_chain due = rw (append-nil answers, append-nil fresh) are
step-answer chain client answers fresh own asked Told are kind of_chain due = rw (append-nil answers, append-nil fresh) are
step-answer chain client answers fresh own asked (Refused cause) are kind of_chain due = rw (append-nil answers, append-nil fresh) are
step-answer chain client answers fresh own (input.Grv opts) (Answered issued) are kind of_chain due = absurd (false≢true kind)
step-answer chain client answers fresh own (input.Report num locked metadata min_known) (Answered issued) are kind of_chain due = absurd (false≢true kind)
step-answer chain client answers fresh own (input.Tell to) (Answered issued) are kind of_chain due = absurd (false≢true kind)
step-answer chain client answers fresh own (input.Learn from) (Answered issued) are kind of_chain due = absurd (false≢true kind)
step-answer chain client answers fresh own (input.Ask num processed at) (Answered issued) are kind of_chain due = step-asked chain client answers fresh own num processed at issued are of_chain due

-- the answers after one more call
answers_in-push : (before : List Call) (call : Call) → answers_in (before ++ call ∷ []) ≡ answers_in before ++ answer_in call.answer
answers_in-push before call = flat_map-append (λ (c : Call). answer_in c.answer) before (call ∷ []) ∙ ap (λ xs. answers_in before ++ xs) (append-nil (answer_in call.answer))

-- the test of a call, by what its client has drawn
abbrev pub justified_of : List Issued → ℕ → KeptReplies → Call → Bool
justified_of chain client own call = is_justified_by chain client (length own.places) (reply chain own (number_of call.input)) (drawn_version chain own (number_of call.input)) call

-- after a call that is justified
pub OwnAfter-call : (chain : List Issued) (client : ℕ) (before : List Call) (own : KeptReplies) (call : Call) → OwnAfter chain client before own → justified_of chain client own call ≡ true → OwnAfter chain client (before ++ call ∷ []) (own_after own call.answer)
OwnAfter-call chain client before own call are justified =
    let of_its_kind = and_parts (goes_with call.input call.answer) _ justified in
    let rightly = and_parts (is_rightly_locked_out call.input call.answer) _ of_its_kind.1 in
    let of_chain = and_parts (is_of_chain chain client call.input call.answer) _ rightly.1 in
    let due = and_parts (is_due chain (length own.places) (reply chain own (number_of call.input)) call.input call.answer) _ of_chain.1 in
    rw (answers_in-push before call, filter-append is_fresh (answers_in before) (answer_in call.answer))
    (step-answer chain client (answers_in before) (fresh_answers before) own call.input call.answer are of_its_kind.0 of_chain.0 due.0)

-- ---- the definition's test, and the program's

again-as_fresh : (found : Option Issued) (answer : CallAnswer) → is_again (option_map as_fresh found) answer ≡ is_again found answer
again-as_fresh None answer = refl
again-as_fresh (Some entry) (Answered issued) = refl
again-as_fresh (Some entry) _ = refl

due-as_fresh : (chain : List Issued) (latest_num : ℕ) (found : Option Issued) (asked : Input) (answer : CallAnswer) → is_due chain latest_num (option_map as_fresh found) asked answer ≡ is_due chain latest_num found asked answer
due-as_fresh chain latest_num found (input.Ask num processed at) answer = ap (λ b. by_number latest_num num (is_early (latest_num + 1) answer) b (is_fresh_answer chain processed at answer)) (again-as_fresh found answer)
due-as_fresh chain latest_num found _ answer = refl

pub justified-same : (chain : List Issued) (client : ℕ) (before : List Call) (own : KeptReplies) (call : Call) → OwnAfter chain client before own → is_justified chain client before call ≡ justified_of chain client own call
justified-same chain client before own call are =
    let asked = call.input in
    let answer = call.answer in
    let num = number_of asked in
    rw (are.count, are.look_up num, are.issued num)
    (ap (λ b. goes_with asked answer && (is_rightly_locked_out asked answer && (is_of_chain chain client asked answer && (b && is_of_issued (drawn_version chain own num) asked answer))))
    (due-as_fresh chain (length own.places) (reply chain own num) asked answer))
