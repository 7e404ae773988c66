-- The chain that logs tell is the one that justifies their answers.
use Rattle.std.proofs.Common.{◌≡◌, ℕ, zero, suc, ◌<◌, ◌==◌, ◌||◌, Bool, true, false, cond, List, [], ◌∷◌, length, Option, None, Some, refl, sym, ap, ◌∙◌, arith, slice_get, take, subst, set, replicate, inl, inr, eqb-true, length-set, length-take-le}
use Rattle.std.specs.Prelude.{flat_map}
use Rattle.std.specs.List.{AllByRecursion, list_any}
use Rattle.std.specs.Option.{option_map_or}
use Rattle.std.proofs.lemmas.Bool.{and_parts, eq-eqb, false≢true, or_right, true_from_ne_false}
use Rattle.std.proofs.lemmas.List.{length-replicate}
use Rattle.std.proofs.lemmas.List.Folds.{list_any-append}
use Rattle.std.proofs.lemmas.Option.{slice_get_within}
use Rattle.fdb_client.proofs.Chains.{each-append, get_other, get_written}
use Rattle.fdb_client.proofs.Strays.{EachIsNext}
use Rattle.fdb_history.specs.Chain.{IsChain}
use Rattle.fdb_history.specs.Faults.{Nowhere}
use Rattle.fdb_history.specs.Log.{answer_in, answers_in, calls_of}
use Rattle.fdb_history.specs.Strays.{IsStray, goes_with, is_drawn, is_justified, is_of_chain, is_same}
use Rattle.fdb_history.specs.declared.chain.Issued.{Issued}
use Rattle.fdb_history.specs.declared.log.Call.{Call}
use Rattle.fdb_history.specs.declared.log.CallAnswer.{CallAnswer}
use Rattle.fdb_history.specs.declared.log.CallAnswer.TheVariants.{Version, Answered, Acked, Told, Refused}
use Rattle.fdb_history.specs.declared.log.ClientLog.{ClientLog}
use Rattle.fdb_history.specs.declared.log.Input.{Input}
use Rattle.fdb_history.specs.declared.log.Input.TheVariants as input
use Rattle.fdb_client.specs.Merging.{all_placed, answers_of_logs, chain_in, no_answer, placed}

-- ---- lists

each-flat_map : {X Y : Type 0} (P : Y → Type 0) (f : X → List Y) (xs : List X) → ((k : ℕ) (x : X) → slice_get xs k ≡ Some x → AllByRecursion P (f x)) → AllByRecursion P (flat_map f xs)
each-flat_map P f [] each = tt
each-flat_map P f (x ∷ xs) each = each-append P (f x) (flat_map f xs) (each zero x refl) (each-flat_map P f xs (λ k y at. each (suc k) y at))

any-flat_map : {X Y : Type 0} (p : Y → Bool) (f : X → List Y) (xs : List X) (k : ℕ) (x : X) → slice_get xs k ≡ Some x → list_any p (f x) ≡ true → list_any p (flat_map f xs) ≡ true
any-flat_map p f [] k x at found = absurd (cc at)
any-flat_map p f (y ∷ xs) zero x at found = let same : y ≡ x = cc at in rw (list_any-append p (f y) (flat_map f xs), same, found) refl
any-flat_map p f (y ∷ xs) (suc k) x at found = rw (list_any-append p (f y) (flat_map f xs)) (or_right (list_any p (f y)) (list_any p (flat_map f xs)) (any-flat_map p f xs k x at found))

-- two lists of one length, of which each has at each place what the other has
same-lists : {X : Type 0} (xs ys : List X) → length xs ≡ length ys → ((k : ℕ) (y : X) → slice_get ys k ≡ Some y → slice_get xs k ≡ Some y) → xs ≡ ys
same-lists [] [] count each = refl
same-lists [] (y ∷ ys) count each = absurd (cc count)
same-lists (x ∷ xs) [] count each = absurd (cc count)
same-lists (x ∷ xs) (y ∷ ys) count each =
    let first : x ≡ y = cc (each zero y refl) in
    let rest : xs ≡ ys = same-lists xs ys (omega arith) (λ k z at. each (suc k) z at) in
    cc

-- ---- placing

-- A fresh answer is the chain's entry at its ordinal.
abbrev IsOf : List Issued → Issued → Type 0
IsOf answers issued = issued.fresh ≡ true → slice_get answers issued.ordinal ≡ Some issued

length-placed : (chain : List Issued) (issued : Issued) → length (placed chain issued) ≡ length chain
length-placed chain issued =
    elim issued.fresh as (λ b. length (cond b (set chain issued.ordinal issued) chain) ≡ length chain) [ true ↦ length-set chain issued.ordinal issued | false ↦ refl ]

length-all_placed : (chain all : List Issued) → length (all_placed chain all) ≡ length chain
length-all_placed chain [] = refl
length-all_placed chain (issued ∷ all) = length-all_placed (placed chain issued) all ∙ length-placed chain issued

placed-at : (chain : List Issued) (issued : Issued) (k : ℕ) → issued.ordinal ≡ k → issued.fresh ≡ true → k < length chain → slice_get (placed chain issued) k ≡ Some issued
placed-at chain issued k ordinal fresh within =
    subst (λ b. slice_get (cond b (set chain issued.ordinal issued) chain) k ≡ Some issued) (sym fresh)
    (subst (λ n. slice_get (set chain n issued) k ≡ Some issued) (sym ordinal) (get_written chain k issued within))

module _ (answers : List Issued) (k : ℕ) (entry : Issued) (at : slice_get answers k ≡ Some entry) where
  -- what stands stays, where each answer is of the chain
  stays-one : (chain : List Issued) (issued : Issued) → IsOf answers issued → slice_get chain k ≡ Some entry → slice_get (placed chain issued) k ≡ Some entry
  stays-one chain issued of stands = go issued.fresh refl
    where
      at_ordinal : (b : Bool) → (issued.ordinal == k) ≡ b → issued.fresh ≡ true → slice_get (set chain issued.ordinal issued) k ≡ Some entry
      at_ordinal true is fresh =
          let here : issued.ordinal ≡ k = eqb-true _ _ is in
          let same : Some issued ≡ Some entry = sym (subst (λ n. slice_get answers n ≡ Some issued) here (of fresh)) ∙ at in
          subst (λ n. slice_get (set chain n issued) k ≡ Some entry) (sym here) (get_written chain k issued (slice_get_within chain k entry stands) ∙ same)
      at_ordinal false is fresh =
          get_other chain issued.ordinal k issued (λ same. false≢true (sym is ∙ eq-eqb issued.ordinal k (sym same))) ∙ stands

      go : (b : Bool) → issued.fresh ≡ b → slice_get (cond b (set chain issued.ordinal issued) chain) k ≡ Some entry
      go true fresh = at_ordinal (issued.ordinal == k) refl fresh
      go false fresh = stands

  stays : (chain all : List Issued) → AllByRecursion (IsOf answers) all → slice_get chain k ≡ Some entry → slice_get (all_placed chain all) k ≡ Some entry
  stays chain [] each stands = stands
  stays chain (issued ∷ all) each stands = stays (placed chain issued) all each.1 (stays-one chain issued each.0 stands)

  -- An entry that is among those that are placed stands at its place.
  comes : (chain all : List Issued) (test : Issued → Bool) → length chain ≡ length answers → entry.ordinal ≡ k → entry.fresh ≡ true → ((issued : Issued) → test issued ≡ true → issued ≡ entry) → AllByRecursion (IsOf answers) all → list_any test all ≡ true
      → slice_get (all_placed chain all) k ≡ Some entry
  comes chain [] test count ordinal fresh same each found = absurd (cc found)
  comes chain (issued ∷ all) test count ordinal fresh same each found =
      go (test issued) refl (comes (placed chain issued) all test (length-placed chain issued ∙ count) ordinal fresh same each.1) found
    where
      put : issued ≡ entry → slice_get (placed chain issued) k ≡ Some entry
      put is =
          let within : k < length chain = omega (arith, count, slice_get_within answers k entry at) in
          subst (λ (a : Issued). slice_get (placed chain a) k ≡ Some entry) (sym is) (placed-at chain entry k ordinal fresh within)

      go : (b : Bool) → test issued ≡ b → (list_any test all ≡ true → slice_get (all_placed (placed chain issued) all) k ≡ Some entry) → (b || list_any test all) ≡ true → slice_get (all_placed (placed chain issued) all) k ≡ Some entry
      go true is later found = stays (placed chain issued) all each.1 (put (same issued is))
      go false is later found = later found

-- ---- logs in which no answer is stray

module _ (same_are_equal : (one other : Issued) → is_same one other ≡ true → one ≡ other) (each_is_next : EachIsNext) (epoch_end recovery : ℕ) (logs : List ClientLog) (answers : List Issued) (one : IsChain epoch_end recovery answers) (none : Nowhere (IsStray answers logs)) where
  ordinal_of : (k : ℕ) (entry : Issued) → slice_get answers k ≡ Some entry → (entry.ordinal ≡ k) × (entry.fresh ≡ true)
  ordinal_of k entry at =
      let next = each_is_next epoch_end recovery answers k entry one at in
      let within = slice_get_within answers k entry at in
      (next.ordinal ∙ length-take-le k answers (omega arith), next.fresh)

  of_entry : (issued : Issued) (entry : Option Issued) → slice_get answers issued.ordinal ≡ entry → option_map_or (λ (entry : Issued). is_same issued (record entry { fresh = issued.fresh })) entry false ≡ true → issued.fresh ≡ true → entry ≡ Some issued
  of_entry issued None at is fresh = absurd (false≢true is)
  of_entry issued (Some entry) at is fresh =
      let same : issued ≡ record entry { fresh = issued.fresh } = same_are_equal issued (record entry { fresh = issued.fresh }) is in
      let its = ordinal_of issued.ordinal entry at in
      ap Some (sym (same ∙ ap (λ (b : Bool). record entry { fresh = b }) (fresh ∙ sym its.1)))

  of_answer : (client : ℕ) (asked : Input) (answer : CallAnswer) → goes_with asked answer ≡ true → is_of_chain answers client asked answer ≡ true → AllByRecursion (IsOf answers) (answer_in answer)
  of_answer client asked (Version rec limits locked_out) goes of = tt
  of_answer client asked (Acked rec raised changed) goes of = tt
  of_answer client asked Told goes of = tt
  of_answer client asked (Refused cause) goes of = tt
  of_answer client (input.Ask num processed at) (Answered issued) goes of =
      let parts = and_parts (issued.proxy == client) _ of in
      let more = and_parts (issued.num == num) _ parts.1 in
      ((λ fresh. of_entry issued (slice_get answers issued.ordinal) refl more.1 fresh), tt)
  of_answer client (input.Grv opts) (Answered issued) goes of = absurd (false≢true goes)
  of_answer client (input.Report num locked metadata min_known) (Answered issued) goes of = absurd (false≢true goes)
  of_answer client (input.Tell to) (Answered issued) goes of = absurd (false≢true goes)
  of_answer client (input.Learn from) (Answered issued) goes of = absurd (false≢true goes)

  of_call : (client place : ℕ) (call : Call) → slice_get (calls_of logs client) place ≡ Some call → AllByRecursion (IsOf answers) (answer_in call.answer)
  of_call client place call at =
      let before = take place (calls_of logs client) in
      let justified : is_justified answers client before call ≡ true = true_from_ne_false (is_justified answers client before call) (λ not. none client place (inl (call, at, not))) in
      let kind = and_parts (goes_with call.input call.answer) _ justified in
      let locked = and_parts _ _ kind.1 in
      let of = and_parts (is_of_chain answers client call.input call.answer) _ locked.1 in
      of_answer client call.input call.answer kind.0 of.0

  calls_at : (client : ℕ) (log : ClientLog) → slice_get logs client ≡ Some log → calls_of logs client ≡ log.calls
  calls_at client log at = rw at refl

  each_of : AllByRecursion (IsOf answers) (answers_of_logs logs)
  each_of =
      each-flat_map (IsOf answers) (λ (log : ClientLog). answers_in log.calls) logs
      (λ client log at. each-flat_map (IsOf answers) (λ (call : Call). answer_in call.answer) log.calls
      (λ place call there. of_call client place call (subst (λ (l : List Call). slice_get l place ≡ Some call) (sym (calls_at client log at)) there)))

  -- what is drawn by a call of a client is among the answers of all logs
  among : (client : ℕ) (test : Issued → Bool) → list_any test (answers_in (calls_of logs client)) ≡ true → list_any test (answers_of_logs logs) ≡ true
  among client test found = go (slice_get logs client) refl
    where
      go : (log : Option ClientLog) → slice_get logs client ≡ log → list_any test (answers_of_logs logs) ≡ true
      go None at = absurd (cc (rw at at found))
      go (Some log) at = any-flat_map test (λ (log : ClientLog). answers_in log.calls) logs client log at (subst (λ (l : List Call). list_any test (answers_in l) ≡ true) (calls_at client log at) found)

  stands : (chain : List Issued) → length chain ≡ length answers → (k : ℕ) (entry : Issued) → slice_get answers k ≡ Some entry → slice_get (all_placed chain (answers_of_logs logs)) k ≡ Some entry
  stands chain count k entry at =
      let its = ordinal_of k entry at in
      let test : Issued → Bool = λ issued. is_same issued (record entry { ordinal = k; fresh = true }) in
      let entry_is : record entry { ordinal = k; fresh = true } ≡ entry = ap (λ (p : ℕ × Bool). record entry { ordinal = p.0; fresh = p.1 }) (λ i. (sym its.0 i, sym its.1 i)) in
      let drawn : is_drawn (calls_of logs entry.proxy) k entry ≡ true = true_from_ne_false (is_drawn (calls_of logs entry.proxy) k entry) (λ not. none entry.proxy (length (calls_of logs entry.proxy)) (inr (refl, (k, entry, at, refl, not)))) in
      comes answers k entry at chain (answers_of_logs logs) test count its.0 its.1
      (λ issued same. same_are_equal issued (record entry { ordinal = k; fresh = true }) same ∙ entry_is)
      each_of (among entry.proxy test drawn)

  -- The chain that logs tell is the one by which none of their answers is stray.
  pub told_is_chain : (drawn : ℕ) → length answers ≡ drawn → chain_in drawn logs ≡ answers
  told_is_chain drawn count =
      let none = replicate drawn no_answer in
      let same : length none ≡ length answers = length-replicate drawn no_answer ∙ sym count in
      same-lists (chain_in drawn logs) answers (length-all_placed none (answers_of_logs logs) ∙ same) (stands none same)
