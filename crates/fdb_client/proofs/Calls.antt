-- Calls with one more at their end.
use Rattle.std.proofs.Common.{◌≡◌, ℕ, ◌+◌, ◌≤◌, ◌==◌, Bool, true, false, if◌then◌else◌, List, [], ◌∷◌, ◌++◌, Option, None, Some, length, refl, ap, sym, subst, ◌∙◌, filter}
use Rattle.std.specs.Option.{option_or}
use Rattle.std.proofs.lemmas.Grind.{flat_map-append}
use Rattle.std.proofs.lemmas.List.{append-nil, length-append}
use Rattle.std.proofs.lemmas.List.Elements.{filter-append}
use Rattle.fdb_client.proofs.Kept.{among_more, among_one}
use Rattle.fdb_client.specs.private.Versions.{version_among}
use Rattle.fdb_history.specs.Log.{answer_in, answers_in, fresh_answers, position_after_calls}
use Rattle.fdb_history.specs.Strays.{issued_under}
use Rattle.fdb_history.specs.declared.chain.Issued.{Issued}
use Rattle.fdb_history.specs.declared.log.Call.{Call}
use Rattle.fdb_history.specs.declared.log.CallAnswer.{CallAnswer}
use Rattle.fdb_history.specs.declared.log.CallAnswer.TheVariants.{Version, Acked, Answered, Told, Refused}
use Rattle.fdb_history.specs.declared.register.TheConstants.{MAX_VERSION}

pub position_of_added : (before : ℕ) (calls : List Call) (call : Call) → position_after_calls before (calls ++ call ∷ []) ≡ call.position
position_of_added before [] call = refl
position_of_added before (first ∷ calls) call = position_of_added first.position calls call

answers_of_added : (calls : List Call) (call : Call) → answers_in (calls ++ call ∷ []) ≡ answers_in calls ++ answer_in call.answer
answers_of_added calls call = flat_map-append (λ one. answer_in one.answer) calls (call ∷ []) ∙ ap (λ last. answers_in calls ++ last) (append-nil (answer_in call.answer))

pub fresh_of_added : (calls : List Call) (call : Call) → fresh_answers (calls ++ call ∷ []) ≡ fresh_answers calls ++ filter (λ issued. issued.fresh) (answer_in call.answer)
fresh_of_added calls call = ap (filter (λ issued. issued.fresh)) (answers_of_added calls call) ∙ filter-append (λ issued. issued.fresh) (answers_in calls) (answer_in call.answer)

pub count_of_added : (calls : List Call) (call : Call) → length (fresh_answers (calls ++ call ∷ [])) ≡ length (fresh_answers calls) + length (filter (λ issued. issued.fresh) (answer_in call.answer))
count_of_added calls call = ap length (fresh_of_added calls call) ∙ length-append (fresh_answers calls) (filter (λ issued. issued.fresh) (answer_in call.answer))

pub issued_of_added : (calls : List Call) (call : Call) (num : ℕ) → issued_under (calls ++ call ∷ []) num ≡ option_or (issued_under calls num) (version_among (answer_in call.answer) num)
issued_of_added calls call num = ap (λ answers. version_among answers num) (answers_of_added calls call) ∙ among_more (answers_in calls) (answer_in call.answer) num

of_either : (P : ℕ → Type 0) (one other : Option ℕ) (version : ℕ) → (one ≡ Some version → P version) → (other ≡ Some version → P version) → option_or one other ≡ Some version → P version
of_either P None other version first second is = second is
of_either P (Some x) other version first second is = first is

of_own : (P : ℕ → Type 0) (own version : ℕ) (is : Bool) → P own → (if is then Some own else None) ≡ Some version → P version
of_own P own version true here same = let is : own ≡ version = cc same in subst P is here
of_own P own version false here same = absurd (cc same)

-- What holds of the versions under all numbers in some calls, and of the one in one more call's answer, holds of those in all.
pub versions_of_added : (P : ℕ → Type 0) (calls : List Call) (call : Call) → ((issued : Issued) → call.answer ≡ Answered issued → P issued.version)
    → ((num version : ℕ) → issued_under calls num ≡ Some version → P version)
    → (num version : ℕ) → issued_under (calls ++ call ∷ []) num ≡ Some version → P version
versions_of_added P calls call here before num version is =
    of_either P (issued_under calls num) (version_among (answer_in call.answer) num) version (before num version) (last call.answer here) (sym (issued_of_added calls call num) ∙ is)
  where
    last : (answer : CallAnswer) → ((issued : Issued) → answer ≡ Answered issued → P issued.version) → version_among (answer_in answer) num ≡ Some version → P version
    last (Answered issued) own found = of_own P issued.version version (issued.num == num) (own issued refl) (sym (among_one issued num) ∙ found)
    last (Version rec limits locked_out) own found = absurd (cc found)
    last (Acked rec raised changed) own found = absurd (cc found)
    last Told own found = absurd (cc found)
    last (Refused cause) own found = absurd (cc found)

-- The versions under all numbers are in range, in some calls with one more that was answered with such a version.
pub in_range_of_added : (calls : List Call) (call : Call) (issued : Issued) → call.answer ≡ Answered issued → issued.version ≤ MAX_VERSION
    → ((num version : ℕ) → issued_under calls num ≡ Some version → version ≤ MAX_VERSION)
    → (num version : ℕ) → issued_under (calls ++ call ∷ []) num ≡ Some version → version ≤ MAX_VERSION
in_range_of_added calls call issued answer in_range =
    versions_of_added (λ version. version ≤ MAX_VERSION) calls call (λ other is. (let same : issued ≡ other = cc (answer, is) in subst (λ (one : Issued). one.version ≤ MAX_VERSION) same in_range))
