-- What a client has called and seen, and how a call adds to it. (all of this is this product's own)
use Rattle.std.specs.Prelude.{◌≡◌, ℕ, Bool, true, false, Some, List, [], ◌∷◌, ◌++◌, filter, length}
use mathlib.Core.List.{IsPrefix}
use Rattle.fdb_history.specs.Added.{may_advance}
use Rattle.fdb_history.specs.Log.{answer_changes, answer_in, position_after_calls}
use Rattle.fdb_history.specs.declared.chain.Issued.{Issued}
use Rattle.fdb_history.specs.declared.log.Call.{Call}
use Rattle.fdb_history.specs.declared.log.CallAnswer.{CallAnswer}
use Rattle.fdb_history.specs.declared.log.Input.{Input}
use Rattle.fdb_history.specs.declared.log.Input.TheVariants.{Ask, Learn}
use Rattle.fdb_live.specs.Holding.{own_answers}
use Rattle.fdb_live.specs.Seen.{Sight, own_positions}
use Rattle.fdb_live.specs.declared.view.Change.{Change}

-- A client: its number, the position that it began with, its calls in order, and what it has seen:
-- the answers by which commit versions were drawn, and the changes of the live record.
pub record Account : Type 0 where
  pub number : ℕ
  pub begun : ℕ
  pub calls : List Call
  pub answers : List Issued
  pub changes : List Change

-- what a client's token proves that it has seen, as the commit proxy and the reporter of its number
abbrev pub sight : Account → Sight
sight account =
    record {
      reporter = Some account.number;
      changes = account.changes;
      answers = account.answers;
    }

-- a client that has called nobody yet
abbrev pub new_account : ℕ → List Issued → List Change → Account
new_account number answers changes =
    record {
      number = number;
      begun = length changes;
      calls = [];
      answers = answers;
      changes = changes;
    }

-- It is the same client as before: its number and the position that it began with have stayed.
abbrev pub IsSameClient : Account → Account → Type 0
IsSameClient before after = (after.number ≡ before.number) × (after.begun ≡ before.begun)

-- whether a client may have seen more after a call than before it: where the register answered, and
-- after a learn
abbrev pub may_see_more : Input → CallAnswer → Bool
may_see_more (Learn from) answer = true
may_see_more input answer = may_advance input answer

-- whether it may have heard of more answers to requests for commit versions: after an ask too
abbrev pub may_hear_more : Input → CallAnswer → Bool
may_hear_more (Ask num processed at) answer = true
may_hear_more input answer = may_see_more input answer

-- the commit version in an answer, if it was drawn for its call
abbrev pub drawn_in : CallAnswer → List Issued
drawn_in answer = filter (λ issued. issued.fresh) (answer_in answer)

-- A call with this input was logged, with this answer: as the last of the client's calls, from the
-- position that it had seen before to the one that it has seen since, which are those of its token.
-- It has seen and heard more only where it may have, and forgets nothing. A position became its own exactly
-- where the answer says that the call changed the register, and an answer only where it is fresh.
pub record Logs (before : Account) (input : Input) (answer : CallAnswer) (after : Account)
    : Type 0 where
  pub number : after.number ≡ before.number
  pub begun : after.begun ≡ before.begun
  pub calls : after.calls ≡ before.calls ++ record {
    input = input;
    asked = length before.changes;
    position = length after.changes;
    answer = answer;
  } ∷ []
  pub come_to : position_after_calls before.begun before.calls ≡ length before.changes
  pub extends : IsPrefix before.changes after.changes
  pub stays : may_see_more input answer ≡ false → after.changes ≡ before.changes
  pub own : answer_changes answer ≡ false
      → own_positions (sight after) ≡ own_positions (sight before)
  pub changed : answer_changes answer ≡ true
      → own_positions (sight after) ≡ own_positions (sight before) ++ length after.changes ∷ []
  pub answers : IsPrefix before.answers after.answers
  pub hears : may_hear_more input answer ≡ false → after.answers ≡ before.answers
  pub not_drawn : drawn_in answer ≡ []
      → own_answers (sight after) ≡ own_answers (sight before)
