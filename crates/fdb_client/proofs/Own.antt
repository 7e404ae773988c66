-- Own positions and own answers that stay, and the number that comes after them.
use Rattle.std.proofs.Common.{◌≡◌, ℕ, ◌+◌, ◌==◌, length, Some, ap, sym, ◌∙◌, arith}
use Rattle.std.proofs.lemmas.List.Sums.{length-filter}
use Rattle.fdb_history.specs.Chain.{latest}
use Rattle.fdb_history.specs.declared.chain.Issued.{Issued}
use Rattle.fdb_client.specs.Account.{Account}
use Rattle.fdb_client.specs.Agreeing.{AgreesWithChain}
use Rattle.fdb_client.specs.Calls.{next_number}
use Rattle.fdb_live.specs.Holding.{answers_among, answers_to, own_answers}
use Rattle.fdb_live.specs.Seen.{Sight, own_among, own_positions}

pub own_same : (number : ℕ) (before after : Sight) → before.reporter ≡ Some number → after.reporter ≡ before.reporter → own_positions after ≡ own_positions before
    → own_among (Some number) after.changes ≡ own_among (Some number) before.changes
own_same number before after is same own =
    ap (λ who. own_among who after.changes) (sym (same ∙ is)) ∙ (own ∙ ap (λ who. own_among who before.changes) is)

pub own_answers_same : (number : ℕ) (before after : Sight) → before.reporter ≡ Some number → after.reporter ≡ before.reporter → own_answers after ≡ own_answers before
    → answers_to number after.answers ≡ answers_to number before.answers
own_answers_same number before after is same own =
    ap (λ who. answers_among who after.answers) (sym (same ∙ is)) ∙ (own ∙ ap (λ who. answers_among who before.answers) is)

-- a client's next number is the one after its latest
pub next_is : (epoch_end recovery : ℕ) (account : Account) → AgreesWithChain epoch_end recovery account → next_number account ≡ latest account.number account.answers + 1
next_is epoch_end recovery account agrees =
    omega (arith, ap length agrees.own, length-filter (λ (answer : Issued). answer.proxy == account.number) account.answers)
