-- Logs of a service's clients beside their tokens. (this product's own)
use Rattle.std.specs.Prelude.{◌≡◌, ℕ, ◌<◌, [], Some, List, length, map, slice_get}
use Rattle.fdb_history.specs.Audit.{Low}
use Rattle.fdb_history.specs.Faults.{IsFaultless, Nowhere}
use Rattle.fdb_history.specs.Laws.{HaveMinimaWithin}
use Rattle.fdb_history.specs.Log.{calls_of}
use Rattle.fdb_history.specs.declared.log.ClientLog.{ClientLog}
use Rattle.fdb_history.specs.declared.register.Record.{Record}
use Rattle.fdb_live.specs.Gathering.{AreNumbered}
use Rattle.fdb_live.specs.Seen.{Sight}
use Rattle.fdb_client.specs.Account.{Account, new_account}
use Rattle.fdb_client.specs.Agreeing.{Agrees, AgreesWithChain}

-- The client at a place, by its log and its token, as one that began before any change.
abbrev pub account_at : List ClientLog → ℕ → Sight → Account
account_at logs k token =
    record {
      number = k;
      begun = 0;
      calls = calls_of logs k;
      answers = token.answers;
      changes = token.changes;
    }

-- Each log agrees with the token at its place.
abbrev pub AllAgree : Record → List ClientLog → List Sight → Type 0
AllAgree start logs tokens =
    (k : ℕ) (token : Sight) → slice_get tokens k ≡ Some token
    → Agrees start (account_at logs k token)

-- Each log agrees with the answers that the token at its place proves.
abbrev pub AllAgreeWithChain : ℕ → ℕ → List ClientLog → List Sight → Type 0
AllAgreeWithChain epoch_end recovery logs tokens =
    (k : ℕ) (token : Sight) → slice_get tokens k ≡ Some token
    → AgreesWithChain epoch_end recovery (account_at logs k token)

-- the logs of some clients: of each its calls, in the same order
abbrev pub logs_of : List Account → List ClientLog
logs_of clients = map (λ client. record { calls = client.calls }) clients

-- each client stands at the place of its number
abbrev pub HaveNumbers : List Account → Type 0
HaveNumbers clients =
    (k : ℕ) (client : Account) → slice_get clients k ≡ Some client → client.number ≡ k

-- so many clients, each at the place of its number
pub record AreAllInPlace (number : ℕ) (clients : List Account) : Type 0 where
  pub count : length clients ≡ number
  pub numbers : HaveNumbers clients

-- so many clients, each at the place of its number, who have called nobody and have seen nothing
pub record AreNew (number : ℕ) (clients : List Account) : Type 0 where
  pub count : length clients ≡ number
  pub each : (k : ℕ) → k < number → slice_get clients k ≡ Some (new_account k [] [])

-- No fault of the register's history stands in these logs, no report told of a minimum above its
-- version, and each version but the first is above what its asker had seen.
pub record HaveNoFault (start : Record) (logs : List ClientLog) : Type 0 where
  pub faultless : IsFaultless start logs
  pub minima : HaveMinimaWithin logs
  pub above : Nowhere (Low start logs)

-- These are the tokens of so many reporters, in order, which agree with these logs.
pub record AreTokensOf (start : Record) (reporters : ℕ) (logs : List ClientLog)
    (tokens : List Sight) : Type 0 where
  pub count : length tokens ≡ reporters
  pub numbered : AreNumbered tokens
  pub agree : AllAgree start logs tokens
