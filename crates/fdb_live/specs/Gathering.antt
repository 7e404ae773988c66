-- Some tokens that stand together. (this product's own)
use Rattle.std.specs.Prelude.{◌≡◌, ◌<◌, ℕ, Some, List, All, Contains, length, slice_get}
use mathlib.Core.List.{IsPrefix}
use Rattle.fdb_history.specs.Chain.{IsChain}
use Rattle.fdb_history.specs.declared.chain.Issued.{Issued}
use Rattle.fdb_live.specs.Holding.{answers_among, own_answers}
use Rattle.fdb_live.specs.Seen.{Sight, own_among, own_positions}

-- Each of these is the token of the reporter whose number is its place.
abbrev pub AreNumbered : List Sight → Type 0
AreNumbered tokens =
    (k : ℕ) (token : Sight) → slice_get tokens k ≡ Some token → token.reporter ≡ Some k

-- Exactly one of these owns the position.
pub record IsOwnedOnce (tokens : List Sight) (position : ℕ) : Type 0 where
  pub owner : ℕ
  pub token : Sight
  pub at : slice_get tokens owner ≡ Some token
  pub owns : Contains (own_positions token) position
  pub alone : (k : ℕ) (other : Sight) → slice_get tokens k ≡ Some other
      → Contains (own_positions other) position → k ≡ owner

-- The first has seen all that the second has.
pub record IsSeenBy (first token : Sight) : Type 0 where
  pub changes : IsPrefix token.changes first.changes
  pub answers : IsPrefix token.answers first.answers

-- What are the second's own are just that in what the first has seen.
pub record IsOwnKept (first token : Sight) : Type 0 where
  pub positions : own_among token.reporter first.changes ≡ own_positions token
  pub answers : answers_among token.reporter first.answers ≡ own_answers token

-- A token has become another: its holder is the same, has seen no less, and what is its own is as
-- before.
pub record IsSameHolder (old new : Sight) : Type 0 where
  pub reporter : new.reporter ≡ old.reporter
  pub seen : IsSeenBy new old
  pub own : IsOwnKept new old

-- What stands at a place among some tokens is what this one has become, once its holder has seen just
-- what the first has: it had seen no more, and what is its own is as before.
pub record HasCaughtUp (first old : Sight) (k : ℕ) (tokens : List Sight) : Type 0 where
  pub at : slice_get tokens k ≡ Some (record first { reporter = old.reporter })
  pub seen : IsSeenBy first old
  pub own : IsOwnKept first old

-- These are the tokens of so many reporters, in order, who have all seen just what the first has.
pub record AreTogether (reporters : ℕ) (first : Sight) (tokens : List Sight) : Type 0 where
  pub count : length tokens ≡ reporters
  pub one_list : (k : ℕ) → k < reporters
      → slice_get tokens k ≡ Some (record first { reporter = Some k })

-- These are all answers of a service: one chain, of answers to its own commit proxies, which the
-- holder of each token has seen whole.
pub record IsClosedAfter (epoch_end recovery proxies : ℕ) (answers : List Issued)
    (old new : List Sight) : Type 0 where
  pub one_chain : IsChain epoch_end recovery answers
  pub asked : All (λ answer. answer.proxy < proxies) answers
  pub each : (k : ℕ) (token : Sight) → slice_get old k ≡ Some token
      → HasCaughtUp (record token { answers = answers }) token k new
