-- What a token, and what lies behind the lock of the reports, keep of their passes.
-- (this product's own)
use Rattle.std.specs.Prelude.{◌≡◌, ℕ, ◌+◌, ◌<◌, ◌≤◌, Bool, true, false, IsSome, Option, None, Some, List, [], ◌∷◌, ◌++◌, length, All, MatchBool, Result, Ok, Err, if◌then◌else◌}
use Rattle.atomic_table.specs.Seated.{TableId}
use mathlib.Core.List.{IsPrefix}
use Rattle.fdb_chain.specs.ChainCore.{chain_of, new_chain}
use Rattle.fdb_chain.specs.Recent.{Recent, IsStateOf}
use Rattle.fdb_chain.specs.declared.error.ChainError.{ChainError}
use Rattle.fdb_history.specs.Chain.{IsChain}
use Rattle.fdb_history.specs.declared.chain.Issued.{Issued}
use Rattle.fdb_history.specs.declared.register.Record.{Record}
use Rattle.fdb_history.specs.Register.{raises, changes}
use Rattle.fdb_live.specs.Seen.{IsLog, epoch_of, last_record}
use Rattle.fdb_live.specs.Holding.{AreDrawn, answers_to}
use Rattle.fdb_live.specs.private.Rule.{Tells, TellsChain, chain_view, having_seen, view}
use Rattle.fdb_live.specs.declared.view.Change.{Change}
use Rattle.fdb_live.specs.declared.view.Epoch.{Epoch}
use Rattle.fdb_live.specs.declared.view.View.{View}

-- A table that is no cell's, for a name that no cell was picked for.
abbrev pub no_table : TableId
no_table =
    record {
      words = 0;
      slots = 0;
      views_name = 0;
      atom = 0;
      block = 0;
      offset = 0;
      slot_names = [];
    }

-- The numbers of a token: its own alone, or none.
abbrev pub HasNumber : Option ℕ → View → Type 0
HasNumber None v = v.high ≤ v.low
HasNumber (Some number) v = (v.low ≡ number) × (v.high ≡ number + 1)

-- What the pass of a token knows: it has this number or none, and has seen a log of the service.
pub record IsHolder (start : Record) (reporters : ℕ) (number : Option ℕ) (v : View) : Type 0 where
  pub start_is : v.start ≡ start
  pub reporters_is : v.reporters ≡ reporters
  pub opened : 0 < reporters
  pub settled : v.mine ≡ v.seen
  pub numbers : HasNumber number v
  pub legal : IsLog start reporters v.seen

-- What the pass behind the lock of the reports knows: it is the one with the right to replace.
pub record IsRight (start : Record) (reporters : ℕ) (v : View) : Type 0 where
  pub start_is : v.start ≡ start
  pub reporters_is : v.reporters ≡ reporters
  pub replaces : v.replaces ≡ true

-- A report by the pass with the right: which log it found, and whether and how it changed the
-- record, and whether it raised it.
pub record IsReported (v : View) (rec : Record) (raised changed : Bool) (position : ℕ)
    (w : View) : Type 0 where
  pub found : List Change
  pub tells : Tells v found
  pub chain : TellsChain v w.chain.seen
  pub legal_chain : (epoch : Epoch) → v.epoch ≡ Some epoch
      → IsChain epoch.before epoch.recovery w.chain.seen
  pub no_chain : v.epoch ≡ None → w.chain.seen ≡ []
  pub numbers : v.high ≤ v.reporters
  pub legal : IsLog v.start v.reporters found
  pub is : w ≡ having_seen v w.seen w.chain.seen
  pub raised_is : raised ≡ raises (last_record v.start found) rec
  pub changed_is : changed ≡ changes (last_record v.start found) rec
  pub seen : MatchBool changed
      (w.seen ≡ found ++ record { reporter = v.low; rec = rec } ∷ [])
      (w.seen ≡ found)
  pub position_is : position ≡ length w.seen

-- A number is below this one, where there is one.
abbrev pub IsBelow : Option ℕ → ℕ → Type 0
IsBelow None count = Unit {0}
IsBelow (Some number) count = number < count

-- What the pass of a token knows of the chain: whose epoch it is, if there is one, that its number is
-- one of the service, and that where there is no chain there are no answers.
pub record IsMember (chained : Bool) (epoch_end recovery reporters : ℕ) (number : Option ℕ) (v : View)
    : Type 0 where
  pub epoch : v.epoch ≡ epoch_of chained epoch_end recovery
  pub settled : v.chain.mine ≡ v.chain.seen
  pub legal : IsChain epoch_end recovery v.chain.seen
  pub none : chained ≡ false → v.chain.seen ≡ []
  pub below : IsBelow number reporters

-- What the pass behind the lock of the asks knows: it is the one with the right to draw, and what
-- is kept of the chain stands for the answers that it has seen.
pub record IsDrawer (epoch_end recovery proxies : ℕ) (state : Recent) (v : View) : Type 0 where
  pub draws : v.chain.draws ≡ true
  pub stands : IsStateOf state (chain_of epoch_end recovery proxies v.chain.seen)
  pub one_chain : IsChain epoch_end recovery v.chain.seen
  pub asked : All (λ answer. answer.proxy < proxies) v.chain.seen

-- The answers after one more, if there is one.
abbrev pub and_then : List Issued → Option Issued → List Issued
and_then answers None = answers
and_then answers (Some answer) = answers ++ answer ∷ []

-- A look by the pass with the right to draw, which draws an answer if there is one.
pub record DrawsAny (drawn : Option Issued) (v w : View) : Type 0 where
  pub is : w ≡ having_seen v v.seen (and_then v.chain.seen drawn)
  pub chain : TellsChain v v.chain.seen
  pub read : IsSome drawn → 0 < v.reporters → IsSome v.epoch → AreDrawn v.chain.seen v.seen

-- The pass with the right to draw took in a token, drew for it or not, and gave it back.
pub record IsServed (drawn : Option Issued) (right token right' token' : View) : Type 0 where
  pub draws : right'.chain.draws ≡ true
  pub seen : right'.chain.seen ≡ and_then right.chain.seen drawn
  pub is : token' ≡ view token.start token.reporters token.epoch token.low (token.low + 1) false
      token.seen token.seen []
      (chain_view false right'.chain.seen right'.chain.seen [])
  pub extends : IsPrefix token.chain.seen right.chain.seen
  pub own : answers_to token.low right.chain.seen ≡ answers_to token.low token.chain.mine
  pub read : IsSome drawn → 0 < token.reporters → IsSome token.epoch
      → AreDrawn right.chain.seen token.seen

-- What is kept of the chain that was made for a service which was opened, if it is to have one.
abbrev pub IsMadeFor : Record → ℕ → Option Epoch → Option Recent → Type 0
IsMadeFor start reporters None core = core ≡ None
IsMadeFor start reporters (Some epoch) None = ⊥
IsMadeFor start reporters (Some epoch) (Some core) =
    IsStateOf core (new_chain epoch.before epoch.recovery reporters)
    × (start.version ≤ epoch.recovery)

-- The answer that is drawn where a request is answered so.
abbrev pub drawn_of : Result Issued ChainError → Option Issued
drawn_of (Ok issued) = if issued.fresh then Some issued else None
drawn_of (Err cause) = None
