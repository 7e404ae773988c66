-- The rule of the cell: what its words and the views of all passes have to do with one another.
-- (this product's own)
use Rattle.std.specs.Prelude.{◌≡◌, ℕ, ◌+◌, ◌<◌, ◌≤◌, Bool, true, false, Option, None, Some, IsSome, List, [], ◌∷◌, ◌++◌, length}
use mathlib.Core.List.{IsPrefix}
use mathlib.Core.Option.{some}
use lib.ListN.{get_elem?}
use Rattle.fdb_history.specs.Chain.{IsChain}
use Rattle.fdb_history.specs.declared.chain.Issued.{Issued}
use Rattle.fdb_history.specs.declared.register.Record.{Record}
use Rattle.fdb_live.specs.Seen.{last_record, IsLog, changed_by, longer}
use Rattle.fdb_live.specs.Holding.{AreDrawn, answers_to}
use Rattle.fdb_live.specs.private.Words.{fetched_of}
use Rattle.fdb_live.specs.declared.held.Fetched.{Fetched}
use Rattle.fdb_live.specs.declared.held.Held.{Held}
use Rattle.fdb_live.specs.declared.view.Change.{Change}
use Rattle.fdb_live.specs.declared.view.ChainView.{ChainView}
use Rattle.fdb_live.specs.declared.view.Epoch.{Epoch}
use Rattle.fdb_live.specs.declared.view.View.{View}

-- The words are those after the log.
pub record IsRegister (start : Record) (fetched : Fetched) (log : List Change) : Type 0 where
  pub position : fetched.position ≡ length log
  pub rec : fetched.rec ≡ last_record start log

-- What the passes see parts of: with what the service was opened, its changes and its answers, the
-- pass with the right to each of these logs, and who holds which number.
pub record Whole : Type 0 where
  pub start : Record
  pub reporters : ℕ
  pub epoch : Option Epoch
  pub log : List Change
  pub seat : ℕ
  pub answers : List Issued
  pub drawer : ℕ
  pub holder : ℕ → ℕ

-- What the rule says of what one pass knows of the chain. One with the right to draw sits at the
-- drawer's seat, and has seen all answers. What any has seen begins them, and the lists of a join
-- begin what it has seen. All answers to a number that a pass holds stand in its own list.
pub record FitsChain (answers : List Issued) (drawer pass low high : ℕ) (c : ChainView) : Type 0 where
  pub right : c.draws ≡ true → (pass ≡ drawer) × (c.seen ≡ answers)
  pub seen : IsPrefix c.seen answers
  pub mine : IsPrefix c.mine c.seen
  pub theirs : IsPrefix c.theirs c.seen
  pub own : (n : ℕ) → low ≤ n → n < high → answers_to n c.mine ≡ answers_to n answers

-- What the rule says of one pass. One with the right to replace sits at the seat, and has seen the
-- whole log. What any has seen begins the log, and the lists of a join begin what it has seen. All
-- changes with a number that a pass holds stand in its own list, and each number has one holder.
pub record Fits (whole : Whole) (pass : ℕ) (v : View) : Type 0 where
  pub opened : 0 < v.reporters
      → (v.start ≡ whole.start) × (v.reporters ≡ whole.reporters) × (v.epoch ≡ whole.epoch)
  pub right : v.replaces ≡ true
      → (pass ≡ whole.seat) × (v.reporters ≡ whole.reporters) × (v.seen ≡ whole.log)
  pub seen : IsPrefix v.seen whole.log
  pub mine : IsPrefix v.mine v.seen
  pub theirs : IsPrefix v.theirs v.seen
  pub own : (n : ℕ) → v.low ≤ n → n < v.high → changed_by n 1 v.mine ≡ changed_by n 1 whole.log
  pub numbers : v.high ≤ v.reporters
  pub held : (n : ℕ) → v.low ≤ n → n < v.high → pass ≡ whole.holder n
  pub chain : FitsChain whole.answers whole.drawer pass v.low v.high v.chain

-- The answers are a chain of this epoch, and the version of each change was drawn.
pub record IsDrawnFrom (epoch : Epoch) (answers : List Issued) (log : List Change) : Type 0 where
  pub legal : IsChain epoch.before epoch.recovery answers
  pub drawn : AreDrawn answers log

-- The rule. There is one log, whose last record the words are once the service is opened, and one
-- list of answers, from which the versions of the log are where the service has a chain, and which
-- is empty where it has none. Each pass fits these.
pub record Kept (fetched : Fetched) (views : List View) : Type 0 where
  pub whole : Whole
  pub register : 0 < whole.reporters → IsRegister whole.start fetched whole.log
  pub legal : IsLog whole.start whole.reporters whole.log
  pub drawn : (epoch : Epoch) → whole.epoch ≡ Some epoch
      → IsDrawnFrom epoch whole.answers whole.log
  pub bare : whole.epoch ≡ None → whole.answers ≡ []
  pub each : (pass : ℕ) (v : View) → get_elem? views pass ≡ some v → Fits whole pass v

abbrev pub chain_view : Bool → List Issued → List Issued → List Issued → ChainView
chain_view draws seen mine theirs =
    record { draws = draws; seen = seen; mine = mine; theirs = theirs }

abbrev pub view : Record → ℕ → Option Epoch → ℕ → ℕ → Bool → List Change → List Change → List Change
    → ChainView → View
view start reporters epoch low high replaces seen mine theirs chain =
    record {
      start = start;
      reporters = reporters;
      epoch = epoch;
      low = low;
      high = high;
      replaces = replaces;
      seen = seen;
      mine = mine;
      theirs = theirs;
      chain = chain;
    }

-- The start of a service that is not opened yet.
abbrev pub no_record : Record
no_record = record { version = 0; locked = false; metadata = None; min_known = 0 }

-- An answer that nobody was given, for a draw that no answer was picked for.
abbrev pub no_answer : Issued
no_answer =
    record {
      ordinal = 0;
      proxy = 0;
      num = 0;
      processed = 0;
      prev = 0;
      version = 0;
      at = 0;
      fresh = true;
    }

-- The first pass, before the service is opened: it has the right to replace, and that to draw.
abbrev pub first : View
first = view no_record 0 None 0 0 true [] [] [] (chain_view true [] [] [])

-- A pass that has given all away: it holds no number, has no right and has seen nothing.
abbrev pub spent : View
spent = view no_record 0 None 0 0 false [] [] [] (chain_view false [] [] [])

-- The first pass of a service that was just opened, once it has given away the numbers below one.
abbrev pub left_from : ℕ → Record → Option Epoch → ℕ → View
left_from low start epoch reporters =
    view start reporters epoch low reporters true [] [] [] (chain_view true [] [] [])

abbrev pub opened : Record → Option Epoch → ℕ → View
opened start epoch reporters = left_from 0 start epoch reporters

-- The view once it has seen these lists.
abbrev pub having_chain : ChainView → List Issued → ChainView
having_chain c answers = chain_view c.draws answers answers []

abbrev pub having_seen : View → List Change → List Issued → View
having_seen v list answers =
    view v.start v.reporters v.epoch v.low v.high v.replaces list list []
    (having_chain v.chain answers)

-- A pass that has seen the same, with no number and no right.
abbrev pub copy_of : View → View
copy_of v =
    view v.start v.reporters v.epoch 0 0 false v.seen v.seen []
    (chain_view false v.chain.seen v.chain.seen [])

-- What a pass knows of the chain, without the right to draw.
abbrev pub without_right : ChainView → ChainView
without_right c = chain_view false c.seen c.mine c.theirs

-- The lowest number goes to a pass of its own, which has seen the same.
abbrev pub lowest_of : View → View
lowest_of v =
    view v.start v.reporters v.epoch v.low (v.low + 1) false v.seen v.mine v.theirs
    (without_right v.chain)

abbrev pub without_lowest : View → View
without_lowest v =
    view v.start v.reporters v.epoch (v.low + 1) v.high v.replaces v.seen v.mine v.theirs v.chain

-- The right to draw goes to a pass of its own, which has seen the same.
abbrev pub drawer_of : View → View
drawer_of v =
    view v.start v.reporters v.epoch 0 0 false v.seen v.seen []
    (chain_view v.chain.draws v.chain.seen v.chain.seen [])

abbrev pub without_drawing : View → View
without_drawing v =
    view v.start v.reporters v.epoch v.low v.high v.replaces v.seen v.mine v.theirs
    (without_right v.chain)

-- The first pass takes in what the second has seen.
abbrev pub joined : View → View → View
joined v w =
    view v.start v.reporters v.epoch v.low v.high v.replaces (longer v.seen w.seen) v.mine w.seen
    (chain_view v.chain.draws (longer v.chain.seen w.chain.seen) v.chain.mine w.chain.seen)

-- The pass with the right to replace takes in another, with its number and its own list.
abbrev pub taken : View → View → View
taken v w =
    view v.start v.reporters w.epoch w.low w.high v.replaces v.seen w.mine w.seen
    (without_right w.chain)

-- The pass with the right to draw takes in another, with its number and its own list. Of the changes
-- it knows what the other has seen.
abbrev pub served : View → View → View
served v w =
    view w.start w.reporters w.epoch w.low w.high false w.seen w.mine w.theirs
    (chain_view v.chain.draws v.chain.seen w.chain.mine w.chain.seen)

-- What a list that the log begins with, or the log itself, tells a pass.
pub record Tells (v : View) (list : List Change) : Type 0 where
  pub seen : IsPrefix v.seen list
  pub mine : IsPrefix v.mine list
  pub theirs : IsPrefix v.theirs list
  pub own : (n : ℕ) → v.low ≤ n → n < v.high → changed_by n 1 v.mine ≡ changed_by n 1 list

-- What some first answers tell a pass.
pub record TellsChain (v : View) (answers : List Issued) : Type 0 where
  pub seen : IsPrefix v.chain.seen answers
  pub mine : IsPrefix v.chain.mine answers
  pub theirs : IsPrefix v.chain.theirs answers
  pub own : (n : ℕ) → v.low ≤ n → n < v.high
      → answers_to n v.chain.mine ≡ answers_to n answers

-- A look at the words: the whole log and all answers are then seen.
pub record Looks (v : View) (before after : Fetched) (w : View) : Type 0 where
  pub is : w ≡ having_seen v w.seen w.chain.seen
  pub tells : Tells v w.seen
  pub chain : TellsChain v w.chain.seen
  pub numbers : v.high ≤ v.reporters
  pub legal : 0 < v.reporters → IsLog v.start v.reporters w.seen
  pub register : 0 < v.reporters → IsRegister v.start after w.seen
  pub drawn : 0 < v.reporters → (epoch : Epoch) → v.epoch ≡ Some epoch
      → IsDrawnFrom epoch w.chain.seen w.seen
  pub bare : 0 < v.reporters → v.epoch ≡ None → w.chain.seen ≡ []

-- A look that ends a join: what was seen stays.
pub record Settles (v : View) (before after : Fetched) (w : View) : Type 0 where
  pub is : w ≡ having_seen v v.seen v.chain.seen
  pub tells : Tells v v.seen
  pub chain : TellsChain v v.chain.seen
  pub legal : 0 < v.reporters → (epoch : Epoch) → v.epoch ≡ Some epoch
      → IsChain epoch.before epoch.recovery v.chain.seen
  pub bare : 0 < v.reporters → v.epoch ≡ None → v.chain.seen ≡ []

-- A report of this record by the pass with the right, under its lowest number.
abbrev pub Adds : Record → View → Fetched → Fetched → View → Type 0
Adds rec v before after w = w
    ≡ having_seen v (v.seen ++ record { reporter = v.low; rec = rec } ∷ []) v.chain.seen

-- A look by the pass with the right to draw, which draws this answer. Of the record it tells nothing
-- but that the versions of the changes that were seen were drawn before.
pub record Draws (answer : Issued) (v : View) (before after : Fetched) (w : View) : Type 0 where
  pub is : w ≡ having_seen v v.seen (v.chain.seen ++ answer ∷ [])
  pub tells : Tells v v.seen
  pub chain : TellsChain v v.chain.seen
  pub drawn : 0 < v.reporters → IsSome v.epoch → AreDrawn v.chain.seen v.seen

-- The service is opened with what is then written, with the chain of an epoch or none, and with this
-- many reporters.
abbrev pub Opens : Option Epoch → ℕ → View → Fetched → Fetched → View → Type 0
Opens epoch reporters v before after w = w ≡ opened after.rec epoch reporters

-- The rule, and what a step tells, of the words that the cell keeps.
abbrev pub Keeps : Held → List View → Type 0
Keeps held views = Kept (fetched_of held) views

abbrev pub InWords : (View → Fetched → Fetched → View → Type 0) → View → Held → Held → View → Type 0
InWords then v before after w = then v (fetched_of before) (fetched_of after) w
