-- What the steps make of a token.
use Rattle.std.proofs.lemmas.Grind.{common_steps}
use Rattle.std.proofs.lemmas.Bool.Decides.{nat_tests}
use Rattle.std.proofs.Common.{◌≡◌, ℕ, ◌*◌, ◌<◌, ◌≤◌, Bool, true, false, true≢false, List, [], Option, None, Some, refl, sym, ap, ◌∙◌, subst, arith}
use Rattle.std.specs.Prelude.{Contains, IsSome, is_some}
use mathlib.Core.List.{IsPrefix}
use Rattle.fdb_history.specs.Chain.{IsChain}
use Rattle.fdb_history.specs.declared.chain.Issued.{Issued}
use Rattle.fdb_history.specs.declared.register.Record.{Record}
use Rattle.fdb_live.specs.declared.held.Fetched.{Fetched}
use Rattle.fdb_live.specs.declared.view.Change.{Change}
use Rattle.fdb_live.specs.declared.view.Epoch.{Epoch}
use Rattle.fdb_live.specs.declared.view.View.{View}
use Rattle.fdb_live.specs.Holding.{AreDrawn, versions}
use Rattle.fdb_live.specs.Seen.{IsRecord, epoch_from, epoch_of, own_among}
use Rattle.fdb_live.specs.private.Rule.{IsRegister, Looks, Settles, Tells, having_seen, joined, taken}
use Rattle.fdb_live.specs.private.Token.{HasNumber, IsBelow, IsHolder, IsMember}
use Rattle.fdb_live.proofs.Logs.{position_below, taken_last}

-- a holder's own positions are those of the list that it had seen itself
own_stays : (number : Option ℕ) (v : View) (list : List Change) → HasNumber number v → Tells v list → own_among number list ≡ own_among number v.mine
own_stays None v list h t = refl
own_stays (Some n) v list h t = sym (t.own n (omega (arith, h.0)) (omega (arith, h.1)))

-- what a look makes of a token
pub record HasLooked (start : Record) (reporters : ℕ) (number : Option ℕ) (v : View) (fetched : Fetched) (w : View) : Type 0 where
  pub holder : IsHolder start reporters number w
  pub register : IsRegister start fetched w.seen
  pub extends : IsPrefix v.seen w.seen
  pub own : own_among number w.seen ≡ own_among number v.seen

pub looked : (start : Record) (reporters : ℕ) (number : Option ℕ) (v w : View) (x : Fetched) → IsHolder start reporters number v → Looks v x x w → HasLooked start reporters number v x w
looked start reporters number v w x h l = grind (arith, common_steps, nat_tests)

-- a position never exceeds twice the version
pub looked_below : {start : Record} {reporters : ℕ} {number : Option ℕ} {v w : View} {x : Fetched} → IsHolder start reporters number v → Looks v x x w → x.position ≤ 2 * x.rec.version
looked_below {start} {reporters} {number} {v} {w} {x} h l =
    let all = looked start reporters number v w x h l in
    let below = position_below all.holder.legal in
    let at = all.register.position in
    let same = ap (λ (r : Record). r.version) all.register.rec in
    omega arith

pub looked_taken : {start : Record} {reporters : ℕ} {number : Option ℕ} {v w : View} {x : Fetched} → IsHolder start reporters number v → Looks v x x w → IsRecord x.rec
looked_taken {start} {reporters} {number} {v} {w} {x} h l =
    let all = looked start reporters number v w x h l in
    subst IsRecord (sym all.register.rec) (taken_last all.holder.legal)

-- of a service with a chain what was seen is one, and of one without it nothing
pub chain_or_none : (chained : Bool) (epoch_end recovery : ℕ) (epoch : Option Epoch) (answers : List Issued) → epoch ≡ epoch_of chained epoch_end recovery → ((e : Epoch) → epoch ≡ Some e → IsChain e.before e.recovery answers) → (epoch ≡ None → answers ≡ [])
    → IsChain epoch_end recovery answers × (chained ≡ false → answers ≡ [])
chain_or_none true epoch_end recovery epoch answers is legal none = (legal (epoch_from epoch_end recovery) is, λ not. absurd (true≢false not))
chain_or_none false epoch_end recovery epoch answers is legal none = (subst (IsChain epoch_end recovery) (sym (none is)) tt, λ _. none is)

pub epoch_is : {chained : Bool} {epoch_end recovery : ℕ} {epoch : Option Epoch} → epoch ≡ epoch_of chained epoch_end recovery → chained ≡ true → epoch ≡ Some (epoch_from epoch_end recovery)
epoch_is {chained} {epoch_end} {recovery} is so = is ∙ ap (λ (c : Bool). epoch_of c epoch_end recovery) so

-- only where there is a chain a report needs a version that was drawn
pub issued_if : {P : Type 0} (chained : Bool) (epoch_end recovery : ℕ) (epoch : Option Epoch) → epoch ≡ epoch_of chained epoch_end recovery → (chained ≡ true → P) → IsSome epoch → P
issued_if true epoch_end recovery epoch is drawn some = drawn refl
issued_if false epoch_end recovery epoch is drawn some = absurd (true≢false (sym some ∙ ap (λ (e : Option Epoch). is_some e) is))

pub issued_taken : {chained : Bool} {epoch_end recovery reporters : ℕ} {number : Option ℕ} {v given t : View} (rv : View) (rec : Record) → IsMember chained epoch_end recovery reporters number v → given ≡ v → t ≡ taken rv given → (chained ≡ true → Contains (versions v.chain.seen) rec.version) → IsSome t.epoch → Contains (versions t.chain.seen) rec.version
issued_taken {chained} {epoch_end} {recovery} {v = v} rv rec m gives takes drawn =
    subst (λ (u : View). IsSome u.epoch → Contains (versions u.chain.seen) rec.version) (sym (takes ∙ ap (taken rv) gives)) (issued_if chained epoch_end recovery v.epoch m.epoch drawn)

-- what a step makes of what a token knows of the chain
member_as : (chained : Bool) (epoch_end recovery reporters : ℕ) (number : Option ℕ) (v w : View) (list : List Change) (answers : List Issued) → v.epoch ≡ epoch_of chained epoch_end recovery → IsBelow number reporters → w ≡ having_seen v list answers → IsChain epoch_end recovery answers × (chained ≡ false → answers ≡ []) → IsMember chained epoch_end recovery reporters number w
member_as chained epoch_end recovery reporters number v w list answers epoch below is chain = grind (arith, common_steps, nat_tests)

is_open : {start : Record} {reporters : ℕ} {number : Option ℕ} {v : View} → IsHolder start reporters number v → 0 < v.reporters
is_open h = subst (λ n. 0 < n) (sym h.reporters_is) h.opened

pub member_drawn : {start : Record} {chained : Bool} {epoch_end recovery reporters : ℕ} {number : Option ℕ} {v w : View} {x : Fetched} → IsHolder start reporters number v → IsMember chained epoch_end recovery reporters number v → Looks v x x w → chained ≡ true → AreDrawn w.chain.seen w.seen
member_drawn {epoch_end = epoch_end} {recovery = recovery} h m l so = (l.drawn (is_open h) (epoch_from epoch_end recovery) (epoch_is m.epoch so)).drawn

pub member_looked : {start : Record} {chained : Bool} {epoch_end recovery reporters : ℕ} {number : Option ℕ} {v w : View} {x : Fetched} → IsHolder start reporters number v → IsMember chained epoch_end recovery reporters number v → Looks v x x w → IsMember chained epoch_end recovery reporters number w
member_looked {start} {chained} {epoch_end} {recovery} {reporters} {number} {v} {w} h m l =
    member_as chained epoch_end recovery reporters number v w w.seen w.chain.seen m.epoch m.below l.is
    (chain_or_none chained epoch_end recovery v.epoch w.chain.seen m.epoch (λ e is. (l.drawn (is_open h) e is).legal) (l.bare (is_open h)))

pub member_told : {start : Record} {chained : Bool} {epoch_end recovery reporters : ℕ} {number : Option ℕ} {x : Fetched} (v u w : View) → IsHolder start reporters number v → IsMember chained epoch_end recovery reporters number v → Settles (joined v u) x x w → IsMember chained epoch_end recovery reporters number w
member_told {start} {chained} {epoch_end} {recovery} {reporters} {number} v u w h m s =
    member_as chained epoch_end recovery reporters number (joined v u) w (joined v u).seen (joined v u).chain.seen m.epoch m.below s.is
    (chain_or_none chained epoch_end recovery v.epoch (joined v u).chain.seen m.epoch (s.legal (is_open h)) (s.bare (is_open h)))
