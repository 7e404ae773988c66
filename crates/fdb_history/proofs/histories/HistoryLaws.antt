-- The laws of histories, by induction over the events.
use Rattle.std.proofs.Common.{◌≡◌, ℕ, zero, suc, ◌+◌, ◌*◌, ◌<◌, ◌≤◌, ◌||◌, ◌⊎◌, Bool, true, false, cond, List, [], ◌∷◌, length, take, slice_get, Some, None, refl, sym, ap, ◌∙◌, inl, inr, le_refl, le_trans, arith, ltb, eqb, find, add-one}
use Rattle.std.specs.List.{AllByRecursion, list_any}
use Rattle.std.specs.Option.{option_map}
use Rattle.std.proofs.lemmas.Grind.{common_steps}
use Rattle.std.proofs.lemmas.Bool.Decides.{nat_tests}
use Rattle.std.proofs.lemmas.Bool.{cond-true, eq-eqb, or_left}
use Rattle.std.proofs.lemmas.Option.{cond_some, same_Some, none-some, slice_get_within}
use Rattle.std.proofs.lemmas.List.Sums.{sum_by-cons}
use Rattle.fdb_history.specs.Register.{after_report}
use Rattle.fdb_history.specs.Event.{after_event, register_after, IsTrueOf, IsLegal, is_change, position_after, positions_from, change_count, reports_of}
use Rattle.fdb_history.specs.Laws.{seen_version, seen_at}
use Rattle.fdb_history.specs.declared.register.Record.{Record}
use Rattle.fdb_history.specs.declared.register.Event.{Event}
use Rattle.fdb_history.specs.declared.register.Event.TheVariants.{Report, Read}
use Rattle.fdb_history.proofs.histories.AfterReport.{version-at_least, raised-version, known-within}

pub after_event-at_least : (current : Record) (event : Event) → current.version ≤ (after_event current event).version
after_event-at_least current (Report client call rec raised changed) = (version-at_least current rec).0
after_event-at_least current (Read client call rec) = le_refl current.version

-- What an event shows is the version of the register after it.
pub seen_version-after : (current : Record) (event : Event) (seen : ℕ) → IsTrueOf current event → seen_version event ≡ Some seen → seen ≡ (after_event current event).version
seen_version-after current (Report client call rec raised changed) seen t e =
    let shown = cond_some raised rec.version seen e in
    sym shown.1 ∙ sym (raised-version current rec (sym t.0 ∙ shown.0))
seen_version-after current (Read client call rec) seen t e = sym (same_Some rec.version seen e) ∙ ap (λ (r : Record). r.version) t

pub seen_at-at_least : (start : Record) (events : List Event) (place seen : ℕ) → IsLegal start events → seen_at events place ≡ Some seen → start.version ≤ seen
seen_at-at_least start [] place seen legal e = absurd (none-some seen e)
seen_at-at_least start (event ∷ events) zero seen legal e = grind (arith, common_steps, nat_tests)
seen_at-at_least start (event ∷ events) (suc place) seen legal e =
    le_trans (after_event-at_least start event) (seen_at-at_least (after_event start event) events place seen legal.1 e)

pub seen_at-in_order : (start : Record) (events : List Event) (j k : ℕ) (earlier later : ℕ) → IsLegal start events → j ≤ k → seen_at events j ≡ Some earlier → seen_at events k ≡ Some later → earlier ≤ later
seen_at-in_order start [] j k earlier later legal order e f = absurd (none-some earlier e)
seen_at-in_order start (event ∷ events) zero zero earlier later legal order e f =
    let same = same_Some earlier later (sym e ∙ f) in
    omega arith
seen_at-in_order start (event ∷ events) zero (suc k) earlier later legal order e f =
    let is = seen_version-after start event earlier legal.0 e in
    let least = seen_at-at_least (after_event start event) events k later legal.1 f in
    omega arith
seen_at-in_order start (event ∷ events) (suc j) zero earlier later legal order e f = absurd (omega arith)
seen_at-in_order start (event ∷ events) (suc j) (suc k) earlier later legal order e f =
    let order' : j ≤ k = omega arith in
    seen_at-in_order (after_event start event) events j k earlier later legal.1 order' e f

-- how much an event adds to the position
abbrev pub added : Event → ℕ
added event = cond (is_change event) 1 0

pub change_count-cons : (event : Event) (events : List Event) → change_count (event ∷ events) ≡ added event + change_count events
change_count-cons = sum_by-cons added

pub position_after-is : (before : ℕ) (event : Event) → position_after before event ≡ before + added event
position_after-is before event = grind (arith, common_steps, nat_tests)

-- how far a record has come: its version and its minimum known committed version, added up
abbrev pub reach : Record → ℕ
reach rec = rec.version + rec.min_known

pub change_count-below : (start : Record) (events : List Event) → IsLegal start events → change_count events + reach start ≤ reach (register_after start events)
change_count-below start [] legal = omega arith
change_count-below start (event ∷ events) legal = grind (arith, common_steps, nat_tests, change_count-below (after_event start event) events legal.1)

positions_from-at : (before : ℕ) (events : List Event) (place : ℕ) → place < length events → slice_get (positions_from before events) place ≡ Some (before + change_count (take (suc place) events))
positions_from-at before [] place within = absurd (omega arith)
positions_from-at before (event ∷ events) zero within = ap Some (position_after-is before event ∙ omega (arith, change_count-cons event []))
positions_from-at before (event ∷ events) (suc place) within =
    let within' : place < length events = omega arith in
    positions_from-at (position_after before event) events place within'
    ∙ ap Some (omega (arith, position_after-is before event, change_count-cons event (take (suc place) events)))

pub positions_from-counts : (events : List Event) (place : ℕ) → place < length events → slice_get (positions_from 0 events) place ≡ Some (change_count (take (place + 1) events))
positions_from-counts events place within = rw add-one (positions_from-at 0 events place within ∙ ap Some (omega arith))

length-positions_from : (before : ℕ) (events : List Event) → length (positions_from before events) ≡ length events
length-positions_from before [] = refl
length-positions_from before (event ∷ events) = ap suc (length-positions_from (position_after before event) events)

IsLegal-take : (start : Record) (n : ℕ) (events : List Event) → IsLegal start events → IsLegal start (take n events)
IsLegal-take start zero events legal = tt
IsLegal-take start (suc n) [] legal = tt
IsLegal-take start (suc n) (event ∷ events) legal = (legal.0, IsLegal-take (after_event start event) n events legal.1)

-- A position is no greater than what the register's versions there have risen by.
pub positions_from-below : (start : Record) (events : List Event) (place position : ℕ) → IsLegal start events → slice_get (positions_from 0 events) place ≡ Some position
    → position + reach start ≤ reach (register_after start (take (place + 1) events))
positions_from-below start events place position legal at =
    let within : place < length events = omega (arith, slice_get_within (positions_from 0 events) place position at, length-positions_from 0 events) in
    let is = same_Some position (change_count (take (place + 1) events)) (sym at ∙ positions_from-counts events place within) in
    let below = change_count-below start (take (place + 1) events) (IsLegal-take start (place + 1) events legal) in
    omega arith

-- a minimum known committed version is not above its record's version
abbrev pub IsWithin : Record → Type 0
IsWithin rec = rec.min_known ≤ rec.version

-- where this is so of the start and of all reports, it is so of the register
register_after-within : (start : Record) (events : List Event) → IsWithin start → AllByRecursion IsWithin (reports_of events) → IsWithin (register_after start events)
register_after-within start [] here all = here
register_after-within start (Read client call rec ∷ events) here all = register_after-within start events here all
register_after-within start (Report client call rec raised changed ∷ events) here all =
    register_after-within (after_report start rec) events (known-within start rec here all.0) all.1

-- what is so of all reports is so of those of the first events
reports_of-take : (n : ℕ) (events : List Event) → AllByRecursion IsWithin (reports_of events) → AllByRecursion IsWithin (reports_of (take n events))
reports_of-take zero events all = tt
reports_of-take (suc n) [] all = tt
reports_of-take (suc n) (Read client call rec ∷ events) all = reports_of-take n events all
reports_of-take (suc n) (Report client call rec raised changed ∷ events) all = (all.0, reports_of-take n events all.1)

-- So a position is at most twice the version there.
pub positions_from-twice : (start : Record) (events : List Event) (place position : ℕ) → IsLegal start events → AllByRecursion IsWithin (start ∷ reports_of events)
    → slice_get (positions_from 0 events) place ≡ Some position → position ≤ 2 * (register_after start (take (place + 1) events)).version
positions_from-twice start events place position legal all at =
    let below = positions_from-below start events place position legal at in
    let within = register_after-within start (take (place + 1) events) all.0 (reports_of-take (place + 1) events all.1) in
    omega arith

pub register_after-greatest : (start : Record) (events : List Event) → AllByRecursion (λ r. r.version ≤ (register_after start events).version) (start ∷ reports_of events)
register_after-greatest start [] = (le_refl start.version, tt)
register_after-greatest start (Read client call rec ∷ events) = register_after-greatest start events
register_after-greatest start (Report client call rec raised changed ∷ events) = grind (arith, common_steps, nat_tests, register_after-greatest (after_report start rec) events)

-- No minimum known committed version that was reported is above the register's.
pub register_after-greatest_known : (start : Record) (events : List Event) → AllByRecursion (λ r. r.min_known ≤ (register_after start events).min_known) (start ∷ reports_of events)
register_after-greatest_known start [] = (le_refl start.min_known, tt)
register_after-greatest_known start (Read client call rec ∷ events) = register_after-greatest_known start events
register_after-greatest_known start (Report client call rec raised changed ∷ events) = grind (arith, common_steps, nat_tests, register_after-greatest_known (after_report start rec) events)

-- one of two that are told apart by a test, and what comes after both
told_by : (one other known : ℕ) (later : Bool) → (eqb (cond (ltb one other) other one) known || later) ≡ true → (eqb one known || (eqb other known || later)) ≡ true
told_by one other known later told = grind (arith, common_steps, nat_tests)

-- One of them is the register's.
pub register_after-known : (start : Record) (events : List Event) → list_any (λ r. eqb r.min_known (register_after start events).min_known) (start ∷ reports_of events) ≡ true
register_after-known start [] = or_left (eqb start.min_known start.min_known) false (eq-eqb start.min_known start.min_known refl)
register_after-known start (Read client call rec ∷ events) = register_after-known start events
register_after-known start (Report client call rec raised changed ∷ events) =
    let final = register_after (after_report start rec) events in
    told_by start.min_known rec.min_known final.min_known (list_any (λ r. eqb r.min_known final.min_known) (reports_of events)) (register_after-known (after_report start rec) events)

-- ---- the first record with the greatest version

-- a record without its minimum known committed version
abbrev bare : Record → Record
bare rec = record rec { min_known = 0 }

-- among a record and the reports after it, the first with this version is like the final one
abbrev IsFirstOf : Record → Record → List Record → Type 0
IsFirstOf final start reports = (first : Record) × (find (λ r. eqb r.version final.version) (start ∷ reports) ≡ Some first) × (bare first ≡ bare final)

-- so it is before a report where it is after it, and the register stands at most there
first-step : (final start rec after : Record) (reports : List Record) → (bare after ≡ bare rec) × (start.version < rec.version) ⊎ (bare after ≡ bare start) × (rec.version ≤ start.version) → after.version ≤ final.version
    → IsFirstOf final after reports → IsFirstOf final start (rec ∷ reports)
first-step final start rec after reports (inl (new, more)) below (first, found, same) = grind (arith, common_steps, nat_tests)
first-step final start rec after reports (inr (old, less)) below (first, found, same) = grind (arith, common_steps, nat_tests)

-- a report is taken over or not
taken_over : (current rec : Record) → (bare (after_report current rec) ≡ bare rec) × (current.version < rec.version) ⊎ (bare (after_report current rec) ≡ bare current) × (rec.version ≤ current.version)
taken_over current rec = grind (arith, common_steps, nat_tests)

register_first : (start : Record) (events : List Event) → IsFirstOf (register_after start events) start (reports_of events)
register_first start [] = (start, cond-true (eqb start.version start.version) (Some start) None (eq-eqb start.version start.version refl), refl)
register_first start (Read client call rec ∷ events) = register_first start events
register_first start (Report client call rec raised changed ∷ events) =
    first-step (register_after (after_report start rec) events) start rec (after_report start rec) (reports_of events) (taken_over start rec) (register_after-greatest (after_report start rec) events).0 (register_first (after_report start rec) events)

-- The register is the first record with its version, but for the minimum known committed version.
pub register_after-first : (start : Record) (events : List Event)
    → option_map (λ (rec : Record). record rec { min_known = (register_after start events).min_known })
    (find (λ r. eqb r.version (register_after start events).version) (start ∷ reports_of events))
    ≡ Some (register_after start events)
register_after-first start events =
    let final = register_after start events in
    let (first, found, same) = register_first start events in
    ap (option_map (λ (rec : Record). record rec { min_known = final.min_known })) found ∙ ap (λ (rec : Record). Some (record rec { min_known = final.min_known })) same
