-- What keeps the rule of a record and its position keeps it of the words that say them.
use Rattle.std.proofs.Common.{◌≡◌, ℕ, ◌+◌, ◌<◌, true, Option, Some, [], ◌∷◌, ◌++◌, length, refl, sym, ◌∙◌, subst}
use Rattle.std.specs.Prelude.{Contains, IsSome}
use Rattle.std.proofs.lemmas.Option.{same_Some}
use Rattle.crossbeam_utils.specs.Register.{Turns, Forks, Merges}
use Rattle.fdb_history.specs.Chain.{IsChain}
use Rattle.fdb_history.specs.declared.chain.Issued.{Issued}
use Rattle.fdb_history.specs.declared.register.Record.{Record}
use Rattle.fdb_history.specs.Register.{after_report, changes}
use Rattle.fdb_live.specs.Holding.{versions}
use Rattle.fdb_live.specs.Seen.{IsRecord, last_record}
use Rattle.fdb_live.specs.declared.held.Fetched.{Fetched}
use Rattle.fdb_live.specs.declared.held.Held.{Held}
use Rattle.fdb_live.specs.declared.view.Epoch.{Epoch}
use Rattle.fdb_live.specs.declared.view.View.{View}
use Rattle.fdb_live.specs.private.Rule.{Kept, Keeps, InWords, Adds, Draws, Looks, Opens, Settles, copy_of, drawer_of, first, joined, lowest_of, served, spent, taken, without_drawing, without_lowest}
use Rattle.fdb_live.specs.private.Words.{fetched_of}
use Rattle.fdb_live.proofs.Joins.{serves, takes, tells}
use Rattle.fdb_live.proofs.Splits.{copies, gives_all, gives_drawer, gives_lowest}
use Rattle.fdb_live.proofs.Turning.{adds_named, draws_named, looks, opens, settles}

loads : {pass : ℕ} {v : View} (then : View → Fetched → Fetched → View → Type 0) → Turns Kept pass v (λ x. x) then → Turns Keeps pass v (λ x. x) (InWords then)
loads then t x = t (fetched_of x)

writes : {pass : ℕ} {v : View} (then : View → Fetched → Fetched → View → Type 0) {new : Fetched} (held : Held) → fetched_of held ≡ new → Turns Kept pass v (λ _. new) then → Turns Keeps pass v (λ _. held) (InWords then)
writes {pass} {v} then {new} held is t x = subst (λ (y : Fetched). Turns Kept pass v (λ _. y) then) (sym is) t (fetched_of x)

pub looks_in_words : (pass : ℕ) (v : View) → Turns Keeps pass v (λ x. x) (InWords Looks)
looks_in_words pass v = loads Looks (looks pass v)

pub settles_in_words : (pass : ℕ) (v : View) → Turns Keeps pass v (λ x. x) (InWords Settles)
settles_in_words pass v = loads Settles (settles pass v)

pub opens_in_words : (epoch : Option Epoch) (reporters pass : ℕ) (v : View) (held : Held) (new : Fetched) → fetched_of held ≡ new → v ≡ first → new.position ≡ 0 → IsRecord new.rec → Turns Keeps pass v (λ _. held) (InWords (Opens epoch reporters))
opens_in_words epoch reporters pass v held new is at_start none allowed =
    writes (Opens epoch reporters) held is (opens epoch reporters pass v new at_start none allowed)

pub adds_in_words : (rec named : Record) (pass : ℕ) (v : View) (held : Held) (new : Fetched) → fetched_of held ≡ new → rec ≡ named → v.replaces ≡ true → v.low < v.high → new.position ≡ length v.seen + 1 → changes (last_record v.start v.seen) rec ≡ true → new.rec ≡ after_report (last_record v.start v.seen) rec → IsRecord rec → (IsSome v.epoch → Contains (versions v.chain.seen) rec.version) → Turns Keeps pass v (λ _. held) (InWords (Adds named))
adds_in_words rec named pass v held new is same replaces some_number position up becomes allowed issued =
    writes (Adds named) held is (adds_named pass v new same replaces some_number position up becomes allowed issued)

pub draws_in_words : (answer named : Issued) (epoch : Epoch) (pass : ℕ) (v : View) → answer ≡ named → v.chain.draws ≡ true → v.low ≡ answer.proxy → v.low < v.high → v.epoch ≡ Some epoch → IsChain epoch.before epoch.recovery (v.chain.seen ++ answer ∷ []) → Turns Keeps pass v (λ x. x) (InWords (Draws named))
draws_in_words answer named epoch pass v same may low some_number known legal =
    loads (Draws named) (draws_named pass v same may low some_number (subst IsSome (sym known) refl) (λ other is. subst (λ (e : Epoch). IsChain e.before e.recovery (v.chain.seen ++ answer ∷ [])) (same_Some epoch other (sym known ∙ is)) legal))

pub copies_in_words : (pass : ℕ) (v : View) → Forks Keeps pass v v (copy_of v)
copies_in_words pass v x = copies pass v (fetched_of x)

pub gives_lowest_in_words : (pass : ℕ) (v : View) → v.low < v.high → Forks Keeps pass v (without_lowest v) (lowest_of v)
gives_lowest_in_words pass v some_number x = gives_lowest pass v some_number (fetched_of x)

pub gives_all_in_words : (pass : ℕ) (v : View) → Forks Keeps pass v spent v
gives_all_in_words pass v x = gives_all pass v (fetched_of x)

pub tells_in_words : (pass : ℕ) (v : View) (other : ℕ) (w : View) → Merges Keeps pass v other w (joined v w) spent
tells_in_words pass v other w x = tells pass v other w (fetched_of x)

pub takes_in_words : (pass : ℕ) (v : View) (other : ℕ) (w : View) → v.replaces ≡ true → 0 < w.reporters → Merges Keeps pass v other w (taken v w) spent
takes_in_words pass v other w replaces some_reporter x = takes pass v other w replaces some_reporter (fetched_of x)

pub gives_drawer_in_words : (pass : ℕ) (v : View) → Forks Keeps pass v (without_drawing v) (drawer_of v)
gives_drawer_in_words pass v x = gives_drawer pass v (fetched_of x)

pub serves_in_words : (pass : ℕ) (v : View) (other : ℕ) (w : View) → v.chain.draws ≡ true → Merges Keeps pass v other w (served v w) spent
serves_in_words pass v other w draws x = serves pass v other w draws (fetched_of x)
