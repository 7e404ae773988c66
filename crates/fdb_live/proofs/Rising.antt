-- The record never falls: who has seen more has seen one that is not behind.
use Rattle.std.proofs.Common.{◌≡◌, ℕ, List, [], ◌∷◌, ◌++◌, length, refl, sym, ap, ◌∙◌, arith, le_refl, subst}
use mathlib.Core.List.{IsPrefix}
use Rattle.fdb_history.specs.declared.register.Record.{Record}
use Rattle.fdb_history.specs.Register.{after_report}
use Rattle.fdb_live.specs.Seen.{last_record, IsBounded, IsLog, IsNotBehind}
use Rattle.fdb_live.specs.declared.view.Change.{Change}
use Rattle.fdb_live.proofs.Logs.{position_below, taken_last}
use Rattle.fdb_live.proofs.Register.{version_at_least, min_known_at_least}

not_behind_start : (start : Record) (log : List Change) → IsNotBehind start (last_record start log)
not_behind_start start [] = record { version = le_refl start.version; minimum = le_refl start.min_known }
not_behind_start start (q ∷ log) =
    let here = (version_at_least start q.rec).0 in
    let least = (min_known_at_least start q.rec).0 in
    let rest = not_behind_start (after_report start q.rec) log in
    let version = rest.version in
    let minimum = rest.minimum in
    record { version = omega arith; minimum = omega arith }

last_of_both : (start : Record) (xs ys : List Change) → last_record start (xs ++ ys) ≡ last_record (last_record start xs) ys
last_of_both start [] ys = refl
last_of_both start (x ∷ xs) ys = last_of_both (after_report start x.rec) xs ys

pub never_behind : (start : Record) (xs ys : List Change) → IsPrefix xs ys → IsNotBehind (last_record start xs) (last_record start ys)
never_behind start xs ys p =
    subst (IsNotBehind (last_record start xs)) (sym (last_of_both start xs p.0) ∙ ap (last_record start) p.1) (not_behind_start (last_record start xs) p.0)

pub bounded : (start : Record) (reporters : ℕ) (log : List Change) → IsLog start reporters log → IsBounded (length log) (last_record start log)
bounded start reporters log legal =
    let taken = taken_last legal in
    record { below = position_below legal; within = taken.within; in_range = taken.in_range }
