-- A watch that tells of no fault and of no early line has missed none.
use Rattle.std.proofs.Common.{◌≡◌, ◌∙◌, ℕ, List, [], ◌∷◌, ◌++◌, None, Option, Some, Result, ap, arith, length, option_map, refl, slice_get, sym, take, true}
use Rattle.std.specs.Option.{option_or}
use Rattle.std.proofs.lemmas.List.Sorted.{length_permutation}
use Rattle.fdb_lines.specs.declared.fault.Found.{Found}
use Rattle.fdb_lines.specs.declared.fault.Finding.{Finding}
use Rattle.fdb_lines.specs.ToldByKey.{audited}
use Rattle.fdb_log_reader.specs.declared.error.Why.{Why}
use Rattle.fdb_log_reader.specs.ReadLine.{SaidLine}
use Rattle.fdb_audit.specs.declared.arguments.AuditArguments.{AuditArguments}
use Rattle.fdb_audit.specs.declared.printer.LogFault.{LogFault}
use Rattle.fdb_audit.specs.declared.refusal.CountedLine.{CountedLine}
use Rattle.fdb_audit.specs.Came.{early_lines, last_line}
use Rattle.fdb_audit.specs.Following.{KeptBefore, Start, Window, first_in, first_told, keys_taken, lines_taken, told_in, told_in_all}
use Rattle.fdb_audit.specs.Pieces.{audited_in}
use Rattle.fdb_audit.specs.Watched.{IsFollowed, lines_asked}

some_none : {X : Type 0} (x : X) → Some x ≡ None → ⊥
some_none x is = cc

both_none : {X : Type 0} (one other : Option X) → option_or one other ≡ None → (one ≡ None) × (other ≡ None)
both_none None other is = (refl, is)
both_none (Some one) other is = absurd (some_none one is)

none_found : (f : Finding → LogFault) (found : List Finding) → option_map f (slice_get found 0) ≡ None → found ≡ []
none_found f [] is = refl
none_found f (one ∷ found) is = absurd (some_none (f one) is)

none_told : (kept : KeptBefore) (read : List (Result SaidLine Why)) (windows : List Window) → first_told kept read windows ≡ None → told_in_all read windows ≡ []
none_told kept read [] is = refl
none_told kept read (window ∷ windows) is =
    let (here, later) = both_none (first_in kept (take window.read read) window) (first_told kept read windows) is in
    let nothing = none_found _ window.found here in
    ap (λ (part : List Found). part ++ told_in_all read windows) (ap (λ (found : List Finding). told_in (take window.read read) (record window { found = found })) nothing)
    ∙ none_told kept read windows later

last_some : (n : ℕ) (lines : List CountedLine) → (m : ℕ) × (last_line (Some n) lines ≡ Some m)
last_some n [] = (n, refl)
last_some n (it ∷ lines) = last_some it.line lines

none_early : (lines : List CountedLine) → last_line None lines ≡ None → lines ≡ []
none_early [] is = refl
none_early (it ∷ lines) is = let (m, last) = last_some it.line lines in absurd (some_none m (sym last ∙ is))

none_of : {X : Type 0} (xs : List X) → length xs ≡ 0 → xs ≡ []
none_of [] none = refl
none_of (x ∷ xs) none = absurd (omega (arith, none))

pub nothing_missed : (asked : AuditArguments) (start : Start) (bytes text : List ℕ) → start.told ≡ [] → start.early ≡ 0 → IsFollowed asked start true bytes text None None → audited_in asked bytes ≡ []
nothing_missed asked start bytes text untold none_before all =
    let read = lines_asked asked bytes in
    let (before, none) = both_none start.before.first (first_told start.kept read all.windows) (sym all.first) in
    let (last, early_before) = both_none all.last start.before.last_early (sym all.last_is) in
    let early = none_early (early_lines start read all.settled) (sym all.came.last_is ∙ last) in
    let nothing = none_told start.kept read all.windows none in
    let whole = all.whole none_before (all.came.count ∙ ap length early) in
    let told : start.told ++ told_in_all read all.windows ≡ [] = ap (λ (told : List Found). told ++ told_in_all read all.windows) untold ∙ nothing in
    let size = length_permutation (start.told ++ told_in_all read all.windows) (audited asked.opts.margin (lines_taken read) (keys_taken read)) whole in
    let none_told = ap length told in
    none_of (audited asked.opts.margin (lines_taken read) (keys_taken read)) (omega (arith, size, none_told))
