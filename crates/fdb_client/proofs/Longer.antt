-- The longer of two lists, of which the second begins it.
use Rattle.std.proofs.Common.{◌≡◌, ◌≤◌, List, [], ◌++◌, length, sym, ap, ◌∙◌, Bool, true, false, if◌then◌else◌, arith}
use Rattle.std.specs.Prelude.{nat_lt}
use Rattle.std.proofs.lemmas.List.{append-nil, length-append, nil_from_length}
use mathlib.Core.List.{IsPrefix}
use Rattle.fdb_live.specs.Seen.{longer}
use Rattle.fdb_live.specs.declared.view.Change.{Change}

-- what begins a list that is no longer is that list
whole : (these those : List Change) → IsPrefix these those → length those ≤ length these → these ≡ those
whole these those begins no_longer =
    let none : begins.0 ≡ [] = nil_from_length begins.0 (omega (arith, ap length begins.1, length-append these begins.0)) in
    sym (append-nil these) ∙ (ap (λ rest. these ++ rest) (sym none) ∙ begins.1)

no_longer : (these those : List Change) (second : Bool) → length these ≤ length those → length (if second then those else these) ≤ length those
no_longer these those true no_less = omega arith
no_longer these those false no_less = no_less

-- it is the second, where that is no shorter
pub longer_of_no_less : (these those : List Change) → length these ≤ length those → IsPrefix those (longer these those) → longer these those ≡ those
longer_of_no_less these those no_less begins = sym (whole those (longer these those) begins (no_longer these those (nat_lt (length these) (length those)) no_less))
