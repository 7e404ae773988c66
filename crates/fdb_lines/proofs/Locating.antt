-- The first line of a version and a group, found in a sorted table of locators.
use Rattle.std.proofs.Common.{◌≡◌, ◌⊎◌, ℕ, ◌+◌, ◌*◌, ◌^◌, ◌<◌, ◌≤◌, true, false, List, length, Option, None, Some, sym, ◌∙◌, arith}
use Rattle.std.specs.List.Sorted.{IsNonDecreasingBy}
use Rattle.std.proofs.lemmas.Bool.{false_from_ne_true}
use Rattle.std.proofs.lemmas.Bool.Decides.{nat_tests}
use Rattle.fdb_lines.specs.declared.line.Line.{Line}
use Rattle.fdb_lines.specs.declared.line.Locator.{Locator}
use Rattle.fdb_lines.specs.declared.fault.Witness.{Witness}
use Rattle.fdb_lines.specs.declared.locators.LineKind.{LineKind}
use Rattle.fdb_lines.specs.private.Entries.{IsFirstFrom}
use Rattle.fdb_lines.specs.private.Locators.{is_located_at, is_named, locator_at, locator_key, name, no_locator, AreLocators, IsLocatorsFront}
use Rattle.fdb_lines.proofs.Entries.{entry, entry_for}

-- one number for version, group and place
abbrev pub key : ℕ → ℕ → ℕ → ℕ
key version group place = (version * 2 ^ 32 + group) * 2 ^ 32 + place

-- a locator between two of a name is of it
between : (locator other : Locator) (version group from : ℕ) → key version group from ≤ locator_key locator → locator_key locator ≤ locator_key other
    → is_named (name version group) other ≡ true → (is_named (name version group) locator ≡ true) × (locator.place ≤ other.place)
between locator other version group from low high named =
    (grind (arith, nat_tests, locator.fits, other.fits), grind (arith, nat_tests, locator.fits, other.fits))

from_on : (locator : Locator) (version group from : ℕ) → is_named (name version group) locator ≡ true → key version group from ≤ locator_key locator → from ≤ locator.place
from_on locator version group from named low = grind (arith, nat_tests)

behind : (locators : List Locator) (version group from front i : ℕ) → IsLocatorsFront locators (key version group from) front → is_named (name version group) (locator_at locators i) ≡ true
    → from ≤ (locator_at locators i).place → front ≤ i
behind locators version group from front i parts named ge = let below = parts.0 i in grind (arith, nat_tests)

-- where a line is looked for, the front is of its name, and no later
at_front : (line_kind : LineKind) (start : ℕ) (lines : List Line) (known : List (Option Witness)) (locators : List Locator) (version group from front j : ℕ)
    → IsNonDecreasingBy locator_key locators → IsLocatorsFront locators (key version group from) front → AreLocators line_kind start lines known (length lines) locators
    → from ≤ j → j < length lines → is_located_at line_kind start lines known (name version group) j ≡ true
    → (front < length locators) × (is_named (name version group) (locator_at locators front) ≡ true) × ((locator_at locators front).place ≤ j)
at_front line_kind start lines known locators version group from front j sorted parts are ge lt passes =
    let own = entry_for (λ (m : Locator). m.place) (λ (m : Locator). m.place) is_named (λ i. i) (is_located_at line_kind start lines known) (length lines) locators no_locator are (name version group) j lt passes in
    let place = own.2 in
    let inside = own.1 in
    let there = behind locators version group from front own.0 parts own.3 (omega arith) in
    let is = between (locator_at locators front) (locator_at locators own.0) version group from (parts.1 front (omega arith) (omega arith)) (sorted front own.0 no_locator there own.1) own.3 in
    let least = is.1 in
    (omega arith, is.0, omega arith)

pub found : (line_kind : LineKind) (start : ℕ) (lines : List Line) (known : List (Option Witness)) (locators : List Locator) (version group from front : ℕ)
    → IsNonDecreasingBy locator_key locators → IsLocatorsFront locators (key version group from) front → AreLocators line_kind start lines known (length lines) locators
    → front < length locators → is_named (name version group) (locator_at locators front) ≡ true
    → IsFirstFrom (is_located_at line_kind start lines known (name version group)) from (length lines) (Some (locator_at locators front).place)
found line_kind start lines known locators version group from front sorted parts are lt named =
    let is = entry (λ (m : Locator). m.place) (λ (m : Locator). m.place) is_named (λ j. j) (is_located_at line_kind start lines known) (length lines) locators no_locator are front lt in (
      from_on (locator_at locators front) version group from named (parts.1 front (omega arith) lt),
      is.0,
      sym (is.2 (name version group)) ∙ named,
      λ j ge less. false_from_ne_true (is_located_at line_kind start lines known (name version group) j) (λ passes.
          let inside = is.0 in
          let no_later = (at_front line_kind start lines known locators version group from front j sorted parts are ge (omega arith) passes).2 in
          omega arith),
    )

pub not_found : (line_kind : LineKind) (start : ℕ) (lines : List Line) (known : List (Option Witness)) (locators : List Locator) (version group from front : ℕ)
    → IsNonDecreasingBy locator_key locators → IsLocatorsFront locators (key version group from) front → AreLocators line_kind start lines known (length lines) locators
    → (length locators ≤ front) ⊎ (is_named (name version group) (locator_at locators front) ≡ false)
    → IsFirstFrom (is_located_at line_kind start lines known (name version group)) from (length lines) None
not_found line_kind start lines known locators version group from front sorted parts are none j ge lt =
    let there = at_front line_kind start lines known locators version group from front j sorted parts are ge lt in
    grind arith
