-- The locators of lines: by version, whose they are, and place.
use Rattle.std.specs.Prelude.{ℕ, max, ◌+◌, ◌*◌, ◌^◌, ◌==◌, nat_lt, ◌&&◌, Bool, List, Option, is_none, is_some, unwrap_or, slice_index_or}
use Rattle.std.proofs.Math.Dec.{lit<}
use Rattle.fdb_lines.specs.declared.line.Line.{Line}
use Rattle.fdb_lines.specs.declared.line.Locator.{Locator}
use Rattle.fdb_lines.specs.declared.fault.Witness.{Witness}
use Rattle.fdb_lines.specs.declared.locators.LineKind.{LineKind}
use Rattle.fdb_lines.specs.declared.locators.LineKind.TheVariants.{Reports, Raises, Draws, Asks, Owned, Nameless}
use Rattle.fdb_lines.specs.Lines.{line_at, kind_of, version_of, draws, is_ask, reports}
use Rattle.fdb_lines.specs.private.Entries.{AreEntries, IsEntry, IsFrontBy}
use Rattle.fdb_lines.specs.private.Known.{by_at, version_by}

-- ---- which lines are located, and by what

-- whether a line is of a kind, by what it knows
abbrev pub is_of_line_kind : LineKind → Line → ℕ → Bool
is_of_line_kind Reports line knows = reports (kind_of line.call)
is_of_line_kind Raises line knows = reports (kind_of line.call) && nat_lt knows (version_of line.call)
is_of_line_kind Draws line knows = draws (kind_of line.call)
is_of_line_kind Asks line knows = is_ask (kind_of line.call)
is_of_line_kind Owned line knows = draws (kind_of line.call) && is_some line.client
is_of_line_kind Nameless line knows = draws (kind_of line.call) && is_none line.client

abbrev pub group_in : LineKind → Line → ℕ
group_in Reports line = 0
group_in Raises line = 0
group_in Draws line = 0
group_in Asks line = 0
group_in Owned line = unwrap_or line.client 0
group_in Nameless line = 0

-- what is looked for: a version, and whose
pub record Name : Type 0 where
  pub version : ℕ
  pub group : ℕ

abbrev pub name : ℕ → ℕ → Name
name version group = record { version = version; group = group }

abbrev pub is_located : LineKind → Line → ℕ → Name → Bool
is_located line_kind line knows name = group_in line_kind line == name.group && (is_of_line_kind line_kind line knows && version_of line.call == name.version)

abbrev pub is_named : Name → Locator → Bool
is_named name locator = locator.group == name.group && locator.version == name.version

abbrev pub IsLocatorOf : LineKind → Line → ℕ → ℕ → Option Locator → Type 0
IsLocatorOf line_kind line knows place = IsEntry (λ (locator : Locator). locator.place) (λ (locator : Locator). locator.place) is_named place place (is_located line_kind line knows)

-- ---- the locators of the lines of a log

-- what the call at a place knows: the newest version that was shown before it
abbrev pub knows_at : ℕ → List Line → List (Option Witness) → ℕ → ℕ
knows_at start lines known j = max start (version_by lines (by_at known j))

abbrev pub is_located_at : LineKind → ℕ → List Line → List (Option Witness) → Name → ℕ → Bool
is_located_at line_kind start lines known name j = is_located line_kind (line_at lines j) (knows_at start lines known j) name

abbrev pub AreLocators : LineKind → ℕ → List Line → List (Option Witness) → ℕ → List Locator → Type 0
AreLocators line_kind start lines known =
    AreEntries (λ (locator : Locator). locator.place) (λ (locator : Locator). locator.place) is_named (λ j. j) (is_located_at line_kind start lines known)

-- ---- the order of locators, by one number for each

abbrev pub locator_key : Locator → ℕ
locator_key locator = (locator.version * 2 ^ 32 + locator.group) * 2 ^ 32 + locator.place

abbrev pub no_locator : Locator
no_locator = record { version = 0; group = 0; place = 0; fits = (lit< tt, lit< tt) }

abbrev pub locator_at : List Locator → ℕ → Locator
locator_at locators i = slice_index_or locators i no_locator

abbrev pub IsLocatorsFront : List Locator → ℕ → ℕ → Type 0
IsLocatorsFront = IsFrontBy locator_key no_locator
