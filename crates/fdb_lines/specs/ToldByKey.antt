-- What an audit that watches by key has told in all: each fault once. (this product's own)
use Rattle.std.specs.Prelude.{◌==◌, ℕ, ◌<◌, ◌≤◌, All, IsPermutation, List, Option, Some, length, map}
use Rattle.std.specs.Option.{option_eq}
use Rattle.std.specs.List.{filter, flat_map}
use Rattle.fdb_lines.specs.declared.fault.Found.{Found}
use Rattle.fdb_lines.specs.declared.key_part.KeyPart.{KeyPart}
use Rattle.fdb_lines.specs.declared.key_part.SettledKey.{SettledKey}
use Rattle.fdb_lines.specs.declared.key_watch.KeyWatch.{KeyWatch}
use Rattle.fdb_lines.specs.declared.line.Line.{Line}
use Rattle.fdb_lines.specs.Before.{began}
use Rattle.fdb_lines.specs.Carried.{with_times}
use Rattle.fdb_lines.specs.KeyParts.{lines_of_one}
use Rattle.fdb_lines.specs.Keys.{faults_by_key, key_at, placed_found, places_of}
use Rattle.fdb_lines.specs.Lines.{line_at}
use Rattle.fdb_lines.specs.Reasons.{found_of}
use Rattle.fdb_lines.specs.Watching.{begins_before, is_due, is_watched, opts_of, told_of}

-- what an entry tells, each fault at the place of its line among all lines that came
abbrev pub told_by : SettledKey → List Found
told_by entry = map (λ finding. placed_found entry.settled.numbers.items (found_of finding)) entry.settled.found.items

abbrev pub told_by_all : List SettledKey → List Found
told_by_all entries = flat_map told_by entries

-- of what is told, that of the lines of a key
abbrev pub at_key : List (Option ℕ) → Option ℕ → List Found → List Found
at_key keys key told = filter (λ (found : Found). option_eq ◌==◌ (key_at keys found.place) key) told

-- what there is to tell of the lines of a key that began before a moment, or of all, at their places among all lines that came
abbrev pub to_tell : ℕ → Option ℕ → List Line → List (Option ℕ) → Option ℕ → List Found
to_tell margin to lines keys key = map (placed_found (places_of keys key)) (told_of margin (is_due 0 0 0 to) (lines_of_one lines keys key))

-- Of a key has been told, each fault once, what there is to tell of its lines that began before the moment up to which it has
-- settled; and none that came since began before.
pub record HasToldOne (lines : List Line) (keys : List (Option ℕ)) (told : List Found) (part : KeyPart) : Type 0 where
  pub once : IsPermutation (at_key keys part.key told) (to_tell part.watch.margin (Some part.watch.from) lines keys part.key)
  pub in_time : (j : ℕ) → part.watch.settled ≤ j → j < length (lines_of_one lines keys part.key)
      → part.watch.from ≤ began (line_at (lines_of_one lines keys part.key) j)

-- Of each key this has been told, and nothing but that; and all that there is to tell up to where all have settled.
pub record HasTold (watch : KeyWatch) (lines : List Line) (keys : List (Option ℕ)) (told : List Found) : Type 0 where
  pub each : All (HasToldOne lines keys told) watch.parts.items
  pub came : All (λ (found : Found). found.place < length lines) told
  pub all : (key : Option ℕ) → IsPermutation (at_key keys key told) (to_tell watch.margin (Some watch.from) lines keys key)

-- What an audit of all lines finds, each key by itself: the stale reads, and the versions drawn that are not above.
abbrev pub audited : ℕ → List Line → List (Option ℕ) → List Found
audited margin lines keys = filter (λ (found : Found). is_watched found.fault) (faults_by_key (with_times lines) keys (opts_of margin))

-- and of that what stands at lines that began before a moment
abbrev pub audited_to : ℕ → ℕ → List Line → List (Option ℕ) → List Found
audited_to margin to lines keys = filter (λ (found : Found). begins_before (Some to) (line_at lines found.place)) (audited margin lines keys)
