-- How ranks are computed: from a table of zones, and a sorted list of where the values of lines stand.
use Rattle.std.specs.Prelude.{◌≡◌, ℕ, ◌+◌, ◌*◌, ◌^◌, ◌==◌, ◌&&◌, ◌||◌, nat_lt, Bool, List, None, count_by}
use Rattle.std.specs.BTreeMap.{BTreeMap, get}
use Rattle.std.specs.Option.{unwrap_or}
use Rattle.std.specs.Ordering.{nat_cmp}
use Rattle.fdb_lines.specs.declared.line.Line.{Line}
use Rattle.fdb_lines.specs.Summary.{tally}
use Rattle.fdb_values.specs.declared.zones.Zone.{Zone}
use Rattle.fdb_values.specs.declared.standing.Standing.{Standing}
use Rattle.fdb_values.specs.ByValue.{value_at}
use Rattle.fdb_values.specs.Zones.{first_end, key_of, last_begin, stands_below}

abbrev pub no_zone : Zone
no_zone = record { first = None; last = 0 }

abbrev pub zone_in : BTreeMap ℕ Zone → ℕ → Zone
zone_in zones v = unwrap_or (get nat_cmp zones v) no_zone

-- the zones of the first n lines
abbrev pub HasZones : List Line → ℕ → BTreeMap ℕ Zone → Type 0
HasZones lines n zones = (v : ℕ) → ((zone_in zones v).first ≡ first_end lines v n) × ((zone_in zones v).last ≡ last_begin lines v n)

-- one number, which orders as they do
abbrev pub standing_number : Standing → ℕ
standing_number standing = standing.key * 2 ^ 64 + standing.value

-- whether one stands below another, by keys, and where these are one by values
abbrev pub is_below : ℕ → ℕ → ℕ → ℕ → Bool
is_below key value other_key other = nat_lt key other_key || (key == other_key && nat_lt value other)

-- the standings of the first n lines, counted
abbrev pub HasStandings : ℕ → List Line → ℕ → List Standing → Type 0
HasStandings margin lines n standings =
    (v : ℕ) → count_by (λ (standing : Standing). is_below standing.key standing.value (key_of margin lines v) v) standings
    ≡ tally (λ k. stands_below (key_of margin lines) (value_at lines k) v) n
