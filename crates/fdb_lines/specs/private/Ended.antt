-- Calls that ended, of which those before a moment are counted.
use Rattle.std.specs.Prelude.{◌≡◌, ℕ, ◌==◌, ◌&&◌, ◌||◌, nat_lt, Bool, false, List, Option, None, Some, count_by}
use Rattle.fdb_lines.specs.declared.line.End.{End}
use Rattle.fdb_lines.specs.declared.line.Line.{Line}
use Rattle.fdb_lines.specs.Before.{ended}
use Rattle.fdb_lines.specs.Lines.{line_at}
use Rattle.fdb_lines.specs.Summary.{sum_below, tally}

-- an order by groups, where both are known, and in a group by a test
abbrev pub by_group : Option ℕ → Option ℕ → Bool → Bool
by_group None group earlier = false
by_group (Some a) None earlier = false
by_group (Some a) (Some b) earlier = nat_lt a b || (a == b && earlier)

-- whether what ended stands before a moment of a group in the table: by group, and then by time and place
abbrev pub stands_before : Option ℕ → ℕ → ℕ → Option ℕ → Option ℕ → ℕ → Bool
stands_before group time place of_group None above = false
stands_before group time place of_group (Some end) above = by_group of_group group (nat_lt end time || (end == time && nat_lt above place))

abbrev pub count_before : List End → Option ℕ → ℕ → ℕ → ℕ
count_before ends group time place =
    count_by (λ (end : End). stands_before group time place (Some end.group) (Some end.time) end.place) ends

-- the same of the end of a line at a place, in the group of its client
abbrev pub line_before : Line → ℕ → Option ℕ → ℕ → ℕ → Bool
line_before line above group time place = stands_before group time place line.client (ended line) above

-- the ends of the first n lines, by client
abbrev pub HasEnds : List Line → ℕ → List End → Type 0
HasEnds lines n ends = (group : Option ℕ) (time place : ℕ) → count_before ends group time place ≡ tally (λ j. line_before (line_at lines j) j group time place) n

-- ---- of all clients, by time alone

abbrev pub had_ended : Option ℕ → ℕ → Bool
had_ended None time = false
had_ended (Some end) time = nat_lt end time

abbrev pub times_before : List ℕ → ℕ → ℕ
times_before times time = count_by (λ (end : ℕ). nat_lt end time) times

-- when the first n lines ended
abbrev pub HasTimes : List Line → ℕ → List ℕ → Type 0
HasTimes lines n times = (time : ℕ) → times_before times time ≡ tally (λ j. had_ended (ended (line_at lines j)) time) n

-- of how many pairs the later place is below n, and one comes before the other, where there are so many places
abbrev pub pairs_below : (ℕ → ℕ → Bool) → ℕ → ℕ → ℕ
pairs_below before all n = sum_below (λ k. tally (λ j. before j k) all) n
