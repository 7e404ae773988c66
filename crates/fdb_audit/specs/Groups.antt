-- What is printed of the clients, and of the texts of a member, with most faults. (this product's own)
use Rattle.std.specs.Prelude.{◌≡◌, ℕ, ◌+◌, ◌<◌, ◌==◌, ◌⊎◌, ◌++◌, ◌∷◌, Bool, true, false, List, [], All, AllPairs, Contains, Option, None, Some, codes, filter, length, map, slice_index_or, take}
use Rattle.std.specs.List.{flat_map}
use Rattle.fdb_lines.specs.declared.fault.Fault.{Fault}
use Rattle.fdb_lines.specs.declared.fault.Found.{Found}
use Rattle.fdb_lines.specs.Lines.{line_at}
use Rattle.fdb_audit.specs.Objects.{text_or_null}
use Rattle.fdb_audit.specs.Text.{Beside, PrintedLog, client_or, line, owner_of}
use Rattle.fdb_audit.specs.Totals.{kinds, value_of}

-- What faults are grouped by: of which group a line is, and how a group is named, in words and in an object.
pub record Grouping : Type 0 where
  pub owner : ℕ → Option ℕ
  pub name : Bool → Option ℕ → List ℕ

-- a fault of a group: its kind, and of which
pub record Owned : Type 0 where
  pub kind : Fault
  pub owner : Option ℕ

abbrev pub kinds_of : List Owned → List Fault
kinds_of owned = map (λ (it : Owned). it.kind) owned

abbrev pub owned_by : Grouping → List Found → List Owned
owned_by by found = map (λ (it : Found). record { kind = it.fault; owner = by.owner it.place }) found

-- ---- which groups have most faults

-- where a group stands among those with as many faults: none first, then by number
abbrev pub number_of : Option ℕ → ℕ
number_of None = 0
number_of (Some number) = number + 1

-- the faults of a group
abbrev pub of_group : List Owned → Option ℕ → List Owned
of_group owned group = filter (λ (it : Owned). number_of it.owner == number_of group) owned

-- one group comes before another: it has more faults, or as many and the lower number
abbrev pub ComesBefore : (Option ℕ → ℕ) → Option ℕ → Option ℕ → Type 0
ComesBefore count one other = (count other < count one) ⊎ ((count one ≡ count other) × (number_of one < number_of other))

-- all groups that have faults, each before those behind it
pub record AreRanked (count : Option ℕ → ℕ) (groups : List (Option ℕ)) : Type 0 where
  pub faulty : All (λ group. 0 < count group) groups
  pub all : (group : Option ℕ) → 0 < count group → Contains groups group
  pub order : AllPairs (ComesBefore count) groups

-- ---- by what faults are grouped: by the clients of the calls, and by the texts of each member that is printed beside them

abbrev pub client_name : Bool → List (List ℕ) → Option ℕ → List ℕ
client_name false names client = client_or names (codes " client ") (codes " no client") client
client_name true names client = client_or names (codes "\"client\":") (codes "\"client\":null") client

abbrev pub member_name : Bool → Beside → Option ℕ → List ℕ
member_name false it group = owner_of it group
member_name true it group = codes "\"members\":{" ++ it.member ++ codes ":" ++ text_or_null (value_of it group) ++ codes "}"

abbrev pub by_client : PrintedLog → Grouping
by_client it = record { owner = λ place. (line_at it.lines place).client; name = λ json. client_name json it.names }

abbrev pub by_member : Beside → Grouping
by_member it = record { owner = λ place. slice_index_or it.numbers place None; name = λ json. member_name json it }

-- ---- what is printed of them

-- a group, and how many faults it has, in all and of each kind
abbrev pub group_head : Bool → (Bool → Option ℕ → List ℕ) → Option ℕ → List ℕ
group_head false name group = codes "audit total" ++ name false group
group_head true name group = codes "{" ++ name true group ++ codes ","

abbrev pub group_line : (json more : Bool) → (Bool → Option ℕ → List ℕ) → List Owned → Option ℕ → List ℕ
group_line json more name owned group = group_head json name group ++ kinds json more (kinds_of (of_group owned group))

abbrev pub group_lines : (json more : Bool) → (Bool → Option ℕ → List ℕ) → List Owned → List (Option ℕ) → List ℕ
group_lines json more name owned groups = flat_map (λ group. line (group_line json more name owned group)) groups

-- the ten groups with most faults, of those that are counted; and whether there are more
abbrev pub AreMost : (json more : Bool) → (Bool → Option ℕ → List ℕ) → List Owned → List ℕ → Type 0
AreMost json more name owned text =
    (groups : List (Option ℕ)) × AreRanked (λ group. length (of_group owned group)) groups
    × (text ≡ group_lines json more name owned (take 10 groups))

-- the same of each grouping
abbrev pub AreMostOfEach : Bool → List Grouping → List Found → List ℕ → Type 0
AreMostOfEach json [] found text = text ≡ []
AreMostOfEach json (by ∷ more) found text =
    (first : List ℕ) × AreMost json false by.name (owned_by by found) first × (rest : List ℕ) × AreMostOfEach json more found rest × (text ≡ first ++ rest)

abbrev pub groupings : PrintedLog → List Grouping
groupings it = by_client it ∷ map by_member it.beside
