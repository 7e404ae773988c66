-- Lines in the usual form, and what their members say. (this product's own)
use Rattle.std.specs.Prelude.{◌≡◌, ℕ, ◌^◌, ◌<◌, ◌≤◌, List, [], ◌∷◌, ⊤, Option, None, Some, IfSome, Ok, option_map, decimal, false, if◌then◌else◌}
use Rattle.std.specs.Str.{bytes_eq}
use Rattle.json.specs.Json as json
use Rattle.json.specs.Print.{print_from, quoted}
use Rattle.json.specs.Tree.{MembersHaveNumbers, members_depth, members_tokens}
use Rattle.serde_json.specs.Data.{Data, Members, null, number, object, string, unsigned}
use Rattle.serde_json.specs.Find.{get, get_member}
use Rattle.serde_json.specs.Read.{of_members, read}
use Rattle.fdb_log_reader.specs.declared.member.Member.{Member}
use Rattle.fdb_log_reader.specs.declared.member.Member.TheVariants.{Client, Began, Ended}
use Rattle.fdb_log_reader.specs.declared.usual.Behind.{Behind}
use Rattle.fdb_log_reader.specs.declared.usual.Behind.TheVariants.{More, End, Other}
use Rattle.fdb_log_reader.specs.declared.usual.Told.{Told}
use Rattle.fdb_log_reader.specs.declared.usual.Told.TheVariants.{Number, Text, Null}
use Rattle.fdb_log_reader.specs.declared.usual.Usual.{Usual}
use Rattle.fdb_log_reader.specs.Members.{member_of, name_of}
use Rattle.fdb_log_reader.specs.Reading.{value_of}

-- what a member says, as a value
abbrev pub told_data : Told → Data
told_data (Number n) = number (unsigned n)
told_data (Text text) = string text.now
told_data Null = null

-- and as JSON
abbrev pub told_json : Told → json.Json
told_json (Number n) = json.number (decimal n)
told_json (Text text) = json.string text.now
told_json Null = json.null

-- and as its text
abbrev pub told_text : Told → List ℕ
told_text (Number n) = decimal n
told_text (Text text) = quoted text.now
told_text Null = 110 ∷ 117 ∷ 108 ∷ 108 ∷ []

abbrev pub IsSmall : Told → Type 0
IsSmall (Number n) = n < 2 ^ 64
IsSmall (Text text) = ⊤
IsSmall Null = ⊤

-- what the member says that names the call, where it is this one
abbrev pub call_says : Option (Member × Told) → Member → Option Told
call_says None member = None
call_says (Some call) member = if bytes_eq (name_of call.0) (name_of member) then Some call.1 else None

-- what a member of a line says, where it is there
abbrev pub told_of : Usual → Member → Option Told
told_of line Client = line.client
told_of line Began = line.began
told_of line Ended = line.ended
told_of line member = call_says line.call member

abbrev pub says_of : Usual → Member → Option Data
says_of line member = option_map told_data (told_of line member)

-- what it says beside these: the one further member that is kept, by any name
abbrev pub beside_of : Usual → List ℕ → Option Data
beside_of line name = option_map told_data line.further

-- what is said by the members' names is what the line says, and so by that of the further one, if one is kept
abbrev pub IsTold : (List ℕ → Option Data) → Option (List ℕ) → Usual → Type 0
IsTold said further line =
    ((member : Member) → said (name_of member) ≡ says_of line member)
    × IfSome further (λ name. said name ≡ beside_of line name)

-- the bytes are read as a value whose members say what the line's say
abbrev pub IsReadAs : List ℕ → Option (List ℕ) → Usual → Type 0
IsReadAs bytes further line = (value : Data) × (read bytes ≡ Some value) × IsTold (λ name. get name value) further line

-- what a line says once the member of a name has said this
abbrev pub SaysMember : List ℕ → Told → Usual → Usual → Type 0
SaysMember name told line next = (member : Member) → says_of next member ≡ (if bytes_eq name (name_of member) then Some (told_data told) else says_of line member)

-- and what the further member says that is kept, if one is
abbrev pub SaysFurther : Option (List ℕ) → List ℕ → Told → Usual → Usual → Type 0
SaysFurther further name told line next =
    IfSome further (λ kept. beside_of next kept ≡ (if bytes_eq name kept then Some (told_data told) else beside_of line kept))

-- and both
abbrev pub Says : Option (List ℕ) → List ℕ → Told → Usual → Usual → Type 0
Says further name told line next = SaysMember name told line next × SaysFurther further name told line next

-- The bytes are an object of which a line says what the members before `rest` do, if the text of a member and of those
-- behind it stands there.
pub record Reads (bytes : List ℕ) (further : Option (List ℕ)) (rest : List ℕ) (line : Usual) : Type 0 where
  pub found : Members
  pub says : IsTold (λ name. get_member name found) further line
  pub goes : (name : List ℕ) (said : json.Json) (more : json.Members) (all : Members) → MembersHaveNumbers (json.member name said more)
      → members_depth (json.member name said more) ≤ 126 → rest ≡ print_from false (members_tokens (json.member name said more))
      → of_members (json.member name said more) found ≡ Some all → read bytes ≡ Some (object all)

-- what comes behind a member
abbrev pub IsBehind : List ℕ → Behind → Type 0
IsBehind bytes (More rest) = bytes ≡ 44 ∷ rest.now
IsBehind bytes End = bytes ≡ 125 ∷ []
IsBehind bytes Other = ⊤

-- what a line's value says is what the line says, and so of the further member that is kept, if one is
abbrev pub StandsFor : List ℕ → Option (List ℕ) → Usual → Type 0
StandsFor bytes further line =
    (value : Data) × (value_of bytes ≡ Ok value) × (member_of value ≡ says_of line)
    × IfSome further (λ name. get name value ≡ beside_of line name)
