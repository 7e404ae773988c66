-- How the faults that a watch has told are counted: in all, and by groups as far as there is room. (this product's own)
use Rattle.std.specs.Prelude.{◌≡◌, ℕ, ◌+◌, ◌++◌, ◌∷◌, Bool, true, false, List, [], Option, None, Some, length, map, nat_lt, option_and_then, option_map, slice_get, if◌then◌else◌}
use Rattle.std.specs.Option.{option_flatten}
use Rattle.fdb_lines.specs.declared.fault.Fault.{Fault}
use Rattle.fdb_lines.specs.declared.fault.Found.{Found}
use Rattle.fdb_lines.specs.declared.line.Line.{Line}
use Rattle.fdb_lines.specs.Lines.{line_at}
use Rattle.fdb_log_reader.specs.Columns.{text_at}
use Rattle.fdb_log_reader.specs.Numbers.{number_in, with_name}
use Rattle.fdb_audit.specs.Groups.{AreMost, Owned, client_name, member_name}
use Rattle.fdb_audit.specs.Text.{Beside, line, name_or_number}
use Rattle.fdb_audit.specs.Totals.{faults_line}

-- A fault that was told: its kind, the client of its call as it is printed, and what was printed beside that, member by member.
pub record ToldFault : Type 0 where
  pub kind : Fault
  pub client : Option (List ℕ)
  pub texts : List (Option (List ℕ))

-- a client by its name, or by its number where it has none
abbrev pub client_text : List (List ℕ) → Option ℕ → Option (List ℕ)
client_text names client = option_map (λ client. name_or_number client (slice_get names client)) client

-- one at one of these lines, whose clients have these names, and beside which this is printed
abbrev pub told_at : List Line → List (List ℕ) → List Beside → Found → ToldFault
told_at lines names beside found = record {
  kind = found.fault;
  client = client_text names (line_at lines found.place).client;
  texts = map (λ (it : Beside). text_at it.texts it.numbers found.place) beside;
}

-- by which texts faults are counted: by their clients
abbrev pub client_of : ToldFault → Option (List ℕ)
client_of told = told.client

-- and by what was printed of a member, by its place
abbrev pub text_of : ℕ → ToldFault → Option (List ℕ)
text_of member told = option_flatten (slice_get told.texts member)

-- ---- by texts

-- so many texts have room
abbrev pub room : ℕ
room = 65536

-- The texts, in the order in which they came, the faults that are counted by them, each by the place of its text, and whether there
-- are faults of more.
pub record ByText : Type 0 where
  pub texts : List (List ℕ)
  pub owned : List Owned
  pub more : Bool

-- a further text, where there is room for one
abbrev pub with_text : List (List ℕ) → List ℕ → List (List ℕ)
with_text texts text = if nat_lt (length texts) room then with_name texts text else texts

-- one more of a text with a number; it is not counted where that has none
abbrev pub text_numbered : ByText → List (List ℕ) → Fault → Option ℕ → ByText
text_numbered it texts kind None = record { texts = texts; owned = it.owned; more = true }
text_numbered it texts kind (Some number) = record { texts = texts; owned = it.owned ++ record { kind = kind; owner = Some number } ∷ []; more = it.more }

abbrev pub text_more : ByText → Fault → Option (List ℕ) → ByText
text_more it kind None = record { texts = it.texts; owned = it.owned ++ record { kind = kind; owner = None } ∷ []; more = it.more }
text_more it kind (Some text) = text_numbered it (with_text it.texts text) kind (number_in (with_text it.texts text) text)

abbrev pub texts_from : (ToldFault → Option (List ℕ)) → ByText → List ToldFault → ByText
texts_from its it [] = it
texts_from its it (one ∷ told) = texts_from its (text_more it one.kind (its one)) told

abbrev pub by_text : (ToldFault → Option (List ℕ)) → List ToldFault → ByText
by_text its told = texts_from its (record { texts = []; owned = []; more = false }) told

-- a fault by its text
pub record Texted : Type 0 where
  pub kind : Fault
  pub text : Option (List ℕ)

abbrev pub texted : (ToldFault → Option (List ℕ)) → ToldFault → Texted
texted its told = record { kind = told.kind; text = its told }

-- and one that is counted by the place of its text among these
abbrev pub texted_in : List (List ℕ) → Owned → Texted
texted_in texts owned = record { kind = owned.kind; text = option_and_then (slice_get texts) owned.owner }

-- ---- what is printed of them

-- the groups with most, of the texts of each member, by its name, from a place on
abbrev pub AreMostByText : Bool → List ToldFault → ℕ → List (List ℕ) → List ℕ → Type 0
AreMostByText json told place [] text = text ≡ []
AreMostByText json told place (member ∷ members) text =
    let it = by_text (text_of place) told in
    (first : List ℕ) × AreMost json it.more (λ json. member_name json (record { member = member; texts = it.texts; numbers = [] })) it.owned first
    × (rest : List ℕ) × AreMostByText json told (place + 1) members rest × (text ≡ first ++ rest)

-- The totals of the faults that were told: how many there are, in all and of each kind; and the groups with most, by their clients,
-- and by what was printed of these members.
pub record AreTotalsTold (json : Bool) (members : List (List ℕ)) (told : List ToldFault) (text : List ℕ) : Type 0 where
  pub clients : List ℕ
  pub texts : List ℕ
  pub by_client : AreMost json (by_text client_of told).more (λ json. client_name json (by_text client_of told).texts) (by_text client_of told).owned clients
  pub by_text : AreMostByText json told 0 members texts
  pub printed : text ≡ line (faults_line json (map (λ (it : ToldFault). it.kind) told)) ++ clients ++ texts
