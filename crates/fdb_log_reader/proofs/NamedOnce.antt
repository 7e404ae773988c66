-- Each name has one number, and a line says the same by all names that have its own.
use Rattle.std.proofs.Common.{◌≡◌, ℕ, ◌<◌, Bool, true, false, cond, nat_lt, List, [], ◌∷◌, ◌++◌, length, length-append, get_or, Option, None, Some, IfSome, is_some, option_map, ◌⊎◌, inl, inr, refl, ap, sym, ◌∙◌, arith, ltb-true, if◌then◌else◌}
use Rattle.std.specs.List.{position_or_len}
use Rattle.std.specs.Prelude.{option_and_then, slice_get}
use Rattle.std.specs.Str.{bytes_eq}
use Rattle.std.proofs.lemmas.Bool.{cases_lt, false≢true}
use Rattle.std.proofs.lemmas.List.{get_or_append_left, get_or_push, length_push}
use Rattle.std.proofs.lemmas.List.Sums.{passes_at_first}
use Rattle.std.proofs.lemmas.Option.{get_or_from_slice_get, slice_get-get_or, slice_get_within}
use Rattle.std.proofs.lemmas.Slice.Eq.{bytes_eq-Decides}
use Rattle.serde_json.specs.Data.{Data}
use Rattle.fdb_log_reader.specs.LineReader.{AreMore, AreMoreKeys}
use Rattle.fdb_log_reader.specs.Named.{HaveOneNumber, Named, StandOnce, named_said}
use Rattle.fdb_log_reader.specs.Numbers.{IsMore, client_in, number_in, with_client, with_name}
use Rattle.fdb_log_reader.specs.Parts.{SaidParts}
use Rattle.fdb_log_reader.specs.ReadLine.{LineNames, MemberNames, key_number, member_in, numbered, with_known, with_names}
use Rattle.fdb_log_reader.proofs.Naming.{differs, number_there}

-- ---- each name stands once

-- what stands at a place, once a name is added
at_push : (names : List (List ℕ)) (name : List ℕ) (i : ℕ) (other : List ℕ) → slice_get (names ++ name ∷ []) i ≡ Some other
    → ((i < length names) × (slice_get names i ≡ Some other)) ⊎ ((i ≡ length names) × (name ≡ other))
at_push names name i other is = elim (cases_lt i (length names)) [
  | inl lt ↦
      let here = get_or_from_slice_get (names ++ name ∷ []) i other other is in
      let left = get_or_append_left names (name ∷ []) other i lt in
      inl (lt, slice_get-get_or names i other lt ∙ ap (λ (one : List ℕ). Some one) (sym left ∙ here))
  | inr ge ↦
      let within = slice_get_within (names ++ name ∷ []) i other is in
      let size = length_push names name in
      let last : i ≡ length names = omega (arith, within, size, ge) in
      let here = get_or_from_slice_get (names ++ name ∷ []) i other other is in
      inr (last, sym (get_or_push names name other i (sym last)) ∙ here)
]

once_more : (names : List (List ℕ)) (name : List ℕ) → number_in names name ≡ None → StandOnce names → StandOnce (names ++ name ∷ [])
once_more names name new once i j other one two = by (at_push names name i other one) (at_push names name j other two)
  where
    apart : (k : ℕ) → k < length names → slice_get names k ≡ Some other → name ≡ other → ⊥
    apart k lt is same = differs names name k other new lt (get_or_from_slice_get names k other other is ∙ sym same)

    by : ((i < length names) × (slice_get names i ≡ Some other)) ⊎ ((i ≡ length names) × (name ≡ other))
        → ((j < length names) × (slice_get names j ≡ Some other)) ⊎ ((j ≡ length names) × (name ≡ other)) → i ≡ j
    by (inl (lt, is)) (inl (lt_too, too)) = once i j other is too
    by (inl (lt, is)) (inr (last, same)) = absurd (apart i lt is same)
    by (inr (last, same)) (inl (lt, is)) = absurd (apart j lt is same)
    by (inr (last, same)) (inr (last_too, same_too)) = last ∙ sym last_too

pub once_with : (names : List (List ℕ)) (client : Option (List ℕ)) → StandOnce names → StandOnce (with_client names client)
once_with names None once = once
once_with names (Some name) once = by (number_in names name) refl
  where
    by : (found : Option ℕ) → number_in names name ≡ found → StandOnce (if is_some found then names else names ++ name ∷ [])
    by None is = once_more names name is once
    by (Some number) is = once

known_once : (keys : Option MemberNames) (key : Option (List ℕ)) → IfSome keys (λ keys. StandOnce keys.names) → IfSome (option_map (with_known key) keys) (λ keys. StandOnce keys.names)
known_once None key once = tt
known_once (Some keys) key once = once_with keys.names key once

pub once_named : (names : LineNames) (parts : SaidParts) → HaveOneNumber names → HaveOneNumber (with_names names parts)
once_named names parts once = record { clients = once_with names.clients parts.client once.clients; keys = known_once names.keys parts.key once.keys }

-- ---- the name of a number that a name has

abbrev pub Has : List (List ℕ) → List ℕ → Type 0
Has names name = (i : ℕ) × (number_in names name ≡ Some i) × (slice_get names i ≡ Some name)

stands_there : (names : List (List ℕ)) (name : List ℕ) (b : Bool) → nat_lt (position_or_len (bytes_eq name) names) (length names) ≡ b
    → is_some (cond b (Some (position_or_len (bytes_eq name) names)) None) ≡ true → slice_get names (position_or_len (bytes_eq name) names) ≡ Some name
stands_there names name true lt some =
    let place = position_or_len (bytes_eq name) names in
    let within = ltb-true place (length names) lt in
    let same : name ≡ get_or names place name = (bytes_eq-Decides name (get_or names place name)).0 (passes_at_first (bytes_eq name) names name within) in
    slice_get-get_or names place name within ∙ ap (λ (one : List ℕ). Some one) (sym same)
stands_there names name false ge some = absurd (false≢true some)

number_is : (b : Bool) (place : ℕ) → is_some (cond b (Some place) None) ≡ true → cond b (Some place) None ≡ Some place
number_is true place some = refl
number_is false place some = absurd (false≢true some)

has_number : (names : List (List ℕ)) (name : List ℕ) → is_some (number_in names name) ≡ true → Has names name
has_number names name some =
    let place = position_or_len (bytes_eq name) names in
    let b = nat_lt place (length names) in
    (place, number_is b place some, stands_there names name b refl some)

pub has_own : (names : List (List ℕ)) (name : List ℕ) → Has (with_name names name) name
has_own names name = has_number (with_name names name) name (by (number_in names name) refl)
  where
    by : (found : Option ℕ) → number_in names name ≡ found → is_some (number_in (if is_some found then names else names ++ name ∷ []) name) ≡ true
    by None is = ap is_some (number_there names name is)
    by (Some number) is = ap is_some is

still_there : (names more : List (List ℕ)) (i : ℕ) (name : List ℕ) → IsMore names more → slice_get names i ≡ Some name → slice_get more i ≡ Some name
still_there names more i name are is =
    let within = slice_get_within names i name is in
    let here = get_or_from_slice_get names i name name is in
    let left = get_or_append_left names are.0 name i within in
    let size = length-append names are.0 in
    ap (λ (list : List (List ℕ)). slice_get list i) are.1
    ∙ (slice_get-get_or (names ++ are.0) i name (omega (arith, within, size)) ∙ ap (λ (one : List ℕ). Some one) (left ∙ here))

client_again : (names more : List (List ℕ)) (client : Option (List ℕ)) → IsMore (with_client names client) more → option_and_then (slice_get more) (client_in (with_client names client) client) ≡ client
client_again names more None are = refl
client_again names more (Some name) are =
    let own = has_own names name in
    ap (option_and_then (slice_get more)) own.1 ∙ still_there (with_name names name) more own.0 name are own.2

-- a key is kept where a member has the keys
abbrev pub key_if : Option (List ℕ) → Option (List ℕ) → Option (List ℕ)
key_if None key = None
key_if (Some member) key = key

key_again : (keys more : Option MemberNames) (key : Option (List ℕ)) → AreMoreKeys (option_map (with_known key) keys) more
    → option_and_then (λ (more : MemberNames). option_and_then (slice_get more.names) (key_number (option_map (with_known key) keys) key)) more
    ≡ key_if (option_map (λ (keys : MemberNames). keys.member) keys) key
key_again None more key are = ap (option_and_then (λ (more : MemberNames). option_and_then (slice_get more.names) None)) are
key_again (Some keys) more key are =
    let number = client_in (with_client keys.names key) key in
    ap (option_and_then (λ (more : MemberNames). option_and_then (slice_get more.names) number)) are.1 ∙ client_again keys.names are.0.names key are.3

-- what a line says by its parts
abbrev pub named_parts : Option (List ℕ) → SaidParts → Named
named_parts member parts = record { client = parts.client; key = key_if member parts.key; call = parts.call; times = parts.times }

pub named_again : (names more : LineNames) (parts : SaidParts) (values : List (Option Data)) → AreMore (with_names names parts) more
    → named_said more (numbered (with_names names parts) parts values) ≡ named_parts (member_in names) parts
named_again names more parts values are =
    let make = λ (client key : Option (List ℕ)). let it : Named = record { client = client; key = key; call = parts.call; times = parts.times } in it in
    (λ i. make (client_again names.clients more.clients parts.client are.0 i) (key_again names.keys more.keys parts.key are.1 i))

pub member_with : (names : LineNames) (parts : SaidParts) → member_in (with_names names parts) ≡ member_in names
member_with names parts = by names.keys
  where
    by : (keys : Option MemberNames) → option_map (λ (keys : MemberNames). keys.member) (option_map (with_known parts.key) keys) ≡ option_map (λ (keys : MemberNames). keys.member) keys
    by None = refl
    by (Some keys) = refl
