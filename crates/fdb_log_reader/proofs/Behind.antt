-- Behind any lines each name has one number still.
use Rattle.std.proofs.Common.{◌≡◌, ℕ, nat_lt, Bool, true, false, List, [], ◌∷◌, length, Option, None, Some, IfSome, Result, Ok, Err, refl, sym, subst, if◌then◌else◌}
use Rattle.std.specs.Prelude.{⊤}
use Rattle.std.proofs.lemmas.Option.{none-some}
use Rattle.serde_json.specs.Find.{get}
use Rattle.fdb_log_reader.specs.declared.error.Why.{Why}
use Rattle.fdb_log_reader.specs.declared.error.Why.TheVariants.{TooLong, TooMany}
use Rattle.fdb_log_reader.specs.declared.reader.TheConstants.{MAX_LINE_BYTES}
use Rattle.fdb_log_reader.specs.Members.{and_then, member_of}
use Rattle.fdb_log_reader.specs.Named.{HaveOneNumber, StandOnce}
use Rattle.fdb_log_reader.specs.Parts.{SaidParts, parts_said}
use Rattle.fdb_log_reader.specs.ReadLine.{LineNames, MemberNames, SaidLine, are_full, line_read, line_said, line_with, member_in, names_after, names_behind, no_names, refusal_alone, unless, with_names}
use Rattle.fdb_log_reader.specs.Reading.{value_of}
use Rattle.fdb_log_reader.proofs.NamedOnce.{once_named}

-- a line that is read has added its names, and no others
abbrev AddsNames : LineNames → Result (SaidLine × LineNames) Why → Type 0
AddsNames names (Ok read) = (parts : SaidParts) × (read.1 ≡ with_names names parts)
AddsNames names (Err why) = ⊤

adds_else : (names : LineNames) (b : Bool) (why : Why) (read : Result (SaidLine × LineNames) Why) → AddsNames names read → AddsNames names (if b then Err why else read)
adds_else names true why read adds = tt
adds_else names false why read adds = adds

adds_then : {T : Type 0} (names : LineNames) (said : Result T Why) (next : T → Result (SaidLine × LineNames) Why) → ((t : T) → AddsNames names (next t)) → AddsNames names (and_then said next)
adds_then names (Ok said) next adds = adds said
adds_then names (Err why) next adds = tt

adds_unless : (names : LineNames) (parts : SaidParts) (said : SaidLine) (why : Option Why) → AddsNames names (unless why (said, with_names names parts))
adds_unless names parts said None = (parts, refl)
adds_unless names parts said (Some why) = tt

adds : (shown : List (List ℕ)) (names : LineNames) (bytes : List ℕ) → AddsNames names (line_read shown names bytes)
adds shown names bytes =
    adds_else names (nat_lt MAX_LINE_BYTES (length bytes)) TooLong _
    (adds_else names (are_full names) TooMany _
    (adds_then names (value_of bytes) (λ value. line_said shown names (member_of value) (λ name. get name value))
    (λ value. adds_then names (parts_said names.clients (member_in names) (member_of value) (λ name. get name value)) (line_with shown names (λ name. get name value))
    (λ parts. adds_unless names parts _ (refusal_alone parts)))))

once_after : (names : LineNames) (read : Result (SaidLine × LineNames) Why) → AddsNames names read → HaveOneNumber names → HaveOneNumber (names_after names read)
once_after names (Ok read) (parts, is) once = subst HaveOneNumber (sym is) (once_named names parts once)
once_after names (Err why) adds once = once

once_from : (shown : List (List ℕ)) (names : LineNames) (lines : List (List ℕ)) → HaveOneNumber names → HaveOneNumber (names_behind shown names lines)
once_from shown names [] once = once
once_from shown names (line ∷ lines) once =
    let read = line_read shown names line in
    once_from shown (names_after names read) lines (once_after names read (adds shown names line) once)

pub once_none : StandOnce []
once_none = λ i j name one two. absurd (none-some name one)

none_once : (key : Option (List ℕ)) → HaveOneNumber (no_names key)
none_once key = record { clients = once_none; keys = by key }
  where
    by : (key : Option (List ℕ)) → IfSome (no_names key).keys (λ (keys : MemberNames). StandOnce keys.names)
    by None = tt
    by (Some member) = once_none

pub once_behind : (shown : List (List ℕ)) (key : Option (List ℕ)) (lines : List (List ℕ)) → HaveOneNumber (names_behind shown (no_names key) lines)
once_behind shown key lines = once_from shown (no_names key) lines (none_once key)
