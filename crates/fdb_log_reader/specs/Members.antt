-- What a line says by its members, over the JSON value that `serde_json` reads. (this product's own)
use Rattle.std.specs.Prelude.{◌≡◌, ℕ, ◌^◌, ◌==◌, ◌&&◌, ◌||◌, Bool, true, false, nat_le, nat_lt, List, [], ◌∷◌, count_by, length, decimal, Option, None, Some, is_some, option_and_then, option_map, Result, Ok, Err, codes, if◌then◌else◌}
use Rattle.std.specs.Char.{is_digit}
use Rattle.std.specs.Option.{option_or}
use Rattle.std.specs.Str.Parse.{digits_value}
use Rattle.std.proofs.Common.{leb-true}
use Rattle.serde_json.specs.Data.{Data}
use Rattle.serde_json.specs.Find.{get, as_number, as_u64, as_null, as_str}
use Rattle.fdb_lines.specs.declared.line.Operation.{Operation}
use Rattle.fdb_lines.specs.declared.line.Operation.TheVariants as call
use Rattle.fdb_lines.specs.declared.line.Times.{Times}
use Rattle.fdb_log_reader.specs.declared.error.Why.{Why}
use Rattle.fdb_log_reader.specs.declared.error.Why.TheVariants.{NoCall, TwoCalls, BadMember}
use Rattle.fdb_log_reader.specs.declared.member.Member.{Member}
use Rattle.fdb_log_reader.specs.declared.member.Member.TheVariants.{Client, Read, Commit, Ask, Report, Learn, Began, Ended}
use Rattle.fdb_log_reader.specs.Numbers.{number_in}

abbrev pub name_of : Member → List ℕ
name_of Client = codes "client"
name_of Read = codes "read"
name_of Commit = codes "commit"
name_of Ask = codes "ask"
name_of Report = codes "report"
name_of Learn = codes "learn"
name_of Began = codes "began"
name_of Ended = codes "ended"

-- a member of a line, where it is there
abbrev pub member_of : Data → Member → Option Data
member_of value member = get (name_of member) value

-- What is read of a line is what its members say, each where it is there.
abbrev pub has : (Member → Option Data) → Member → Bool
has says member = is_some (says member)

-- what a member says, or that it is bad
abbrev pub or_bad : {T : Type 0} → Member → Option T → Result T Why
or_bad member None = Err (BadMember member)
or_bad member (Some said) = Ok said

-- what comes of what was said, or what is wrong
abbrev pub and_then : {S T : Type 0} → Result S Why → (S → Result T Why) → Result T Why
and_then (Ok said) next = next said
and_then (Err why) next = Err why

-- a whole number: digits alone, below 2^64
abbrev pub whole : Data → Option ℕ
whole value = option_and_then as_u64 (as_number value)

abbrev pub are_digits : List ℕ → Bool
are_digits [] = true
are_digits (byte ∷ bytes) = is_digit byte 10 && are_digits bytes

-- the number that a text writes: by digits alone, at least one, below 2^64; zeros may stand before them
abbrev pub written : List ℕ → Option ℕ
written text =
    if nat_lt 0 (length text) && (are_digits text && nat_lt (digits_value 10 text) (2 ^ 64))
    then Some (digits_value 10 text) else None

-- a version or a time: a whole number, or a text that writes one
abbrev pub as_count : Data → Option ℕ
as_count value = option_or (option_and_then written (as_str value)) (whole value)

-- a name: a text, or a whole number, which is its decimal text
abbrev pub as_name : Data → Option (List ℕ)
as_name value = option_or (as_str value) (option_map decimal (whole value))

-- a member that has to be there, and is a version or a time
abbrev pub number_of : (Member → Option Data) → Member → Result ℕ Why
number_of says member = or_bad member (option_and_then as_count (says member))

-- ---- whose call it was: a name, which may be left out

abbrev pub client_with : Option Data → Result (Option (List ℕ)) Why
client_with None = Ok None
client_with (Some name) = or_bad Client (option_map Some (as_name name))

abbrev pub client_of : (Member → Option Data) → Result (Option (List ℕ)) Why
client_of says = client_with (says Client)

-- ---- what was done: just one of five members

abbrev pub call_count : (Member → Option Data) → ℕ
call_count says = count_by (has says) (Read ∷ Commit ∷ Ask ∷ Report ∷ Learn ∷ [])

-- from whom a line has learnt: a client whose name a line above has
abbrev pub teller_of : List (List ℕ) → (Member → Option Data) → Result ℕ Why
teller_of names says =
    or_bad Learn (option_and_then (number_in names) (option_and_then as_name (says Learn)))

abbrev pub call_named : List (List ℕ) → (Member → Option Data) → Result Operation Why
call_named names says =
    if has says Read then and_then (number_of says Read) (λ version. Ok (call.Read version))
    else (if has says Commit then and_then (number_of says Commit) (λ version. Ok (call.Commit version))
    else (if has says Ask then and_then (number_of says Ask) (λ version. Ok (call.Ask version))
    else (if has says Report then and_then (number_of says Report) (λ version. Ok (call.Report version))
    else and_then (teller_of names says) (λ teller. Ok (call.Learn teller)))))

abbrev pub call_of : List (List ℕ) → (Member → Option Data) → Result Operation Why
call_of names says =
    if call_count says == 0 then Err NoCall
    else (if nat_lt 1 (call_count says) then Err TwoCalls
    else call_named names says)

-- ---- when a call began and ended: both members, or none

-- when a call ended: a time, or null where that is not known
abbrev pub end_of : Data → Option (Option ℕ)
end_of value = if is_some (as_null value) then Some None else option_map Some (as_count value)

-- times, unless the call ended before it began
abbrev pub times_if : (began end : ℕ) (in_order : Bool) → nat_le began end ≡ in_order → Option Times
times_if began end true is = Some (record { began = began; ended = Some end; in_order = leb-true began end is })
times_if began end false is = None

abbrev pub times_with : ℕ → Option ℕ → Option Times
times_with began None = Some (record { began = began; ended = None; in_order = tt })
times_with began (Some end) = times_if began end (nat_le began end) (λ _. nat_le began end)

abbrev pub some_times : (Member → Option Data) → Result (Option Times) Why
some_times says =
    and_then (number_of says Began) (λ began.
    and_then (or_bad Ended (option_and_then end_of (says Ended))) (λ ended.
    or_bad Ended (option_map Some (times_with began ended))))

abbrev pub times_of : (Member → Option Data) → Result (Option Times) Why
times_of says = if has says Began || has says Ended then some_times says else Ok None
