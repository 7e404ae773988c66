-- Arrays of a JSON value as lists, read item by item.
use Rattle.std.proofs.Common.{◌≡◌, ℕ, ◌+◌, ◌<◌, ◌≤◌, List, [], ◌∷◌, ◌++◌, Result, Ok, Err, Option, None, Some, drop, get_or, length, map, refl, sym, ap, ◌∙◌, append-nil, append_assoc}
use Rattle.std.proofs.lemmas.List.{at_drop_all, drop_more}
use Rattle.std.specs.Option.{option_map}
use Rattle.serde_json.specs.Data.{Data}
use Rattle.serde_json.specs.View.{items_of}
use Rattle.fdb_script.specs.Reading.{command_of, commands_from, every, list_of, rounds_from, then_commands, then_rounds}
use Rattle.fdb_script.specs.declared.script.ScriptError.{ScriptError}
use Rattle.fdb_script.specs.declared.script.ScriptError.TheVariants.{BadField}
use Rattle.fdb_script.specs.declared.script.Command.{Command}

pub list_of-items_of : (values : List Data) → list_of (items_of values) ≡ values
list_of-items_of [] = refl
list_of-items_of (value ∷ values) = ap (λ rest. value ∷ rest) (list_of-items_of values)

-- a reading of the rest, with what was read before it
abbrev pub prefixed : {A : Type 0} → List A → Result (List A) ScriptError → Result (List A) ScriptError
prefixed front (Ok rest) = Ok (front ++ rest)
prefixed front (Err error) = Err error

-- the arrays of the rest, with those before it
abbrev pub after_front : {A : Type 0} → List A → Option (List A) → Option (List A)
after_front front None = None
after_front front (Some rest) = Some (front ++ rest)

-- ---- value by value

-- what is left of some values begins with the next
next_is : {V : Type 0} (values : List V) (i : ℕ) (value : V) → i < length values → value ≡ get_or values i value → drop i values ≡ value ∷ drop (i + 1) values
next_is values i value within here = drop_more values i value within ∙ ap (λ v. v ∷ drop (i + 1) values) (sym here)

after_one : {T : Type 0} (front : List T) (item : T) (rest : Option (List T)) → after_front front (option_map (λ others. item ∷ others) rest) ≡ after_front (front ++ item ∷ []) rest
after_one front item None = refl
after_one front item (Some rest) = ap Some (sym (append_assoc front (item ∷ []) rest))

-- A value that can be read is read, and then what is left.
pub every_more : {T V : Type 0} (reading : Data → Option T) (view : V → Data) (front : List T) (values : List V) (i : ℕ) (value : V) (item : T) → i < length values → value ≡ get_or values i value
    → reading (view value) ≡ Some item → after_front front (every reading (map view (drop i values))) ≡ after_front (front ++ item ∷ []) (every reading (map view (drop (i + 1) values)))
every_more reading view front values i value item within here read =
    rw (next_is values i value within here, read) (after_one front item (every reading (map view (drop (i + 1) values))))

-- Where one cannot be read, all cannot.
pub every_none : {T V : Type 0} (reading : Data → Option T) (view : V → Data) (front : List T) (values : List V) (i : ℕ) (value : V) → i < length values → value ≡ get_or values i value
    → reading (view value) ≡ None → after_front front (every reading (map view (drop i values))) ≡ None
every_none reading view front values i value within here read = rw (next_is values i value within here, read) refl

-- When all are read, they are what was read.
pub every_all : {T V : Type 0} (reading : Data → Option T) (view : V → Data) (front : List T) (values : List V) (i : ℕ) → length values ≤ i
    → after_front front (every reading (map view (drop i values))) ≡ Some front
every_all reading view front values i all = at_drop_all (λ rest. after_front front (every reading (map view rest))) values i all ∙ ap Some (append-nil front)

prefixed_one : {T : Type 0} (front : List T) (item : T) (rest : Result (List T) ScriptError) (with_one : Result (List T) ScriptError → Result (List T) ScriptError)
    → ((others : List T) → with_one (Ok others) ≡ Ok (item ∷ others)) → ((error : ScriptError) → with_one (Err error) ≡ Err error)
    → prefixed front (with_one rest) ≡ prefixed (front ++ item ∷ []) rest
prefixed_one front item (Ok rest) with_one one fault = rw (one rest) (ap Ok (sym (append_assoc front (item ∷ []) rest)))
prefixed_one front item (Err error) with_one one fault = rw (fault error) refl

-- So with the commands of a round.
pub commands_more : {V : Type 0} (view : V → Data) (clients round : ℕ) (front : List Command) (values : List V) (i : ℕ) (value : V) (command : Command) → i < length values → value ≡ get_or values i value
    → command_of clients (view value) ≡ Some command
    → prefixed front (commands_from clients round i (map view (drop i values))) ≡ prefixed (front ++ command ∷ []) (commands_from clients round (i + 1) (map view (drop (i + 1) values)))
commands_more view clients round front values i value command within here read =
    rw (next_is values i value within here, read) (prefixed_one front command (commands_from clients round (i + 1) (map view (drop (i + 1) values))) (then_commands round i (Some command)) (λ others. refl) (λ error. refl))

pub commands_none : {V : Type 0} (view : V → Data) (clients round : ℕ) (front : List Command) (values : List V) (i : ℕ) (value : V) → i < length values → value ≡ get_or values i value
    → command_of clients (view value) ≡ None → prefixed front (commands_from clients round i (map view (drop i values))) ≡ Err (BadField round i)
commands_none view clients round front values i value within here read = rw (next_is values i value within here, read) refl

pub commands_all : {V : Type 0} (view : V → Data) (clients round : ℕ) (front : List Command) (values : List V) (i : ℕ) → length values ≤ i
    → prefixed front (commands_from clients round i (map view (drop i values))) ≡ Ok front
commands_all view clients round front values i all = at_drop_all (λ rest. prefixed front (commands_from clients round i (map view rest))) values i all ∙ ap Ok (append-nil front)

-- And so with the rounds.
pub rounds_more : {V : Type 0} (view : V → List Data) (clients : ℕ) (front : List (List Command)) (rounds : List V) (i : ℕ) (round : V) (commands : List Command) → i < length rounds → round ≡ get_or rounds i round
    → commands_from clients i 0 (view round) ≡ Ok commands
    → prefixed front (rounds_from clients i (map view (drop i rounds))) ≡ prefixed (front ++ commands ∷ []) (rounds_from clients (i + 1) (map view (drop (i + 1) rounds)))
rounds_more view clients front rounds i round commands within here read =
    rw (next_is rounds i round within here, read) (prefixed_one front commands (rounds_from clients (i + 1) (map view (drop (i + 1) rounds))) (then_rounds (Ok commands)) (λ others. refl) (λ error. refl))

pub rounds_all : {V : Type 0} (view : V → List Data) (clients : ℕ) (front : List (List Command)) (rounds : List V) (i : ℕ) → length rounds ≤ i
    → prefixed front (rounds_from clients i (map view (drop i rounds))) ≡ Ok front
rounds_all view clients front rounds i all = at_drop_all (λ rest. prefixed front (rounds_from clients i (map view rest))) rounds i all ∙ ap Ok (append-nil front)
