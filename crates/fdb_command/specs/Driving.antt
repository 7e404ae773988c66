-- What a program does with its input, and what it has done when it ends. (this product's own)
use Rattle.std.specs.Prelude.{◌≡◌, ◌≢◌, ◌⊎◌, ◌+◌, ◌++◌, ◌≤◌, ◌<◌, ⊤, Bool, true, false, ℕ, List, [], Option, None, Some}
use Rattle.std.specs.Prelude.{Result, Ok, Err, String, Vec, IfErr, IfOk, IfSome, MatchResult, length, map, string_bytes}
use Rattle.std.specs.IoError.{error_kind}
use Rattle.std.specs.declared.io.Error.{Error}
use Rattle.std.specs.declared.io.ErrorKind.TheVariants.{OutOfMemory}
use Rattle.std.specs.declared.alloc.Global.{Global}
use Rattle.std.specs.Io.KnownBytes.{Appends}
use Rattle.clap.specs.Words.{App, Text, fault_of}
use Rattle.fdb_command.specs.Arguments.{AreWrong, AsksHelp, ReadsInput, file_named}
use Rattle.fdb_command.specs.Input.{MayBeRead, MayBegin, TakesAtMost}
use Rattle.fdb_command.specs.Output.{TakesAny, TakesSome}
use Rattle.fdb_command.specs.declared.failure.Failure.{Failure}
use Rattle.fdb_command.specs.declared.program.Output.{Output}
use Rattle.fdb_command.specs.declared.failure.Failure.TheVariants.{Refused, Arguments, Memory, Found, Reading, Writing, OwnFile}

-- A program's own: its command; the most bytes that its input may have; which of the arguments that
-- its command takes suit it; what its flags may stand for; where progress is told; where it is said
-- what is left out; with which failures of reading, writing or a file of its own it may stop; which
-- bytes an intake has taken, by what the flags stand for, and which text has been told of them; which
-- texts, told parts and rest together, it may print of some bytes, with a fault that it finds or none
-- and a part that it refuses or none; why bytes are refused, whole or in part; and a fault for which
-- nothing more is printed of these bytes.
pub record Promise (O I E F : Type 0) : Type 1 where
  pub app : App
  pub most : ℕ
  pub suits : List Text → Bool
  pub asks : List Text → O → Type 0
  pub tells : List Text → Bool
  pub warns : List Text → Bool
  pub fails : List Text → Failure E F → Type 0
  pub taken : O → I → (bytes : List ℕ) → (told : List ℕ) → Type 0
  pub prints : List Text → List ℕ → List ℕ → Option F → Option E → Type 0
  pub refuses : List Text → List ℕ → E → Type 0
  pub finds : List Text → List ℕ → F → Type 0

-- clap refuses the arguments, or takes them and they do not suit the program
abbrev pub AreRefused : {O I E F : Type 0} → Promise O I E F → List Text → Type 0
AreRefused program arguments = AreWrong program.app arguments
    ⊎ ((fault_of program.app arguments ≡ []) × (program.suits arguments ≡ false))

-- These bytes are refused for this, and no text of them may be printed that tells of that, whatever fault
-- it tells of besides.
abbrev pub RefusesAll : {O I E F : Type 0} → Promise O I E F → List Text → List ℕ → E → Type 0
RefusesAll {O} {I} {E} {F} program arguments bytes error =
    program.refuses arguments bytes error
    × ((text : List ℕ) (found : Option F) → program.prints arguments bytes text found (Some error) → ⊥)

-- why a program prints nothing more of these bytes, at these arguments
abbrev pub Stops : {O I E F : Type 0} → Promise O I E F → List Text → List ℕ → Failure E F → Type 0
Stops program arguments bytes (Refused error) = RefusesAll program arguments bytes error
Stops program arguments bytes Arguments = ⊥
Stops program arguments bytes Memory = ⊤
Stops program arguments bytes (Found found) = program.finds arguments bytes found
Stops program arguments bytes Reading = program.fails arguments Reading
Stops program arguments bytes Writing = program.fails arguments Writing
Stops program arguments bytes (OwnFile file) = program.fails arguments (OwnFile file)

-- reading or writing failed: of the input, the output or a file of the program's own
abbrev pub HasFailed : {E F : Type 0} → Failure E F → Type 0
HasFailed (Refused error) = ⊥
HasFailed Arguments = ⊥
HasFailed Memory = ⊥
HasFailed (Found found) = ⊥
HasFailed Reading = ⊤
HasFailed Writing = ⊤
HasFailed (OwnFile file) = ⊤

-- The program stops so whatever its input is: memory was refused, or it is a failure that the promise
-- allows.
abbrev pub StopsAnyhow : {O I E F : Type 0} → Promise O I E F → O → Failure E F → Type 0
StopsAnyhow program options fault = (fault ≡ Memory)
    ⊎ (HasFailed fault × ((arguments : List Text) → program.asks arguments options → program.fails arguments fault))

-- What a program may answer of these bytes, of which this text has been told: it says what is left
-- out only where it warns.
abbrev pub MayAnswer : {O I E F : Type 0} → Promise O I E F → List Text → List ℕ → List ℕ
    → Output E F → Type 0
MayAnswer program arguments bytes told answer =
    program.prints arguments bytes (told ++ answer.text.items) answer.found answer.refused
    × IfSome answer.refused (program.refuses arguments bytes)
    × (program.warns arguments ≡ false → answer.warnings.items ≡ [])

-- The body may be called on options that the arguments ask for and on an intake that has taken some
-- bytes and told some text. `may_call` is what the body requires of a call.
abbrev pub IsCallable : {O I E F : Type 0} → Promise O I E F → (O → I → Type 0) → Type 0
IsCallable {O} {I} program may_call =
    (arguments : List Text) (options : O) (intake : I) (bytes told : List ℕ)
    → program.asks arguments options → program.taken options intake bytes told
    → may_call options intake

-- Whatever such a call answers, it is a text that the program may print behind what was told, or a
-- failure at which it stops. `may_answer` is what the body ensures of a call.
abbrev pub KeepsPromise : {O I E F : Type 0} → Promise O I E F
    → (O → I → Result (Output E F) (Failure E F) → Type 0) → Type 0
KeepsPromise {O} {I} {E} {F} program may_answer =
    (arguments : List Text) (options : O) (intake : I) (bytes told : List ℕ)
    (made : Result (Output E F) (Failure E F))
    → program.asks arguments options → program.taken options intake bytes told
    → may_answer options intake made
    → MatchResult made (MayAnswer program arguments bytes told) (Stops program arguments bytes)

-- An input is asked for. Of what may have been read this text may be printed, with this fault or none
-- and this refusal or none.
pub record IsPrinted {O I E F : Type 0} (program : Promise O I E F) (arguments : List Text)
    (remaining : Option (List ℕ)) (found : Option F) (refused : Option E) (text : List ℕ)
    : Type 0 where
  pub taken : fault_of program.app arguments ≡ []
  pub bytes : List ℕ
  pub few : length bytes ≤ program.most
  pub read : MayBeRead (file_named program.app arguments) remaining bytes
  pub printed : program.prints arguments bytes text found refused
  pub refuses : IfSome refused (program.refuses arguments bytes)

-- a text that may be printed of what may have been read was written, whole
pub record IsWritten {O I E F : Type 0} (program : Promise O I E F) (arguments : List Text)
    (remaining : Option (List ℕ)) (found : Option F) (refused : Option E)
    (before after : Option (List ℕ)) : Type 0 where
  pub text : List ℕ
  pub printed : IsPrinted program arguments remaining found refused text
  pub appended : Appends before after text

-- such a text was written in part, from its start on, and not whole
pub record IsCutShort {O I E F : Type 0} (program : Promise O I E F) (arguments : List Text)
    (remaining : Option (List ℕ)) (found : Option F) (refused : Option E)
    (before after : Option (List ℕ)) : Type 0 where
  pub text : List ℕ
  pub printed : IsPrinted program arguments remaining found refused text
  pub cut : TakesSome text before after

-- The program took a beginning of what may have been read, and told a text of it that is not empty. A
-- writer took that text, or the first of it, perhaps nothing.
pub record TellsOf {O I E F : Type 0} (program : Promise O I E F) (options : O)
    (file : Option Text) (remaining : Option (List ℕ)) (before after : Option (List ℕ))
    : Type 0 where
  pub bytes : List ℕ
  pub few : length bytes ≤ program.most
  pub read : MayBegin file remaining bytes
  pub text : List ℕ
  pub some : 0 < length text
  pub intake : I
  pub taken : program.taken options intake bytes text
  pub written : TakesAny text before after

-- an input is asked for, and a text told of its beginning was written, whole or in part
pub record HasTold {O I E F : Type 0} (program : Promise O I E F) (arguments : List Text)
    (remaining : Option (List ℕ)) (before after : Option (List ℕ)) : Type 0 where
  pub taken : fault_of program.app arguments ≡ []
  pub options : O
  pub asks : program.asks arguments options
  pub told : TellsOf program options (file_named program.app arguments) remaining before after

-- nothing was written, or what was told
abbrev pub HasAtMostTold : {O I E F W : Type 0} → Promise O I E F → List Text → Option (List ℕ)
    → (W → Option (List ℕ)) → W → W → Type 0
HasAtMostTold program arguments remaining contents before after =
    (after ≡ before) ⊎ HasTold program arguments remaining (contents before) (contents after)

-- Help or the version was asked for, of whose text this says nothing; or a text was written, whole,
-- that tells of no fault and of no refusal.
abbrev pub IsDone : {O I E F : Type 0} → Promise O I E F → List Text → Option (List ℕ) → Option (List ℕ)
    → Option (List ℕ) → Type 0
IsDone program arguments remaining before after =
    AsksHelp program.app arguments ⊎ IsWritten program arguments remaining None None before after

-- a text was written, whole, and tells of a fault
abbrev pub IsFaulty : {O I E F : Type 0} → Promise O I E F → List Text → Option (List ℕ) → F → Option (List ℕ)
    → Option (List ℕ) → Type 0
IsFaulty {O} {I} {E} {F} program arguments remaining found before after =
    (refused : Option E) × IsWritten program arguments remaining (Some found) refused before after

-- a text was written, whole, and tells of no fault, and a part of the input is refused besides
abbrev pub IsPartial : {O I E F : Type 0} → Promise O I E F → List Text → Option (List ℕ) → E → Option (List ℕ)
    → Option (List ℕ) → Type 0
IsPartial program arguments remaining error before after =
    IsWritten program arguments remaining None (Some error) before after

-- help was asked for, or a text was written, whole or in part: what a writer that fails may leave,
-- a flush that fails included
abbrev pub IsBegun : {O I E F : Type 0} → Promise O I E F → List Text → Option (List ℕ) → Option (List ℕ)
    → Option (List ℕ) → Type 0
IsBegun {O} {I} {E} {F} program arguments remaining before after =
    AsksHelp program.app arguments ⊎ ((found : Option F) × (refused : Option E)
    × (IsWritten program arguments remaining found refused before after
    ⊎ IsCutShort program arguments remaining found refused before after))

-- An input is asked for, and what may have been read is refused, so that no text tells of that. Where no file is
-- named and the input's bytes are known, these are refused; of the bytes of a file this says nothing.
abbrev pub MayRefuse : {O I E F : Type 0} → Promise O I E F → List Text → Option (List ℕ) → E → Type 0
MayRefuse program arguments remaining error =
    (fault_of program.app arguments ≡ []) × (bytes : List ℕ)
    × MayBeRead (file_named program.app arguments) remaining bytes
    × RefusesAll program arguments bytes error

-- The same, where a fault is found in what may have been read.
abbrev pub MayFind : {O I E F : Type 0} → Promise O I E F → List Text → Option (List ℕ) → F → Type 0
MayFind program arguments remaining found =
    (fault_of program.app arguments ≡ []) × (bytes : List ℕ)
    × MayBeRead (file_named program.app arguments) remaining bytes
    × program.finds arguments bytes found

-- Either what may have been read is refused for this, and at most what was told was written; or a part of
-- it is, and a whole text was written, which tells of this refusal and of no fault.
abbrev pub IsRefused : {O I E F W : Type 0} → Promise O I E F → List Text → Option (List ℕ) → E
    → (W → Option (List ℕ)) → W → W → Type 0
IsRefused program arguments remaining error contents before after =
    (HasAtMostTold program arguments remaining contents before after × MayRefuse program arguments remaining error)
    ⊎ IsPartial program arguments remaining error (contents before) (contents after)

-- Either the program stops with this fault, and at most what was told was written; or a text that tells
-- of it was written, whole.
abbrev pub IsFound : {O I E F W : Type 0} → Promise O I E F → List Text → Option (List ℕ) → F
    → (W → Option (List ℕ)) → W → W → Type 0
IsFound program arguments remaining found contents before after =
    (HasAtMostTold program arguments remaining contents before after × MayFind program arguments remaining found)
    ⊎ IsFaulty program arguments remaining found (contents before) (contents after)

-- an input is asked for, and that progress is told
abbrev pub TellsProgress : {O I E F : Type 0} → Promise O I E F → List Text → Type 0
TellsProgress program arguments =
    (fault_of program.app arguments ≡ []) × (program.tells arguments ≡ true)

-- an input is asked for, and that it is said what is left out
abbrev pub Warns : {O I E F : Type 0} → Promise O I E F → List Text → Type 0
Warns program arguments =
    (fault_of program.app arguments ≡ []) × (program.warns arguments ≡ true)

-- Nothing was written, or what was told, or a text, whole or in part. Where help was asked for, this says
-- nothing of what was written.
abbrev pub HasBegun : {O I E F W : Type 0} → Promise O I E F → List Text → Option (List ℕ)
    → (W → Option (List ℕ)) → W → W → Type 0
HasBegun program arguments remaining contents before after =
    (after ≡ before) ⊎ (HasTold program arguments remaining (contents before) (contents after)
    ⊎ IsBegun program arguments remaining (contents before) (contents after))

-- By how a program ended: what that says of its arguments and its input, and what it has written.
abbrev pub Leaves : {O I E F W : Type 0} → Promise O I E F → List Text → Option (List ℕ)
    → (W → Option (List ℕ)) → W → W → Result (Unit {0}) (Failure E F) → Type 0
Leaves program arguments remaining contents before after (Ok done) =
    IsDone program arguments remaining (contents before) (contents after)
Leaves program arguments remaining contents before after (Err (Refused error)) =
    IsRefused program arguments remaining error contents before after
Leaves program arguments remaining contents before after (Err Arguments) =
    AreRefused program arguments × (after ≡ before)
Leaves program arguments remaining contents before after (Err Memory) =
    HasAtMostTold program arguments remaining contents before after
Leaves program arguments remaining contents before after (Err (Found found)) =
    IsFound program arguments remaining found contents before after
Leaves program arguments remaining contents before after (Err Reading) =
    HasAtMostTold program arguments remaining contents before after × (fault_of program.app arguments ≡ [])
Leaves program arguments remaining contents before after (Err Writing) =
    HasBegun program arguments remaining contents before after
Leaves program arguments remaining contents before after (Err (OwnFile file)) =
    HasAtMostTold program arguments remaining contents before after × (fault_of program.app arguments ≡ [])
    × program.fails arguments (OwnFile file)

-- the arguments ask for an input, and suit the program, or for help
abbrev pub AreTaken : {O I E F : Type 0} → Promise O I E F → List Text → Type 0
AreTaken program arguments =
    ((fault_of program.app arguments ≡ []) × (program.suits arguments ≡ true)) ⊎ AsksHelp program.app arguments

-- What a program has done that was given these arguments and ended with this result. The line that
-- says why is not written yet. `remaining` says what a reader has left, and `contents` what a writer
-- holds, where that is known.
pub record HasEnded {O I E F R W L : Type 0} (program : Promise O I E F) (arguments : List Text)
    (remaining : R → Option (List ℕ)) (contents : W → Option (List ℕ))
    (input_before input_after : R) (out_before out_after : W) (err_before err_after : L)
    (result : Result (Unit {0}) (Failure E F)) : Type 0 where
  pub asked : result ≢ Err Arguments → result ≢ Err Memory → AreTaken program arguments
  pub leaves : Leaves program arguments (remaining input_before) contents out_before out_after result
  pub untaken : result ≡ Err Arguments → input_after ≡ input_before
  pub left : (ReadsInput program.app arguments → ⊥) → input_after ≡ input_before
  pub quiet : (TellsProgress program arguments → ⊥) → (Warns program arguments → ⊥)
      → err_after ≡ err_before
  pub few : TakesAtMost (program.most + 1) (remaining input_before) (remaining input_after)

-- how a program ends where this error came in place of its arguments
abbrev pub IsMissing : {E F : Type 0} → Error → Result (Unit {0}) (Failure E F) → Type 0
IsMissing error result =
    (error_kind error ≡ OutOfMemory → result ≡ Err Memory)
    × (error_kind error ≢ OutOfMemory → result ≡ Err Arguments)

-- As `HasEnded`, by the status, once the line that says why was written to standard error or could not
-- be.
pub record IsDrivenBy {O I E F R W L : Type 0} (program : Promise O I E F) (arguments : List Text)
    (remaining : R → Option (List ℕ)) (contents : W → Option (List ℕ))
    (input_before input_after : R) (out_before out_after : W) (err_before err_after : L)
    (status : ℕ) : Type 0 where
  pub asked : status ≢ 2 → status ≢ 3 → AreTaken program arguments
  pub done : status ≡ 0
      → IsDone program arguments (remaining input_before) (contents out_before) (contents out_after)
  pub refused : status ≡ 1 → (error : E)
      × IsRefused program arguments (remaining input_before) error contents out_before out_after
  pub wrong : status ≡ 2 → AreRefused program arguments × (out_after ≡ out_before)
  pub short : status ≡ 3
      → HasAtMostTold program arguments (remaining input_before) contents out_before out_after
  pub faulty : status ≡ 4 → (found : F)
      × IsFound program arguments (remaining input_before) found contents out_before out_after
  pub begun : status ≡ 5
      → HasBegun program arguments (remaining input_before) contents out_before out_after
  pub untaken : status ≡ 2 → input_after ≡ input_before
  pub left : (ReadsInput program.app arguments → ⊥) → input_after ≡ input_before
  pub quiet : status ≡ 0 → (TellsProgress program arguments → ⊥) → (Warns program arguments → ⊥)
      → err_after ≡ err_before
  pub few : TakesAtMost (program.most + 1) (remaining input_before) (remaining input_after)

-- What a program has done that has ended with this status. `arguments` are what it was given, or the
-- error that came in their place.
pub record IsDriven {O I E F R W L : Type 0} (program : Promise O I E F)
    (remaining : R → Option (List ℕ)) (contents : W → Option (List ℕ))
    (arguments : Result (Vec (String Global) Global) Error)
    (input_before input_after : R) (out_before out_after : W) (err_before err_after : L)
    (status : ℕ) : Type 0 where
  pub range : status ≤ 5
  pub given : IfOk arguments (λ list. IsDrivenBy program (map string_bytes list.items) remaining contents
      input_before input_after out_before out_after err_before err_after status)
  pub missing : IfErr arguments (λ error. (error_kind error ≡ OutOfMemory → status ≡ 3)
      × (error_kind error ≢ OutOfMemory → status ≡ 2)
      × (input_after ≡ input_before) × (out_after ≡ out_before))

-- at these arguments a program tells nothing while it reads
abbrev pub TellsNothing : {O I E F : Type 0} → Promise O I E F → List Text → Type 0
TellsNothing {O} {I} program arguments = (options : O) (intake : I) (bytes told : List ℕ)
    → program.asks arguments options → program.taken options intake bytes told → told ≡ []

-- it refuses all of its input or nothing
abbrev pub RefusesWhole : {O I E F : Type 0} → Promise O I E F → List Text → Type 0
RefusesWhole {O} {I} {E} {F} program arguments =
    (bytes text : List ℕ) (found : Option F) (error : E)
    → program.prints arguments bytes text found (Some error) → ⊥
