-- How a program takes its input, piece by piece, and what it tells of it. (this product's own)
use Rattle.std.specs.Prelude.{◌≡◌, ◌⊎◌, ◌≤◌, ◌<◌, ◌++◌, ℕ, List, [], Option, length}
use Rattle.std.specs.Io.KnownBytes.{Appends, Consumes}
use Rattle.clap.specs.Words.{Text}
use Rattle.fdb_command.specs.Driving.{Promise, Stops}
use Rattle.fdb_command.specs.Input.{MayBeRead}
use Rattle.fdb_command.specs.Output.{TakesAny}
use Rattle.fdb_command.specs.declared.failure.Failure.{Failure}
use Rattle.fdb_command.specs.declared.failure.Failure.TheVariants.{Reading, Writing}

-- this text was written, whole; the writer was not touched where it is empty
abbrev pub IsPut : {W : Type 0} → (W → Option (List ℕ)) → List ℕ → W → W → Type 0
IsPut contents text before after = ((text ≡ []) × (after ≡ before))
    ⊎ ((0 < length text) × Appends (contents before) (contents after) text)

-- a program has taken what may have been read of a file or of the input, by what its flags say, and
-- what it told of it was written
pub record IsTaken {O I E F W : Type 0} (program : Promise O I E F) (options : O)
    (file : Option Text) (remaining : Option (List ℕ)) (contents : W → Option (List ℕ))
    (before after : W) (intake : I) : Type 0 where
  pub bytes : List ℕ
  pub told : List ℕ
  pub few : length bytes ≤ program.most
  pub read : MayBeRead file remaining bytes
  pub taken : program.taken options intake bytes told
  pub put : IsPut contents told before after

-- the input could not be read, or what was told could not be written
abbrev pub IsFailure : {E F : Type 0} → Failure E F → Type 0
IsFailure fault = (fault ≡ Reading) ⊎ (fault ≡ Writing)

-- a program stops so at what may have been read of them, at the arguments that its flags are of
pub record MayStop {O I E F : Type 0} (program : Promise O I E F) (options : O)
    (file : Option Text) (remaining : Option (List ℕ)) (fault : Failure E F) : Type 0 where
  pub bytes : List ℕ
  pub read : MayBeRead file remaining bytes
  pub stops : (arguments : List Text) → program.asks arguments options
      → Stops program arguments bytes fault

-- a program has taken so many bytes more, which are gone from the input
pub record TakesOn {O I E F : Type 0} (program : Promise O I E F) (intake next : I) (count : ℕ)
    (before after : Option (List ℕ)) : Type 0 where
  pub bytes : List ℕ
  pub counted : length bytes ≡ count
  pub gone : Consumes before after bytes
  pub taken : (options : O) (so_far told : List ℕ) → program.taken options intake so_far told
      → program.taken options next (so_far ++ bytes) told

-- A program stops so at what is gone from the input, which is no more than so many bytes, and at
-- whatever comes after; or it could not be read.
pub record StopsAt {O I E F : Type 0} (program : Promise O I E F) (intake : I) (most : ℕ)
    (before after : Option (List ℕ)) (fault : Failure E F) : Type 0 where
  pub bytes : List ℕ
  pub few : length bytes ≤ most
  pub gone : Consumes before after bytes
  pub stops : (fault ≡ Reading)
      ⊎ ((arguments : List Text) (options : O) (so_far told rest : List ℕ)
      → program.asks arguments options → program.taken options intake so_far told
      → Stops program arguments (so_far ++ (bytes ++ rest)) fault)

-- with this intake a program has told this text more of what it had taken with that one
abbrev pub Tells : {O I E F : Type 0} → Promise O I E F → O → I → I → List ℕ → Type 0
Tells program options intake next text =
    (bytes told : List ℕ) → program.taken options intake bytes told
    → program.taken options next bytes (told ++ text)

-- and that was written, whole
pub record TellsOn {O I E F W : Type 0} (program : Promise O I E F) (options : O)
    (intake : I) (contents : W → Option (List ℕ)) (before after : W) (next : I) : Type 0 where
  pub text : List ℕ
  pub told : Tells program options intake next text
  pub put : IsPut contents text before after

-- it has told some text more, which was written, whole or in part
pub record TellsLast {O I E F : Type 0} (program : Promise O I E F) (options : O)
    (intake : I) (before after : Option (List ℕ)) : Type 0 where
  pub next : I
  pub text : List ℕ
  pub told : Tells program options intake next text
  pub some : 0 < length text
  pub written : TakesAny text before after
