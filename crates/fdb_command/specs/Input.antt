-- What may have been read of a file or of the input, and why it was not.
-- (this product's own)
use Rattle.std.specs.Prelude.{◌≡◌, ◌≢◌, ◌≤◌, ◌++◌, ⊤, ℕ, List, Option, Some, None, IfSome, length}
use Rattle.std.specs.Io.KnownBytes.{Consumes}
use Rattle.std.specs.IoError.{error_kind}
use Rattle.std.specs.declared.io.Error.{Error}
use Rattle.std.specs.declared.io.ErrorKind.TheVariants.{OutOfMemory}
use Rattle.clap.specs.Words.{Text}
use Rattle.fdb_command.specs.declared.failure.Failure.{Failure}
use Rattle.fdb_command.specs.declared.failure.Failure.TheVariants.{Reading, Memory}

-- these may be the bytes that were read: all that the input has, where no file is
-- named and they are known; else any, since no clause can know the bytes of a file
abbrev pub MayBeRead : Option Text → Option (List ℕ) → List ℕ → Type 0
MayBeRead (Some path) remaining bytes = ⊤
MayBeRead None remaining bytes = IfSome remaining (λ all. all ≡ bytes)

-- these may be the first of the bytes that were read
abbrev pub MayBegin : Option Text → Option (List ℕ) → List ℕ → Type 0
MayBegin (Some path) remaining bytes = ⊤
MayBegin None remaining bytes =
    IfSome remaining (λ all. (rest : List ℕ) × (all ≡ bytes ++ rest))

-- at most so many of the input's bytes are gone, where they are known
abbrev pub TakesAtMost : ℕ → Option (List ℕ) → Option (List ℕ) → Type 0
TakesAtMost most before after =
    (taken : List ℕ) × (length taken ≤ most) × Consumes before after taken

-- Where a reader, or what opens a file, answers this error, the bytes cannot be had for
-- this reason: memory where that was refused, and reading for any other kind of error.
pub record IsCauseOf {E F : Type 0} (error : Error) (fault : Failure E F) : Type 0 where
  pub memory : error_kind error ≡ OutOfMemory → fault ≡ Memory
  pub other : error_kind error ≢ OutOfMemory → fault ≡ Reading
