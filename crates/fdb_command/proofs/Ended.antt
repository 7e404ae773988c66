-- What a program leaves, by what it made of its input.
use Rattle.std.proofs.Common.{◌≡◌, ◌≢◌, ◌++◌, ℕ, List, [], Option, None, Some, Result, Ok, Err, inl, inr, refl, subst, sym}
use Rattle.std.specs.Prelude.{IfErr}
use Rattle.clap.specs.Words.{Text, fault_of}
use Rattle.fdb_command.specs.Arguments.{AsksHelp}
use Rattle.fdb_command.specs.Driving.{AreRefused, HasAtMostTold, HasBegun, HasFailed, IsPrinted, Leaves, MayFind, MayRefuse, Promise}
use Rattle.fdb_command.specs.declared.arguments.ArgumentsFault.{ArgumentsFault}
use Rattle.fdb_command.specs.declared.arguments.ArgumentsFault.TheVariants as words
use Rattle.fdb_command.specs.declared.failure.Failure.{Failure}
use Rattle.fdb_command.specs.declared.failure.Failure.TheVariants.{Refused, Arguments, Memory, Found, Reading, Writing, OwnFile}
use Rattle.fdb_command.specs.declared.failure.FileFault.{FileFault}
use Rattle.fdb_command.specs.declared.program.Output.{Output}
use Rattle.fdb_command.specs.private.Ending.{IsEnding}
use Rattle.fdb_command.specs.private.Taking.{IsPut}
use Rattle.fdb_command.proofs.Answered.{begun, written}

module _ {O I E F W : Type 0} (program : Promise O I E F) (arguments : List Text) (remaining : Option (List ℕ)) (contents : W → Option (List ℕ)) (before after : W) where
  -- it wrote the text of its answer
  pub answered : (answer : Output E F) (between : W) → (told : List ℕ) × IsPut contents told before between × IsPrinted program arguments remaining answer.found answer.refused (told ++ answer.text.items)
      → (result : Result (Unit {0}) (Failure E F)) → IsEnding answer.text.items answer.found answer.refused (contents between) (contents after) result → Leaves program arguments remaining contents before after result
  answered answer between printed (Ok done) ends = inr (written program arguments remaining answer None None contents before between after printed ends.0 ends.1 ends.2)
  answered answer between printed (Err (Refused error)) ends = inr (written program arguments remaining answer None (Some error) contents before between after printed ends.0 ends.1 ends.2)
  answered answer between printed (Err Arguments) ends = absurd ends
  answered answer between printed (Err Memory) ends = absurd ends
  answered answer between printed (Err (Found found)) ends = inr (answer.refused, written program arguments remaining answer (Some found) answer.refused contents before between after printed ends.0 refl ends.1)
  answered answer between printed (Err Reading) ends = absurd ends
  answered answer between printed (Err Writing) ends = inr (inr (begun program arguments remaining answer contents before between after printed ends))
  answered answer between printed (Err (OwnFile file)) ends = absurd ends

  more : HasAtMostTold program arguments remaining contents before after → HasBegun program arguments remaining contents before after
  more (inl same) = inl same
  more (inr told) = inr (inl told)

  -- it stopped before it had an answer
  pub stopped : fault_of program.app arguments ≡ [] → (fault : Failure E F) → fault ≢ Arguments → ((error : E) → fault ≡ Refused error → MayRefuse program arguments remaining error)
      → ((found : F) → fault ≡ Found found → MayFind program arguments remaining found) → ((file : FileFault) → fault ≡ OwnFile file → program.fails arguments fault)
      → HasAtMostTold program arguments remaining contents before after → Leaves program arguments remaining contents before after (Err fault)
  stopped taken (Refused error) own refuses finds fails told = inl (told, refuses error refl)
  stopped taken Arguments own refuses finds fails told = absurd (own refl)
  stopped taken Memory own refuses finds fails told = told
  stopped taken (Found found) own refuses finds fails told = inl (told, finds found refl)
  stopped taken Reading own refuses finds fails told = (told, taken)
  stopped taken Writing own refuses finds fails told = more told
  stopped taken (OwnFile file) own refuses finds fails told = (told, taken, fails file refl)

  -- it was asked for help
  pub helped : (result : Result (Unit {0}) (Failure E F)) → AsksHelp program.app arguments → IfErr result (λ fault. fault ≡ Writing) → Leaves program arguments remaining contents before after result
  helped (Ok done) help is = inl help
  helped (Err fault) help is = subst (λ (it : Failure E F). Leaves program arguments remaining contents before after (Err it)) (sym is) (inr (inr (inl help)))

  -- what it left where it stopped for this
  pub becomes : (fault its : Failure E F) → fault ≡ its → Leaves program arguments remaining contents before after (Err fault) → Leaves program arguments remaining contents before after (Err its)
  becomes fault its is leaves = subst (λ (it : Failure E F). Leaves program arguments remaining contents before after (Err it)) is leaves

  -- reading or writing failed
  pub failing : (fault : Failure E F) → Leaves program arguments remaining contents before after (Err fault) → HasFailed fault → HasBegun program arguments remaining contents before after
  failing (Refused error) leaves failed = absurd failed
  failing Arguments leaves failed = absurd failed
  failing Memory leaves failed = absurd failed
  failing (Found found) leaves failed = absurd failed
  failing Reading leaves failed = more leaves.0
  failing Writing leaves failed = leaves
  failing (OwnFile file) leaves failed = more leaves.0

-- its arguments ask for nothing
pub wrong : {O I E F W : Type 0} (program : Promise O I E F) (arguments : List Text) (remaining : Option (List ℕ)) (contents : W → Option (List ℕ)) (at : W) (cause : ArgumentsFault) (made : Failure E F)
    → (cause ≡ words.Refused → made ≡ Arguments) × (cause ≡ words.Memory → made ≡ Memory) → (cause ≡ words.Refused → AreRefused program arguments) → Leaves program arguments remaining contents at at (Err made)
wrong {O} {I} {E} {F} program arguments remaining contents at words.Refused made told are =
    subst (λ (it : Failure E F). Leaves program arguments remaining contents at at (Err it)) (sym (told.0 refl)) (are refl, refl)
wrong {O} {I} {E} {F} program arguments remaining contents at words.Memory made told are =
    subst (λ (it : Failure E F). Leaves program arguments remaining contents at at (Err it)) (sym (told.1 refl)) (inl refl)
