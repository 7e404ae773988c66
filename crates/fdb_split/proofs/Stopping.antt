-- Why a program that cuts a log stops, and what it promises of its answer.
use Rattle.std.proofs.Common.{◌≡◌, ◌≢◌, ◌⊎◌, ◌∙◌, ◌&&◌, inl, inr, ℕ, Bool, true, false, List, [], ◌++◌, IfSome, MatchResult, Option, None, Some, Ok, Err, Result, ap, ap₂, codes, is_some, refl, subst, sym}
use Rattle.std.specs.declared.convert.Infallible.{Infallible}
use Rattle.std.proofs.lemmas.Bool.{false≢true}
use Rattle.clap.specs.Words.{Text}
use Rattle.fdb_command.specs.Driving.{MayAnswer, Stops}
use Rattle.fdb_command.specs.declared.failure.Failure.{Failure}
use Rattle.fdb_command.specs.declared.failure.Failure.TheVariants as fault
use Rattle.fdb_command.specs.declared.program.Output.{Output}
use Rattle.fdb_log_reader.specs.declared.error.ReadError.{ReadError}
use Rattle.fdb_log_reader.specs.declared.error.Why.{Why}
use Rattle.fdb_log_reader.specs.declared.error.Why.TheVariants.{Empty, TooLong, TooMany, NotJson, NoCall, TwoCalls, SomeTimes, BadMember, BadKey, BadNumber, Memory}
use Rattle.fdb_audit.specs.declared.refusal.LogsRefused.{LogsRefused}
use Rattle.fdb_audit.specs.declared.refusal.LogsRefused.TheVariants.{Log}
use Rattle.fdb_split.specs.Program.{HasCut, AskFor, Prints, cut, first_named, parts_named, split, suits, text_named}
use Rattle.fdb_split.specs.declared.split_arguments.SplitArguments.{SplitArguments}

abbrev of_memory : Why → Bool
of_memory Memory = true
of_memory _ = false

other : (why : Why) → of_memory why ≡ false → why ≢ Memory
other why not is = false≢true (sym not ∙ ap of_memory is)

is_memory : (why : Why) → (why ≡ Memory) ⊎ (why ≢ Memory)
is_memory Memory = inl refl
is_memory Empty = inr (other Empty refl)
is_memory TooLong = inr (other TooLong refl)
is_memory TooMany = inr (other TooMany refl)
is_memory NotJson = inr (other NotJson refl)
is_memory NoCall = inr (other NoCall refl)
is_memory TwoCalls = inr (other TwoCalls refl)
is_memory SomeTimes = inr (other SomeTimes refl)
is_memory (BadMember member) = inr (other (BadMember member) refl)
is_memory BadKey = inr (other BadKey refl)
is_memory BadNumber = inr (other BadNumber refl)

pub stops : (arguments : List Text) (asked : SplitArguments) (bytes : List ℕ) (error : ReadError) (made : Failure LogsRefused Infallible) → AskFor arguments asked
    → (error.why ≡ Memory) ⊎ (cut asked bytes ≡ Err error)
    → (error.why ≡ Memory → made ≡ fault.Memory) → (error.why ≢ Memory → made ≡ fault.Refused (Log error)) → Stops split arguments bytes made
stops arguments asked bytes error made is reads memory refused =
    elim (is_memory error.why) [
      | inl m ↦ subst (Stops split arguments bytes) (sym (memory m)) tt
      | inr differs ↦
          subst (Stops split arguments bytes) (sym (refused differs))
          ((asked, is, (differs, elim (reads) [ inl m ↦ absurd (differs m) | inr h ↦ h ])), λ text found prints. false≢true (sym (ap is_some prints.1)))
    ]

pub promised : (arguments : List Text) (asked : SplitArguments) (bytes : List ℕ) (made : Result (Output LogsRefused Infallible) (Failure LogsRefused Infallible)) → AskFor arguments asked
    → MatchResult made (λ answer. Prints asked bytes answer.text.items × (answer.found ≡ None) × (answer.refused ≡ None) × (answer.warnings.items ≡ [])) (Stops split arguments bytes)
    → MatchResult made (MayAnswer split arguments bytes []) (Stops split arguments bytes)
promised arguments asked bytes (Ok answer) is so = (
  (so.1, so.2, asked, is, so.0),
  subst (λ (refused : Option LogsRefused). IfSome refused (split.refuses arguments bytes)) (sym so.2) tt,
  λ quiet. so.3,
)
promised arguments asked bytes (Err made) is so = so

-- ---- arguments that suit, and that do not

pub suited : (arguments : List Text) (asked : SplitArguments) → AskFor arguments asked → suits arguments ≡ true
suited arguments asked is =
    ap₂ (λ (a b : Bool). a && b) (ap is_some is.parts)
    (ap₂ (λ (a b : Bool). a && b) (ap is_some is.into) (ap₂ (λ (a b : Bool). a && b) (ap is_some is.key) (ap is_some is.first)))

lacks : (a b : Bool) → b ≡ false → (a && b) ≡ false
lacks true b is = is
lacks false b is = refl

pub without_into : (arguments : List Text) → text_named (codes "into") arguments ≡ None → suits arguments ≡ false
without_into arguments none =
    lacks (is_some (parts_named arguments)) (is_some (text_named (codes "into") arguments) && (is_some (text_named (codes "key") arguments) && is_some (first_named arguments)))
    (ap (λ (text : Option Text). is_some text && (is_some (text_named (codes "key") arguments) && is_some (first_named arguments))) none)

pub without_key : (arguments : List Text) → text_named (codes "key") arguments ≡ None → suits arguments ≡ false
without_key arguments none =
    lacks (is_some (parts_named arguments)) (is_some (text_named (codes "into") arguments) && (is_some (text_named (codes "key") arguments) && is_some (first_named arguments)))
    (lacks (is_some (text_named (codes "into") arguments)) (is_some (text_named (codes "key") arguments) && is_some (first_named arguments))
    (ap (λ (text : Option Text). is_some text && is_some (first_named arguments)) none))

pub without_first : (arguments : List Text) → first_named arguments ≡ None → suits arguments ≡ false
without_first arguments none =
    lacks (is_some (parts_named arguments)) (is_some (text_named (codes "into") arguments) && (is_some (text_named (codes "key") arguments) && is_some (first_named arguments)))
    (lacks (is_some (text_named (codes "into") arguments)) (is_some (text_named (codes "key") arguments) && is_some (first_named arguments))
    (lacks (is_some (text_named (codes "key") arguments)) (is_some (first_named arguments)) (ap is_some none)))
