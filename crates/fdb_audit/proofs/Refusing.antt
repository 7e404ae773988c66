-- Why a program that audits stops: its log is refused, or memory is.
use Rattle.std.proofs.Common.{◌≡◌, ◌≢◌, ◌⊎◌, inl, inr, ℕ, Bool, true, false, List, Option, None, Some, Ok, Err, Result, ap, is_some, refl, string_bytes, subst, sym, ◌∙◌}
use Rattle.std.specs.Prelude.{IfErr, IsErrAnd, option_map}
use Rattle.std.proofs.lemmas.Bool.{false≢true}
use Rattle.clap.specs.Words.{Text}
use Rattle.fdb_command.specs.Driving.{HasFailed, Stops, StopsAnyhow}
use Rattle.fdb_command.specs.declared.failure.Failure.{Failure}
use Rattle.fdb_command.specs.declared.failure.Failure.TheVariants as fault
use Rattle.fdb_log_reader.specs.declared.error.ReadError.{ReadError}
use Rattle.fdb_log_reader.specs.declared.error.Why.{Why}
use Rattle.fdb_log_reader.specs.declared.error.Why.TheVariants.{Empty, TooLong, TooMany, NotJson, NoCall, TwoCalls, SomeTimes, BadMember, BadKey, BadNumber, Memory}
use Rattle.fdb_audit.specs.Program.{audit, AskFor, PrintsBy, RefusesBy, reading_asked, refusal_of}
use Rattle.fdb_audit.specs.declared.arguments.AuditArguments.{AuditArguments}
use Rattle.fdb_audit.specs.declared.printer.LogFault.{LogFault}
use Rattle.fdb_audit.specs.declared.refusal.KeptFault.{KeptFault}
use Rattle.fdb_audit.specs.declared.refusal.LogsRefused.{LogsRefused}
use Rattle.fdb_audit.specs.declared.refusal.LogsRefused.TheVariants.{Early, Kept, Log}
use Rattle.fdb_audit.specs.KeptFile.{KeepingFails}
use Rattle.fdb_audit.specs.private.Kept.{MayFail, MayStop}

abbrev pub of_memory : Why → Bool
of_memory Memory = true
of_memory _ = false

other : (why : Why) → of_memory why ≡ false → why ≢ Memory
other why not is = false≢true (sym not ∙ ap of_memory is)

is_memory : (why : Why) → (why ≡ Memory) ⊎ (why ≢ Memory)
is_memory Memory = inl refl
is_memory Empty = inr (other Empty refl)
is_memory TooLong = inr (other TooLong refl)
is_memory TooMany = inr (other TooMany refl)
is_memory NotJson = inr (other NotJson refl)
is_memory NoCall = inr (other NoCall refl)
is_memory TwoCalls = inr (other TwoCalls refl)
is_memory SomeTimes = inr (other SomeTimes refl)
is_memory (BadMember member) = inr (other (BadMember member) refl)
is_memory BadKey = inr (other BadKey refl)
is_memory BadNumber = inr (other BadNumber refl)

pub not_both : {X : Type 0} (x : X) → Some x ≡ None → ⊥
not_both x is = false≢true (sym (ap is_some is))

-- of a log that is not followed no text tells of a refusal
whole_alone : (arguments : List Text) (asked : AuditArguments) (bytes : List ℕ) (why : LogsRefused) → AskFor arguments asked → asked.follow ≡ None
    → (text : List ℕ) (found : Option LogFault) → audit.prints arguments bytes text found (Some why) → ⊥
whole_alone arguments asked bytes why is whole text found prints =
    not_both why (subst (λ follow. PrintsBy follow prints.0 bytes text found (Some why)) (prints.1.follow ∙ (sym is.follow ∙ whole)) prints.2).1

abbrev is_kept : Option LogsRefused → Bool
is_kept (Some (Kept refused)) = true
is_kept _ = false

-- what is refused of a log that is followed is not the text that was kept
pub not_kept : (o : Option ReadError) (last : Option ℕ) (refused : KeptFault) → Some (Kept refused) ≡ refusal_of o last → ⊥
not_kept None None refused is = false≢true (sym (ap is_kept is))
not_kept None (Some number) refused is = false≢true (sym (ap is_kept is))
not_kept (Some error) last refused is = false≢true (sym (ap is_kept is))

kept_alone : (arguments : List Text) (asked : AuditArguments) (bytes : List ℕ) (behind : ℕ) (refused : KeptFault) → AskFor arguments asked → asked.follow ≡ Some behind
    → (text : List ℕ) (found : Option LogFault) → audit.prints arguments bytes text found (Some (Kept refused)) → ⊥
kept_alone arguments asked bytes behind refused is follows text found prints =
    let (kept, more, for, left, last, printed, why) = subst (λ follow. PrintsBy follow prints.0 bytes text found (Some (Kept refused))) (prints.1.follow ∙ (sym is.follow ∙ follows)) prints.2 in
    not_kept left last refused why

pub stops : (arguments : List Text) (asked : AuditArguments) (bytes : List ℕ) (error : ReadError) (made : Failure LogsRefused LogFault) → AskFor arguments asked
    → asked.follow ≡ None → (error.why ≡ Memory) ⊎ (reading_asked asked bytes ≡ Err error)
    → (error.why ≡ Memory → made ≡ fault.Memory) → (error.why ≢ Memory → made ≡ fault.Refused (Log error)) → Stops audit arguments bytes made
stops arguments asked bytes error made is whole reads memory refused =
    elim (is_memory error.why) [
      | inl m ↦ subst (Stops audit arguments bytes) (sym (memory m)) tt
      | inr differs ↦
          let why : LogsRefused = Log error in
          subst (Stops audit arguments bytes) (sym (refused differs))
          ((asked, is, subst (λ follow. RefusesBy follow asked bytes why) (sym whole) (differs, elim (reads) [ inl m ↦ absurd (differs m) | inr h ↦ h ])), whole_alone arguments asked bytes why is whole)
    ]

pub is_some_map : {X Y : Type 0} (f : X → Y) (it : Option X) → is_some (option_map f it) ≡ is_some it
is_some_map f None = refl
is_some_map f (Some x) = refl

-- the file in which lines are kept is the one that the arguments name
pub fails_asked : (arguments : List Text) (asked : AuditArguments) (made : Failure LogsRefused LogFault) → AskFor arguments asked → KeepingFails (option_map string_bytes asked.keep) made → audit.fails arguments made
fails_asked arguments asked made is fails = subst (λ file. KeepingFails file made) is.keep fails

-- where that fails, the program stops so
pub stops_failing : (arguments : List Text) (asked : AuditArguments) (bytes : List ℕ) (made : Failure LogsRefused LogFault) → AskFor arguments asked → MayFail (option_map string_bytes asked.keep) made
    → Stops audit arguments bytes made
stops_failing arguments asked bytes made is (inl memory) = subst (Stops audit arguments bytes) (sym memory) tt
stops_failing arguments asked bytes (fault.Refused error) is (inr fails) = absurd fails
stops_failing arguments asked bytes fault.Arguments is (inr fails) = absurd fails
stops_failing arguments asked bytes fault.Memory is (inr fails) = absurd fails
stops_failing arguments asked bytes (fault.Found found) is (inr fails) = absurd fails
stops_failing arguments asked bytes fault.Reading is (inr fails) = absurd fails
stops_failing arguments asked bytes fault.Writing is (inr fails) = absurd fails
stops_failing arguments asked bytes (fault.OwnFile file) is (inr fails) = fails_asked arguments asked (fault.OwnFile file) is fails

has_failed : (file : Option Text) (made : Failure LogsRefused LogFault) → KeepingFails file made → HasFailed made
has_failed file (fault.Refused error) fails = absurd fails
has_failed file fault.Arguments fails = absurd fails
has_failed file fault.Memory fails = absurd fails
has_failed file (fault.Found found) fails = absurd fails
has_failed file fault.Reading fails = absurd fails
has_failed file fault.Writing fails = absurd fails
has_failed file (fault.OwnFile it) fails = tt

-- whatever its input is
pub stops_anyhow : (asked : AuditArguments) (made : Failure LogsRefused LogFault) → MayFail (option_map string_bytes asked.keep) made → StopsAnyhow audit asked made
stops_anyhow asked made (inl memory) = inl memory
stops_anyhow asked made (inr fails) = inr (has_failed (option_map string_bytes asked.keep) made fails, λ arguments is. fails_asked arguments asked made is fails)

-- a log that is followed stops the program so
pub stops_following : (arguments : List Text) (asked : AuditArguments) (bytes : List ℕ) (behind : ℕ) (made : Failure LogsRefused LogFault) → AskFor arguments asked
    → asked.follow ≡ Some behind → MayStop (option_map string_bytes asked.keep) made → Stops audit arguments bytes made
stops_following arguments asked bytes behind (fault.Refused (Log error)) is follows stops = absurd stops
stops_following arguments asked bytes behind (fault.Refused (Early number)) is follows stops = absurd stops
stops_following arguments asked bytes behind (fault.Refused (Kept refused)) is follows stops =
    ((asked, is, subst (λ follow. RefusesBy follow asked bytes (Kept refused)) (sym follows) (sym (is_some_map string_bytes asked.keep) ∙ stops)), kept_alone arguments asked bytes behind refused is follows)
stops_following arguments asked bytes behind fault.Arguments is follows stops = absurd stops
stops_following arguments asked bytes behind fault.Memory is follows stops = tt
stops_following arguments asked bytes behind (fault.Found found) is follows stops = absurd stops
stops_following arguments asked bytes behind fault.Reading is follows stops = absurd stops
stops_following arguments asked bytes behind fault.Writing is follows stops = absurd stops
stops_following arguments asked bytes behind (fault.OwnFile file) is follows stops = fails_asked arguments asked (fault.OwnFile file) is stops

-- what holds of an error holds of it where it is passed on
pub passed_on : {T E : Type 0} (r : Result T E) (error : E) (P : E → Type 0) → IsErrAnd r (λ e. e ≡ error) → P error → IfErr r P
passed_on (Ok value) error P is holds = tt
passed_on (Err e) error P is holds = subst P (sym is) holds
