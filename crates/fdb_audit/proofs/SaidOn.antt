-- What is said of a log that is followed, with what is read next.
use Rattle.std.proofs.Common.{◌≡◌, ◌∙◌, ◌++◌, ℕ, List, [], Result, ap, append-nil, append_assoc, subst, string_bytes, sym}
use Rattle.fdb_lines.specs.declared.fault.Found.{Found}
use Rattle.fdb_log_reader.specs.declared.error.Why.{Why}
use Rattle.fdb_log_reader.specs.LineReader.{lines_on}
use Rattle.fdb_log_reader.specs.ReadLine.{SaidLine}
use Rattle.fdb_audit.specs.declared.arguments.AuditArguments.{AuditArguments}
use Rattle.fdb_audit.specs.declared.follower.Follower.{Follower}
use Rattle.fdb_audit.specs.declared.taken_lines.Settlings.{Settlings}
use Rattle.fdb_audit.specs.declared.taken_lines.Taking.{Taking}
use Rattle.fdb_audit.specs.Following.{Start}
use Rattle.fdb_audit.specs.Taken.{AreTaken, HasWarned, IsCarried}
use Rattle.fdb_audit.specs.Warned.{IsSaid}
use Rattle.fdb_audit.specs.Watched.{HasSaid, HasSaidAll, lines_asked}
use Rattle.fdb_audit.specs.private.Followed.{IsUnread, SaysNext, SettlesOn}

pub unsaid : (asked : AuditArguments) (start : Start) (follower : Follower) → IsUnread asked start follower → HasSaid asked start follower [] []
unsaid asked start follower is = record { read = []; goes = is.goes; behind = is.at; carried = is.carried; told = start.told; taken = is.taken; said = is.warned }

-- with the lines of the next bytes
pub said_on : (start : Start) (asked : AuditArguments) (old new : Follower) (before bytes warned : List ℕ) (further : List (Result SaidLine Why)) → HasSaid asked start old before warned
    → ((text : List ℕ) → lines_on old.reader (bytes ++ text) ≡ further ++ lines_on new.reader text)
    → ((read : List (Result SaidLine Why)) (told : List Found) → AreTaken start old.taking read told → AreTaken start new.taking (read ++ further) told)
    → ((read : List (Result SaidLine Why)) (told : List Found) (warned : List ℕ) → AreTaken start old.taking read told → HasWarned start old.taking read warned → HasWarned start new.taking (read ++ further) warned)
    → new.behind ≡ old.behind → new.before ≡ old.before → HasSaid asked start new (before ++ bytes) warned
said_on start asked old new before bytes warned further has goes takes warns far carries =
    let read = has.read in
    record {
      read = read ++ further;
      goes = λ text. ap (lines_asked asked) (append_assoc before bytes text)
          ∙ (has.goes (bytes ++ text) ∙ (ap (λ l. read ++ l) (goes text) ∙ sym (append_assoc read further (lines_on new.reader text))));
      behind = far ∙ has.behind;
      carried = subst (IsCarried start.before) (sym carries) has.carried;
      told = has.told;
      taken = takes read has.told has.taken;
      said = warns read has.told warned has.taken has.said;
    }

-- what is said next is what was to be said
pub said_next : (start : Start) (asked : AuditArguments) (old new : Follower) (settled : Taking) (bytes warned warnings : List ℕ) → HasSaid asked start old bytes warned
    → SettlesOn old.taking settled → SaysNext settled new.taking → warnings ≡ string_bytes settled.warnings → new.reader ≡ old.reader → new.behind ≡ old.behind → new.before ≡ old.before
    → HasSaid asked start new bytes (warned ++ warnings)
said_next start asked old new settled bytes warned warnings has settles says is reader far carries =
    let (more, taken) = settles.taken start has.read has.told has.taken in
    record {
      read = has.read;
      goes = λ text. has.goes text ∙ ap (λ reader. has.read ++ lines_on reader text) (sym reader);
      behind = far ∙ has.behind;
      carried = subst (IsCarried start.before) (sym carries) has.carried;
      told = has.told ++ more;
      taken = says.taken start has.read (has.told ++ more) taken;
      said = subst (λ (settlings : Settlings). IsSaid start has.read settlings.at ((warned ++ warnings) ++ string_bytes new.taking.warnings)) (sym says.settlings)
          (subst (IsSaid start has.read settled.settlings.at)
          (ap (λ (text : List ℕ). warned ++ text) (sym is) ∙ (sym (append-nil (warned ++ warnings)) ∙ ap (λ text. (warned ++ warnings) ++ text) (sym says.warnings)))
          (settles.said start has.read has.told warned has.taken has.said));
    }

-- with the line that had not ended, or none
pub said_last : (start : Start) (asked : AuditArguments) (old : Follower) (new : Taking) (bytes warned : List ℕ) (further : List (Result SaidLine Why)) → HasSaid asked start old bytes warned
    → lines_on old.reader [] ≡ further
    → ((read : List (Result SaidLine Why)) (told : List Found) → AreTaken start old.taking read told → AreTaken start new (read ++ further) told)
    → ((read : List (Result SaidLine Why)) (told : List Found) (warned : List ℕ) → AreTaken start old.taking read told → HasWarned start old.taking read warned → HasWarned start new (read ++ further) warned)
    → (told : List Found) × AreTaken start new (lines_asked asked bytes) told × HasWarned start new (lines_asked asked bytes) warned
said_last start asked old new bytes warned further has last takes warns =
    let read = has.read in
    let all : read ++ further ≡ lines_asked asked bytes = sym (ap (lines_asked asked) (sym (append-nil bytes)) ∙ (has.goes [] ∙ ap (λ l. read ++ l) last)) in
    (has.told, subst (λ read. AreTaken start new read has.told) all (takes read has.told has.taken), subst (λ read. HasWarned start new read warned) all (warns read has.told warned has.taken has.said))

-- and at the end
pub said_all : (start : Start) (asked : AuditArguments) (taking : Taking) (settled : List ℕ) (bytes warned warnings : List ℕ) → HasWarned start taking (lines_asked asked bytes) warned
    → warnings ≡ string_bytes taking.warnings → settled ≡ taking.settlings.at → HasSaidAll asked start bytes settled (warned ++ warnings)
said_all start asked taking settled bytes warned warnings was is same =
    subst (λ at. IsSaid start (lines_asked asked bytes) at (warned ++ warnings)) (sym same) (subst (IsSaid start (lines_asked asked bytes) taking.settlings.at) (ap (λ text. warned ++ text) (sym is)) was)
