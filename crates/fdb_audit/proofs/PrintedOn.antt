-- What is printed of a log that is followed, with one part more.
use Rattle.std.proofs.Common.{◌≡◌, ◌∙◌, ◌++◌, ◌∷◌, ℕ, zero, suc, Bool, true, false, List, [], Option, None, Some, IfSome, Result, ap, append-nil, append_assoc, arith, refl, string_bytes, subst, sym}
use Rattle.std.specs.List.{flat_map}
use Rattle.std.proofs.lemmas.Grind.{flat_map-append}
use Rattle.std.proofs.lemmas.List.Elements.{All-push}
use Rattle.fdb_log_reader.specs.declared.error.ReadError.{ReadError}
use Rattle.fdb_log_reader.specs.declared.error.Why.{Why}
use Rattle.fdb_log_reader.specs.LineReader.{lines_on}
use Rattle.fdb_log_reader.specs.ReadLine.{SaidLine}
use Rattle.fdb_audit.specs.declared.arguments.AuditArguments.{AuditArguments}
use Rattle.fdb_audit.specs.declared.printer.LogFault.{LogFault}
use Rattle.fdb_audit.specs.declared.followed_log.FollowedLog.{FollowedLog}
use Rattle.fdb_audit.specs.declared.follower.Follower.{Follower}
use Rattle.fdb_audit.specs.declared.progress.Progress.{Progress}
use Rattle.fdb_audit.specs.declared.progress.Reporter.{Reporter}
use Rattle.fdb_audit.specs.declared.teller.Followed.{Followed}
use Rattle.fdb_audit.specs.Following.{AreCountedOn, Start, left_out}
use Rattle.fdb_audit.specs.Progress.{ArePieces, HasPrinted, IsPart, IsPrinted, IsProgressOf, IsToldWith, IsTrueOf, Part, PrintedAll, PrintedSoFar, counted_by, progress_text}
use Rattle.fdb_audit.specs.Watched.{AskForTheSame, HasFollowed, IsFollowed, lines_asked}
use Rattle.fdb_audit.specs.private.Followed.{HasGoneOn}

-- with more bytes
pub printed_still : (asked : AuditArguments) (start : Start) (bytes more told text : List ℕ) → IsToldWith asked start bytes told text → IsToldWith asked start (bytes ++ more) told text
printed_still asked start bytes more told text (parts, told_is, text_is, all) = (
  parts,
  told_is,
  text_is,
  λ k d lt.
      let is = all k d lt in
      record {
        first = λ text. let (rest, same) = is.first (more ++ text) in (rest, ap (lines_asked asked) (append_assoc bytes more text) ∙ same);
        counts = is.counts;
      },
)

flat_more : {X : Type 0} (f : X → List ℕ) (xs : List X) (x : X) (text : List ℕ) → text ≡ flat_map f xs → text ++ f x ≡ flat_map f (xs ++ x ∷ [])
flat_more f xs x text is = ap (λ part. part ++ f x) is ∙ sym (flat_map-append f xs (x ∷ []) ∙ ap (λ part. flat_map f xs ++ part) (append-nil (f x)))

-- with a part more
part_more : (asked : AuditArguments) (start : Start) (bytes told text : List ℕ) (part : Part) → IsToldWith asked start bytes told text → IsPart asked start bytes part
    → IsToldWith asked start bytes (told ++ part.told) (text ++ (part.told ++ progress_text part.progress))
part_more asked start bytes told text part (parts, told_is, text_is, all) is = (
  parts ++ part ∷ [],
  flat_more (λ (part : Part). part.told) parts part told told_is,
  flat_more (λ (part : Part). part.told ++ progress_text part.progress) parts part text text_is,
  All-push (IsPart asked start bytes) parts part all is,
)

true_of : (asked : AuditArguments) (start : Start) (follower : Follower) (bytes told : List ℕ) (progress : Progress) → (has : HasFollowed asked start follower bytes told)
    → AreCountedOn start has.read (counted_by progress) → IsProgressOf start follower progress → IsTrueOf asked start has.read progress
true_of asked start follower bytes told progress has counts its = record { counted = counts; follower = follower; before = bytes; told = told; followed = has; same = refl; its = its }

-- how far was told, if that was
counts_if : (asked : AuditArguments) (start : Start) (read : List (Result SaidLine Why)) (progress : Progress) (objects : Bool) → objects ≡ asked.wanted.json → IsTrueOf asked start read progress
    → (told : Option Progress) → IfSome told (λ it. (it ≡ progress) × (objects ≡ true)) → IfSome told (λ it. (asked.wanted.json ≡ true) × IsTrueOf asked start read it)
counts_if asked start read progress objects same counts None is = tt
counts_if asked start read progress objects same counts (Some it) is = (sym same ∙ is.1, subst (IsTrueOf asked start read) (sym is.0) counts)

-- what is told next of these bytes, and how far they were followed
pub told_more : (asked : AuditArguments) (start : Start) (follower : Follower) (bytes told text more : List ℕ) (progress : Progress) (objects : Bool) (said : Option Progress) → objects ≡ asked.wanted.json
    → (has : HasFollowed asked start follower bytes (told ++ more)) → AreCountedOn start has.read (counted_by progress) → IsProgressOf start follower progress → IfSome said (λ it. (it ≡ progress) × (objects ≡ true))
    → IsToldWith asked start bytes told text → IsToldWith asked start bytes (told ++ more) (text ++ (more ++ progress_text said))
told_more asked start follower bytes told text more progress objects said same has counts its is told_with =
    part_more asked start bytes told text (record { told = more; read = has.read; progress = said }) told_with
    (record { first = λ text. (lines_on follower.reader text, has.goes text); counts = counts_if asked start has.read progress objects same (true_of asked start follower bytes _ progress has counts its) said is })

-- and where that is not told
pub told_quiet : (asked : AuditArguments) (start : Start) (follower : Follower) (bytes before told text more : List ℕ) → HasFollowed asked start follower bytes before
    → IsToldWith asked start bytes told text → IsToldWith asked start bytes (told ++ more) (text ++ more)
told_quiet asked start follower bytes before told text more has told_with =
    subst (λ part. IsToldWith asked start bytes (told ++ more) (text ++ part)) (append-nil more)
    (part_more asked start bytes told text (record { told = more; read = has.read; progress = None }) told_with
    (record { first = λ text. (lines_on follower.reader text, has.goes text); counts = tt }))

-- how far they were followed, in front of what is told at the end
pub told_front : (asked : AuditArguments) (start : Start) (follower : Follower) (bytes told text : List ℕ) (progress : Progress) (objects : Bool) (said : Option Progress) → objects ≡ asked.wanted.json
    → (has : HasFollowed asked start follower bytes told) → AreCountedOn start has.read (counted_by progress) → IsProgressOf start follower progress → IfSome said (λ it. (it ≡ progress) × (objects ≡ true))
    → IsToldWith asked start bytes told text → IsToldWith asked start bytes told (text ++ progress_text said)
told_front asked start follower bytes told text progress objects said same has counts its is told_with =
    subst (λ told. IsToldWith asked start bytes told (text ++ progress_text said)) (append-nil told)
    (part_more asked start bytes told text (record { told = []; read = has.read; progress = said }) told_with
    (record { first = λ text. (lines_on follower.reader text, has.goes text); counts = counts_if asked start has.read progress objects same (true_of asked start follower bytes _ progress has counts its) said is }))

-- ---- in pieces

-- what is so of the last piece becomes so with more bytes, and more that is printed
pub last_more : (asked : AuditArguments) (Last Next : Start → (bytes text : List ℕ) → Type 0) (more further : List ℕ)
    → ((start : Start) (bytes text : List ℕ) → Last start bytes text → Next start (bytes ++ more) (text ++ further))
    → (times : ℕ) (start : Start) (bytes text : List ℕ) → ArePieces asked Last times start bytes text → ArePieces asked Next times start (bytes ++ more) (text ++ further)
last_more asked Last Next more further becomes zero start bytes text last = becomes start bytes text last
last_more asked Last Next more further becomes (suc times) start bytes text (piece, rest, first, after, told, kept, bytes_are, text_is, next, goes, told_with, left) = (
  piece,
  rest ++ more,
  first,
  after ++ further,
  told,
  kept,
  ap (λ bytes. bytes ++ more) bytes_are ∙ append_assoc piece rest more,
  ap (λ text. text ++ further) text_is ∙ append_assoc first after further,
  next,
  goes,
  told_with,
  subst (λ bytes. ArePieces asked Next times next bytes (after ++ further)) (append_assoc kept rest more)
      (last_more asked Last Next more further becomes times next (kept ++ rest) after left),
)

-- and with more that is printed of the same bytes
pub last_says : (asked : AuditArguments) (Last Next : Start → (bytes text : List ℕ) → Type 0) (further : List ℕ)
    → ((start : Start) (bytes text : List ℕ) → Last start bytes text → Next start bytes (text ++ further))
    → (times : ℕ) (start : Start) (bytes text : List ℕ) → ArePieces asked Last times start bytes text → ArePieces asked Next times start bytes (text ++ further)
last_says asked Last Next further becomes times start bytes text are =
    subst (λ bytes. ArePieces asked Next times start bytes (text ++ further)) (append-nil bytes)
    (last_more asked Last Next [] further
    (λ start bytes text last. subst (λ bytes. Next start bytes (text ++ further)) (sym (append-nil bytes)) (becomes start bytes text last))
    times start bytes text are)

-- and the last may be cut once more
pub last_cut : (asked : AuditArguments) (Last Next : Start → (bytes text : List ℕ) → Type 0)
    → ((start : Start) (bytes text : List ℕ) → Last start bytes text → (times : ℕ) × ArePieces asked Next times start bytes text)
    → (times : ℕ) (start : Start) (bytes text : List ℕ) → ArePieces asked Last times start bytes text → (times : ℕ) × ArePieces asked Next times start bytes text
last_cut asked Last Next cuts zero start bytes text last = cuts start bytes text last
last_cut asked Last Next cuts (suc times) start bytes text (piece, rest, first, after, told, kept, bytes_are, text_is, next, goes, told_with, left) =
    let (all, are) = last_cut asked Last Next cuts times next (kept ++ rest) after left in
    (suc all, (piece, rest, first, after, told, kept, bytes_are, text_is, next, goes, told_with, are))

-- nothing is printed yet
pub none_printed : (asked : AuditArguments) (follower : Follower) (start : Start) (bytes : List ℕ) → HasFollowed asked start follower bytes [] → PrintedSoFar asked follower start bytes []
none_printed asked follower start bytes has = record { told = []; followed = has; told_with = ([], refl, refl, λ k d lt. absurd (omega (arith, lt))) }

-- the last piece, with more bytes
pub read_more : (asked : AuditArguments) (old new : Follower) (more : List ℕ)
    → ((start : Start) (bytes told : List ℕ) → HasFollowed asked start old bytes told → HasFollowed asked start new (bytes ++ more) told)
    → (times : ℕ) (start : Start) (bytes text : List ℕ) → ArePieces asked (PrintedSoFar asked old) times start bytes text
    → ArePieces asked (PrintedSoFar asked new) times start (bytes ++ more) text
read_more asked old new more feeds times start bytes text are =
    subst (ArePieces asked (PrintedSoFar asked new) times start (bytes ++ more)) (append-nil text)
    (last_more asked (PrintedSoFar asked old) (PrintedSoFar asked new) more []
    (λ start bytes text last. subst (PrintedSoFar asked new start (bytes ++ more)) (sym (append-nil text)) (record {
      told = last.told;
      followed = feeds start bytes last.told last.followed;
      told_with = printed_still asked start bytes more last.told text last.told_with;
    })) times start bytes text are)

-- and where the watch goes on
pub cut_more : (asked : AuditArguments) (old new : Follower)
    → ((start : Start) (bytes told : List ℕ) → HasFollowed asked start old bytes told → HasGoneOn asked start new bytes told)
    → (times : ℕ) (start : Start) (bytes text : List ℕ) → ArePieces asked (PrintedSoFar asked old) times start bytes text
    → (times : ℕ) × ArePieces asked (PrintedSoFar asked new) times start bytes text
cut_more asked old new goes_on = last_cut asked (PrintedSoFar asked old) (PrintedSoFar asked new) (λ start bytes text last.
    let (kept, next, goes, has) = goes_on start bytes last.told last.followed in
    let left = none_printed asked new next (kept ++ []) (subst (λ bytes. HasFollowed asked next new bytes []) (sym (append-nil kept)) has) in
    (1, (bytes, [], text, [], last.told, kept, sym (append-nil bytes), sym (append-nil text), next, goes, last.told_with, left)))

-- where it may
pub cut_if : (asked : AuditArguments) (old new : Follower) (goes_on : Bool)
    → (goes_on ≡ true → (start : Start) (bytes told : List ℕ) → HasFollowed asked start old bytes told → HasGoneOn asked start new bytes told) → (goes_on ≡ false → new ≡ old)
    → (times : ℕ) (start : Start) (bytes text : List ℕ) → ArePieces asked (PrintedSoFar asked old) times start bytes text
    → (times : ℕ) × ArePieces asked (PrintedSoFar asked new) times start bytes text
cut_if asked old new true goes_on same times start bytes text are = cut_more asked old new (goes_on refl) times start bytes text are
cut_if asked old new false goes_on same times start bytes text are =
    (times, subst (λ (follower : Follower). ArePieces asked (PrintedSoFar asked follower) times start bytes text) (sym (same refl)) are)

-- and at the end
pub printed_last : (asked : AuditArguments) (ends : Bool) (follower : Follower) (more : List ℕ) (found : Option LogFault) (refused : Option ReadError) (last_early : Option ℕ)
    → ((start : Start) (bytes told : List ℕ) → HasFollowed asked start follower bytes told
    → IsFollowed asked start ends bytes (told ++ more) found last_early × (refused ≡ left_out start (lines_asked asked bytes)))
    → (times : ℕ) (start : Start) (bytes text : List ℕ) → ArePieces asked (PrintedSoFar asked follower) times start bytes text
    → ArePieces asked (PrintedAll asked ends found refused last_early) times start bytes (text ++ more)
printed_last asked ends follower more found refused last_early follows =
    last_says asked (PrintedSoFar asked follower) (PrintedAll asked ends found refused last_early) more (λ start bytes text last.
    let (followed, left) = follows start bytes last.told last.followed in
    record {
      told = last.told ++ more;
      followed = followed;
      told_with = told_quiet asked start follower bytes last.told last.told text more last.followed last.told_with;
      left = left;
    })

-- behind how far it was followed
pub printed_behind : (asked : AuditArguments) (ends : Bool) (log : FollowedLog) (front : List ℕ) (it all : Followed) → string_bytes all.said.text ≡ front ++ string_bytes it.said.text
    → (all.found ≡ it.found) × (all.refused ≡ it.refused) × (all.last_early ≡ it.last_early)
    → ((start : Start) (bytes told : List ℕ) → HasFollowed asked start log.follower bytes told
    → IsFollowed asked start ends bytes (told ++ string_bytes it.said.text) it.found it.last_early × (it.refused ≡ left_out start (lines_asked asked bytes)))
    → (start : Start) (bytes text : List ℕ) → HasPrinted asked start log bytes (text ++ front)
    → IsPrinted asked start ends bytes (text ++ string_bytes all.said.text) all.found all.refused all.last_early
printed_behind asked ends log front it all text_is same follows start bytes text (objects, asks, times, pieces) =
    let more = string_bytes it.said.text in
    subst (λ part. IsPrinted asked start ends bytes (text ++ part) all.found all.refused all.last_early) (sym text_is)
    (subst (λ found. IsPrinted asked start ends bytes (text ++ (front ++ more)) found all.refused all.last_early) (sym same.0)
    (subst (λ refused. IsPrinted asked start ends bytes (text ++ (front ++ more)) it.found refused all.last_early) (sym same.1)
    (subst (IsPrinted asked start ends bytes (text ++ (front ++ more)) it.found it.refused) (sym same.2)
    (subst (λ text. IsPrinted asked start ends bytes text it.found it.refused it.last_early) (append_assoc text front more)
    (times, printed_last asked ends log.follower more it.found it.refused it.last_early follows times start bytes (text ++ front) pieces)))))

-- it is so of whatever follows the same
pub printed_same : (asked : AuditArguments) (start : Start) (old new : FollowedLog) (bytes text : List ℕ) → new.follower ≡ old.follower → new.reporter ≡ old.reporter → new.asked ≡ old.asked
    → HasPrinted asked start old bytes text → HasPrinted asked start new bytes text
printed_same asked start old new bytes text follower reporter asks (objects, alike, times, pieces) = (
  ap (λ (reporter : Reporter). reporter.objects) reporter ∙ objects,
  subst (AskForTheSame asked) (sym asks) alike,
  times,
  subst (λ (follower : Follower). ArePieces asked (PrintedSoFar asked follower) times start bytes text) (sym follower) pieces,
)
