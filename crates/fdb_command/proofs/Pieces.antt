-- What is read of an input, piece by piece.
use Rattle.std.proofs.Common.{◌≡◌, ◌⊎◌, inl, inr, ℕ, ◌+◌, ◌≤◌, List, [], ◌∷◌, ◌++◌, Option, None, Some, IfSome, append-nil, append_assoc, length, Result, Ok, Err, ap, arith, refl, subst, sym, ◌∙◌}
use Rattle.std.specs.Io.KnownBytes.{Appends, Consumes, IsAtEnd}
use Rattle.std.specs.Prelude.{IfErr, IsErrAnd, OnErr}
use Rattle.std.proofs.KnownBytes.{Appends-nil, Appends-trans, Consumes-trans}
use Rattle.std.proofs.lemmas.List.{length-append}
use Rattle.clap.specs.Words.{Text}
use Rattle.fdb_command.specs.Driving.{HasFailed, Promise, Stops, StopsAnyhow, TellsOf}
use Rattle.fdb_command.specs.Input.{MayBegin, TakesAtMost}
use Rattle.fdb_command.specs.Output.{TakesAny}
use Rattle.fdb_command.specs.private.Taking.{IsFailure, IsPut, IsTaken, MayStop, StopsAt, TakesOn, TellsLast}
use Rattle.fdb_command.specs.declared.failure.Failure.{Failure}
use Rattle.fdb_command.specs.declared.failure.Failure.TheVariants.{Refused, Arguments, Memory, Found, Reading, Writing, OwnFile}

pub takes_more : (first before after : Option (List ℕ)) (so_far : List ℕ) (room most : ℕ) → length so_far + room ≤ most → Consumes first before so_far → TakesAtMost room before after → TakesAtMost most first after
takes_more first before after so_far room most within read (taken, few, piece) =
    (so_far ++ taken, omega (arith, length-append so_far taken), Consumes-trans first before after so_far taken read piece)

-- whoever is at the end has read all
read_whole : (first last : Option (List ℕ)) (all : List ℕ) → Consumes first last all → IsAtEnd last → IfSome first (λ bytes. bytes ≡ all)
read_whole None last all gone end = tt
read_whole (Some bytes) None all gone end = absurd gone
read_whole (Some bytes) (Some left) all gone end = gone ∙ ap (λ rest. all ++ rest) end ∙ append-nil all

-- what a program has taken when it is at the end
pub taken_whole : {O I E F W : Type 0} (program : Promise O I E F) (options : O) (first last : Option (List ℕ)) (contents : W → Option (List ℕ)) (before after : W) (intake : I) (bytes told : List ℕ) → length bytes ≤ program.most
    → Consumes first last bytes → IsAtEnd last → program.taken options intake bytes told → IsPut contents told before after → IsTaken program options None first contents before after intake
taken_whole program options first last contents before after intake bytes told few gone end taken put =
    record { bytes = bytes; told = told; few = few; read = read_whole first last bytes gone end; taken = taken; put = put }

-- what is gone from an input was the first of it
first_gone : (first last : Option (List ℕ)) (bytes : List ℕ) → Consumes first last bytes → MayBegin None first bytes
first_gone None last bytes gone = tt
first_gone (Some all) None bytes gone = absurd gone
first_gone (Some all) (Some rest) bytes gone = (rest, gone)

-- where nothing more is written, what was told is all that was
pub told_so_far : {O I E F W : Type 0} (program : Promise O I E F) (options : O) (first last : Option (List ℕ)) (contents : W → Option (List ℕ)) (before after : W) (intake : I) (bytes told : List ℕ) → length bytes ≤ program.most
    → Consumes first last bytes → program.taken options intake bytes told → IsPut contents told before after → (after ≡ before) ⊎ TellsOf program options None first (contents before) (contents after)
told_so_far program options first last contents before after intake bytes told few gone taken (inl none) = inl none.1
told_so_far program options first last contents before after intake bytes told few gone taken (inr some) =
    inr (record { bytes = bytes; few = few; read = first_gone first last bytes gone; text = told; some = some.0; intake = intake; taken = taken; written = inl some.1 })

-- a text that was put is at the end of the writer
pub put_appends : {W : Type 0} (contents : W → Option (List ℕ)) (text : List ℕ) (before after : W) → IsPut contents text before after → Appends (contents before) (contents after) text
put_appends contents text before after (inl none) = rw none.0 (rw none.1 (Appends-nil (contents before)))
put_appends contents text before after (inr some) = some.1

-- what is taken of a text behind one that was written is taken of both
pub takes_behind : (text more : List ℕ) (a b c : Option (List ℕ)) → Appends a b text → TakesAny more b c → TakesAny (text ++ more) a c
takes_behind text more a b c written (inl whole) = inl (Appends-trans a b c text more written whole)
takes_behind text more a b c written (inr cut) = inr (record {
  taken = text ++ cut.taken;
  left = cut.left;
  split = ap (λ l. text ++ l) cut.split ∙ sym (append_assoc text cut.taken cut.left);
  some_left = cut.some_left;
  appended = Appends-trans a b c text cut.taken written cut.appended;
})

-- a text behind one that was put is put with it
pub put_on : {W : Type 0} (contents : W → Option (List ℕ)) (text more : List ℕ) (before between after : W) → IsPut contents text before between → IsPut contents more between after → IsPut contents (text ++ more) before after
put_on contents text more before between after (inl none) (inl still) = inl (rw none.0 still.0, still.1 ∙ none.1)
put_on contents text more before between after (inl none) (inr some) = rw none.0 (inr (some.0, subst (λ (w : _). Appends (contents w) (contents after) more) none.1 some.1))
put_on contents text more before between after (inr some) (inl still) =
    rw still.0 (inr (omega (arith, some.0, length-append text []), rw (append-nil text) (subst (λ (w : _). Appends (contents before) (contents w) text) (sym still.1) some.1)))
put_on contents text more before between after (inr some) (inr other) =
    inr (omega (arith, some.0, length-append text more), Appends-trans (contents before) (contents between) (contents after) text more some.1 other.1)

-- what is told last is told behind what was told
pub told_last : {O I E F W : Type 0} (program : Promise O I E F) (options : O) (first last : Option (List ℕ)) (contents : W → Option (List ℕ)) (before between after : W) (intake : I) (bytes told : List ℕ)
    → length bytes ≤ program.most → Consumes first last bytes → program.taken options intake bytes told → IsPut contents told before between
    → (after ≡ between) ⊎ TellsLast program options intake (contents between) (contents after) → (after ≡ before) ⊎ TellsOf program options None first (contents before) (contents after)
told_last program options first last contents before between after intake bytes told few gone taken put (inl still) =
    subst (λ (w : _). (w ≡ before) ⊎ TellsOf program options None first (contents before) (contents w)) (sym still) (told_so_far program options first last contents before between intake bytes told few gone taken put)
told_last program options first last contents before between after intake bytes told few gone taken put (inr more) = inr (record {
  bytes = bytes;
  few = few;
  read = first_gone first last bytes gone;
  text = told ++ more.text;
  some = omega (arith, more.some, length-append told more.text);
  intake = more.next;
  taken = more.told bytes told taken;
  written = takes_behind told more.text (contents before) (contents between) (contents after) (put_appends contents told before between put) more.written;
})

-- a program that is given nothing takes nothing
pub takes_nothing : {O I E F : Type 0} (program : Promise O I E F) (intake : I) (count : ℕ) (before after : Option (List ℕ)) (bytes : List ℕ) → count ≡ 0 → length bytes ≡ count → Consumes before after bytes
    → TakesOn program intake intake count before after
takes_nothing program intake count before after [] none counted gone = record { bytes = []; counted = counted; gone = gone; taken = λ options so_far told taken. rw (append-nil so_far) taken }
takes_nothing program intake count before after (byte ∷ bytes) none counted gone = absurd (omega arith)

-- memory that was refused says nothing of the bytes
pub stops_unread : {O I E F : Type 0} (program : Promise O I E F) (options : O) (first : Option (List ℕ)) → MayStop program options None first Memory
stops_unread program options None = record { bytes = []; read = tt; stops = λ arguments asks. tt }
stops_unread program options (Some all) = record { bytes = all; read = refl; stops = λ arguments asks. tt }

-- a program that stops before it has taken any bytes stops at all of them, whatever they are
pub stops_begun : {O I E F : Type 0} (program : Promise O I E F) (options : O) (first : Option (List ℕ)) (fault : Failure E F)
    → ((arguments : List Text) (bytes : List ℕ) → program.asks arguments options → Stops program arguments bytes fault) → IsFailure fault ⊎ MayStop program options None first fault
stops_begun program options None fault stops = inr (record { bytes = []; read = tt; stops = λ arguments asks. stops arguments [] asks })
stops_begun program options (Some all) fault stops = inr (record { bytes = all; read = refl; stops = λ arguments asks. stops arguments all asks })

-- where a program stops whatever comes after, it stops at all bytes
stops_whole : {O I E F : Type 0} (program : Promise O I E F) (options : O) (first last : Option (List ℕ)) (so_far bytes : List ℕ) (fault : Failure E F) → Consumes first last (so_far ++ bytes)
    → ((arguments : List Text) (rest : List ℕ) → program.asks arguments options → Stops program arguments (so_far ++ (bytes ++ rest)) fault) → MayStop program options None first fault
stops_whole program options None last so_far bytes fault gone stops = record { bytes = so_far ++ (bytes ++ []); read = tt; stops = λ arguments asks. stops arguments [] asks }
stops_whole program options (Some all) None so_far bytes fault gone stops = absurd gone
stops_whole program options (Some all) (Some rest) so_far bytes fault gone stops =
    record { bytes = so_far ++ (bytes ++ rest); read = gone ∙ append_assoc so_far bytes rest; stops = λ arguments asks. stops arguments rest asks }

pub stops_there : {O I E F : Type 0} (program : Promise O I E F) (options : O) (first before after : Option (List ℕ)) (intake : I) (so_far told : List ℕ) (most : ℕ) (fault : Failure E F) → Consumes first before so_far
    → program.taken options intake so_far told → StopsAt program intake most before after fault → IsFailure fault ⊎ MayStop program options None first fault
stops_there program options first before after intake so_far told most fault gone taken at = go at.stops
  where
    go : (fault ≡ Reading) ⊎ ((arguments : List Text) (options : _) (so_far told rest : List ℕ) → program.asks arguments options → program.taken options intake so_far told → Stops program arguments (so_far ++ (at.bytes ++ rest)) fault)
        → IsFailure fault ⊎ MayStop program options None first fault
    go (inl reading) = inl (inl reading)
    go (inr stops) = inr (stops_whole program options first after so_far at.bytes fault (Consumes-trans first before after so_far at.bytes gone at.gone) (λ arguments rest asks. stops arguments options so_far told rest asks taken))

-- a failure of a file of its own stops a program at all bytes
failed_so : {O I E F : Type 0} (program : Promise O I E F) (arguments : List Text) (bytes : List ℕ) (fault : Failure E F) → HasFailed fault → program.fails arguments fault → Stops program arguments bytes fault
failed_so program arguments bytes Reading has fails = fails
failed_so program arguments bytes Writing has fails = fails
failed_so program arguments bytes (OwnFile file) has fails = fails
failed_so program arguments bytes (Refused error) has fails = absurd has
failed_so program arguments bytes Arguments has fails = absurd has
failed_so program arguments bytes Memory has fails = absurd has
failed_so program arguments bytes (Found found) has fails = absurd has

-- nor does it where what was told could not be had or written, or a file of its own failed
pub stops_telling : {O I E F : Type 0} (program : Promise O I E F) (options : O) (first : Option (List ℕ)) (fault : Failure E F) → (fault ≡ Writing) ⊎ StopsAnyhow program options fault
    → IsFailure fault ⊎ MayStop program options None first fault
stops_telling program options first fault (inl writing) = inl (inr writing)
stops_telling program options first fault (inr (inl memory)) = inr (subst (λ (f : Failure _ _). MayStop program options None first f) (sym memory) (stops_unread program options first))
stops_telling program options first fault (inr (inr failed)) = stops_begun program options first fault (λ arguments bytes asks. failed_so program arguments bytes fault failed.0 (failed.1 arguments asks))

-- what holds of an error holds of the one that is passed on
pub passed_on : {T E : Type 0} (r : Result T E) (error : E) (P : E → Type 0) → IsErrAnd r (λ e. e ≡ error) → P error → IfErr r P
passed_on (Ok value) error P is holds = tt
passed_on (Err e) error P is holds = subst P (sym is) holds

-- what holds in any case holds where there is an error
pub on_error : {T E : Type 0} {P : Type 0} (r : Result T E) → P → OnErr r P
on_error (Ok value) is = tt
on_error (Err e) is = is
