-- What a program made of its input, or why it made nothing.
use Rattle.std.proofs.Common.{◌≡◌, ◌≢◌, ◌⊎◌, ◌≤◌, ◌++◌, ℕ, List, [], Bool, true, false, length, Option, None, Some, Result, Ok, Err, inl, inr, append-nil, refl, sym, subst, ◌∙◌}
use Rattle.std.specs.Borrow.{Bor}
use Rattle.std.specs.Io.KnownBytes.{Appends}
use Rattle.std.specs.Prelude.{IfErr, IfOk, IsErrAnd, MatchResult, is_some, option_map}
use Rattle.std.proofs.KnownBytes.{Appends-trans}
use Rattle.clap.specs.Words.{App, Text, fault_of}
use Rattle.clap.specs.declared.parser.matches.ArgMatches.{ArgMatches}
use Rattle.fdb_command.specs.Arguments.{AreMatches, ReadsInput, file_named}
use Rattle.fdb_command.specs.Driving.{HasAtMostTold, IsBegun, IsPrinted, IsWritten, MayAnswer, MayFind, MayRefuse, Promise, Stops, TellsOf, TellsProgress, Warns}
use Rattle.fdb_command.specs.Output.{TakesAny}
use Rattle.fdb_command.specs.Input.{MayBeRead, MayBegin}
use Rattle.fdb_command.specs.declared.arguments.ArgumentsFault.{ArgumentsFault}
use Rattle.fdb_command.specs.declared.arguments.ArgumentsFault.TheVariants as words
use Rattle.fdb_command.specs.declared.failure.Failure.{Failure}
use Rattle.fdb_command.specs.declared.program.Output.{Output}
use Rattle.fdb_command.specs.declared.failure.Failure.TheVariants.{Refused, Arguments, Memory, Found, Reading, Writing, OwnFile}
use Rattle.fdb_command.specs.declared.failure.FileFault.{FileFault}
use Rattle.fdb_command.specs.private.Taking.{IsFailure, IsPut, MayStop}
use Rattle.fdb_command.proofs.Pieces.{put_appends, takes_behind}

-- where standard input is not to be read, the arguments name a file
pub named_file : (app : App) (arguments : List Text) (m : ArgMatches) → AreMatches app arguments m → (file : Option (Bor (List ℕ))) → option_map (λ path. path.now) file ≡ file_named app arguments
    → (ReadsInput app arguments → ⊥) → is_some file ≡ true
named_file app arguments m matches None named unread = absurd (unread (matches.taken, sym named))
named_file app arguments m matches (Some path) named unread = refl

-- where progress is not to be told, the flags do not say so
pub untold : {O I E F : Type 0} (program : Promise O I E F) (arguments : List Text) → fault_of program.app arguments ≡ [] → (TellsProgress program arguments → ⊥) → program.tells arguments ≡ false
untold program arguments taken silent = go (program.tells arguments) refl
  where
    go : (b : Bool) → program.tells arguments ≡ b → program.tells arguments ≡ false
    go true is = absurd (silent (taken, is))
    go false is = is

-- nor does it say what is left out
pub unwarned : {O I E F : Type 0} (program : Promise O I E F) (arguments : List Text) → fault_of program.app arguments ≡ [] → (Warns program arguments → ⊥) → program.warns arguments ≡ false
unwarned program arguments taken silent = go (program.warns arguments) refl
  where
    go : (b : Bool) → program.warns arguments ≡ b → program.warns arguments ≡ false
    go true is = absurd (silent (taken, is))
    go false is = is

-- all that may have been read begins with itself
begins : (file : Option Text) (remaining : Option (List ℕ)) (bytes : List ℕ) → MayBeRead file remaining bytes → MayBegin file remaining bytes
begins (Some path) remaining bytes read = tt
begins None None bytes read = tt
begins None (Some all) bytes read = ([], read ∙ sym (append-nil bytes))

module _ {O I E F : Type 0} (program : Promise O I E F) (arguments : List Text) (options : O) (asks : program.asks arguments options) (remaining : Option (List ℕ)) (taken : fault_of program.app arguments ≡ []) where
  -- a program stopped while it took the input
  pub refused_early : (fault : Failure E F) → IsFailure fault ⊎ MayStop program options (file_named program.app arguments) remaining fault → (error : E) → fault ≡ Refused error → MayRefuse program arguments remaining error
  refused_early fault (inl (inl reading)) error is = absurd (cc)
  refused_early fault (inl (inr writing)) error is = absurd (cc)
  refused_early fault (inr at) error is = (taken, at.bytes, at.read, subst (Stops program arguments at.bytes) is (at.stops arguments asks))

  pub found_early : (fault : Failure E F) → IsFailure fault ⊎ MayStop program options (file_named program.app arguments) remaining fault → (found : F) → fault ≡ Found found → MayFind program arguments remaining found
  found_early fault (inl (inl reading)) found is = absurd (cc)
  found_early fault (inl (inr writing)) found is = absurd (cc)
  found_early fault (inr at) found is = (taken, at.bytes, at.read, subst (Stops program arguments at.bytes) is (at.stops arguments asks))

  pub file_early : (fault : Failure E F) → IsFailure fault ⊎ MayStop program options (file_named program.app arguments) remaining fault → (file : FileFault) → fault ≡ OwnFile file → program.fails arguments fault
  file_early fault (inl (inl reading)) file is = absurd (cc)
  file_early fault (inl (inr writing)) file is = absurd (cc)
  file_early fault (inr at) file is = subst (program.fails arguments) (sym is) (subst (Stops program arguments at.bytes) is (at.stops arguments asks))

  -- what it told until then was written
  pub told_early : {W : Type 0} (contents : W → Option (List ℕ)) (before after : W) → (after ≡ before) ⊎ TellsOf program options (file_named program.app arguments) remaining (contents before) (contents after)
      → HasAtMostTold program arguments remaining contents before after
  told_early contents before after (inl same) = inl same
  told_early contents before after (inr told) = inr (record { taken = taken; options = options; asks = asks; told = told })

  -- or its body was called on what it took
  module _ (bytes told : List ℕ) (few : length bytes ≤ program.most) (read : MayBeRead (file_named program.app arguments) remaining bytes) where
    pub printed_of : {W : Type 0} (contents : W → Option (List ℕ)) (before after : W) → IsPut contents told before after → (r : Result (Output E F) (Failure E F)) → MatchResult r (MayAnswer program arguments bytes told) (Stops program arguments bytes)
        → IfOk r (λ answer. (told : List ℕ) × IsPut contents told before after × IsPrinted program arguments remaining answer.found answer.refused (told ++ answer.text.items))
    printed_of contents before after put (Ok answer) prints = (told, put, record { taken = taken; bytes = bytes; few = few; read = read; printed = prints.0; refuses = prints.1 })
    printed_of contents before after put (Err fault) stops = tt

    pub unsaid_of : (r : Result (Output E F) (Failure E F)) → MatchResult r (MayAnswer program arguments bytes told) (Stops program arguments bytes)
        → program.warns arguments ≡ false → IfOk r (λ answer. answer.warnings.items ≡ [])
    unsaid_of (Ok answer) prints silent = prints.2 silent
    unsaid_of (Err fault) stops silent = tt

    pub told_after : (intake : I) → program.taken options intake bytes told → {W : Type 0} (contents : W → Option (List ℕ)) (before after : W) → IsPut contents told before after → HasAtMostTold program arguments remaining contents before after
    told_after intake took contents before after (inl none) = inl none.1
    told_after intake took contents before after (inr some) = inr (record {
      taken = taken;
      options = options;
      asks = asks;
      told = record { bytes = bytes; few = few; read = begins (file_named program.app arguments) remaining bytes read; text = told; some = some.0; intake = intake; taken = took; written = inl some.1 };
    })

    pub refused_of : (r : Result (Output E F) (Failure E F)) → MatchResult r (MayAnswer program arguments bytes told) (Stops program arguments bytes)
        → IfErr r (λ fault. (error : E) → fault ≡ Refused error → MayRefuse program arguments remaining error)
    refused_of (Ok answer) prints = tt
    refused_of (Err fault) stops = λ error is. (taken, bytes, read, subst (Stops program arguments bytes) is stops)

    pub found_of : (r : Result (Output E F) (Failure E F)) → MatchResult r (MayAnswer program arguments bytes told) (Stops program arguments bytes)
        → IfErr r (λ fault. (found : F) → fault ≡ Found found → MayFind program arguments remaining found)
    found_of (Ok answer) prints = tt
    found_of (Err fault) stops = λ found is. (taken, bytes, read, subst (Stops program arguments bytes) is stops)

    pub file_of : (r : Result (Output E F) (Failure E F)) → MatchResult r (MayAnswer program arguments bytes told) (Stops program arguments bytes)
        → IfErr r (λ fault. (file : FileFault) → fault ≡ OwnFile file → program.fails arguments fault)
    file_of (Ok answer) prints = tt
    file_of (Err fault) stops = λ file is. subst (program.fails arguments) (sym is) (subst (Stops program arguments bytes) is stops)

-- a program's own faults
stops_own : {O I E F : Type 0} (program : Promise O I E F) (arguments : List Text) (bytes : List ℕ) (fault : Failure E F) → Stops program arguments bytes fault → fault ≢ Arguments
stops_own program arguments bytes (Refused error) stops = λ is. cc
stops_own program arguments bytes Arguments stops = absurd stops
stops_own program arguments bytes Memory stops = λ is. cc
stops_own program arguments bytes (Found found) stops = λ is. cc
stops_own program arguments bytes Reading stops = λ is. cc
stops_own program arguments bytes Writing stops = λ is. cc
stops_own program arguments bytes (OwnFile file) stops = λ is. cc

pub own_early : {O I E F : Type 0} (program : Promise O I E F) (arguments : List Text) (options : O) (file : Option Text) (remaining : Option (List ℕ)) (fault : Failure E F) → program.asks arguments options
    → IsFailure fault ⊎ MayStop program options file remaining fault → fault ≢ Arguments
own_early program arguments options file remaining fault asks (inl (inl reading)) = λ is. cc
own_early program arguments options file remaining fault asks (inl (inr writing)) = λ is. cc
own_early program arguments options file remaining fault asks (inr at) = stops_own program arguments at.bytes fault (at.stops arguments asks)

pub own_of : {O I E F : Type 0} (program : Promise O I E F) (arguments : List Text) (bytes : List ℕ) (P : Output E F → Type 0) (r : Result (Output E F) (Failure E F)) → MatchResult r P (Stops program arguments bytes)
    → IfErr r (λ fault. fault ≢ Arguments)
own_of program arguments bytes P (Ok answer) prints = tt
own_of program arguments bytes P (Err fault) stops = stops_own program arguments bytes fault stops

-- what was told and then the rest was written, whole
pub written : {O I E F W : Type 0} (program : Promise O I E F) (arguments : List Text) (remaining : Option (List ℕ)) (answer : Output E F) (found : Option F) (refused : Option E) (contents : W → Option (List ℕ)) (before between after : W)
    → ((told : List ℕ) × IsPut contents told before between × IsPrinted program arguments remaining answer.found answer.refused (told ++ answer.text.items))
    → answer.found ≡ found → answer.refused ≡ refused → Appends (contents between) (contents after) answer.text.items → IsWritten program arguments remaining found refused (contents before) (contents after)
written program arguments remaining answer found refused contents before between after (told, put, printed) finds refuses whole = record {
  text = told ++ answer.text.items;
  printed = subst (λ (o : Option _). IsPrinted program arguments remaining o refused (told ++ answer.text.items)) finds
      (subst (λ (o : Option _). IsPrinted program arguments remaining answer.found o (told ++ answer.text.items)) refuses printed);
  appended = Appends-trans _ _ _ told answer.text.items (put_appends contents told before between put) whole;
}

-- or in part
pub begun : {O I E F W : Type 0} (program : Promise O I E F) (arguments : List Text) (remaining : Option (List ℕ)) (answer : Output E F) (contents : W → Option (List ℕ)) (before between after : W)
    → ((told : List ℕ) × IsPut contents told before between × IsPrinted program arguments remaining answer.found answer.refused (told ++ answer.text.items))
    → TakesAny answer.text.items (contents between) (contents after) → IsBegun program arguments remaining (contents before) (contents after)
begun program arguments remaining answer contents before between after (told, put, printed) how =
    elim (takes_behind told answer.text.items (contents before) (contents between) (contents after) (put_appends contents told before between put) how) [
      | inl whole ↦ inr (answer.found, answer.refused, inl (record { text = told ++ answer.text.items; printed = printed; appended = whole }))
      | inr cut ↦ inr (answer.found, answer.refused, inr (record { text = told ++ answer.text.items; printed = printed; cut = cut }))
    ]

-- why arguments ask for nothing is told as a fault
pub told_as : {E F : Type 0} (cause : ArgumentsFault) (made : Failure E F) → (cause ≡ words.Refused → made ≡ Arguments) × (cause ≡ words.Memory → made ≡ Memory) → (made ≡ Arguments) ⊎ (made ≡ Memory)
told_as words.Refused made told = inl (told.0 refl)
told_as words.Memory made told = inr (told.1 refl)

pub failed : {T E : Type 0} (r : Result T E) (Q : E → Type 0) → IsErrAnd r Q → (error : E) × (r ≡ Err error) × Q error
failed (Ok value) Q is = absurd is
failed (Err error) Q is = (error, refl, is)
