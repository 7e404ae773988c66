-- Lines that say the same by names are the same but for the numbers of their clients and keys.
use Rattle.std.proofs.Common.{◌≡◌, ◌∙◌, ℕ, zero, suc, ◌<◌, List, [], ◌∷◌, Option, None, Some, IfSome, IsSomeAnd, ap, arith, get_or, length, map, option_map, refl, sym}
use Rattle.std.specs.List.{All}
use Rattle.std.specs.Prelude.{option_and_then, slice_get, slice_index_or, unwrap_or}
use Rattle.std.proofs.lemmas.List.{get_or-map, length-map}
use Rattle.std.proofs.lemmas.Option.{none-some, slice_get-get_or}
use Rattle.fdb_lines.specs.declared.line.Line.{Line}
use Rattle.fdb_lines.specs.Keys.{key_at}
use Rattle.fdb_lines.specs.Lines.{line_at, nobody}
use Rattle.fdb_lines.specs.Renumbered.{AreNamedApart, AreSameButForNumbers, HaveSameCalls, Naming, SayTheSame}
use Rattle.fdb_log_reader.specs.Named.{HaveOneNumber, Named, StandOnce, client_named, key_named, named_said}
use Rattle.fdb_log_reader.specs.ReadLine.{IsNumbered, LineNames, MemberNames, SaidLine}

-- ---- the lines and the keys of what is said

abbrev pub line_of : SaidLine → Line
line_of said = said.line

abbrev pub key_of : SaidLine → Option ℕ
key_of said = said.key

abbrev pub none_said : SaidLine
none_said = record { line = nobody; key = None; shown = [] }

abbrev pub said_at : List SaidLine → ℕ → SaidLine
said_at said k = slice_index_or said k none_said

pub line_is : (said : List SaidLine) (k : ℕ) → line_at (map line_of said) k ≡ (said_at said k).line
line_is [] k = refl
line_is (one ∷ said) zero = refl
line_is (one ∷ said) (suc k) = line_is said k

pub key_is : (said : List SaidLine) (k : ℕ) → key_at (map key_of said) k ≡ (said_at said k).key
key_is [] k = refl
key_is (one ∷ said) zero = refl
key_is (one ∷ said) (suc k) = key_is said k

-- ---- what the numbers of some names stand for

abbrev pub naming_of : LineNames → Naming
naming_of names = record {
  client = λ n. unwrap_or (slice_get names.clients n) [];
  key = λ n. unwrap_or (option_and_then (λ keys. slice_get keys.names n) names.keys) [];
}

there : (names : List (List ℕ)) (n : ℕ) → n < length names → slice_get names n ≡ Some (unwrap_or (slice_get names n) [])
there names n lt =
    let is = slice_get-get_or names n [] lt in
    is ∙ sym (ap (λ (one : Option (List ℕ)). Some (unwrap_or one [])) is)

pub client_as : (names : LineNames) (client : Option ℕ) → IfSome client (λ n. n < length names.clients) → client_named names client ≡ option_map (naming_of names).client client
client_as names None within = refl
client_as names (Some n) within = there names.clients n within

pub key_as : (keys : Option MemberNames) (key : Option ℕ) → IfSome key (λ n. IsSomeAnd keys (λ keys. n < length keys.names))
    → option_and_then (λ keys. option_and_then (slice_get keys.names) key) keys ≡ option_map (λ n. unwrap_or (option_and_then (λ keys. slice_get keys.names n) keys) []) key
key_as None None within = refl
key_as None (Some n) within = absurd within
key_as (Some keys) None within = refl
key_as (Some keys) (Some n) within = there keys.names n within

-- ---- names that stand once are apart

pub apart : (names : List (List ℕ)) → StandOnce names → (a b : Option ℕ) → IfSome a (λ n. n < length names) → IfSome b (λ n. n < length names)
    → option_and_then (slice_get names) a ≡ option_and_then (slice_get names) b → a ≡ b
apart names once None None within too same = refl
apart names once None (Some n) within too same = absurd (none-some (get_or names n []) (same ∙ slice_get-get_or names n [] too))
apart names once (Some n) None within too same = absurd (none-some (get_or names n []) (sym same ∙ slice_get-get_or names n [] within))
apart names once (Some n) (Some m) within too same =
    let is = slice_get-get_or names m [] too in
    ap (λ (k : ℕ). Some k) (once n m (get_or names m []) (same ∙ is) is)

pub keys_apart : (keys : Option MemberNames) → IfSome keys (λ keys. StandOnce keys.names) → (a b : Option ℕ)
    → IfSome a (λ n. IsSomeAnd keys (λ keys. n < length keys.names)) → IfSome b (λ n. IsSomeAnd keys (λ keys. n < length keys.names))
    → option_and_then (λ keys. option_and_then (slice_get keys.names) a) keys ≡ option_and_then (λ keys. option_and_then (slice_get keys.names) b) keys → a ≡ b
keys_apart None once None None within too same = refl
keys_apart None once None (Some n) within too same = absurd too
keys_apart None once (Some n) b within too same = absurd within
keys_apart (Some keys) once a b within too same = apart keys.names once a b within too same

module _ (names : LineNames) (said : List SaidLine) (once : HaveOneNumber names) (are : All (IsNumbered names) said) where
  at : (k : ℕ) → k < length (map line_of said) → IsNumbered names (said_at said k)
  at k lt = are k none_said (let size = length-map said line_of in omega (arith, size, lt))

  client_said : (k : ℕ) → k < length (map line_of said) → client_named names (said_at said k).line.client ≡ option_map (naming_of names).client (line_at (map line_of said) k).client
  client_said k lt = client_as names (said_at said k).line.client (at k lt).0 ∙ ap (λ (line : Line). option_map (naming_of names).client line.client) (sym (line_is said k))

  key_said : (k : ℕ) → k < length (map line_of said) → key_named names (said_at said k).key ≡ option_map (naming_of names).key (key_at (map key_of said) k)
  key_said k lt = key_as names.keys (said_at said k).key (at k lt).1 ∙ ap (option_map (naming_of names).key) (sym (key_is said k))

  are_apart : AreNamedApart (naming_of names) (map line_of said) (map key_of said)
  are_apart = record {
    clients = λ j k lj lk same.
        ap (λ (line : Line). line.client) (line_is said j)
        ∙ (apart names.clients once.clients (said_at said j).line.client (said_at said k).line.client (at j lj).0 (at k lk).0 (client_said j lj ∙ (same ∙ sym (client_said k lk)))
        ∙ sym (ap (λ (line : Line). line.client) (line_is said k)));
    keys_too = λ j k lj lk same.
        key_is said j
        ∙ (keys_apart names.keys once.keys (said_at said j).key (said_at said k).key (at j lj).1 (at k lk).1 (key_said j lj ∙ (same ∙ sym (key_said k lk)))
        ∙ sym (key_is said k));
  }

-- ---- lines that say the same

module _ (names others : LineNames) (said theirs : List SaidLine) (same : map (named_said names) said ≡ map (named_said others) theirs) where
  as_many : length said ≡ length theirs
  as_many = sym (length-map said (named_said names)) ∙ (ap length same ∙ length-map theirs (named_said others))

  each : (k : ℕ) → k < length said → named_said names (said_at said k) ≡ named_said others (said_at theirs k)
  each k lt =
      let none = named_said names none_said in
      let many = as_many in
      sym (get_or-map (named_said names) said k none_said none lt)
      ∙ (ap (λ (list : List Named). get_or list k none) same ∙ get_or-map (named_said others) theirs k none_said none (omega (arith, lt, many)))

  inside : (k : ℕ) → k < length (map line_of said) → k < length said
  inside k lt = let size = length-map said line_of in omega (arith, size, lt)

  same_calls : HaveSameCalls (map line_of said) (map key_of said) (map line_of theirs) (map key_of theirs)
  same_calls = record {
    as_many = length-map said line_of ∙ (as_many ∙ sym (length-map theirs line_of));
    keyed = length-map said key_of ∙ sym (length-map said line_of);
    others_keyed = length-map theirs key_of ∙ sym (length-map theirs line_of);
    calls = λ k lt. ap (λ (line : Line). line.call) (line_is said k)
        ∙ (ap (λ (one : Named). one.call) (each k (inside k lt)) ∙ sym (ap (λ (line : Line). line.call) (line_is theirs k)));
    times = λ k lt. ap (λ (line : Line). line.times) (line_is said k)
        ∙ (ap (λ (one : Named). one.times) (each k (inside k lt)) ∙ sym (ap (λ (line : Line). line.times) (line_is theirs k)));
  }

  module _ (once : HaveOneNumber names) (once_too : HaveOneNumber others) (are : All (IsNumbered names) said) (are_too : All (IsNumbered others) theirs) where
    theirs_too : (k : ℕ) → k < length (map line_of said) → k < length (map line_of theirs)
    theirs_too k lt = let many = same_calls.as_many in omega (arith, many, lt)

    say_the_same : SayTheSame (naming_of names) (naming_of others) (map line_of said) (map key_of said) (map line_of theirs) (map key_of theirs)
    say_the_same = record {
      calls = same_calls;
      clients = λ k lt. sym (client_said names said once are k lt)
          ∙ (ap (λ (one : Named). one.client) (each k (inside k lt)) ∙ client_said others theirs once_too are_too k (theirs_too k lt));
      keys_too = λ k lt. sym (key_said names said once are k lt)
          ∙ (ap (λ (one : Named). one.key) (each k (inside k lt)) ∙ key_said others theirs once_too are_too k (theirs_too k lt));
    }

-- what is known of lines that say the same by names that are apart
abbrev pub DifferInNumbers : Type 0
DifferInNumbers = (naming other_naming : Naming) (lines others : List Line) (keys other_keys : List (Option ℕ)) → AreNamedApart naming lines keys
    → AreNamedApart other_naming others other_keys → SayTheSame naming other_naming lines keys others other_keys → AreSameButForNumbers lines keys others other_keys

pub same_but : DifferInNumbers → (names others : LineNames) (said theirs : List SaidLine) → map (named_said names) said ≡ map (named_said others) theirs
    → HaveOneNumber names → HaveOneNumber others → All (IsNumbered names) said → All (IsNumbered others) theirs
    → AreSameButForNumbers (map line_of said) (map key_of said) (map line_of theirs) (map key_of theirs)
same_but differ names others said theirs same once once_too are are_too =
    differ (naming_of names) (naming_of others) (map line_of said) (map line_of theirs) (map key_of said) (map key_of theirs)
    (are_apart names said once are) (are_apart others theirs once_too are_too) (say_the_same names others said theirs same once once_too are are_too)
