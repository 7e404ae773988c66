-- Logs that are the same but for how clients and keys are numbered in them. (this product's own)
use Rattle.std.specs.Prelude.{◌==◌, ◌≡◌, ℕ, ◌<◌, List, Option, length, option_map}
use Rattle.std.specs.Option.{option_eq}
use Rattle.fdb_lines.specs.declared.line.Line.{Line}
use Rattle.fdb_lines.specs.Before.{one_client}
use Rattle.fdb_lines.specs.Keys.{key_at}
use Rattle.fdb_lines.specs.Lines.{line_at}

-- line by line the same calls with the same times, and each line has its own key, or none
pub record HaveSameCalls (lines : List Line) (keys : List (Option ℕ)) (others : List Line) (other_keys : List (Option ℕ)) : Type 0 where
  pub as_many : length lines ≡ length others
  pub keyed : length keys ≡ length lines
  pub others_keyed : length other_keys ≡ length others
  pub calls : (k : ℕ) → k < length lines → (line_at lines k).call ≡ (line_at others k).call
  pub times : (k : ℕ) → k < length lines → (line_at lines k).times ≡ (line_at others k).times

-- Two lines are known to be of one client, or are of one key, in the one log exactly where they are in the other. So a client
-- is not known in the one where it is not in the other, since one that is known is one with itself. Lines that name no key are
-- of one register too, and may name one in the other log.
pub record AreSameButForNumbers (lines : List Line) (keys : List (Option ℕ)) (others : List Line) (other_keys : List (Option ℕ)) : Type 0 where
  pub calls : HaveSameCalls lines keys others other_keys
  pub clients : (j k : ℕ) → j < length lines → k < length lines
      → one_client (line_at lines j).client (line_at lines k).client ≡ one_client (line_at others j).client (line_at others k).client
  pub keys_alike : (j k : ℕ) → j < length lines → k < length lines
      → option_eq ◌==◌ (key_at keys j) (key_at keys k) ≡ option_eq ◌==◌ (key_at other_keys j) (key_at other_keys k)

-- What the numbers of a log stand for: the names of its clients, and of its keys.
pub record Naming : Type 0 where
  pub client : ℕ → List ℕ
  pub key : ℕ → List ℕ

abbrev pub client_named : Naming → List Line → ℕ → Option (List ℕ)
client_named naming lines k = option_map naming.client (line_at lines k).client

abbrev pub key_named : Naming → List (Option ℕ) → ℕ → Option (List ℕ)
key_named naming keys k = option_map naming.key (key_at keys k)

-- no two clients of its lines have one name, and no two keys
pub record AreNamedApart (naming : Naming) (lines : List Line) (keys : List (Option ℕ)) : Type 0 where
  pub clients : (j k : ℕ) → j < length lines → k < length lines → client_named naming lines j ≡ client_named naming lines k
      → (line_at lines j).client ≡ (line_at lines k).client
  pub keys_too : (j k : ℕ) → j < length lines → k < length lines → key_named naming keys j ≡ key_named naming keys k → key_at keys j ≡ key_at keys k

-- Line by line clients have the same names, and keys have.
pub record SayTheSame (naming other_naming : Naming) (lines : List Line) (keys : List (Option ℕ)) (others : List Line) (other_keys : List (Option ℕ)) : Type 0 where
  pub calls : HaveSameCalls lines keys others other_keys
  pub clients : (k : ℕ) → k < length lines → client_named naming lines k ≡ client_named other_naming others k
  pub keys_too : (k : ℕ) → k < length lines → key_named naming keys k ≡ key_named other_naming other_keys k
