-- Logs that say the same, by whatever numbers of their names, are the same but for numbers.
use Rattle.std.specs.Option.{option_eq}
use Rattle.std.proofs.Common.{◌≡◌, ◌∙◌, ℕ, ◌==◌, List, Option, None, Some, option_map, refl, ap, sym, arith}
use Rattle.std.proofs.lemmas.Bool.Decides.{nat_tests}
use Rattle.std.proofs.lemmas.Option.{same_Some}
use Rattle.fdb_lines.specs.declared.line.Line.{Line}
use Rattle.fdb_lines.specs.Before.{one_client}
use Rattle.fdb_lines.specs.Keys.{key_at}
use Rattle.fdb_lines.specs.Lines.{line_at}
use Rattle.fdb_lines.specs.Renumbered.{AreNamedApart, AreSameButForNumbers, Naming, SayTheSame}

equal_by : (a b x y : ℕ) → (a ≡ b → x ≡ y) → (x ≡ y → a ≡ b) → (a == b) ≡ (x == y)
equal_by a b x y to back = grind (arith, nat_tests)

-- two are one where two others are, which have the same names
module _ (name other : ℕ → List ℕ) where
  abbrev IsApart : (ℕ → List ℕ) → Option ℕ → Option ℕ → Type 0
  IsApart names a b = option_map names a ≡ option_map names b → a ≡ b

  carried : (a b x y : ℕ) → Some (name a) ≡ Some (other x) → Some (name b) ≡ Some (other y) → IsApart other (Some x) (Some y) → a ≡ b → x ≡ y
  carried a b x y one two apart same = same_Some x y (apart (sym one ∙ (ap (λ n. Some (name n)) same ∙ two)))

  back : (a b x y : ℕ) → Some (name a) ≡ Some (other x) → Some (name b) ≡ Some (other y) → IsApart name (Some a) (Some b) → x ≡ y → a ≡ b
  back a b x y one two apart same = same_Some a b (apart (one ∙ (ap (λ n. Some (other n)) same ∙ sym two)))

  one_by : (a b x y : Option ℕ) → option_map name a ≡ option_map other x → option_map name b ≡ option_map other y → IsApart name a b → IsApart other x y
      → one_client a b ≡ one_client x y
  one_by None b None y one two a_apart x_apart = refl
  one_by None b (Some x) y one two a_apart x_apart = absurd cc
  one_by (Some a) b None y one two a_apart x_apart = absurd cc
  one_by (Some a) None (Some x) None one two a_apart x_apart = refl
  one_by (Some a) None (Some x) (Some y) one two a_apart x_apart = absurd cc
  one_by (Some a) (Some b) (Some x) None one two a_apart x_apart = absurd cc
  one_by (Some a) (Some b) (Some x) (Some y) one two a_apart x_apart = equal_by a b x y (carried a b x y one two x_apart) (back a b x y one two a_apart)

  same_by : (a b x y : Option ℕ) → option_map name a ≡ option_map other x → option_map name b ≡ option_map other y → IsApart name a b → IsApart other x y
      → option_eq ◌==◌ a b ≡ option_eq ◌==◌ x y
  same_by None None None None one two a_apart x_apart = refl
  same_by None None None (Some y) one two a_apart x_apart = absurd cc
  same_by None (Some b) None None one two a_apart x_apart = absurd cc
  same_by None (Some b) None (Some y) one two a_apart x_apart = refl
  same_by None b (Some x) y one two a_apart x_apart = absurd cc
  same_by (Some a) b None y one two a_apart x_apart = absurd cc
  same_by (Some a) None (Some x) None one two a_apart x_apart = refl
  same_by (Some a) None (Some x) (Some y) one two a_apart x_apart = absurd cc
  same_by (Some a) (Some b) (Some x) None one two a_apart x_apart = absurd cc
  same_by (Some a) (Some b) (Some x) (Some y) one two a_apart x_apart = equal_by a b x y (carried a b x y one two x_apart) (back a b x y one two a_apart)

pub same_by_names : (naming other_naming : Naming) (lines others : List Line) (keys other_keys : List (Option ℕ)) → AreNamedApart naming lines keys → AreNamedApart other_naming others other_keys
    → SayTheSame naming other_naming lines keys others other_keys → AreSameButForNumbers lines keys others other_keys
same_by_names naming other_naming lines others keys other_keys apart others_apart same =
    let many = same.calls.as_many in
    record {
      calls = same.calls;
      clients = λ j k lj lk. one_by naming.client other_naming.client (line_at lines j).client (line_at lines k).client (line_at others j).client (line_at others k).client
          (same.clients j lj) (same.clients k lk) (apart.clients j k lj lk) (others_apart.clients j k (omega arith) (omega arith));
      keys_alike = λ j k lj lk. same_by naming.key other_naming.key (key_at keys j) (key_at keys k) (key_at other_keys j) (key_at other_keys k)
          (same.keys_too j lj) (same.keys_too k lk) (apart.keys_too j k lj lk) (others_apart.keys_too j k (omega arith) (omega arith));
    }
