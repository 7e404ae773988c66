-- The members that a text names, and those that are printed beside the calls.
use Rattle.std.proofs.Common.{◌≡◌, ◌≢◌, ℕ, ◌<◌, ◌+◌, false, List, [], ◌∷◌, ◌++◌, ap, arith, get_or, length, map, refl, string_bytes}
use Rattle.std.proofs.lemmas.Bool.Decides.{nat_tests}
use Rattle.std.proofs.lemmas.Grind.{common_steps}
use Rattle.std.specs.List.{slice_split}
use Rattle.fdb_log_reader.specs.Columns.{ShownColumn}
use Rattle.fdb_audit.specs.Judged.{AreBeside, IsBeside}
use Rattle.fdb_audit.specs.Program.{is_comma}
use Rattle.fdb_audit.specs.Text.{Beside}
use Rattle.fdb_audit.specs.declared.members.Column.{Column}
use Rattle.fdb_audit.specs.private.{beside_of, members_of}

-- ---- what stands between commas

abbrev pub Lacks : List ℕ → Type 0
Lacks text = (i : ℕ) → i < length text → get_or text i 0 ≢ 44

tail_lacks : (byte : ℕ) (text : List ℕ) → Lacks (byte ∷ text) → Lacks text
tail_lacks byte text lacks i within = let other = lacks (i + 1) (omega arith) in grind (arith, common_steps)

head_is : (byte : ℕ) (text : List ℕ) → Lacks (byte ∷ text) → is_comma byte ≡ false
head_is byte text lacks = let other : byte ≢ 44 = lacks 0 (omega arith) in grind (arith, nat_tests)

pub one_part : (text : List ℕ) → Lacks text → slice_split is_comma text ≡ text ∷ []
one_part [] lacks = refl
one_part (byte ∷ text) lacks = rw (head_is byte text lacks, one_part text (tail_lacks byte text lacks)) refl

pub first_part : (text more : List ℕ) → Lacks text → slice_split is_comma (text ++ 44 ∷ more) ≡ text ∷ slice_split is_comma more
first_part [] more lacks = refl
first_part (byte ∷ text) more lacks = rw (head_is byte text lacks, first_part text more (tail_lacks byte text lacks)) refl

-- ---- members beside the calls

-- their names
pub named_beside : (columns : List Column) → map (λ (it : Beside). it.member) (map beside_of columns) ≡ members_of columns
named_beside [] = refl
named_beside (column ∷ columns) = ap (λ (names : List (List ℕ)). string_bytes column.member ∷ names) (named_beside columns)

-- one more
pub one_beside : (columns : List ShownColumn) (shown : List Beside) (column : ShownColumn) (it : Beside) → AreBeside columns shown → IsBeside column it
    → AreBeside (columns ++ column ∷ []) (shown ++ it ∷ [])
one_beside [] [] column it are is = (is, tt)
one_beside [] (_ ∷ _) column it are is = absurd are
one_beside (_ ∷ _) [] column it are is = absurd are
one_beside (_ ∷ columns) (_ ∷ shown) column it are is = (are.0, one_beside columns shown column it are.1 is)
