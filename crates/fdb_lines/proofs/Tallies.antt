-- Tallies: how many numbers pass a test. And the line at a place.
use Rattle.std.proofs.Common.{◌≡◌, ℕ, zero, suc, ◌+◌, ◌<◌, ◌≤◌, Bool, cond, List, length, get_or, refl, ◌∙◌, arith, zero-le}
use Rattle.std.proofs.lemmas.List.{get_or_default}
use Rattle.fdb_lines.specs.declared.line.Line.{Line}
use Rattle.fdb_lines.specs.Lines.{line_at, nobody}
use Rattle.fdb_lines.specs.Summary.{tally}

-- what a test adds to a tally
abbrev pub adds : Bool → ℕ
adds b = cond b 1 0

pub tally_most : (test : ℕ → Bool) (n : ℕ) → tally test n ≤ n
tally_most test zero = zero-le
tally_most test (suc n) = grind (arith, tally_most test n)

-- tests that add up alike have tallies that do
pub tally_sums : (a b c d : ℕ → Bool) (n : ℕ) → ((j : ℕ) → adds (a j) + adds (b j) ≡ adds (c j) + adds (d j)) → tally a n + tally b n ≡ tally c n + tally d n
tally_sums a b c d zero same = refl
tally_sums a b c d (suc n) same = omega (arith, same n, tally_sums a b c d n same)

pub item_at : (xs lines : List Line) (k : ℕ) (item : Line) → xs ≡ lines → k < length xs → item ≡ get_or xs k item → item ≡ line_at lines k
item_at xs lines k item same lt is = rw same at (is ∙ get_or_default xs k item nobody lt)
