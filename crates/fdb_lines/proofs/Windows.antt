-- What is told in two windows is what is told in one.
use Rattle.std.proofs.Common.{◌≡◌, ℕ, zero, suc, ◌<◌, ◌≤◌, nat_le, nat_lt, Bool, true, false, cond, ◌&&◌, ◌||◌, not, List, [], ◌++◌, Option, None, Some, IfSome, length, refl, ap, sym, subst, ◌∙◌, arith}
use Rattle.std.specs.List.{filter}
use Rattle.std.proofs.lemmas.Bool.Decides.{nat_tests}
use Rattle.std.proofs.lemmas.List.Elements.{filter-append}
use Rattle.fdb_lines.specs.declared.fault.Fault.TheVariants.{Order, NotAbove}
use Rattle.fdb_lines.specs.declared.fault.Found.{Found}
use Rattle.fdb_lines.specs.declared.line.Line.{Line}
use Rattle.fdb_lines.specs.Before.{began}
use Rattle.fdb_lines.specs.Faults.{stands}
use Rattle.fdb_lines.specs.Lines.{Case, line_at}
use Rattle.fdb_lines.specs.Listing.{found_if}
use Rattle.fdb_lines.specs.Watching.{begins_before, is_due, told_of, watched}
use Rattle.fdb_lines.specs.private.Due.{told_at, told_below}
use Rattle.fdb_lines.proofs.Watched.{filtered, one_by}

-- ---- of what is told, that of the lines which pass a test

abbrev passes_at : (ℕ → Bool) → Found → Bool
passes_at at found = at found.place

both_if : (b : Bool) (xs ys : List Found) → cond b xs [] ++ cond b ys [] ≡ cond b (xs ++ ys) []
both_if true xs ys = refl
both_if false xs ys = refl

at_line : (at : ℕ → Bool) (c : Case) (k : ℕ) (b : Bool) → at k ≡ b → filter (passes_at at) (told_at c k) ≡ cond b (told_at c k) []
at_line at c k b e =
    filter-append (passes_at at) (found_if c Order k) (found_if c NotAbove k)
    ∙ (ap (λ (xs : List Found). xs ++ filter (passes_at at) (found_if c NotAbove k)) (one_by (passes_at at) (stands c Order k) b (record { place = k; fault = Order }) e)
    ∙ (ap (λ (xs : List Found). cond b (found_if c Order k) [] ++ xs) (one_by (passes_at at) (stands c NotAbove k) b (record { place = k; fault = NotAbove }) e)
    ∙ both_if b (found_if c Order k) (found_if c NotAbove k)))

of_line : (at : ℕ → Bool) (c : Case) (k : ℕ) (t b : Bool) → (t && at k) ≡ b → filter (passes_at at) (cond t (told_at c k) []) ≡ cond b (told_at c k) []
of_line at c k true b e = at_line at c k b e
of_line at c k false b e = subst (λ (it : Bool). [] ≡ cond it (told_at c k) []) e refl

of_those : (test at other : ℕ → Bool) (c : Case) (n : ℕ) → ((k : ℕ) → k < n → (test k && at k) ≡ other k) → filter (passes_at at) (told_below test c n) ≡ told_below other c n
of_those test at other c zero same = refl
of_those test at other c (suc n) same =
    filter-append (passes_at at) (told_below test c n) (cond (test n) (told_at c n) [])
    ∙ (ap (λ (xs : List Found). xs ++ filter (passes_at at) (cond (test n) (told_at c n) [])) (of_those test at other c n (λ k lt. same k (omega arith)))
    ∙ ap (λ (xs : List Found). told_below other c n ++ xs) (of_line at c n (test n) (other n) (same n (omega arith))))

abbrev of_each : (ℕ → Line → Bool) → List Line → ℕ → Bool
of_each test lines k = test k (line_at lines k)

parted : (margin : ℕ) (lines : List Line) (due other : ℕ → Line → Bool) (at : Line → Bool)
    → ((k : ℕ) → k < length lines → (due k (line_at lines k) && at (line_at lines k)) ≡ other k (line_at lines k))
    → told_of margin other lines ≡ filter (λ (found : Found). at (line_at lines found.place)) (told_of margin due lines)
parted margin lines due other at same =
    let c = watched margin lines in
    let n = length lines in
    sym (filtered (of_each other lines) c n)
    ∙ (sym (of_those (of_each due lines) (λ k. at (line_at lines k)) (of_each other lines) c n same)
    ∙ ap (filter (passes_at (λ k. at (line_at lines k)))) (filtered (of_each due lines) c n))

-- ---- windows

is_before : (from early since to : ℕ) (later : Option ℕ) → IfSome later (λ last. to ≤ last) → (k : ℕ) (line : Line)
    → (is_due from early since later k line && begins_before (Some to) line) ≡ is_due from early since (Some to) k line
is_before from early since to None after k line = grind (arith, nat_tests)
is_before from early since to (Some last) after k line = grind (arith, nat_tests)

is_after : (any : Bool) (from early since to early_on many k began : ℕ) → from ≤ to → k < many
    → ((any && (nat_le from began || (nat_le since k && nat_le early began))) && not (nat_lt began to)) ≡ (any && (nat_le to began || (nat_le many k && nat_le early_on began)))
is_after true from early since to early_on many k began on lt = grind (arith, nat_tests)
is_after false from early since to early_on many k began on lt = refl

pub told_before : (margin from early since to : ℕ) (later : Option ℕ) (lines : List Line) → IfSome later (λ last. to ≤ last)
    → told_of margin (is_due from early since (Some to)) lines
    ≡ filter (λ (found : Found). begins_before (Some to) (line_at lines found.place)) (told_of margin (is_due from early since later) lines)
told_before margin from early since to later lines after =
    parted margin lines (is_due from early since later) (is_due from early since (Some to)) (begins_before (Some to)) (λ k lk.
    is_before from early since to later after k (line_at lines k))

pub told_after : (margin from early since to early_on : ℕ) (later : Option ℕ) (lines : List Line) → from ≤ to
    → told_of margin (is_due to early_on (length lines) later) lines
    ≡ filter (λ (found : Found). not (begins_before (Some to) (line_at lines found.place))) (told_of margin (is_due from early since later) lines)
told_after margin from early since to early_on later lines on =
    parted margin lines (is_due from early since later) (is_due to early_on (length lines) later) (λ line. not (begins_before (Some to) line)) (λ k lk.
    is_after (begins_before later (line_at lines k)) from early since to early_on (length lines) k (began (line_at lines k)) on lk)
