-- The faults of lines, by a rule that looks at what each call knows. (this product's own)
use Rattle.std.specs.Prelude.{◌≡◌, ℕ, zero, suc, max, ◌<◌, ◌==◌, ◌&&◌, ◌||◌, not, nat_lt, nat_le, Bool, false, cond, length}
use Rattle.fdb_lines.specs.declared.fault.Fault.{Fault}
use Rattle.fdb_lines.specs.declared.fault.Fault.TheVariants.{Order, Wrong, NotAbove, Twice, Stray}
use Rattle.fdb_lines.specs.Lines.{Case, kind_at, version_at, client_at, is_read, is_commit, is_report, draws, reports, shows, may_be_same_client}

-- the greatest of the numbers below n that a test passes, and 0
abbrev pub greatest_of : (ℕ → Bool) → (ℕ → ℕ) → ℕ → ℕ
greatest_of test f zero = 0
greatest_of test f (suc n) = max (cond (test n) (f n) 0) (greatest_of test f n)

abbrev pub some_below : (ℕ → Bool) → ℕ → Bool
some_below test zero = false
some_below test (suc n) = test n || some_below test n

-- What a call knows: the greatest version that calls before it show, and the start; and the greatest that they drew.
abbrev pub knows : Case → ℕ → ℕ
knows c k = max c.start (greatest_of (λ j. c.before j k && shows (kind_at c j)) (version_at c) (length c.lines))

abbrev pub last : Case → ℕ → ℕ
last c k = greatest_of (λ j. c.before j k && draws (kind_at c j)) (version_at c) (length c.lines)

-- whether a line reports a version, or draws it
abbrev pub reports_it : Case → ℕ → ℕ → Bool
reports_it c v j = reports (kind_at c j) && version_at c j == v

abbrev pub draws_it : Case → ℕ → ℕ → Bool
draws_it c v j = draws (kind_at c j) && version_at c j == v

-- whether a line is another than this one and draws its version, and not both are commits, which may share one
abbrev pub draws_again : Case → ℕ → ℕ → Bool
draws_again c k j =
    not (j == k) && (draws (kind_at c j) && (version_at c j == version_at c k && not (is_commit (kind_at c j) && is_commit (kind_at c k))))

-- Whether some line reports a version, draws it, raises the register to it, or drew it and may be of a call's client.
abbrev pub is_reported : Case → ℕ → Bool
is_reported c v = some_below (reports_it c v) (length c.lines)

abbrev pub is_drawn : Case → ℕ → Bool
is_drawn c v = some_below (draws_it c v) (length c.lines)

abbrev pub is_raised : Case → ℕ → Bool
is_raised c v = some_below (λ j. reports (kind_at c j) && (version_at c j == v && nat_lt (knows c j) v)) (length c.lines)

abbrev pub is_own : Case → ℕ → Bool
is_own c k = some_below (λ j. draws (kind_at c j) && (version_at c j == version_at c k && may_be_same_client (client_at c j) (client_at c k))) (length c.lines)

-- whether a version is not there: nobody reported it without knowing as much before
abbrev pub is_wrong : Case → ℕ → Bool
is_wrong c v = not (v == c.start) && (not (is_raised c v) && (c.complete || is_reported c v))

-- whether another line drew a call's version
abbrev pub is_twice : Case → ℕ → Bool
is_twice c k = some_below (draws_again c k) (length c.lines)

-- whether others drew a version that is reported, or nobody can have drawn it
abbrev pub is_stray : Case → ℕ → Bool
is_stray c k = cond (is_drawn c (version_at c k)) (not (is_own c k)) (c.complete || nat_le (version_at c k) c.start)

-- whether a fault stands at a line, by what its call knew and which lines report or drew its version
abbrev pub stands : Case → Fault → ℕ → Bool
-- a read below the greatest version that it knew
stands c Order k = is_read (kind_at c k) && nat_lt (version_at c k) (knows c k)
-- a read of a version that is not there
stands c Wrong k = is_read (kind_at c k) && is_wrong c (version_at c k)
-- a version was drawn that is not above all that was known
stands c NotAbove k = draws (kind_at c k) && nat_le (version_at c k) (max (knows c k) (last c k))
-- a version was drawn by another line too, and not both are commits
stands c Twice k = draws (kind_at c k) && is_twice c k
-- a report of a version that others drew, or that nobody can have drawn
stands c Stray k = is_report (kind_at c k) && is_stray c k

abbrev pub IsFaultless : Case → Type 0
IsFaultless c = (fault : Fault) (k : ℕ) → k < length c.lines → stands c fault k ≡ false
