-- What holds of lines without a fault.
use Rattle.std.proofs.Common.{◌≡◌, ◌⊎◌, ℕ, ◌<◌, ◌≤◌, ◌==◌, nat_lt, Bool, true, false, ◌&&◌, length, arith}
use Rattle.std.proofs.lemmas.Bool.{and_parts, and_from}
use Rattle.std.proofs.lemmas.Bool.Decides.{nat_tests}
use Rattle.fdb_lines.specs.Lines.{Read, Report, Case, kind_at, version_at, client_at, may_be_same_client, draws, reports, shows}
use Rattle.fdb_lines.specs.declared.fault.Fault.TheVariants.{Order, Wrong, NotAbove, Stray}
use Rattle.fdb_lines.specs.Faults.{IsFaultless, knows, last, is_reported, is_drawn, draws_it}
use Rattle.fdb_lines.specs.Order.{needs_ask, needs_report, IsRanked}
use Rattle.fdb_lines.proofs.Numbers.{greatest_bound, greatest_least, some_at, some_find}

-- whether a line raises the register to a version
abbrev pub raises_it : Case → ℕ → ℕ → Bool
raises_it c v j = reports (kind_at c j) && (version_at c j == v && nat_lt (knows c j) v)

-- whether a line of a call's client draws its version
abbrev pub draws_own : Case → ℕ → ℕ → Bool
draws_own c k j = draws (kind_at c j) && (version_at c j == version_at c k && may_be_same_client (client_at c j) (client_at c k))

-- ---- what is known

pub shown_known : (c : Case) (j k : ℕ) → j < length c.lines → c.before j k ≡ true → shows (kind_at c j) ≡ true → version_at c j ≤ knows c k
shown_known c j k lj b s =
    let h = greatest_bound (λ i. c.before i k && shows (kind_at c i)) (version_at c) (length c.lines) j lj (and_from _ _ b s) in
    omega arith

pub drawn_known : (c : Case) (j k : ℕ) → j < length c.lines → c.before j k ≡ true → draws (kind_at c j) ≡ true → version_at c j ≤ last c k
drawn_known c j k lj b s = greatest_bound (λ i. c.before i k && draws (kind_at c i)) (version_at c) (length c.lines) j lj (and_from _ _ b s)

pub known_known : (c : Case) (rank : ℕ → ℕ) → IsRanked c rank → (j k : ℕ) → j < length c.lines → k < length c.lines → c.before j k ≡ true → knows c j ≤ knows c k
known_known c rank ranked j k lj lk b =
    let rest = greatest_least (λ i. c.before i j && shows (kind_at c i)) (version_at c) (length c.lines) (knows c k)
    (λ i li test. let p = and_parts _ _ test in shown_known c i k li (ranked.transitive i j k li lj lk p.0 b) p.1) in
    omega arith

-- ---- no fault

pub no_order : (c : Case) → IsFaultless c → (k : ℕ) → k < length c.lines → kind_at c k ≡ Read → knows c k ≤ version_at c k
no_order c none k lk is = let f = none Order k lk in grind (arith, nat_tests)

pub no_wrong : (c : Case) → IsFaultless c → (k : ℕ) → k < length c.lines → kind_at c k ≡ Read
    → (version_at c k ≡ c.start)
    ⊎ (((j : ℕ) × (j < length c.lines) × (raises_it c (version_at c k) j ≡ true))
    ⊎ ((c.complete ≡ false) × (is_reported c (version_at c k) ≡ false) × (needs_report c k ≡ true)))
no_wrong c none k lk is =
    let f = none Wrong k lk in
    let some = some_find (raises_it c (version_at c k)) (length c.lines) in
    grind (arith, nat_tests)

pub no_stray : (c : Case) → IsFaultless c → (k : ℕ) → k < length c.lines → kind_at c k ≡ Report
    → ((is_drawn c (version_at c k) ≡ true)
    × ((i : ℕ) × (i < length c.lines) × (draws (kind_at c i) ≡ true) × (version_at c i ≡ version_at c k) × (may_be_same_client (client_at c i) (client_at c k) ≡ true)))
    ⊎ ((c.complete ≡ false) × (is_drawn c (version_at c k) ≡ false) × (c.start < version_at c k))
no_stray c none k lk is =
    let f = none Stray k lk in
    let some = some_find (draws_own c k) (length c.lines) in
    grind (arith, nat_tests)

-- ---- what is asked for is above the start, and a line drew it or others may have

said_above : (c : Case) → IsFaultless c → (k : ℕ) → k < length c.lines → (draws (kind_at c k) ≡ true) ⊎ (kind_at c k ≡ Report)
    → (c.start < version_at c k) × ((is_drawn c (version_at c k) ≡ true) ⊎ (c.complete ≡ false))
said_above c none k lk said =
    let f = no_stray c none k lk in
    let above : is_drawn c (version_at c k) ≡ true → c.start < version_at c k = λ h.
    let some = some_find (draws_it c (version_at c k)) (length c.lines) h in
    let low = none NotAbove some.0 some.1 in
    grind (arith, nat_tests) in
    let drawn = some_at (draws_it c (version_at c k)) (length c.lines) k lk in
    grind (arith, nat_tests)

pub asked_above : (c : Case) → IsFaultless c → (k : ℕ) → k < length c.lines → needs_ask c k ≡ true
    → (c.start < version_at c k) × ((is_drawn c (version_at c k) ≡ true) ⊎ (c.complete ≡ false))
asked_above c none k lk need =
    let said = said_above c none k lk in
    let raised = said_above c none in
    let read = no_wrong c none k lk in
    let order = no_order c none k lk in
    grind (arith, nat_tests)
