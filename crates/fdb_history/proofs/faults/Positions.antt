-- What the changes by position say of the logs: which position has two, which is missing, and the register at each.
use Rattle.std.proofs.Common.{◌≡◌, ℕ, zero, suc, ◌+◌, ◌<◌, ◌≤◌, ◌==◌, cond, List, [], ◌∷◌, map, length, get_or, Option, None, Some, refl, sym, subst, ap, ◌∙◌, arith, inl, inr, le_refl, add-one}
use Rattle.std.proofs.lemmas.Bool.{cases_eq, cases_lt, cond_both, eq-eqb, ne_eqb}
use Rattle.std.proofs.lemmas.List.{nil_from_length}
use Rattle.fdb_history.specs.Faults.{at_position, changes_at, register_at, IsClash, IsGap, IsLeast, IsReached, OutOfOrder, Nowhere, AtNoPosition}
use Rattle.fdb_history.specs.Register.{after_report, after_reports}
use Rattle.fdb_history.specs.private.Auditing.{AreByPosition, AreChangesOf, IsLeastIfAny, Rises, clash_in, farthest, missing_in, table_of}
use Rattle.fdb_history.specs.declared.auditing.registers.PlacedChange.{PlacedChange}
use Rattle.fdb_history.specs.declared.log.ClientLog.{ClientLog}
use Rattle.fdb_history.specs.declared.register.Record.{Record}
use Rattle.fdb_history.proofs.faultless.Counted.{far-above, far-reached, none-at-zero}
use Rattle.fdb_history.proofs.Lists.{kept, left_out, adds}
use Rattle.fdb_history.proofs.faultless.Grouped.{of_none}

abbrev place : PlacedChange → ℕ
place change = change.position

-- what stands at the same positions is least at the same
pub least_alike : (P Q : ℕ → Type 0) → ((position : ℕ) → P position → Q position) → ((position : ℕ) → Q position → P position) → (found : Option ℕ) → IsLeastIfAny P found → IsLeastIfAny Q found
least_alike P Q to from None none = λ position stands. none position (from position stands)
least_alike P Q to from (Some least) first =
    record { stands = to least first.stands; none_below = λ position below stands. first.none_below position below (from position stands) }

-- ---- the first clash

-- how many changes stand at a position, and one more that stands at another before them
abbrev standing : ℕ → List PlacedChange → ℕ → ℕ
standing before changes position = cond (before == position) 1 0 + length (at_position position changes)

-- the first neighbours at one position are at the least position that two have
clash-found : (before : ℕ) (changes : List PlacedChange) → Rises place before changes → IsLeastIfAny (λ position. 1 < standing before changes position) (clash_in before changes)
clash-found before [] up = λ position two. cond_both (before == position) 1 0 (λ n. 1 < n + 0 → ⊥) (λ e two. omega arith) (λ e two. omega arith) two
clash-found before (change ∷ changes) up =
    elim (cases_eq change.position before) [
      | inl same ↦
          rw (eq-eqb change.position before same)
          (record {
            stands = rw (eq-eqb before before refl, eq-eqb change.position before same) (omega arith);
            none_below = λ position below two.
                let none = of_none place before position (change ∷ changes) below up in
                let other = ne_eqb before position (λ e. omega arith) in
                let two' = rw (other, none) at two in omega arith;
          })
      | inr apart ↦
          rw (ne_eqb change.position before apart)
          (least_alike (λ position. 1 < standing change.position changes position) (λ position. 1 < standing before (change ∷ changes) position)
          (λ position two. omega (arith, more position))
          (λ position two. elim (cases_eq before position) [
            | inl here ↦
                let none = of_none place change.position position changes (omega (arith, up.0)) up.1 in
                let alone : 1 < 1 + (0 + 0) = rw (more position, eq-eqb before position here, ne_eqb change.position position (λ e. omega arith), none) at two in
                absurd (omega arith)
            | inr other ↦ let two' : 1 < 0 + standing change.position changes position = rw (more position, ne_eqb before position other) at two in omega arith
          ])
          (clash_in change.position changes) (clash-found change.position changes up.1))
    ]
  where
    more : (position : ℕ) → standing before (change ∷ changes) position ≡ cond (before == position) 1 0 + standing change.position changes position
    more position = ap (λ n. cond (before == position) 1 0 + n) (adds (λ (c : PlacedChange). c.position == position) change changes)

-- so it is the first clash of the logs
pub clash-least : (logs : List ClientLog) (changes : List PlacedChange) (found : Option ℕ) → Nowhere (OutOfOrder logs) → AreByPosition changes → AreChangesOf logs changes → found ≡ clash_in 0 changes
    → IsLeastIfAny (IsClash logs) found
clash-least logs changes found order up same is =
    let none = ap length (none-at-zero logs order) in
    rw is
    (least_alike (λ position. 1 < standing 0 changes position) (IsClash logs)
    (λ position two. let long = ap length (same position) in elim (cases_eq 0 position) [
      | inl here ↦ let two' : 1 < 1 + length (at_position position changes) = rw (eq-eqb 0 position here) at two in let zero = ap (λ k. length (changes_at logs k)) here in absurd (omega arith)
      | inr other ↦ let two' : 1 < 0 + length (at_position position changes) = rw (ne_eqb 0 position other) at two in omega arith
    ])
    (λ position two. let long = ap length (same position) in omega arith)
    (clash_in 0 changes) (clash-found 0 changes up))

-- ---- the first gap

-- each change stands above the one before it
abbrev pub Strictly : ℕ → List PlacedChange → Type 0
Strictly before [] = Unit {0}
Strictly before (change ∷ changes) = (before < change.position) × Strictly change.position changes

-- so they do where no two share a position
pub strict : (before : ℕ) (changes : List PlacedChange) → Rises place before changes → clash_in before changes ≡ None → Strictly before changes
strict before [] up none = tt
strict before (change ∷ changes) up none =
    elim (cases_eq change.position before) [
      | inl same ↦ let e = rw (eq-eqb change.position before same) at none in absurd cc
      | inr apart ↦ (omega (arith, up.0), strict change.position changes up.1 (rw (ne_eqb change.position before apart) at none))
    ]

-- none stands at or below where they begin
none-below : (before position : ℕ) (changes : List PlacedChange) → position ≤ before → Strictly before changes → at_position position changes ≡ []
none-below before position [] below up = refl
none-below before position (change ∷ changes) below up =
    left_out (λ (c : PlacedChange). c.position == position) change changes (ne_eqb change.position position (λ e. omega (arith, up.0)))
    ∙ none-below change.position position changes (omega (arith, up.0)) up.1

missing-least : (next : ℕ) (changes : List PlacedChange) → next ≤ missing_in next changes
missing-least next [] = le_refl next
missing-least next (change ∷ changes) =
    cond_both (change.position == next) (missing_in (next + 1) changes) next (λ n. next ≤ n) (λ e. omega (arith, missing-least (next + 1) changes)) (λ e. le_refl next)

-- no change has the position that is missing
missing-none : (before : ℕ) (changes : List PlacedChange) → Strictly before changes → at_position (missing_in (before + 1) changes) changes ≡ []
missing-none before [] up = refl
missing-none before (change ∷ changes) up =
    elim (cases_eq change.position (before + 1)) [
      | inl same ↦
          let least = missing-least (before + 1 + 1) changes in
          ap (λ b. at_position (cond b (missing_in (before + 1 + 1) changes) (before + 1)) (change ∷ changes)) (eq-eqb change.position (before + 1) same)
          ∙ left_out (λ (c : PlacedChange). c.position == missing_in (before + 1 + 1) changes) change changes (ne_eqb change.position (missing_in (before + 1 + 1) changes) (λ e. omega arith))
          ∙ missing-none (before + 1) changes (subst (λ n. Strictly n changes) same up.1)
      | inr apart ↦
          ap (λ b. at_position (cond b (missing_in (before + 1 + 1) changes) (before + 1)) (change ∷ changes)) (ne_eqb change.position (before + 1) apart)
          ∙ left_out (λ (c : PlacedChange). c.position == before + 1) change changes (ne_eqb change.position (before + 1) apart)
          ∙ none-below change.position (before + 1) changes (omega (arith, up.0)) up.1
    ]

-- and each below it has one
present : (before : ℕ) (changes : List PlacedChange) (position : ℕ) → before < position → position < missing_in (before + 1) changes → at_position position changes ≡ [] → ⊥
present before [] position above below none = omega arith
present before (change ∷ changes) position above below none =
    elim (cases_eq change.position (before + 1)) [
      | inr apart ↦ let short = rw (ne_eqb change.position (before + 1) apart) at below in omega arith
      | inl same ↦ elim (cases_eq change.position position) [
        | inl here ↦ let e = sym (kept (λ (c : PlacedChange). c.position == position) change changes (eq-eqb change.position position here)) ∙ none in absurd cc
        | inr other ↦
            present (before + 1) changes position (omega arith) (rw (eq-eqb change.position (before + 1) same) at below)
            (sym (left_out (λ (c : PlacedChange). c.position == position) change changes (ne_eqb change.position position other)) ∙ none)
      ]
    ]

-- Where the calls have come to the missing position, it is the first gap.
pub gap-least : (logs : List ClientLog) (changes : List PlacedChange) → AreChangesOf logs changes → Strictly 0 changes → missing_in 1 changes ≤ farthest 0 logs → IsLeast (IsGap logs) (missing_in 1 changes)
gap-least logs changes same up within =
    let least = missing-least 1 changes in
    let (client, place, call, at, most) = far-reached 0 logs (omega arith) in
    record {
      stands = (least, sym (same (missing_in 1 changes)) ∙ missing-none 0 changes up, (client, place, call, at, omega arith));
      none_below = λ position below gap. present 0 changes position gap.0 below (same position ∙ gap.1);
    }

-- Where they have not, there is no gap.
pub no-gap : (logs : List ClientLog) (changes : List PlacedChange) → AreChangesOf logs changes → farthest 0 logs < missing_in 1 changes → AtNoPosition (IsGap logs)
no-gap logs changes same beyond position gap = present 0 changes position gap.0 (omega (arith, far-above logs position gap.2)) (same position ∙ gap.1)

-- ---- the register at each position

-- before the missing position, the table has it
table-from : (start : Record) (logs : List ClientLog) (before : ℕ) (current : Record) (changes : List PlacedChange) → ((position : ℕ) → before < position → at_position position changes ≡ changes_at logs position)
    → AtNoPosition (IsClash logs) → register_at start logs before ≡ current → (count : ℕ) → before + count < missing_in (before + 1) changes → get_or (table_of current changes) count start ≡ register_at start logs (before + count)
table-from start logs before current [] same once is zero below = sym is ∙ ap (register_at start logs) (omega arith)
table-from start logs before current (change ∷ changes) same once is zero below = sym is ∙ ap (register_at start logs) (omega arith)
table-from start logs before current [] same once is (suc count) below = absurd (omega arith)
table-from start logs before current (change ∷ changes) same once is (suc count) below =
    elim (cases_eq change.position (before + 1)) [
      | inr apart ↦ let short = rw (ne_eqb change.position (before + 1) apart) at below in absurd (omega arith)
      | inl here ↦
          let test = λ (position : ℕ) (c : PlacedChange). c.position == position in
          let first = kept (test (before + 1)) change changes (eq-eqb change.position (before + 1) here) in
          let only : at_position (before + 1) changes ≡ [] = nil_from_length (at_position (before + 1) changes)
          (elim (cases_lt 1 (length (changes_at logs (before + 1)))) [ inl two ↦ absurd (once (before + 1) two) | inr most ↦ omega (arith, ap length (same (before + 1) (omega arith)), ap length first) ]) in
          let next : register_at start logs (before + 1) ≡ after_report current change.rec =
          rw add-one (ap (λ made. after_reports (register_at start logs before) (map (λ c. c.rec) made)) (ap (changes_at logs) (sym (add-one before)) ∙ sym (same (before + 1) (omega arith)) ∙ first ∙ ap (λ l. change ∷ l) only) ∙ ap (λ r. after_report r change.rec) is) in
          table-from start logs (before + 1) (after_report current change.rec) changes
          (λ position above. sym (left_out (test position) change changes (ne_eqb change.position position (λ e. omega arith))) ∙ same position (omega arith))
          once next count (let more = rw (eq-eqb change.position (before + 1) here) at below in omega arith)
          ∙ ap (register_at start logs) (omega arith)
    ]

pub table-right : (start : Record) (logs : List ClientLog) (changes : List PlacedChange) → AreChangesOf logs changes → AtNoPosition (IsClash logs) → farthest 0 logs < missing_in 1 changes
    → (position : ℕ) → IsReached logs position → get_or (table_of start changes) position start ≡ register_at start logs position
table-right start logs changes same once beyond position reached =
    table-from start logs 0 start changes (λ p above. same p) once refl position (omega (arith, far-above logs position reached)) ∙ ap (register_at start logs) (omega arith)
