-- The faults of a log with keys: none exactly where the lines of each key are explained.
use Rattle.std.proofs.Common.{◌≡◌, ◌↔◌, ℕ, zero, suc, ◌<◌, Bool, true, false, cond, List, [], ◌∷◌, ◌++◌, Option, length, slice_index, refl, ap, sym, subst, ◌∙◌, inl, inr, arith, length-append}
use Rattle.std.specs.List.{All}
use Rattle.std.proofs.lemmas.Bool.{cases_lt}
use Rattle.std.proofs.lemmas.List.{length-map}
use Rattle.std.proofs.lemmas.List.Elements.{All-append, All-cons, All-nil}
use Rattle.fdb_lines.specs.declared.fault.Fault.{Fault}
use Rattle.fdb_lines.specs.declared.fault.Fault.TheVariants.{Order, Wrong, NotAbove, Twice, Stray}
use Rattle.fdb_lines.specs.declared.fault.Found.{Found}
use Rattle.fdb_lines.specs.declared.log.AuditOpts.{AuditOpts}
use Rattle.fdb_lines.specs.Keys.{case_of_key, faults_at_by_key, faults_below_by_key, faults_by_key, key_at, lines_of_key, place_among, places_below, places_of, told_at, AreExplainedByKey}
use Rattle.fdb_lines.specs.Faults.{stands}
use Rattle.fdb_lines.specs.Lines.{Case, Lines, line_at}
use Rattle.fdb_lines.specs.Listing.{faults_at, faults_below, found_if}
use Rattle.fdb_lines.proofs.Keyed.{has_place, place_is, same_is, same_self}
use Rattle.fdb_lines.proofs.Listed.{explained_by_length}

-- ---- lists of faults that are empty

module _ (at below : ℕ → List Found) (first : length (below 0) ≡ 0) (more : (n : ℕ) → below (suc n) ≡ below n ++ at n) where
  none_below : (n : ℕ) → ((j : ℕ) → j < n → length (at j) ≡ 0) → length (below n) ≡ 0
  none_below zero none = first
  none_below (suc n) none =
      let before = none_below n (λ j lt. none j (omega arith)) in
      let here = none n (omega arith) in
      omega (arith, ap length (more n), length-append (below n) (at n))

  none_at : (n : ℕ) → length (below n) ≡ 0 → (j : ℕ) → j < n → length (at j) ≡ 0
  none_at zero none j lt = absurd (omega arith)
  none_at (suc n) none j lt =
      let all = ap length (more n) in
      let sum = length-append (below n) (at n) in
      elim (cases_lt j n) [
        | inl old ↦ none_at n (omega arith) j old
        | inr ge ↦ let same : n ≡ j = omega arith in subst (λ m. length (at m) ≡ 0) same (omega arith)
      ]

-- ---- none of the whole log exactly where none of any key

-- the faults at a line of a key, where it stands among its lines
told : (log : Lines) (keys : List (Option ℕ)) (opts : AuditOpts) (key : Option ℕ) (k j : ℕ) → key_at keys k ≡ key → length (places_below keys key k) ≡ j
    → length (faults_at_by_key log keys opts k) ≡ length (faults_at (case_of_key log keys opts key) j)
told log keys opts key k j same at =
    length-map (faults_at (case_of_key log keys opts (key_at keys k)) (place_among keys k)) (told_at k)
    ∙ (ap (λ q. length (faults_at (case_of_key log keys opts q) (length (places_below keys q k)))) same
    ∙ ap (λ i. length (faults_at (case_of_key log keys opts key) i)) at)

pub explained : (log : Lines) (keys : List (Option ℕ)) (opts : AuditOpts) → length keys ≡ length log.lines
    → (length (faults_by_key log keys opts) ≡ 0) ↔ AreExplainedByKey log keys opts
explained log keys opts as_many = (
  λ none key.
      let places = places_of keys key in
      let size = length-map places (line_at log.lines) in
      (explained_by_length (lines_of_key log keys key) opts _ refl).0
      (none_below (faults_at (case_of_key log keys opts key)) (faults_below (case_of_key log keys opts key)) refl (λ n. refl) (length (lines_of_key log keys key).lines) (λ j lt.
      let within : j < length places = omega arith in
      let is = place_is keys key (length keys) j within in
      let inside = is.0 in
      sym (told log keys opts key (slice_index places j) j (same_is _ _ is.1) is.2)
      ∙ none_at (faults_at_by_key log keys opts) (faults_below_by_key log keys opts) refl (λ n. refl) (length log.lines) none (slice_index places j) (omega arith))),
  λ some. none_below (faults_at_by_key log keys opts) (faults_below_by_key log keys opts) refl (λ n. refl) (length log.lines) (λ k lt.
      let key = key_at keys k in
      let size = length-map (places_of keys key) (line_at log.lines) in
      let has = has_place keys key (length keys) k (same_self key) (omega arith) in
      let within = has.0 in
      told log keys opts key k (place_among keys k) refl refl
      ∙ none_at (faults_at (case_of_key log keys opts key)) (faults_below (case_of_key log keys opts key)) refl (λ n. refl) (length (lines_of_key log keys key).lines) ((explained_by_length (lines_of_key log keys key) opts _ refl).1 (some key)) (place_among keys k) (omega arith)),
)

-- ---- the faults at a line

there_if : (c : Case) (fault : Fault) (j : ℕ) → All (λ (found : Found). found.place ≡ j) (found_if c fault j)
there_if c fault j = by (stands c fault j)
  where
    by : (b : Bool) → All (λ (found : Found). found.place ≡ j) (cond b (record { place = j; fault = fault } ∷ []) [])
    by true = All-cons (λ (found : Found). found.place ≡ j) _ [] refl (All-nil (λ (found : Found). found.place ≡ j))
    by false = All-nil (λ (found : Found). found.place ≡ j)

pub all_there : (c : Case) (j : ℕ) → All (λ (found : Found). found.place ≡ j) (faults_at c j)
all_there c j =
    let P : Found → Type 0 = λ found. found.place ≡ j in
    All-append P _ _ (All-append P _ _ (All-append P _ _ (All-append P _ _ (there_if c Order j) (there_if c Wrong j)) (there_if c NotAbove j)) (there_if c Twice j)) (there_if c Stray j)
