-- What is found of the parts of a log that is divided by its keys is what is found of all of it.
use Rattle.std.proofs.Common.{◌≡◌, ◌∙◌, ℕ, zero, suc, ◌==◌, ◌<◌, ◌≤◌, Bool, true, false, cond, List, [], ◌∷◌, ◌++◌, Option, None, length, map, slice_index, refl, ap, sym, subst, inl, inr, arith, append-nil}
use Rattle.std.specs.Prelude.{IsPermutation}
use Rattle.std.specs.Option.{option_eq}
use Rattle.std.specs.List.{filter}
use Rattle.std.proofs.lemmas.Bool.{cases_lt}
use Rattle.std.proofs.lemmas.Bool.Decides.{nat_tests}
use Rattle.std.proofs.lemmas.List.{get_or-map, length-map}
use Rattle.std.proofs.lemmas.List.Elements.{filter-append}
use Rattle.std.proofs.lemmas.List.Sorted.{IsPermutation-refl}
use Rattle.fdb_lines.specs.declared.fault.Found.{Found}
use Rattle.fdb_lines.specs.declared.log.AuditOpts.{AuditOpts}
use Rattle.fdb_lines.specs.Audit.{case_of}
use Rattle.fdb_lines.specs.Carried.{places_where}
use Rattle.fdb_lines.specs.Divided.{faults_apart, faults_by_part, places_in}
use Rattle.fdb_lines.specs.Keys.{case_of_key, faults_by_key, key_at, placed_found, places_below}
use Rattle.fdb_lines.specs.Lines.{Lines, line_at, lines_in, part_of}
use Rattle.fdb_lines.specs.Listing.{faults_of}
use Rattle.fdb_lines.specs.StandByKey.{keys_in}
use Rattle.fdb_lines.specs.ToldByKey.{at_key}
use Rattle.fdb_lines.proofs.Carried.{fewer_are}
use Rattle.fdb_lines.proofs.Gathered.{all_below}
use Rattle.fdb_lines.proofs.Keyed.{same_is}
use Rattle.fdb_lines.proofs.Kept.{kept_of_key}
use Rattle.fdb_lines.proofs.OnceTold.{at_lines, filter_same}
use Rattle.fdb_lines.proofs.Permuted.{filter_mapped, permuted_by_key}
use Rattle.fdb_lines.proofs.StandByKey.{its, many, placed_on, there, there_are, there_within}

-- ---- of the lines of a part, those of a key

none_of : (n : ℕ) (b : Bool) → (b ≡ true → ⊥) → cond {A = List ℕ} b (n ∷ []) [] ≡ []
none_of n true not_so = absurd (not_so refl)
none_of n false not_so = refl

one_kept : (p : ℕ → Bool) (n : ℕ) (t : Bool) → (p n ≡ true → t ≡ true) → filter p (cond t (n ∷ []) []) ≡ cond (p n) (n ∷ []) []
one_kept p n true is = refl
one_kept p n false is = sym (none_of n (p n) (λ so. absurd (true_is (is so))))
  where
    true_is : false ≡ true → ⊥
    true_is e = cc

one_gone : (p : ℕ → Bool) (n : ℕ) (t : Bool) → (p n ≡ true → t ≡ false) → filter p (cond t (n ∷ []) []) ≡ []
one_gone p n true is = none_of n (p n) (λ so. true_is (is so))
  where
    true_is : true ≡ false → ⊥
    true_is e = cc
one_gone p n false is = refl

module _ (rule : Option ℕ → ℕ) (keys : List (Option ℕ)) (q : Option ℕ) where
  abbrev of_key : ℕ → Bool
  of_key k = option_eq ◌==◌ (key_at keys k) q

  abbrev of_part : ℕ → ℕ → Bool
  of_part part k = rule (key_at keys k) == part

  same_part : (n : ℕ) → of_key n ≡ true → rule (key_at keys n) ≡ rule q
  same_part n same = ap rule (same_is (key_at keys n) q same)

  kept_below : (n : ℕ) → filter of_key (places_where (of_part (rule q)) n) ≡ places_below keys q n
  kept_below zero = refl
  kept_below (suc n) =
      filter-append of_key (places_where (of_part (rule q)) n) (cond (of_part (rule q) n) (n ∷ []) [])
      ∙ (λ i. kept_below n i ++ one_kept of_key n (of_part (rule q) n) (λ same. let is = same_part n same in grind (arith, nat_tests, is)) i)

  gone_below : (part n : ℕ) → (part ≡ rule q → ⊥) → filter of_key (places_where (of_part part) n) ≡ []
  gone_below part zero other = refl
  gone_below part (suc n) other =
      filter-append of_key (places_where (of_part part) n) (cond (of_part part n) (n ∷ []) [])
      ∙ (λ i. gone_below part n other i ++ one_gone of_key n (of_part part n) (λ same. differs part n other (same_part n same)) i)
    where
      differs : (part n : ℕ) → (part ≡ rule q → ⊥) → rule (key_at keys n) ≡ rule q → of_part part n ≡ false
      differs part n other is = grind (arith, nat_tests, other, is)

-- ---- what is found of them

module _ (log : Lines) (keys : List (Option ℕ)) (opts : AuditOpts) (q : Option ℕ) where
  -- what is found of the lines at some places as of a key
  abbrev found_at : List ℕ → List Found
  found_at places = map (placed_found places) (faults_of (case_of (part_of log places) opts))

  apart_at : (places : List ℕ) → at_key keys q (faults_apart log keys opts places) ≡ found_at (its keys places q)
  apart_at places =
      filter_mapped (λ (one : Found). option_eq ◌==◌ (key_at keys one.place) q) (placed_found places) found
      ∙ (ap (map (placed_found places)) (filter_same (λ (one : Found). option_eq ◌==◌ (key_at keys (slice_index places one.place)) q) (λ (one : Found). option_eq ◌==◌ (key_at part_keys one.place) q) found
      (λ k d lt.
      let inside = at_lines part part_keys opts (length part.lines) k d lt in
      ap (λ key. option_eq ◌==◌ key q) (sym (get_or-map (key_at keys) places _ 0 None (omega (arith, inside, size)))))
      ∙ kept_of_key part part_keys opts q (many keys places q ∙ sym size))
      ∙ (placed_on places mine (faults_of (case_of_key part part_keys opts q)) (λ k d lt.
      let less = all_below (case_of_key part part_keys opts q) (length (lines_in part.lines mine)) k d lt in
      omega (arith, less, length-map mine (line_at part.lines)))
      ∙ (λ i. map (placed_found (there_are keys places q i)) (faults_of (case_of (record { timed = log.timed; lines = same_lines i }) opts)))))
    where
      part : Lines
      part = part_of log places

      part_keys : List (Option ℕ)
      part_keys = keys_in keys places

      found : List Found
      found = faults_by_key part part_keys opts

      mine : List ℕ
      mine = there keys places q

      size : length part.lines ≡ length places
      size = length-map places (line_at log.lines)

      same_lines : lines_in part.lines mine ≡ lines_in log.lines (its keys places q)
      same_lines =
          fewer_are log.lines places mine (λ i lt. let is = there_within keys places q i lt in omega (arith, size))
          ∙ ap (lines_in log.lines) (there_are keys places q)

  module _ (rule : Option ℕ → ℕ) (as_many : length keys ≡ length log.lines) where
    abbrev whole : List Found
    whole = at_key keys q (faults_by_key log keys opts)

    mine_at : at_key keys q (faults_apart log keys opts (places_in rule keys (rule q))) ≡ whole
    mine_at =
        apart_at (places_in rule keys (rule q))
        ∙ (ap found_at (kept_below rule keys q (length keys)) ∙ sym (kept_of_key log keys opts q as_many))

    none_at : (part : ℕ) → (part ≡ rule q → ⊥) → at_key keys q (faults_apart log keys opts (places_in rule keys part)) ≡ []
    none_at part other = apart_at (places_in rule keys part) ∙ ap found_at (gone_below rule keys q part (length keys) other)

    more : (n : ℕ) → at_key keys q (faults_by_part log keys opts rule (suc n))
        ≡ at_key keys q (faults_by_part log keys opts rule n) ++ at_key keys q (faults_apart log keys opts (places_in rule keys n))
    more n = filter-append (λ (found : Found). option_eq ◌==◌ (key_at keys found.place) q) (faults_by_part log keys opts rule n) (faults_apart log keys opts (places_in rule keys n))

    none_before : (n : ℕ) → n ≤ rule q → at_key keys q (faults_by_part log keys opts rule n) ≡ []
    none_before zero le = refl
    none_before (suc n) le = more n ∙ (λ i. none_before n (omega arith) i ++ none_at n (λ same. absurd (omega arith)) i)

    all_behind : (n : ℕ) → rule q < n → at_key keys q (faults_by_part log keys opts rule n) ≡ whole
    all_behind zero lt = absurd (omega arith)
    all_behind (suc n) lt = elim (cases_lt (rule q) n) [
      | inl less ↦ more n ∙ ((λ i. all_behind n less i ++ none_at n (λ same. absurd (omega arith)) i) ∙ append-nil whole)
      | inr ge ↦
          let here : rule q ≡ n = omega arith in
          more n
          ∙ ((λ i. none_before n (omega arith) i ++ at_key keys q (faults_apart log keys opts (places_in rule keys (sym here i))))
          ∙ ap (λ (found : List Found). [] ++ found) mine_at)
    ]

pub divided : (log : Lines) (keys : List (Option ℕ)) (opts : AuditOpts) (rule : Option ℕ → ℕ) (parts : ℕ) → length keys ≡ length log.lines
    → ((key : Option ℕ) → rule key < parts) → IsPermutation (faults_by_part log keys opts rule parts) (faults_by_key log keys opts)
divided log keys opts rule parts as_many below =
    let them = faults_by_part log keys opts rule parts in
    permuted_by_key (λ (found : Found). key_at keys found.place) (length them) them (faults_by_key log keys opts) (omega arith) (λ q.
    subst (IsPermutation (at_key keys q them)) (all_behind log keys opts q rule as_many parts (below q)) (IsPermutation-refl (at_key keys q them)))
