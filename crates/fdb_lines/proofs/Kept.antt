-- The faults at the lines of one key, among those of the whole log.
use Rattle.std.specs.Prelude.{◌==◌}
use Rattle.std.specs.Option.{option_eq}
use Rattle.std.proofs.Common.{◌≡◌, ℕ, zero, suc, ◌<◌, ◌≤◌, Bool, true, false, cond, List, [], ◌∷◌, ◌++◌, Option, length, map, slice_index, refl, ap, sym, ◌∙◌, arith, add-one, append-nil}
use Rattle.std.specs.List.{All, filter}
use Rattle.std.proofs.lemmas.List.{length_push, map-append}
use Rattle.std.proofs.lemmas.List.Elements.{All-head, All-tail, filter-append}
use Rattle.fdb_lines.specs.declared.fault.Found.{Found}
use Rattle.fdb_lines.specs.declared.log.AuditOpts.{AuditOpts}
use Rattle.fdb_lines.specs.Keys.{case_of_key, faults_at_by_key, faults_below_by_key, faults_by_key, key_at, place_among, placed_found, places_below, places_of, told_at}
use Rattle.fdb_lines.specs.Lines.{Lines, line_at}
use Rattle.fdb_lines.specs.Listing.{faults_at, faults_below, faults_of}
use Rattle.std.proofs.lemmas.List.{length-map}
use Rattle.fdb_lines.proofs.Keyed.{has_place, same_is}
use Rattle.fdb_lines.proofs.Merged.{all_there}

-- all are kept, or none
kept : (test : Found → Bool) (k : ℕ) (b : Bool) → ((found : Found) → test (told_at k found) ≡ b) → (xs : List Found)
    → filter test (map (told_at k) xs) ≡ cond b (map (told_at k) xs) []
kept test k true is [] = refl
kept test k false is [] = refl
kept test k true is (x ∷ xs) = rw (is x) (ap (λ (zs : List Found). told_at k x ∷ zs) (kept test k true is xs))
kept test k false is (x ∷ xs) = rw (is x) (kept test k false is xs)

-- faults that all stand at one line are told at its place
placed_told : (places : List ℕ) (k j : ℕ) → slice_index places j ≡ k → (xs : List Found) → All (λ (found : Found). found.place ≡ j) xs
    → map (placed_found places) xs ≡ map (told_at k) xs
placed_told places k j at [] all = refl
placed_told places k j at (x ∷ xs) all =
    let line : slice_index places x.place ≡ k = ap (slice_index places) (All-head (λ (found : Found). found.place ≡ j) x xs all) ∙ at in
    rw line (ap (λ (zs : List Found). told_at k x ∷ zs) (placed_told places k j at xs (All-tail (λ (found : Found). found.place ≡ j) x xs all)))

abbrev Tests : List (Option ℕ) → Option ℕ → Found → Bool
Tests keys key found = option_eq ◌==◌ (key_at keys found.place) key

-- one line more
line_more : (log : Lines) (keys : List (Option ℕ)) (opts : AuditOpts) (key : Option ℕ) (n : ℕ) (b : Bool) → n < length keys → option_eq ◌==◌ (key_at keys n) key ≡ b
    → filter (Tests keys key) (faults_below_by_key log keys opts n) ≡ map (placed_found (places_of keys key)) (faults_below (case_of_key log keys opts key) (length (places_below keys key n)))
    → filter (Tests keys key) (faults_below_by_key log keys opts n) ++ filter (Tests keys key) (faults_at_by_key log keys opts n)
    ≡ map (placed_found (places_of keys key)) (faults_below (case_of_key log keys opts key) (length (places_below keys key n ++ cond b (n ∷ []) [])))
line_more log keys opts key n false lt same below =
    rw (append-nil {A = ℕ}, kept (Tests keys key) n false (λ found. same) (faults_at (case_of_key log keys opts (key_at keys n)) (place_among keys n)), append-nil {A = Found}) below
line_more log keys opts key n true lt same below =
    let c = case_of_key log keys opts key in
    let places = places_of keys key in
    let j = length (places_below keys key n) in
    let is : key_at keys n ≡ key = same_is _ _ same in
    let has = has_place keys key (length keys) n same lt in
    let here : faults_at_by_key log keys opts n ≡ map (told_at n) (faults_at c j) =
    ap (λ q. map (told_at n) (faults_at (case_of_key log keys opts q) (length (places_below keys q n)))) is in
    let size : length (places_below keys key n ++ n ∷ []) ≡ suc j = length_push (places_below keys key n) n ∙ add-one j in
    ap (λ (zs : List Found). filter (Tests keys key) (faults_below_by_key log keys opts n) ++ zs)
    (kept (Tests keys key) n true (λ found. same) (faults_at (case_of_key log keys opts (key_at keys n)) (place_among keys n)) ∙ here)
    ∙ (ap (λ (zs : List Found). zs ++ map (told_at n) (faults_at c j)) below
    ∙ (ap (λ (zs : List Found). map (placed_found places) (faults_below c j) ++ zs) (sym (placed_told places n j has.1 (faults_at c j) (all_there c j)))
    ∙ (sym (map-append (placed_found places) (faults_below c j) (faults_at c j))
    ∙ ap (λ m. map (placed_found places) (faults_below c m)) (sym size))))

kept_below : (log : Lines) (keys : List (Option ℕ)) (opts : AuditOpts) (key : Option ℕ) (n : ℕ) → n ≤ length keys
    → filter (Tests keys key) (faults_below_by_key log keys opts n) ≡ map (placed_found (places_of keys key)) (faults_below (case_of_key log keys opts key) (length (places_below keys key n)))
kept_below log keys opts key zero le = refl
kept_below log keys opts key (suc n) le =
    filter-append (Tests keys key) (faults_below_by_key log keys opts n) (faults_at_by_key log keys opts n)
    ∙ line_more log keys opts key n (option_eq ◌==◌ (key_at keys n) key) (omega arith) refl (kept_below log keys opts key n (omega arith))

pub kept_of_key : (log : Lines) (keys : List (Option ℕ)) (opts : AuditOpts) (key : Option ℕ) → length keys ≡ length log.lines
    → filter (λ (found : Found). option_eq ◌==◌ (key_at keys found.place) key) (faults_by_key log keys opts) ≡ map (placed_found (places_of keys key)) (faults_of (case_of_key log keys opts key))
kept_of_key log keys opts key as_many =
    ap (λ n. filter (Tests keys key) (faults_below_by_key log keys opts n)) (sym as_many)
    ∙ (kept_below log keys opts key (length keys) (omega arith)
    ∙ ap (λ n. map (placed_found (places_of keys key)) (faults_below (case_of_key log keys opts key) n)) (sym (length-map (places_of keys key) (line_at log.lines))))
