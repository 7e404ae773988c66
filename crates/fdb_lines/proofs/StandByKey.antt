-- What is told of lines with keys from a moment on, by lines that stand for them, is what is told of them by all.
use Rattle.std.proofs.Common.{◌≡◌, ◌∙◌, ℕ, zero, suc, ◌<◌, ◌≤◌, Bool, true, false, cond, not, List, [], ◌∷◌, ◌++◌, Option, None, Some, length, map, get_or, slice_index, take, refl, ap, sym, subst, arith, add-one}
use Rattle.std.specs.Prelude.{◌==◌, IsPermutation}
use Rattle.std.specs.Option.{option_eq}
use Rattle.std.specs.List.{All, filter}
use Rattle.std.proofs.lemmas.List.{get_or-map, length-map, map-append, map-id, take_all}
use Rattle.std.proofs.lemmas.List.Elements.{All-filter, All-from_get_or, filter_more, filter_passes}
use Rattle.std.proofs.lemmas.List.Sorted.{IsPermutation-refl}
use Rattle.std.proofs.lemmas.Simd.{map-map}
use Rattle.fdb_lines.specs.declared.fault.Found.{Found}
use Rattle.fdb_lines.specs.declared.line.Line.{Line}
use Rattle.fdb_lines.specs.Carried.{with_times}
use Rattle.fdb_lines.specs.KeyParts.{lines_of_one}
use Rattle.fdb_lines.specs.Keys.{faults_by_key, key_at, place_among, placed_found, places_below, places_of}
use Rattle.fdb_lines.specs.Lines.{line_at, lines_in}
use Rattle.fdb_lines.specs.StandByKey.{StandForByKey, audited_from, kept_of, keys_in}
use Rattle.fdb_lines.specs.ToldByKey.{at_key, audited}
use Rattle.fdb_lines.specs.Watching.{begins_before, is_due, is_watched, opts_of, told_of}
use Rattle.fdb_lines.proofs.Carried.{at_part, fewer_are}
use Rattle.fdb_lines.proofs.GoneOn.{any_number, by_part}
use Rattle.fdb_lines.proofs.Keyed.{has_place, place_is, same_is}
use Rattle.fdb_lines.proofs.EntriesTell.{maps_same, placed_twice, told_same, told_there}
use Rattle.fdb_lines.proofs.OnceTold.{at_lines, audited_of, filter_same, filters_swap}
use Rattle.fdb_lines.proofs.Permuted.{filter_mapped, permuted_by_key}
use Rattle.fdb_lines.proofs.Windows.{told_after}

-- ---- of what an audit finds, that of a key from a moment on

pub audited_there : (margin : ℕ) (lines : List Line) (keys : List (Option ℕ)) → All (λ (found : Found). found.place < length lines) (audited margin lines keys)
audited_there margin lines keys =
    All-filter (λ (found : Found). is_watched found.fault) (λ (found : Found). found.place < length lines) (faults_by_key (with_times lines) keys (opts_of margin))
    (at_lines (with_times lines) keys (opts_of margin) (length lines))

pub audited_from_of : (margin from : ℕ) (lines : List Line) (keys : List (Option ℕ)) (q : Option ℕ) → length keys ≡ length lines
    → at_key keys q (audited_from margin from lines keys) ≡ map (placed_found (places_of keys q)) (told_of margin (is_due from from 0 None) (lines_of_one lines keys q))
audited_from_of margin from lines keys q as_many =
    let its = λ (found : Found). option_eq ◌==◌ (key_at keys found.place) q in
    let later = λ (found : Found). not (begins_before (Some from) (line_at lines found.place)) in
    let places = places_of keys q in
    let mine = lines_of_one lines keys q in
    let place = placed_found places in
    let found = told_of margin (is_due 0 0 0 None) mine in
    let size = length-map places (line_at lines) in
    filters_swap its later (audited margin lines keys)
    ∙ (ap (filter later) (audited_of margin lines keys q as_many)
    ∙ (filter_mapped later place found
    ∙ (ap (map place) (filter_same (λ (one : Found). later (place one)) (λ (one : Found). not (begins_before (Some from) (line_at mine one.place))) found (λ k d lt.
    let there = told_there margin (is_due 0 0 0 None) mine k d lt in
    ap (λ line. not (begins_before (Some from) line)) (sym (at_part lines places _ (omega (arith, there, size))))))
    ∙ ap (map place) (sym (told_after margin 0 0 0 from from None mine (omega arith))
    ∙ sym (told_same margin (is_due from from 0 None) (is_due from from (length mine) None) mine (λ k lt. any_number from k (length mine) (line_at mine k)))))))

-- ---- the lines of a key among those at some places

pub one_if : (f : ℕ → ℕ) (b : Bool) (n : ℕ) → map f (cond b (n ∷ []) []) ≡ cond b (f n ∷ []) []
one_if f true n = refl
one_if f false n = refl

module _ (keys : List (Option ℕ)) (places : List ℕ) (q : Option ℕ) where
  abbrev pub is_its : ℕ → Bool
  is_its k = option_eq ◌==◌ (key_at keys k) q

  abbrev pub its : List ℕ
  its = filter is_its places

  abbrev pub there : List ℕ
  there = places_of (keys_in keys places) q

  below_are : (n : ℕ) → n ≤ length places → map (slice_index places) (places_below (keys_in keys places) q n) ≡ filter is_its (take n places)
  below_are zero le = refl
  below_are (suc n) le =
      map-append (slice_index places) (places_below (keys_in keys places) q n) (cond (option_eq ◌==◌ (key_at (keys_in keys places) n) q) (n ∷ []) [])
      ∙ (ap (λ (ps : List ℕ). ps ++ map (slice_index places) (cond (option_eq ◌==◌ (key_at (keys_in keys places) n) q) (n ∷ []) [])) (below_are n (omega arith))
      ∙ (ap (λ (ps : List ℕ). filter is_its (take n places) ++ ps)
      (ap (λ key. map (slice_index places) (cond (option_eq ◌==◌ key q) (n ∷ []) [])) (get_or-map (key_at keys) places n 0 None (omega arith))
      ∙ one_if (slice_index places) (is_its (slice_index places n)) n)
      ∙ (sym (filter_more is_its places n 0 (omega arith)) ∙ ap (λ m. filter is_its (take m places)) (add-one n))))

  pub many : length (keys_in keys places) ≡ length places
  many = length-map places (key_at keys)

  pub there_are : map (slice_index places) there ≡ its
  there_are =
      ap (λ n. map (slice_index places) (places_below (keys_in keys places) q n)) many
      ∙ (below_are (length places) (omega arith) ∙ ap (filter is_its) (take_all (length places) places (omega arith)))

  pub there_within : (i : ℕ) → i < length there → slice_index there i < length places
  there_within i lt = let is = (place_is (keys_in keys places) q (length (keys_in keys places)) i lt).0 in omega (arith, many)

  module _ (within : All (λ k. k < length keys) places) where
    -- each stands where it is said to
    pub kept_are : map (slice_index (places_of keys q)) (kept_of keys places q) ≡ its
    kept_are =
        map-map (slice_index (places_of keys q)) (place_among keys) its
        ∙ (maps_same (λ k. slice_index (places_of keys q) (place_among keys k)) (λ (k : ℕ). k) its (λ i d lt.
        let k = get_or its i d in
        let same = filter_passes is_its places i d lt in
        let low = All-filter is_its (λ k. k < length keys) places within i d lt in
        ap (λ key. slice_index (places_of keys q) (length (places_below keys key k))) (same_is (key_at keys k) q same) ∙ (has_place keys q (length keys) k same low).1)
        ∙ map-id its)

-- ---- what they tell, told at the places of all

pub placed_on : (mine numbers : List ℕ) (found : List Found) → All (λ (one : Found). one.place < length numbers) found
    → map (placed_found mine) (map (placed_found numbers) found) ≡ map (placed_found (map (slice_index mine) numbers)) found
placed_on mine numbers found within =
    map-map (placed_found mine) (placed_found numbers) found
    ∙ maps_same (λ one. placed_found mine (placed_found numbers one)) (placed_found (map (slice_index mine) numbers)) found (λ k d lt. sym (placed_twice mine numbers _ (within k d lt)))

module _ (margin at from : ℕ) (lines : List Line) (keys : List (Option ℕ)) (places : List ℕ) (le : at ≤ from) (stand : StandForByKey margin at lines keys places) where
  abbrev part : List Line
  part = lines_in lines places

  abbrev part_keys : List (Option ℕ)
  part_keys = keys_in keys places

  abbrev due : ℕ → Line → Bool
  due = is_due from from 0 None

  low : All (λ k. k < length keys) places
  low = All-from_get_or (λ k. k < length keys) places 0 (λ i lt. let is = stand.within i lt in let size = stand.as_many in omega arith)

  part_many : length part_keys ≡ length part
  part_many = many keys places None ∙ sym (length-map places (line_at lines))

  module _ (q : Option ℕ) where
    abbrev kept : List ℕ
    kept = kept_of keys places q

    same_lines : lines_of_one part part_keys q ≡ lines_in (lines_of_one lines keys q) kept
    same_lines =
        fewer_are lines places (there keys places q) (λ i lt. let is = there_within keys places q i lt in omega (arith, length-map places (line_at lines)))
        ∙ (ap (lines_in lines) (there_are keys places q ∙ sym (kept_are keys places q low))
        ∙ sym (fewer_are lines (places_of keys q) kept (stand.each q).within))

    told_kept : All (λ (one : Found). one.place < length kept) (told_of margin due (lines_of_one part part_keys q))
    told_kept = λ k d lt.
        let is = told_there margin due (lines_of_one part part_keys q) k d lt in
        omega (arith, is, ap length same_lines, length-map kept (line_at (lines_of_one lines keys q)))

    told_part : All (λ (one : Found). one.place < length (there keys places q)) (told_of margin due (lines_of_one part part_keys q))
    told_part = λ k d lt.
        let is = told_there margin due (lines_of_one part part_keys q) k d lt in
        omega (arith, is, length-map (there keys places q) (line_at part))

    by_all : at_key keys q (audited_from margin from lines keys) ≡ map (placed_found (its keys places q)) (told_of margin due (lines_of_one part part_keys q))
    by_all =
        audited_from_of margin from lines keys q stand.as_many
        ∙ (ap (map (placed_found (places_of keys q))) (sym (by_part margin at from (lines_of_one lines keys q) kept le (stand.each q))
        ∙ ap (λ (ls : List Line). map (placed_found kept) (told_of margin due ls)) (sym same_lines))
        ∙ (placed_on (places_of keys q) kept (told_of margin due (lines_of_one part part_keys q)) told_kept
        ∙ ap (λ (ps : List ℕ). map (placed_found ps) (told_of margin due (lines_of_one part part_keys q))) (kept_are keys places q low)))

    by_them : at_key keys q (map (placed_found places) (audited_from margin from part part_keys)) ≡ map (placed_found (its keys places q)) (told_of margin due (lines_of_one part part_keys q))
    by_them =
        let found = audited_from margin from part part_keys in
        filter_mapped (λ (one : Found). option_eq ◌==◌ (key_at keys one.place) q) (placed_found places) found
        ∙ (ap (map (placed_found places)) (filter_same (λ (one : Found). option_eq ◌==◌ (key_at keys (slice_index places one.place)) q) (λ (one : Found). option_eq ◌==◌ (key_at part_keys one.place) q) found
        (λ k d lt.
        let is = All-filter (λ (found : Found). not (begins_before (Some from) (line_at part found.place))) (λ (found : Found). found.place < length part) (audited margin part part_keys) (audited_there margin part part_keys) k d lt in
        ap (λ key. option_eq ◌==◌ key q) (sym (get_or-map (key_at keys) places _ 0 None (omega (arith, is, length-map places (line_at lines))))))
        ∙ audited_from_of margin from part part_keys q part_many)
        ∙ (placed_on places (there keys places q) (told_of margin due (lines_of_one part part_keys q)) told_part
        ∙ ap (λ (ps : List ℕ). map (placed_found ps) (told_of margin due (lines_of_one part part_keys q))) (there_are keys places q)))

  pub told_by_key : IsPermutation (audited_from margin from lines keys) (map (placed_found places) (audited_from margin from part part_keys))
  told_by_key =
      let all = audited_from margin from lines keys in
      let them = map (placed_found places) (audited_from margin from part part_keys) in
      permuted_by_key (λ (found : Found). key_at keys found.place) (length all) all them (omega arith) (λ q.
      subst (IsPermutation (at_key keys q all)) (by_all q ∙ sym (by_them q)) (IsPermutation-refl (at_key keys q all)))
