-- Of lines that had come when a watch settled, and of which one has ended, one that has ended is kept.
use Rattle.std.specs.Prelude.{◌==◌}
use Rattle.std.specs.Option.{option_eq}
use Rattle.std.proofs.Common.{◌≡◌, ◌∙◌, ℕ, zero, suc, ◌+◌, ◌<◌, ◌≤◌, inl, inr, Bool, true, false, cond, List, [], ◌∷◌, Option, None, Some, IfSome, IsTrue, ap, arith, length, max, refl, slice_index, subst, sym, unwrap_or}
use Rattle.std.specs.List.{All, filter}
use Rattle.std.proofs.lemmas.Bool.{cases_lt, false≢true}
use Rattle.std.proofs.lemmas.Bool.Decides.{nat_tests}
use Rattle.std.proofs.lemmas.List.{get_or-map, length-map}
use Rattle.std.proofs.lemmas.List.Elements.{All-filter, All-from_get_or, filter_passes}
use Rattle.std.proofs.lemmas.Option.{none-some}
use Rattle.fdb_lines.specs.declared.line.Line.{Line}
use Rattle.fdb_lines.specs.declared.line.Times.{Times}
use Rattle.fdb_lines.specs.Before.{began, began_of, ended, ended_of}
use Rattle.fdb_lines.specs.Carried.{is_past, past_by}
use Rattle.fdb_lines.specs.KeyParts.{lines_of_one}
use Rattle.fdb_lines.specs.Keys.{key_at, place_among, places_below, places_of}
use Rattle.fdb_lines.specs.Lines.{kind_of, line_at}
use Rattle.fdb_lines.specs.Reasons.{shows_or_draws}
use Rattle.fdb_lines.specs.StandByKey.{StandForByKey, kept_of}
use Rattle.fdb_audit.specs.Clocks.{newest_end}
use Rattle.fdb_audit.proofs.KeyPlaces.{at_part, has_place, same_is, same_self}

-- ---- when lines have ended

abbrev pub HasEnded : Line → Type 0
HasEnded line = (end : ℕ) × (ended line ≡ Some end)

end_in_order : (times : Option Times) (end : ℕ) → ended_of times ≡ Some end → began_of times ≤ end
end_in_order None end is = absurd (none-some end is)
end_in_order (Some times) end is = subst (λ (ended : Option ℕ). IfSome ended (λ end. times.began ≤ end)) is times.in_order

past_end : (margin at : ℕ) (ended : Option ℕ) → IsTrue (past_by margin at ended) → (end : ℕ) × (ended ≡ Some end) × (end < at)
past_end margin at None past = absurd (false≢true past)
past_end margin at (Some end) past = (end, refl, (let lt : end + margin < at = grind (arith, nat_tests) in omega (arith, lt)))

-- where the newest end of some lines is known, one of them has ended
ended_where : (newest : ℕ) (line : Line) (lines : List Line) (end : Option ℕ) → ended line ≡ end
    → (newest < newest_end newest lines → (j : ℕ) × (j < length lines) × HasEnded (line_at lines j))
    → newest < newest_end (max newest (unwrap_or end 0)) lines → (j : ℕ) × (j < length (line ∷ lines)) × HasEnded (line_at (line ∷ lines) j)
ended_where newest line lines None is rest later =
    let same : max newest 0 ≡ newest = omega arith in
    let (j, lt, has) = rest (subst (λ n. newest < newest_end n lines) same later) in
    (suc j, (omega (arith, lt)), has)
ended_where newest line lines (Some end) is rest later = (zero, (omega arith), (end, is))

pub one_ended : (newest : ℕ) (lines : List Line) → newest < newest_end newest lines → (j : ℕ) × (j < length lines) × HasEnded (line_at lines j)
one_ended newest [] later = absurd (omega (arith, later))
one_ended newest (line ∷ lines) later = ended_where newest line lines (ended line) refl (one_ended newest lines) later

-- ---- what passes a test stands among all

pub in_filter : (test : ℕ → Bool) (xs : List ℕ) (i : ℕ) → i < length (filter test xs) → (j : ℕ) × (j < length xs) × (slice_index xs j ≡ slice_index (filter test xs) i)
in_filter test [] i lt = absurd (omega (arith, lt))
in_filter test (x ∷ xs) i lt = by (test x) (in_filter test xs) i lt
  where
    by : (b : Bool) → ((i : ℕ) → i < length (filter test xs) → (j : ℕ) × (j < length xs) × (slice_index xs j ≡ slice_index (filter test xs) i))
        → (i : ℕ) → i < length (cond b (x ∷ filter test xs) (filter test xs))
        → (j : ℕ) × (j < length (x ∷ xs)) × (slice_index (x ∷ xs) j ≡ slice_index (cond b (x ∷ filter test xs) (filter test xs)) i)
    by true rest zero lt = (zero, (omega arith), refl)
    by true rest (suc i) lt = let (j, less, is) = rest i (omega (arith, lt)) in (suc j, (omega (arith, less)), is)
    by false rest i lt = let (j, less, is) = rest i lt in (suc j, (omega (arith, less)), is)

-- ---- one that has ended is kept

-- at one of these places stands a line that has ended, of those that had come
abbrev pub KeepsEnded : ℕ → List Line → List ℕ → Type 0
KeepsEnded come lines places = (i : ℕ) × (i < length places) × (slice_index places i < come) × HasEnded (line_at lines (slice_index places i))

module _ (margin at from come : ℕ) (lines : List Line) (keys : List (Option ℕ)) (places : List ℕ) (low : at ≤ from) (stand : StandForByKey margin at lines keys places)
    (calls : (j : ℕ) → j < length lines → IsTrue (shows_or_draws (kind_of (line_at lines j).call)))
    (timely : (j : ℕ) → come ≤ j → j < length lines → from ≤ began (line_at lines j)) where
  inside : All (λ k. k < length keys) places
  inside = All-from_get_or (λ k. k < length keys) places 0 (λ i lt. let is = stand.within i lt in let size = stand.as_many in omega (arith, is, size))

  module _ (key : Option ℕ) where
    abbrev its : List ℕ
    its = filter (λ k. option_eq ◌==◌ (key_at keys k) key) places

    abbrev kept : List ℕ
    kept = kept_of keys places key

    abbrev mine : List Line
    mine = lines_of_one lines keys key

    kept_count : length kept ≡ length its
    kept_count = length-map its (place_among keys)

    place_there : (i : ℕ) → i < length kept → slice_index (places_of keys key) (slice_index kept i) ≡ slice_index its i
    place_there i lt =
        let size = kept_count in
        let place = slice_index its i in
        let within : i < length its = omega (arith, lt, size) in
        let same = filter_passes (λ k. option_eq ◌==◌ (key_at keys k) key) places i 0 within in
        let low = All-filter (λ k. option_eq ◌==◌ (key_at keys k) key) (λ k. k < length keys) places inside i 0 within in
        ap (slice_index (places_of keys key))
        (get_or-map (place_among keys) its i 0 0 within ∙ ap (λ key. length (places_below keys key place)) (same_is (key_at keys place) key same))
        ∙ (has_place keys key (length keys) place same low).1

    line_there : (i : ℕ) → i < length kept → line_at mine (slice_index kept i) ≡ line_at lines (slice_index its i)
    line_there i lt =
        let within = (stand.each key).within i lt in
        let size = length-map (places_of keys key) (line_at lines) in
        at_part lines (places_of keys key) (slice_index kept i) (omega (arith, within, size)) ∙ ap (line_at lines) (place_there i lt)

    -- by the place of a line among those that are kept of its key
    found : (i j : ℕ) → i < length kept → slice_index its i ≡ j → j < come → HasEnded (line_at lines j) → KeepsEnded come lines places
    found i j lt is before (end, has) =
        let size = kept_count in
        let (k, less, same) = in_filter (λ k. option_eq ◌==◌ (key_at keys k) key) places i (omega (arith, lt, size)) in
        let at = same ∙ is in
        (k, less, (omega (arith, at, before)), (end, ap (λ n. ended (line_at lines n)) at ∙ has))

    -- and by a line that is kept of the key and was past
    past : (i : ℕ) → i < length kept → IsTrue (is_past margin at (line_at mine (slice_index kept i))) → KeepsEnded come lines places
    past i lt is =
        let (end, has, before) = past_end margin at (ended (line_at mine (slice_index kept i))) is in
        let place = slice_index its i in
        let has_too = ap ended (sym (line_there i lt)) ∙ has in
        let order = end_in_order (line_at lines place).times end has_too in
        let size = kept_count in
        let (k, less, same) = in_filter (λ k. option_eq ◌==◌ (key_at keys k) key) places i (omega (arith, lt, size)) in
        let within = stand.within k less in
        let old : place < come = elim (cases_lt place come) [
          | inl lt ↦ lt
          | inr ge ↦ let late = timely place ge (omega (arith, within, same)) in absurd (omega (arith, late, order, before, low))
        ] in
        found i place lt refl old (end, has_too)

  pub one_kept : (j : ℕ) → j < length lines → j < come → HasEnded (line_at lines j) → KeepsEnded come lines places
  one_kept j lt before (end, has) =
      let key = key_at keys j in
      let size = stand.as_many in
      let (within, is) = has_place keys key (length keys) j (same_self key) (omega (arith, lt, size)) in
      let q = place_among keys j in
      let all = length-map (places_of keys key) (line_at lines) in
      let line : line_at (lines_of_one lines keys key) q ≡ line_at lines j = at_part lines (places_of keys key) q within ∙ ap (line_at lines) is in
      elim ((stand.each key).rest q (omega (arith, within, all))) [
        | inl (i, less, same) ↦ found key i j less (sym (place_there key i less) ∙ (ap (slice_index (places_of keys key)) same ∙ is)) before (end, has)
        | inr go ↦ elim go.nothing_new [
          | inl none ↦ absurd (none-some end (sym none ∙ (ap ended line ∙ has)))
          | inr (shown, known) ↦
              let (i, less, was, lets, newer) = known (subst (λ (line : Line). IsTrue (shows_or_draws (kind_of line.call))) (sym line) (calls j lt)) in
              let count = length-map (kept_of keys places key) (line_at (lines_of_one lines keys key)) in
              let inside_too : i < length (kept_of keys places key) = omega (arith, less, count) in
              past key i inside_too (subst (λ (line : Line). IsTrue (is_past margin at line)) (at_part (lines_of_one lines keys key) (kept_of keys places key) i inside_too) was)
        ]
      ]
