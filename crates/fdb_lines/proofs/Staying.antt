-- The lines that are kept stand for all.
use Rattle.std.proofs.Common.{◌≡◌, ◌⊎◌, ℕ, zero, suc, ◌+◌, ◌<◌, ◌≤◌, nat_lt, Bool, true, false, cond, ◌&&◌, ◌||◌, List, [], ◌∷◌, ◌++◌, Option, None, Some, length, slice_index, refl, ap, sym, ◌∙◌, inl, inr, arith, append-nil, length-append}
use Rattle.std.proofs.lemmas.Bool.{and_from, and_parts, both_ways, cases_lt, cases_Bool}
use Rattle.std.proofs.lemmas.Bool.Decides.{nat_tests}
use Rattle.std.proofs.lemmas.List.{get_or_append_left, get_or_push, length-map}
use Rattle.fdb_lines.specs.declared.line.Line.{Line}
use Rattle.fdb_lines.specs.Before.{ended}
use Rattle.fdb_lines.specs.Carried.{ends_later, is_open, is_past, open_count, places_where, IsAmong, IsCovered, MayGo, StandFor}
use Rattle.fdb_lines.specs.Lines.{draws, kind_of, line_at, shows, version_of, lines_in}
use Rattle.fdb_lines.specs.Reasons.{shows_or_draws}
use Rattle.fdb_lines.specs.private.Entries.{IsNewest}
use Rattle.fdb_lines.specs.private.Known.{version_in}
use Rattle.fdb_lines.specs.private.Standing.{counts_past, is_above, is_at, is_kept, lets_of}
use Rattle.fdb_lines.proofs.Carried.{at_part}

-- ---- the places where a test holds

-- one place more, if it passes
are_more : (test : ℕ → Bool) (n : ℕ) (b : Bool) → ((i : ℕ) → i < length (places_where test n) → slice_index (places_where test n) i < n)
    → (i : ℕ) → i < length (places_where test n ++ cond b (n ∷ []) []) → slice_index (places_where test n ++ cond b (n ∷ []) []) i < suc n
are_more test n false are i lt = rw append-nil (let below = are i (rw append-nil at lt) in omega arith)
are_more test n true are i lt =
    elim (cases_lt i (length (places_where test n))) [
      | inl old ↦ rw (get_or_append_left (places_where test n) (n ∷ []) 0 i old) (let below = are i old in omega arith)
      | inr ge ↦ rw (get_or_push (places_where test n) n 0 i (omega (arith, length-append (places_where test n) (n ∷ [])))) (omega arith)
    ]

places_are : (test : ℕ → Bool) (n : ℕ) → (i : ℕ) → i < length (places_where test n) → slice_index (places_where test n) i < n
places_are test zero i lt = absurd (omega arith)
places_are test (suc n) i lt = are_more test n (test n) (places_are test n) i lt

rise_more : (test : ℕ → Bool) (n : ℕ) (b : Bool) → ((i j : ℕ) → i < j → j < length (places_where test n) → slice_index (places_where test n) i < slice_index (places_where test n) j)
    → (i j : ℕ) → i < j → j < length (places_where test n ++ cond b (n ∷ []) []) → slice_index (places_where test n ++ cond b (n ∷ []) []) i < slice_index (places_where test n ++ cond b (n ∷ []) []) j
rise_more test n false rise i j less lt = rw append-nil (rise i j less (rw append-nil at lt))
rise_more test n true rise i j less lt =
    elim (cases_lt j (length (places_where test n))) [
      | inl old ↦ rw (get_or_append_left (places_where test n) (n ∷ []) 0 i (omega arith), get_or_append_left (places_where test n) (n ∷ []) 0 j old) (rise i j less old)
      | inr ge ↦
          let last : length (places_where test n) ≡ j = omega (arith, length-append (places_where test n) (n ∷ [])) in
          rw (get_or_append_left (places_where test n) (n ∷ []) 0 i (omega arith), get_or_push (places_where test n) n 0 j last) (places_are test n i (omega arith))
    ]

places_rise : (test : ℕ → Bool) (n : ℕ) → (i j : ℕ) → i < j → j < length (places_where test n) → slice_index (places_where test n) i < slice_index (places_where test n) j
places_rise test zero i j less lt = absurd (omega arith)
places_rise test (suc n) i j less lt = rise_more test n (test n) (places_rise test n) i j less lt

place_more : (test : ℕ → Bool) (n j : ℕ) (b : Bool) → test n ≡ b → test j ≡ true → j < suc n → (j < n → IsAmong (places_where test n) j) → IsAmong (places_where test n ++ cond b (n ∷ []) []) j
place_more test n j b here is lt before =
    elim (cases_lt j n) [
      | inl old ↦
          let among = before old in
          let inside = among.1 in
          (among.0, omega (arith, length-append (places_where test n) (cond b (n ∷ []) [])), get_or_append_left (places_where test n) (cond b (n ∷ []) []) 0 among.0 inside ∙ among.2)
      | inr ge ↦
          let same : n ≡ j = omega arith in
          let passes : b ≡ true = sym here ∙ (ap test same ∙ is) in
          rw passes (length (places_where test n), omega (arith, length-append (places_where test n) (n ∷ [])), get_or_push (places_where test n) n 0 _ refl ∙ same)
    ]

pub place_of : (test : ℕ → Bool) (n j : ℕ) → j < n → test j ≡ true → IsAmong (places_where test n) j
place_of test zero j lt is = absurd (omega arith)
place_of test (suc n) j lt is = place_more test n j (test n) refl is lt (λ old. place_of test n j old is)

size_more : (test : ℕ → Bool) (n : ℕ) → length (places_where test (suc n)) ≡ length (places_where test n) + cond (test n) 1 0
size_more test n = by (test n)
  where
    by : (b : Bool) → length (places_where test n ++ cond b (n ∷ []) []) ≡ length (places_where test n) + cond b 1 0
    by true = length-append (places_where test n) (n ∷ [])
    by false = length-append {A = ℕ} (places_where test n) []

one_counts : (k n : ℕ) → length (places_where (is_at (Some k)) n) ≡ cond (nat_lt k n) 1 0
one_counts k zero = grind (arith, nat_tests)
one_counts k (suc n) = let more = size_more (is_at (Some k)) n in let rest = one_counts k n in grind (arith, nat_tests)

at_most_one : (o : Option ℕ) (n : ℕ) → length (places_where (is_at o) n) ≤ 1
at_most_one None zero = omega arith
at_most_one None (suc n) = let more = size_more (is_at None) n in let rest = at_most_one None n in omega arith
at_most_one (Some k) n = let h = one_counts k n in grind (arith, nat_tests)

sizes : (test one two three : ℕ → Bool) (n : ℕ) → ((j : ℕ) → test j ≡ true → (one j || (two j || three j)) ≡ true)
    → length (places_where test n) ≤ length (places_where one n) + length (places_where two n) + length (places_where three n)
sizes test one two three zero h = omega arith
sizes test one two three (suc n) h =
    let rest = sizes test one two three n h in
    let a = size_more test n in
    let b = size_more one n in
    let d = size_more two n in
    let e = size_more three n in
    let here = h n in
    grind arith

-- ---- the newest of the past

pub newest_more : (test : ℕ → Bool) (lines : List Line) (n : ℕ) (o : Option ℕ) (b : Bool) → (test n && is_above lines (version_in lines n) o) ≡ b → IsNewest test (version_in lines) n o
    → IsNewest test (version_in lines) (n + 1) (cond b (Some n) o)
newest_more test lines n o true is so =
    let parts = and_parts (test n) (is_above lines (version_in lines n) o) is in (
      omega arith,
      parts.0,
      λ j lt passes. elim (cases_lt j n) [
        | inl old ↦ below o so parts.1 j old passes
        | inr ge ↦ let same = ap (version_in lines) (let at : j ≡ n = omega arith in at) in omega arith
      ],
    )
  where
    below : (o : Option ℕ) → IsNewest test (version_in lines) n o → is_above lines (version_in lines n) o ≡ true → (j : ℕ) → j < n → test j ≡ true → version_in lines j ≤ version_in lines n
    below None none above j lt passes = absurd (both_ways _ (none j lt) passes)
    below (Some k) so above j lt passes = let most = so.2 j lt passes in grind (arith, nat_tests)
newest_more test lines n None false is none = λ j lt. elim (cases_lt j n) [
  | inl old ↦ none j old
  | inr ge ↦ let same : j ≡ n = omega arith in ap test same ∙ grind arith
]
newest_more test lines n (Some k) false is so = (
  let inside = so.0 in omega arith,
  so.1,
  λ j lt passes. elim (cases_lt j n) [
    | inl old ↦ so.2 j old passes
    | inr ge ↦
        let same : j ≡ n = omega arith in
        let version = ap (version_in lines) same in
        let here : test n ≡ true = sym (ap test same) ∙ passes in
        grind (arith, nat_tests)
  ],
)

-- ---- what is kept

module _ (margin at : ℕ) (lines : List Line) (shown known : Option ℕ) (newest_shown : IsNewest (counts_past margin at false lines) (version_in lines) (length lines) shown)
    (newest_known : IsNewest (counts_past margin at true lines) (version_in lines) (length lines) known) where
  abbrev kept : ℕ → Bool
  kept = is_kept margin at lines shown known

  abbrev places : List ℕ
  places = places_where kept (length lines)

  -- one of the newest is kept, and covers what is not newer
  covers : (drawn : Bool) (line : Line) (s : ℕ) → s < length lines → counts_past margin at drawn lines s ≡ true → kept s ≡ true → version_of line.call ≤ version_in lines s
      → IsCovered margin at (lets_of drawn) (lines_in lines places) line
  covers drawn line s ls is keeps most does =
      let among = place_of kept (length lines) s ls keeps in
      let same = at_part lines places among.0 among.1 ∙ ap (line_at lines) among.2 in
      let parts = and_parts (is_past margin at (line_at lines s)) (lets_of drawn (kind_of (line_at lines s).call)) is in
      let inside = among.1 in
      let past : is_past margin at (line_at (lines_in lines places) among.0) ≡ true = rw same parts.0 in
      let lets : lets_of drawn (kind_of (line_at (lines_in lines places) among.0).call) ≡ true = rw same parts.1 in
      let less : version_of line.call ≤ version_of (line_at (lines_in lines places) among.0).call = rw same most in
      (among.0, omega (arith, length-map places (line_at lines)), past, lets, less)

  not_above : (drawn : Bool) (newest : Option ℕ) → IsNewest (counts_past margin at drawn lines) (version_in lines) (length lines) newest → ((s : ℕ) → newest ≡ Some s → kept s ≡ true)
      → (line : Line) → is_above lines (version_of line.call) newest ≡ false → IsCovered margin at (lets_of drawn) (lines_in lines places) line
  not_above drawn None is keeps line below = absurd (both_ways true below refl)
  not_above drawn (Some s) is keeps line below = covers drawn line s is.0 is.1 (keeps s refl) (grind (arith, nat_tests))

  past_covered : (drawn : Bool) (newest : Option ℕ) → IsNewest (counts_past margin at drawn lines) (version_in lines) (length lines) newest → ((s : ℕ) → newest ≡ Some s → kept s ≡ true)
      → (j : ℕ) → j < length lines → is_past margin at (line_at lines j) ≡ true → IsCovered margin at (lets_of drawn) (lines_in lines places) (line_at lines j)
  past_covered drawn None is keeps j lj past does = absurd (both_ways _ (is j lj) (and_from _ _ past does))
  past_covered drawn (Some s) is keeps j lj past does = covers drawn (line_at lines j) s is.0 is.1 (keeps s refl) (is.2 j lj (and_from _ _ past does)) does

  keeps_shown : (s : ℕ) → shown ≡ Some s → kept s ≡ true
  keeps_shown s is = rw is (grind (arith, nat_tests))

  keeps_known : (s : ℕ) → known ≡ Some s → kept s ≡ true
  keeps_known s is = rw is (grind (arith, nat_tests))

  -- what shows a version lets it be known
  shown_covered : (line : Line) → shows (kind_of line.call) ≡ true → is_above lines (version_of line.call) shown ≡ false → IsCovered margin at shows_or_draws (lines_in lines places) line
  shown_covered line does below = by shown refl
    where
      by : (o : Option ℕ) → shown ≡ o → IsCovered margin at shows_or_draws (lines_in lines places) line
      by None e = absurd (both_ways _ (rw e at below) refl)
      by (Some s) e =
          let is : IsNewest (counts_past margin at false lines) (version_in lines) (length lines) (Some s) = rw e at newest_shown in
          let less = rw e at below in
          let parts = and_parts (is_past margin at (line_at lines s)) (shows (kind_of (line_at lines s).call)) is.1 in
          covers true line s is.0 (grind arith) (keeps_shown s e) (grind (arith, nat_tests))

  open_covered : (line : Line) → (shows (kind_of line.call) && is_above lines (version_of line.call) shown) ≡ false → (draws (kind_of line.call) && is_above lines (version_of line.call) known) ≡ false
      → IsCovered margin at shows (lines_in lines places) line × IsCovered margin at shows_or_draws (lines_in lines places) line
  open_covered line not_shown not_drawn = (
    λ does. not_above false shown newest_shown keeps_shown line (grind arith) does,
    λ does. elim (cases_Bool (shows (kind_of line.call))) [
      | inl does_so ↦ shown_covered line does_so (grind arith) does
      | inr fails ↦ not_above true known newest_known keeps_known line (grind arith) does
    ],
  )

  may_go : (j : ℕ) → j < length lines → kept j ≡ false → MayGo margin at (lines_in lines places) (line_at lines j)
  may_go j lj none = record {
    old = grind (arith, nat_tests);
    nothing_new = by (ended (line_at lines j)) refl;
  }
    where
      by : (end : Option ℕ) → ended (line_at lines j) ≡ end
          → (ended (line_at lines j) ≡ None) ⊎ (IsCovered margin at shows (lines_in lines places) (line_at lines j) × IsCovered margin at shows_or_draws (lines_in lines places) (line_at lines j))
      by None e = inl e
      by (Some end) e = inr (elim (cases_Bool (is_past margin at (line_at lines j))) [
        | inl past ↦ (past_covered false shown newest_shown keeps_shown j lj past, past_covered true known newest_known keeps_known j lj past)
        | inr later ↦
            let still : ends_later margin at (ended (line_at lines j)) ≡ true = rw e (let not_so = rw e at later in grind (arith, nat_tests)) in
            open_covered (line_at lines j) (grind arith) (grind arith)
      ])

  pub they_stand : StandFor margin at lines places
  they_stand = record {
    within = places_are kept (length lines);
    rising = places_rise kept (length lines);
    rest = λ j lj. elim (cases_Bool (kept j)) [
      | inl does_so ↦ inl (place_of kept (length lines) j lj does_so)
      | inr fails ↦ inr (may_go j lj fails)
    ];
  }

  open_or_one : (j : ℕ) → kept j ≡ true → (is_open margin at (line_at lines j) || (is_at shown j || is_at known j)) ≡ true
  open_or_one j is = grind arith

  pub they_are_few : length places ≤ open_count margin at lines + 2
  they_are_few =
      let all = sizes kept (λ j. is_open margin at (line_at lines j)) (is_at shown) (is_at known) (length lines) open_or_one in
      let one = at_most_one shown (length lines) in
      let other = at_most_one known (length lines) in
      omega arith
