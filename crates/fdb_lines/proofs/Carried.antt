-- What begins from a moment on knows as much by a part that stands for all.
use Rattle.std.proofs.Common.{◌≡◌, ◌⊎◌, ℕ, zero, suc, max, ◌+◌, ◌-◌, ◌<◌, ◌≤◌, nat_lt, nat_le, Bool, true, false, ◌&&◌, ◌||◌, List, [], ◌∷◌, ◌++◌, Option, None, Some, IfSome, length, map, slice_index, refl, ap, sym, subst, ◌∙◌, inl, inr, arith, length-append}
use Rattle.std.proofs.lemmas.Bool.{and_from, and_parts, both_ways, cases_lt}
use Rattle.std.proofs.lemmas.Bool.Decides.{nat_tests}
use Rattle.std.proofs.lemmas.Option.{same_Some}
use Rattle.std.proofs.lemmas.List.{get_or-append-add, get_or-map, get_or_append_left, get_or_push, length-map, map-append}
use Rattle.fdb_lines.specs.declared.fault.Fault.TheVariants.{Order, NotAbove}
use Rattle.fdb_lines.specs.declared.line.Line.{Line}
use Rattle.fdb_lines.specs.declared.line.Times.{Times}
use Rattle.fdb_lines.specs.declared.log.AuditOpts.{AuditOpts}
use Rattle.fdb_lines.specs.Audit.{case_of}
use Rattle.fdb_lines.specs.Before.{began, began_of, by_time, ended, ended_before, ended_of}
use Rattle.fdb_lines.specs.Carried.{is_past, past_by, with_times, IsCovered, MayGo, StandFor}
use Rattle.fdb_lines.specs.Faults.{greatest_of, knows, last, stands}
use Rattle.fdb_lines.specs.Lines.{Case, Kind, draws, is_read, kind_of, line_at, nobody, shows, version_of, lines_in}
use Rattle.fdb_lines.specs.Reasons.{shows_or_draws}
use Rattle.fdb_lines.proofs.Numbers.{greatest_bound, greatest_least}
use Rattle.fdb_lines.proofs.Tests.{same_tests}

-- ---- lines at some places

pub at_part : (lines : List Line) (places : List ℕ) (i : ℕ) → i < length places → line_at (lines_in lines places) i ≡ line_at lines (slice_index places i)
at_part lines places i lt = get_or-map (line_at lines) places i 0 nobody lt

abbrev pub Rising : List ℕ → Type 0
Rising places = (i j : ℕ) → i < j → j < length places → slice_index places i < slice_index places j

keep_order : (places : List ℕ) → Rising places → (i j : ℕ) → i < length places → j < length places → nat_lt i j ≡ nat_lt (slice_index places i) (slice_index places j)
keep_order places rising i j li lj =
    same_tests i j (slice_index places i) (slice_index places j) (λ lt. rising i j lt lj) (λ lt. elim (cases_lt i j) [
      | inl less ↦ less
      | inr ge ↦ elim (cases_lt j i) [
        | inl more ↦ let back = rising j i more li in omega arith
        | inr le ↦ let same : i ≡ j = omega arith in let at = ap (slice_index places) same in omega arith
      ]
    ])

-- ---- what comes before

pub before_part : (margin : ℕ) (lines : List Line) (places : List ℕ) → Rising places → (i j : ℕ) → i < length places → j < length places
    → by_time margin (lines_in lines places) i j ≡ by_time margin lines (slice_index places i) (slice_index places j)
before_part margin lines places rising i j li lj = rw (at_part lines places i li, at_part lines places j lj, keep_order places rising i j li lj) refl

pub past_before : (margin at : ℕ) (above : Bool) (one other : Line) (end : Option ℕ) → past_by margin at end ≡ true → at ≤ began other → ended_before margin above one end other ≡ true
past_before margin at above one other None past from = absurd (both_ways false refl past)
past_before margin at above one other (Some end) past from = grind (arith, nat_tests)

-- ---- what is known

abbrev pub lets : ℕ → (Kind → Bool) → List Line → ℕ → ℕ → Bool
lets margin lets_know lines k j = by_time margin lines j k && lets_know (kind_of (line_at lines j).call)

abbrev pub version_in : List Line → ℕ → ℕ
version_in lines j = version_of (line_at lines j).call

abbrev pub known : ℕ → (Kind → Bool) → List Line → ℕ → ℕ
known margin lets_know lines k = greatest_of (lets margin lets_know lines k) (version_in lines) (length lines)

module _ (margin at : ℕ) (lines : List Line) (places : List ℕ) (stand : StandFor margin at lines places) (lets_know : Kind → Bool)
    (may : (line : Line) → MayGo margin at (lines_in lines places) line → (ended line ≡ None) ⊎ IsCovered margin at lets_know (lines_in lines places) line) where
  abbrev part : List Line
  part = lines_in lines places

  lets_part : (i j : ℕ) → i < length places → j < length places → lets margin lets_know part i j ≡ lets margin lets_know lines (slice_index places i) (slice_index places j)
  lets_part i j li lj = rw (before_part margin lines places stand.rising j i lj li, at_part lines places j lj) refl

  no_more : (i : ℕ) → i < length places → known margin lets_know part i ≤ known margin lets_know lines (slice_index places i)
  no_more i li =
      greatest_least (lets margin lets_know part i) (version_in part) (length part) _ (λ j lj passes.
      let inside : j < length places = omega (arith, length-map places (line_at lines)) in
      let up = greatest_bound (lets margin lets_know lines (slice_index places i)) (version_in lines) (length lines) (slice_index places j) (stand.within j inside) (sym (lets_part i j li inside) ∙ passes) in
      let same = ap (λ (l : Line). version_of l.call) (at_part lines places j inside) in
      omega arith)

  covered_known : (i : ℕ) → i < length places → at ≤ began (line_at lines (slice_index places i)) → (line : Line) → IsCovered margin at lets_know part line
      → lets_know (kind_of line.call) ≡ true → version_of line.call ≤ known margin lets_know part i
  covered_known i li from line covered does =
      let by = covered does in
      let begins = ap began (at_part lines places i li) in
      let before = past_before margin at (nat_lt by.0 i) (line_at part by.0) (line_at part i) (ended (line_at part by.0)) by.2 (omega arith) in
      let up = greatest_bound (lets margin lets_know part i) (version_in part) (length part) by.0 by.1 (and_from _ _ before by.3) in
      let most = by.4 in
      omega arith

  -- what comes before has a known end
  ends : (above : Bool) (one other : Line) (end : Option ℕ) → end ≡ None → ended_before margin above one end other ≡ true → ⊥
  ends above one other None none before = both_ways false refl before
  ends above one other (Some end) none before = cc

  no_less : (i : ℕ) → i < length places → at ≤ began (line_at lines (slice_index places i)) → known margin lets_know lines (slice_index places i) ≤ known margin lets_know part i
  no_less i li from =
      greatest_least (lets margin lets_know lines (slice_index places i)) (version_in lines) (length lines) _ (λ j lj passes.
      let both = and_parts _ _ passes in
      elim (stand.rest j lj) [
        | inl among ↦
            let inside = among.1 in
            let is = among.2 in
            let here = lets_part i among.0 li inside in
            let there = ap (lets margin lets_know lines (slice_index places i)) is in
            let up = greatest_bound (lets margin lets_know part i) (version_in part) (length part) among.0 (omega (arith, length-map places (line_at lines))) (here ∙ (there ∙ passes)) in
            let same = ap (λ (l : Line). version_of l.call) (at_part lines places among.0 inside) in
            let v = ap (version_in lines) is in
            omega arith
        | inr go ↦ elim (may (line_at lines j) go) [
          | inl none ↦ absurd (ends (nat_lt j (slice_index places i)) (line_at lines j) (line_at lines (slice_index places i)) _ none both.0)
          | inr covered ↦ covered_known i li from (line_at lines j) covered both.1
        ]
      ])

  pub as_much : (i : ℕ) → i < length places → at ≤ began (line_at lines (slice_index places i)) → known margin lets_know part i ≡ known margin lets_know lines (slice_index places i)
  as_much i li from = let a = no_more i li in let b = no_less i li from in omega arith

-- ---- so a stale read and a version that is not above are told as of the whole log

abbrev pub here : List Line → AuditOpts → Case
here lines opts = case_of (with_times lines) opts

both_greatest : (before one other : ℕ → Bool) (f : ℕ → ℕ) (n : ℕ)
    → max (greatest_of (λ j. before j && one j) f n) (greatest_of (λ j. before j && other j) f n) ≡ greatest_of (λ j. before j && (one j || other j)) f n
both_greatest before one other f zero = refl
both_greatest before one other f (suc n) = let rest = both_greatest before one other f n in grind arith

pub drawn_is : (lines : List Line) (opts : AuditOpts) (k : ℕ)
    → max (known opts.margin shows lines k) (last (here lines opts) k) ≡ known opts.margin shows_or_draws lines k
drawn_is lines opts k =
    both_greatest (λ j. by_time opts.margin lines j k) (λ j. shows (kind_of (line_at lines j).call)) (λ j. draws (kind_of (line_at lines j).call)) (version_in lines) (length lines)

abbrev stale : Line → ℕ → Bool
stale line most = is_read (kind_of line.call) && nat_lt (version_of line.call) most

abbrev not_above : Line → ℕ → Bool
not_above line most = draws (kind_of line.call) && nat_le (version_of line.call) most

-- the same call knows as much in two logs
pub same_faults : (one other : List Line) (opts : AuditOpts) (i k : ℕ) → line_at one i ≡ line_at other k
    → known opts.margin shows one i ≡ known opts.margin shows other k → known opts.margin shows_or_draws one i ≡ known opts.margin shows_or_draws other k
    → (stands (here one opts) Order i ≡ stands (here other opts) Order k) × (stands (here one opts) NotAbove i ≡ stands (here other opts) NotAbove k)
same_faults one other opts i k same shown drawn =
    let start = (here one opts).start in
    let a = drawn_is one opts i in
    let b = drawn_is other opts k in
    let most : max (knows (here one opts) i) (last (here one opts) i) ≡ max (knows (here other opts) k) (last (here other opts) k) = omega arith in (
      ap (λ l. stale l (max start (known opts.margin shows one i))) same ∙ ap (λ n. stale (line_at other k) (max start n)) shown,
      ap (λ l. not_above l (max (knows (here one opts) i) (last (here one opts) i))) same ∙ ap (not_above (line_at other k)) most,
    )

pub stand_for_all : (margin at : ℕ) (lines : List Line) (places : List ℕ) (i : ℕ) (opts : AuditOpts) → opts.margin ≡ margin → StandFor margin at lines places → i < length places
    → at ≤ began (line_at lines (slice_index places i))
    → (stands (here (lines_in lines places) opts) Order i ≡ stands (here lines opts) Order (slice_index places i))
    × (stands (here (lines_in lines places) opts) NotAbove i ≡ stands (here lines opts) NotAbove (slice_index places i))
stand_for_all margin at lines places i opts same stand li from =
    same_faults (lines_in lines places) lines opts i (slice_index places i) (at_part lines places i li)
    (subst (λ m. known m shows (lines_in lines places) i ≡ known m shows lines (slice_index places i)) (sym same)
    (as_much margin at lines places stand shows (λ line go. elim go.nothing_new [ inl none ↦ inl none | inr both ↦ inr both.0 ]) i li from))
    (subst (λ m. known m shows_or_draws (lines_in lines places) i ≡ known m shows_or_draws lines (slice_index places i)) (sym same)
    (as_much margin at lines places stand shows_or_draws (λ line go. elim go.nothing_new [ inl none ↦ inl none | inr both ↦ inr both.1 ]) i li from))

-- ---- a part goes on to stand for all

past_on : (margin at then : ℕ) (end : Option ℕ) → at ≤ then → past_by margin at end ≡ true → past_by margin then end ≡ true
past_on margin at then None le past = absurd (both_ways false refl past)
past_on margin at then (Some end) le past = grind (arith, nat_tests)

-- each line of the part is in the other too
abbrev IsWithin : List Line → List Line → Type 0
IsWithin part other = (i : ℕ) → i < length part → (j : ℕ) × (j < length other) × (line_at other j ≡ line_at part i)

covered_on : (margin at then : ℕ) (lets_know : Kind → Bool) (part other : List Line) (line : Line) → at ≤ then → IsWithin part other
    → IsCovered margin at lets_know part line → IsCovered margin then lets_know other line
covered_on margin at then lets_know part other line le within covered does =
    let by = covered does in
    let to = within by.0 by.1 in
    let past : is_past margin then (line_at other to.0) ≡ true = rw to.2 (past_on margin at then _ le by.2) in
    let is : lets_know (kind_of (line_at other to.0).call) ≡ true = rw to.2 by.3 in
    let most : version_of line.call ≤ version_of (line_at other to.0).call = rw to.2 by.4 in
    (to.0, to.1, past, is, most)

may_still : (margin at then : ℕ) (part other : List Line) (line : Line) → at ≤ then → IsWithin part other → MayGo margin at part line → MayGo margin then other line
may_still margin at then part other line le within go = record {
  old = (let old = go.old in omega arith);
  nothing_new = elim go.nothing_new [
    | inl none ↦ inl none
    | inr both ↦ inr (covered_on margin at then shows part other line le within both.0, covered_on margin at then shows_or_draws part other line le within both.1)
  ];
}

pub later : (margin at then : ℕ) (lines : List Line) (places : List ℕ) → at ≤ then → StandFor margin at lines places → StandFor margin then lines places
later margin at then lines places le stand = record {
  within = stand.within;
  rising = stand.rising;
  rest = λ j lj. elim (stand.rest j lj) [
    | inl among ↦ inl among
    | inr go ↦ inr (may_still margin at then (lines_in lines places) (lines_in lines places) (line_at lines j) le (λ i li. (i, li, refl)) go)
  ];
}

module _ (margin at : ℕ) (lines : List Line) (places : List ℕ) (stand : StandFor margin at lines places) (line : Line) where
  abbrev more : List Line
  more = lines ++ line ∷ []

  abbrev there : List ℕ
  there = places ++ length lines ∷ []

  old_place : (i : ℕ) → i < length places → slice_index there i ≡ slice_index places i
  old_place i li = get_or_append_left places (length lines ∷ []) 0 i li

  new_place : (i : ℕ) → length places ≡ i → slice_index there i ≡ length lines
  new_place i is = get_or_push places (length lines) 0 i is

  old_line : (j : ℕ) → j < length lines → line_at more j ≡ line_at lines j
  old_line j lj = get_or_append_left lines (line ∷ []) nobody j lj

  part_within : IsWithin (lines_in lines places) (lines_in more there)
  part_within i li =
      let inside : i < length places = omega (arith, length-map places (line_at lines)) in
      let longer : i < length there = omega (arith, length-append places (length lines ∷ [])) in
      (i, omega (arith, length-map there (line_at more)), rw (at_part more there i longer, old_place i inside, old_line (slice_index places i) (stand.within i inside), at_part lines places i inside) refl)

  pub and_one_more : StandFor margin at more there
  and_one_more = record {
    within = λ i li. elim (cases_lt i (length places)) [
      | inl old ↦ rw (old_place i old) (let in_lines = stand.within i old in omega (arith, length-append lines (line ∷ [])))
      | inr ge ↦ rw (new_place i (omega (arith, length-append places (length lines ∷ [])))) (omega (arith, length-append lines (line ∷ [])))
    ];
    rising = λ i j less lj. elim (cases_lt j (length places)) [
      | inl old ↦ rw (old_place i (omega arith), old_place j old) (stand.rising i j less old)
      | inr ge ↦
          let last : length places ≡ j = omega (arith, length-append places (length lines ∷ [])) in
          rw (old_place i (omega arith), new_place j last) (stand.within i (omega arith))
    ];
    rest = λ j lj. elim (cases_lt j (length lines)) [
      | inl old ↦ elim (stand.rest j old) [
        | inl among ↦ let i = among.0 in let li = among.1 in inl (i, omega (arith, length-append places (length lines ∷ [])), old_place i li ∙ among.2)
        | inr go ↦ inr (rw (old_line j old) (may_still margin at at (lines_in lines places) (lines_in more there) (line_at lines j) (omega arith) part_within go))
      ]
      | inr ge ↦
          let is : length lines ≡ j = omega (arith, length-append lines (line ∷ [])) in
          inl (length places, omega (arith, length-append places (length lines ∷ [])), new_place (length places) refl ∙ is)
    ];
  }

-- ---- a part of a part

module _ (margin at : ℕ) (lines : List Line) (places : List ℕ) (stand : StandFor margin at lines places)
    (kept : List ℕ) (keep : StandFor margin at (lines_in lines places) kept) where
  abbrev fewer : List ℕ
  fewer = map (slice_index places) kept

  many : (i : ℕ) → i < length (lines_in lines places) → i < length places
  many i li = omega (arith, length-map places (line_at lines))

  kept_in : (i : ℕ) → i < length kept → slice_index kept i < length places
  kept_in i li = many (slice_index kept i) (keep.within i li)

  fewer_is : (i : ℕ) → i < length kept → slice_index fewer i ≡ slice_index places (slice_index kept i)
  fewer_is i li = get_or-map (slice_index places) kept i 0 0 li

  few : (i : ℕ) → i < length fewer → i < length kept
  few i li = omega (arith, length-map kept (slice_index places))

  still_many : (i : ℕ) → i < length kept → i < length (lines_in lines fewer)
  still_many i li = omega (arith, length-map kept (slice_index places), length-map fewer (line_at lines))

  line_is : (i : ℕ) → i < length kept → line_at (lines_in lines fewer) i ≡ line_at (lines_in lines places) (slice_index kept i)
  line_is i li = at_part lines fewer i (omega (arith, length-map kept (slice_index places))) ∙ (ap (line_at lines) (fewer_is i li) ∙ sym (at_part lines places (slice_index kept i) (kept_in i li)))

  part_of_part : IsWithin (lines_in (lines_in lines places) kept) (lines_in lines fewer)
  part_of_part i li =
      let inside : i < length kept = omega (arith, length-map kept (line_at (lines_in lines places))) in
      (i, still_many i inside, line_is i inside ∙ sym (at_part (lines_in lines places) kept i inside))

  -- what was covered in the part is covered in what is kept of it
  covered_still : (lets_know : Kind → Bool)
      → ((line : Line) → MayGo margin at (lines_in (lines_in lines places) kept) line → (ended line ≡ None) ⊎ IsCovered margin at lets_know (lines_in (lines_in lines places) kept) line)
      → (line : Line) → IsCovered margin at lets_know (lines_in lines places) line → IsCovered margin at lets_know (lines_in lines fewer) line
  covered_still lets_know may line covered does =
      let by = covered does in
      elim (keep.rest by.0 by.1) [
        | inl among ↦
            let is = line_is among.0 among.1 ∙ ap (line_at (lines_in lines places)) among.2 in
            let past : is_past margin at (line_at (lines_in lines fewer) among.0) ≡ true = rw is by.2 in
            let lets : lets_know (kind_of (line_at (lines_in lines fewer) among.0).call) ≡ true = rw is by.3 in
            let most : version_of line.call ≤ version_of (line_at (lines_in lines fewer) among.0).call = rw is by.4 in
            (among.0, still_many among.0 among.1, past, lets, most)
        | inr go ↦ elim (may (line_at (lines_in lines places) by.0) go) [
          | inl none ↦ absurd (both_ways false refl (sym (ap (past_by margin at) none) ∙ by.2))
          | inr too ↦
              let to = covered_on margin at at lets_know _ (lines_in lines fewer) (line_at (lines_in lines places) by.0) (omega arith) part_of_part too by.3 in
              let a = by.4 in
              let b = to.4 in
              (to.0, to.1, to.2, to.3, omega arith)
        ]
      ]

  pub of_a_part : StandFor margin at lines fewer
  of_a_part = record {
    within = λ i li. rw (fewer_is i (few i li)) (stand.within (slice_index kept i) (kept_in i (few i li)));
    rising = λ i j less lj.
        let inside = few j lj in
        let before : i < length kept = omega arith in
        rw (fewer_is i before, fewer_is j inside) (stand.rising (slice_index kept i) (slice_index kept j) (keep.rising i j less inside) (kept_in j inside));
    rest = λ j lj. elim (stand.rest j lj) [
      | inl among ↦ elim (keep.rest among.0 (let inside = among.1 in omega (arith, length-map places (line_at lines)))) [
        | inl kept_at ↦
            let inside = kept_at.1 in
            inl (kept_at.0, omega (arith, length-map kept (slice_index places)), fewer_is kept_at.0 inside ∙ (ap (slice_index places) kept_at.2 ∙ among.2))
        | inr go ↦
            let is = at_part lines places among.0 among.1 ∙ ap (line_at lines) among.2 in
            inr (subst (MayGo margin at (lines_in lines fewer)) is (may_still margin at at _ (lines_in lines fewer) _ (omega arith) part_of_part go))
      ]
      | inr go ↦ inr (record {
        old = go.old;
        nothing_new = elim go.nothing_new [
          | inl none ↦ inl none
          | inr both ↦ inr (
            covered_still shows (λ line may. elim may.nothing_new [ inl none ↦ inl none | inr too ↦ inr too.0 ]) (line_at lines j) both.0,
            covered_still shows_or_draws (λ line may. elim may.nothing_new [ inl none ↦ inl none | inr too ↦ inr too.1 ]) (line_at lines j) both.1,
          )
        ];
      })
    ];
  }

-- ---- what is told of a line stays true, whatever begins later

pub began_by : (line : Line) (end : ℕ) → ended line ≡ Some end → began line ≤ end
began_by line end is = by line.times is
  where
    by : (times : Option Times) → ended_of times ≡ Some end → began_of times ≤ end
    by None e = absurd cc
    by (Some times) e = in_order times.ended times.in_order e
      where
        in_order : (o : Option ℕ) → IfSome o (λ end. times.began ≤ end) → o ≡ Some end → times.began ≤ end
        in_order None h e = absurd cc
        in_order (Some x) h e = let same : x ≡ end = same_Some x end e in let low : times.began ≤ x = h in omega arith

module _ (margin at : ℕ) (lines more : List Line) (from : (j : ℕ) → j < length more → at ≤ began (line_at more j)) (lets_know : Kind → Bool) where
  abbrev both : List Line
  both = lines ++ more

  pub first_line : (j : ℕ) → j < length lines → line_at both j ≡ line_at lines j
  first_line j lj = get_or_append_left lines more nobody j lj

  not_before : (above : Bool) (one other : Line) → above ≡ false → at ≤ began one → began other ≤ at → (end : Option ℕ) → ended one ≡ end → ended_before margin above one end other ≡ false
  not_before above one other is from to None e = refl
  not_before above one other is from to (Some end) e = let order = began_by one end e in grind (arith, nat_tests)

  pub new_line : (j : ℕ) → length lines ≤ j → j < length both → at ≤ began (line_at both j)
  new_line j ge lj =
      let to : length lines + (j - length lines) ≡ j = omega arith in
      let is : line_at both j ≡ line_at more (j - length lines) = ap (line_at both) (sym to) ∙ get_or-append-add lines more (j - length lines) nobody in
      rw is (from (j - length lines) (omega (arith, length-append lines more)))

  lets_first : (j k : ℕ) → j < length lines → k < length lines → lets margin lets_know both k j ≡ lets margin lets_know lines k j
  lets_first j k lj lk = rw (first_line j lj, first_line k lk) refl

  pub lets_none : (j k : ℕ) → length lines ≤ j → j < length both → k < length lines → began (line_at lines k) ≤ at → lets margin lets_know both k j ≡ false
  lets_none j k ge lj lk to =
      let none = not_before (nat_lt j k) (line_at both j) (line_at both k) (grind (arith, nat_tests)) (new_line j ge lj) (rw (first_line k lk) to) _ refl in
      rw none refl

  pub no_later : (k : ℕ) → k < length lines → began (line_at lines k) ≤ at → known margin lets_know both k ≡ known margin lets_know lines k
  no_later k lk to =
      let least = greatest_least (lets margin lets_know both k) (version_in both) (length both) (known margin lets_know lines k) (λ j lj passes. elim (cases_lt j (length lines)) [
        | inl old ↦
            let up = greatest_bound (lets margin lets_know lines k) (version_in lines) (length lines) j old (sym (lets_first j k old lk) ∙ passes) in
            let same = ap (λ (l : Line). version_of l.call) (first_line j old) in
            omega arith
        | inr ge ↦ absurd (both_ways _ (lets_none j k ge lj lk to) passes)
      ]) in
      let most = greatest_least (lets margin lets_know lines k) (version_in lines) (length lines) (known margin lets_know both k) (λ j lj passes.
      let up = greatest_bound (lets margin lets_know both k) (version_in both) (length both) j (omega (arith, length-append lines more)) (lets_first j k lj lk ∙ passes) in
      let same = ap (λ (l : Line). version_of l.call) (first_line j lj) in
      omega arith) in
      omega arith

pub settled : (at : ℕ) (lines more : List Line) (k : ℕ) (opts : AuditOpts) → ((j : ℕ) → j < length more → at ≤ began (line_at more j)) → k < length lines
    → began (line_at lines k) ≤ at
    → (stands (here (lines ++ more) opts) Order k ≡ stands (here lines opts) Order k) × (stands (here (lines ++ more) opts) NotAbove k ≡ stands (here lines opts) NotAbove k)
settled at lines more k opts from lk to =
    same_faults (lines ++ more) lines opts k k (get_or_append_left lines more nobody k lk)
    (no_later opts.margin at lines more from shows k lk to) (no_later opts.margin at lines more from shows_or_draws k lk to)

-- ---- the lines of a part, one more and fewer

maps_same : (f g : ℕ → Line) (places : List ℕ) → ((i : ℕ) → i < length places → f (slice_index places i) ≡ g (slice_index places i)) → map f places ≡ map g places
maps_same f g [] same = refl
maps_same f g (k ∷ places) same =
    ap (λ (line : Line). line ∷ map f places) (same 0 (omega arith)) ∙ ap (λ (lines : List Line). g k ∷ lines) (maps_same f g places (λ i li. same (suc i) (omega arith)))

pub one_more_is : (margin at : ℕ) (lines : List Line) (places : List ℕ) (line : Line) → StandFor margin at lines places
    → lines_in (lines ++ line ∷ []) (places ++ length lines ∷ []) ≡ lines_in lines places ++ line ∷ []
one_more_is margin at lines places line stand =
    map-append (line_at (lines ++ line ∷ [])) places (length lines ∷ [])
    ∙ (ap (λ (part : List Line). part ++ line_at (lines ++ line ∷ []) (length lines) ∷ [])
    (maps_same (line_at (lines ++ line ∷ [])) (line_at lines) places (λ i li. get_or_append_left lines (line ∷ []) nobody (slice_index places i) (stand.within i li)))
    ∙ ap (λ (last : Line). lines_in lines places ++ last ∷ []) (get_or_push lines line nobody (length lines) refl))

pub fewer_are : (lines : List Line) (places kept : List ℕ) → ((i : ℕ) → i < length kept → slice_index kept i < length (lines_in lines places))
    → lines_in (lines_in lines places) kept ≡ lines_in lines (map (slice_index places) kept)
fewer_are lines places [] within = refl
fewer_are lines places (k ∷ kept) within =
    let inside : k < length (lines_in lines places) = within 0 (omega arith) in
    ap (λ (line : Line). line ∷ lines_in (lines_in lines places) kept) (at_part lines places k (omega (arith, length-map places (line_at lines))))
    ∙ ap (λ (part : List Line). line_at lines (slice_index places k) ∷ part) (fewer_are lines places kept (λ i li. within (suc i) (omega arith)))

-- ---- places that rise are few

climb : (places : List ℕ) → Rising places → (i : ℕ) → i < length places → i ≤ slice_index places i
climb places rising zero li = omega arith
climb places rising (suc i) li = let below = climb places rising i (omega arith) in let rise = rising i (suc i) (omega arith) li in omega arith

pub few_places : (margin at : ℕ) (lines : List Line) (places : List ℕ) → StandFor margin at lines places → length places ≤ length lines
few_places margin at lines places stand = by (length places) refl
  where
    by : (n : ℕ) → length places ≡ n → n ≤ length lines
    by zero is = omega arith
    by (suc n) is = let low = climb places stand.rising n (omega arith) in let high = stand.within n (omega arith) in omega arith
