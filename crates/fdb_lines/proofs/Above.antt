-- A line whose version is above those of all that are left out is judged in the part as in the whole log.
use Rattle.std.proofs.Common.{◌≡◌, ℕ, max, ◌-◌, ◌<◌, ◌≤◌, ◌==◌, nat_lt, nat_le, Bool, true, cond, ◌&&◌, ◌||◌, not, List, length, slice_index, refl, ap, sym, ◌∙◌, inl, inr, arith}
use Rattle.std.proofs.lemmas.Bool.{and_from, and_parts, cases_lt}
use Rattle.std.proofs.lemmas.Bool.Decides.{nat_tests}
use Rattle.std.proofs.lemmas.List.{length-map}
use Rattle.fdb_lines.specs.declared.fault.Fault.{Fault}
use Rattle.fdb_lines.specs.declared.fault.Fault.TheVariants.{Order, Wrong, NotAbove, Twice, Stray}
use Rattle.fdb_lines.specs.declared.line.Line.{Line}
use Rattle.fdb_lines.specs.declared.log.AuditOpts.{AuditOpts}
use Rattle.fdb_lines.specs.Carried.{AreLeftBelow}
use Rattle.fdb_lines.specs.Faults.{is_drawn, is_raised, is_reported, knows, last, some_below, stands}
use Rattle.fdb_lines.specs.Lines.{Case, Kind, client_at, draws, is_commit, is_read, is_report, kind_at, kind_of, line_at, reports, may_be_same_client, shows, version_at, version_of, lines_in}
use Rattle.fdb_lines.specs.Reasons.{shows_or_draws}
use Rattle.fdb_lines.proofs.Carried.{at_part, before_part, drawn_is, known, lets, here, version_in, Rising}
use Rattle.fdb_lines.proofs.Numbers.{greatest_bound, greatest_least, some_at, some_find}

same_bools : (a b : Bool) → (a ≡ true → b ≡ true) → (b ≡ true → a ≡ true) → a ≡ b
same_bools a b f g = grind arith

module _ (lines : List Line) (places : List ℕ) (within : (i : ℕ) → i < length places → slice_index places i < length lines) (rising : Rising places) where
  abbrev part : List Line
  part = lines_in lines places

  inside : (i : ℕ) → i < length part → i < length places
  inside i li = omega (arith, length-map places (line_at lines))

  outside : (i : ℕ) → i < length places → i < length part
  outside i li = omega (arith, length-map places (line_at lines))

  lets_same : (margin : ℕ) (lets_know : Kind → Bool) (i j : ℕ) → i < length places → j < length places
      → lets margin lets_know part i j ≡ lets margin lets_know lines (slice_index places i) (slice_index places j)
  lets_same margin lets_know i j li lj = rw (before_part margin lines places rising j i lj li, at_part lines places j lj) refl

  version_same : (i : ℕ) → i < length places → version_in part i ≡ version_in lines (slice_index places i)
  version_same i li = ap (λ (l : Line). version_of l.call) (at_part lines places i li)

  -- nothing more is known in a part
  pub no_more : (margin : ℕ) (lets_know : Kind → Bool) (i : ℕ) → i < length places → known margin lets_know part i ≤ known margin lets_know lines (slice_index places i)
  no_more margin lets_know i li =
      greatest_least (lets margin lets_know part i) (version_in part) (length part) _ (λ j lj passes.
      let lp = inside j lj in
      let up = greatest_bound (lets margin lets_know lines (slice_index places i)) (version_in lines) (length lines) (slice_index places j) (within j lp) (sym (lets_same margin lets_know i j li lp) ∙ passes) in
      let same = version_same j lp in
      omega arith)

  module _ (v : ℕ) (left : AreLeftBelow v lines places) where
    -- what is known beside is below the version
    less_known : (margin : ℕ) (lets_know : Kind → Bool) (i : ℕ) → i < length places
        → known margin lets_know lines (slice_index places i) ≤ max (known margin lets_know part i) (v - 1)
    less_known margin lets_know i li =
        greatest_least (lets margin lets_know lines (slice_index places i)) (version_in lines) (length lines) _ (λ j lj passes. elim (left j lj) [
          | inl among ↦
              let is = among.2 in
              let le = among.1 in
              let there = ap (lets margin lets_know lines (slice_index places i)) is in
              let up = greatest_bound (lets margin lets_know part i) (version_in part) (length part) among.0 (outside among.0 le) (lets_same margin lets_know i among.0 li le ∙ (there ∙ passes)) in
              let same = version_same among.0 le in
              let at = ap (version_in lines) is in
              omega arith
          | inr below ↦ omega arith
        ])

    pub below_same : (margin start : ℕ) (lets_know : Kind → Bool) (i : ℕ) → i < length places
        → nat_lt (max start (known margin lets_know part i)) v ≡ nat_lt (max start (known margin lets_know lines (slice_index places i))) v
    below_same margin start lets_know i li =
        let more = no_more margin lets_know i li in
        let less = less_known margin lets_know i li in
        grind (arith, nat_tests)

    pub above_same : (margin start : ℕ) (lets_know : Kind → Bool) (i : ℕ) → i < length places
        → nat_lt v (max start (known margin lets_know part i)) ≡ nat_lt v (max start (known margin lets_know lines (slice_index places i)))
    above_same margin start lets_know i li =
        let more = no_more margin lets_know i li in
        let less = less_known margin lets_know i li in
        grind (arith, nat_tests)

    -- some line of the version passes in the part where some does in the whole
    pub some_same : (one other : ℕ → Bool) → ((i : ℕ) → i < length places → one i ≡ other (slice_index places i)) → ((j : ℕ) → j < length lines → other j ≡ true → version_in lines j ≡ v)
        → some_below one (length part) ≡ some_below other (length lines)
    some_same one other same of =
        same_bools _ _
        (λ p.
        let f = some_find one (length part) p in
        let li = inside f.0 f.1 in
        some_at other (length lines) (slice_index places f.0) (within f.0 li) (sym (same f.0 li) ∙ f.2))
        (λ p.
        let f = some_find other (length lines) p in
        elim (left f.0 f.1) [
          | inl among ↦ some_at one (length part) among.0 (outside among.0 among.1) (same among.0 among.1 ∙ (ap other among.2 ∙ f.2))
          | inr below ↦ absurd (let is = of f.0 f.1 f.2 in omega arith)
        ])

  same_place : (i j : ℕ) → i < length places → j < length places → (j == i) ≡ (slice_index places j == slice_index places i)
  same_place i j li lj =
      elim (cases_lt i j) [
        | inl less ↦ let rise = rising i j less lj in grind (arith, nat_tests)
        | inr ge ↦ elim (cases_lt j i) [
          | inl more ↦ let rise = rising j i more li in grind (arith, nat_tests)
          | inr le ↦ let at : j ≡ i = omega arith in let same = ap (slice_index places) at in grind (arith, nat_tests)
        ]
      ]

  -- ---- each fault stands in the part exactly where it stands in the whole

  module _ (opts : AuditOpts) (i : ℕ) (li : i < length places) (left : AreLeftBelow (version_in lines (slice_index places i)) lines places) where
    abbrev k : ℕ
    k = slice_index places i

    abbrev v : ℕ
    v = version_in lines k

    abbrev one : Case
    one = here part opts

    abbrev all : Case
    all = here lines opts

    reported : is_reported one v ≡ is_reported all v
    reported =
        some_same v left (λ j. reports (kind_at one j) && version_at one j == v) (λ j. reports (kind_at all j) && version_at all j == v)
        (λ j lj. ap (λ (l : Line). reports (kind_of l.call) && version_of l.call == v) (at_part lines places j lj))
        (λ j lj passes. grind (arith, nat_tests))

    raised : is_raised one v ≡ is_raised all v
    raised =
        some_same v left (λ j. reports (kind_at one j) && (version_at one j == v && nat_lt (knows one j) v)) (λ j. reports (kind_at all j) && (version_at all j == v && nat_lt (knows all j) v))
        (λ j lj. ap (λ (l : Line). reports (kind_of l.call) && (version_of l.call == v && nat_lt (knows one j) v)) (at_part lines places j lj)
        ∙ ap (λ b. reports (kind_at all (slice_index places j)) && (version_at all (slice_index places j) == v && b)) (below_same v left opts.margin one.start shows j lj))
        (λ j lj passes. grind (arith, nat_tests))

    drawn : is_drawn one v ≡ is_drawn all v
    drawn =
        some_same v left (λ j. draws (kind_at one j) && version_at one j == v) (λ j. draws (kind_at all j) && version_at all j == v)
        (λ j lj. ap (λ (l : Line). draws (kind_of l.call) && version_of l.call == v) (at_part lines places j lj))
        (λ j lj passes. grind (arith, nat_tests))

    abbrev own_by : Case → Line → Bool
    own_by c line = some_below (λ j. draws (kind_at c j) && (version_at c j == version_of line.call && may_be_same_client (client_at c j) line.client)) (length c.lines)

    own : own_by one (line_at lines k) ≡ own_by all (line_at lines k)
    own =
        let line = line_at lines k in
        some_same v left (λ j. draws (kind_at one j) && (version_at one j == v && may_be_same_client (client_at one j) line.client)) (λ j. draws (kind_at all j) && (version_at all j == v && may_be_same_client (client_at all j) line.client))
        (λ j lj. ap (λ (l : Line). draws (kind_of l.call) && (version_of l.call == v && may_be_same_client l.client line.client)) (at_part lines places j lj))
        (λ j lj passes. grind (arith, nat_tests))

    abbrev twice_by : Case → Line → ℕ → Bool
    twice_by c line n =
        some_below (λ j. not (j == n) && (draws (kind_at c j) && (version_at c j == version_of line.call && not (is_commit (kind_at c j) && is_commit (kind_of line.call))))) (length c.lines)

    twice : twice_by one (line_at lines k) i ≡ twice_by all (line_at lines k) k
    twice =
        let line = line_at lines k in
        some_same v left (λ j. not (j == i) && (draws (kind_at one j) && (version_at one j == v && not (is_commit (kind_at one j) && is_commit (kind_of line.call)))))
        (λ j. not (j == k) && (draws (kind_at all j) && (version_at all j == v && not (is_commit (kind_at all j) && is_commit (kind_of line.call)))))
        (λ j lj. ap (λ (l : Line). not (j == i) && (draws (kind_of l.call) && (version_of l.call == v && not (is_commit (kind_of l.call) && is_commit (kind_of line.call))))) (at_part lines places j lj)
        ∙ ap (λ b. not b && (draws (kind_at all (slice_index places j)) && (version_at all (slice_index places j) == v && not (is_commit (kind_at all (slice_index places j)) && is_commit (kind_of line.call))))) (same_place i j li lj))
        (λ j lj passes. grind (arith, nat_tests))

    same : line_at part i ≡ line_at lines k
    same = at_part lines places i li

    pub as_in_whole : (fault : Fault) → stands one fault i ≡ stands all fault k
    as_in_whole Order =
        ap (λ (l : Line). is_read (kind_of l.call) && nat_lt (version_of l.call) (knows one i)) same
        ∙ ap (λ b. is_read (kind_at all k) && b) (above_same v left opts.margin one.start shows i li)
    as_in_whole Wrong =
        ap (λ (l : Line). is_read (kind_of l.call) && (not (version_of l.call == one.start) && (not (is_raised one (version_of l.call)) && (one.complete || is_reported one (version_of l.call))))) same
        ∙ (ap (λ b. is_read (kind_at all k) && (not (v == one.start) && (not b && (one.complete || is_reported one v)))) raised
        ∙ ap (λ b. is_read (kind_at all k) && (not (v == one.start) && (not (is_raised all v) && (one.complete || b)))) reported)
    as_in_whole NotAbove =
        let below = below_same v left opts.margin one.start shows_or_draws i li in
        let a = drawn_is part opts i in
        let b = drawn_is lines opts k in
        let most : max (knows one i) (last one i) ≡ max one.start (known opts.margin shows_or_draws part i) = omega arith in
        let most_too : max (knows all k) (last all k) ≡ max one.start (known opts.margin shows_or_draws lines k) = omega arith in
        ap (λ (l : Line). draws (kind_of l.call) && nat_le (version_of l.call) (max (knows one i) (last one i))) same
        ∙ ap (λ b. draws (kind_at all k) && b) (ap (nat_le v) most ∙ (le_same v _ _ below ∙ sym (ap (nat_le v) most_too)))
      where
        le_same : (v a b : ℕ) → nat_lt a v ≡ nat_lt b v → nat_le v a ≡ nat_le v b
        le_same v a b is = grind (arith, nat_tests)
    as_in_whole Twice =
        ap (λ (l : Line). draws (kind_of l.call) && twice_by one l i) same ∙ ap (λ b. draws (kind_at all k) && b) twice
    as_in_whole Stray =
        ap (λ (l : Line). is_report (kind_of l.call) && cond (is_drawn one (version_of l.call)) (not (own_by one l)) (one.complete || nat_le (version_of l.call) one.start)) same
        ∙ (ap (λ b. is_report (kind_at all k) && cond b (not (own_by one (line_at lines k))) (one.complete || nat_le v one.start)) drawn
        ∙ ap (λ b. is_report (kind_at all k) && cond (is_drawn all v) (not b) (one.complete || nat_le v one.start)) own)

  -- ---- what is told of any line of a part is true of the whole: but for reads of versions that are not there, and strays

  module _ (opts : AuditOpts) (i : ℕ) (li : i < length places) where
    pub order_true : stands (here part opts) Order i ≡ true → stands (here lines opts) Order (slice_index places i) ≡ true
    order_true is =
        let more = no_more opts.margin shows i li in
        let line = at_part lines places i li in
        let read : (is_read (kind_of (line_at lines (slice_index places i)).call) && nat_lt (version_in lines (slice_index places i)) (knows (here part opts) i)) ≡ true =
        sym (ap (λ (l : Line). is_read (kind_of l.call) && nat_lt (version_of l.call) (knows (here part opts) i)) line) ∙ is in
        grind (arith, nat_tests)

    pub not_above_true : stands (here part opts) NotAbove i ≡ true → stands (here lines opts) NotAbove (slice_index places i) ≡ true
    not_above_true is =
        let more = no_more opts.margin shows_or_draws i li in
        let a = drawn_is part opts i in
        let b = drawn_is lines opts (slice_index places i) in
        let line = at_part lines places i li in
        let draw : (draws (kind_of (line_at lines (slice_index places i)).call) && nat_le (version_in lines (slice_index places i)) (max (knows (here part opts) i) (last (here part opts) i))) ≡ true =
        sym (ap (λ (l : Line). draws (kind_of l.call) && nat_le (version_of l.call) (max (knows (here part opts) i) (last (here part opts) i))) line) ∙ is in
        let most : max (knows (here part opts) i) (last (here part opts) i) ≤ max (knows (here lines opts) (slice_index places i)) (last (here lines opts) (slice_index places i)) = omega arith in
        grind (arith, nat_tests)

    pub twice_true : stands (here part opts) Twice i ≡ true → stands (here lines opts) Twice (slice_index places i) ≡ true
    twice_true is =
        let k = slice_index places i in
        let one = here part opts in
        let line = line_at lines k in
        let again : Line → ℕ → Line → ℕ → Bool = λ l n other j.
        not (j == n) && (draws (kind_of other.call) && (version_of other.call == version_of l.call && not (is_commit (kind_of other.call) && is_commit (kind_of l.call)))) in
        let told : (draws (kind_of line.call) && some_below (λ j. again line i (line_at part j) j) (length part)) ≡ true =
        sym (ap (λ (l : Line). draws (kind_of l.call) && some_below (λ j. again l i (line_at part j) j) (length part)) (at_part lines places i li)) ∙ is in
        let both = and_parts (draws (kind_of line.call)) (some_below (λ j. again line i (line_at part j) j) (length part)) told in
        let f = some_find (λ j. again line i (line_at part j) j) (length part) both.1 in
        let lf = inside f.0 f.1 in
        let passes : again line k (line_at lines (slice_index places f.0)) (slice_index places f.0) ≡ true =
        sym (ap (λ (l : Line). again line i l f.0) (at_part lines places f.0 lf)
        ∙ ap (λ b. not b && (draws (kind_of (line_at lines (slice_index places f.0)).call) && (version_in lines (slice_index places f.0) == version_of line.call && not (is_commit (kind_of (line_at lines (slice_index places f.0)).call) && is_commit (kind_of line.call))))) (same_place i f.0 li lf))
        ∙ f.2 in
        and_from _ _ both.0 (some_at (λ j. again line k (line_at lines j) j) (length lines) (slice_index places f.0) (within f.0 lf) passes)
