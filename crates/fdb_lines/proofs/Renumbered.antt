-- An audit is the same where clients and keys are numbered otherwise.
use Rattle.std.specs.Option.{option_eq}
use Rattle.std.proofs.Common.{◌≡◌, ◌∙◌, ℕ, zero, suc, max, ◌+◌, ◌==◌, ◌<◌, ◌≤◌, nat_le, nat_lt, Bool, true, false, cond, ◌&&◌, ◌||◌, not, List, [], ◌∷◌, ◌++◌, Option, None, Some, length, map, slice_index, refl, ap, sym, inl, inr, arith}
use Rattle.std.specs.List.{filter}
use Rattle.std.proofs.lemmas.Bool.{cases_lt, eqb-true}
use Rattle.std.proofs.lemmas.Bool.Decides.{nat_tests}
use Rattle.std.proofs.lemmas.List.{get_or_past, length-map}
use Rattle.std.proofs.lemmas.List.Elements.{filter_agree}
use Rattle.fdb_lines.specs.declared.fault.Fault.{Fault}
use Rattle.fdb_lines.specs.declared.fault.Fault.TheVariants.{Order, Wrong, NotAbove, Twice, Stray}
use Rattle.fdb_lines.specs.declared.fault.Found.{Found}
use Rattle.fdb_lines.specs.declared.line.Line.{Line}
use Rattle.fdb_lines.specs.declared.log.AuditOpts.{AuditOpts}
use Rattle.fdb_lines.specs.Audit.{case_of}
use Rattle.fdb_lines.specs.Before.{began, began_of, comes_before, ended, ended_before, ended_of, has_heard, heard_by, is_of, one_client}
use Rattle.fdb_lines.specs.Carried.{with_times}
use Rattle.fdb_lines.specs.Faults.{greatest_of, is_drawn, is_own, is_raised, is_reported, is_twice, knows, last, some_below, stands}
use Rattle.fdb_lines.specs.Keys.{faults_at_by_key, faults_below_by_key, faults_by_key, key_at, place_among, places_below, places_of, told_at}
use Rattle.fdb_lines.specs.Lines.{Case, Lines, client_at, draws, is_commit, is_learn, is_read, is_report, kind_at, kind_of, line_at, lines_in, may_be_same_client, nobody, reports, shows, teller_of, version_at, version_of}
use Rattle.fdb_lines.specs.Listing.{faults_at, found_if}
use Rattle.fdb_lines.specs.Renumbered.{AreSameButForNumbers}
use Rattle.fdb_lines.specs.StandByKey.{audited_from}
use Rattle.fdb_lines.specs.ToldByKey.{audited, audited_to}
use Rattle.fdb_lines.specs.Watching.{begins_before, is_watched, opts_of}
use Rattle.fdb_lines.proofs.Carried.{at_part}
use Rattle.fdb_lines.proofs.Keyed.{has_place, of_key, same_self}

-- ---- tests on numbers below one, and the greatest of some

greatest_same : (one other : ℕ → Bool) (f g : ℕ → ℕ) (n : ℕ) → ((k : ℕ) → k < n → one k ≡ other k) → ((k : ℕ) → k < n → f k ≡ g k)
    → greatest_of one f n ≡ greatest_of other g n
greatest_same one other f g zero tests same = refl
greatest_same one other f g (suc n) tests same = λ i.
    max (cond (tests n (omega arith) i) (same n (omega arith) i) 0) (greatest_same one other f g n (λ k lt. tests k (omega (arith, lt))) (λ k lt. same k (omega (arith, lt))) i)

some_same : (one other : ℕ → Bool) (n : ℕ) → ((k : ℕ) → k < n → one k ≡ other k) → some_below one n ≡ some_below other n
some_same one other zero tests = refl
some_same one other (suc n) tests = λ i. tests n (omega arith) i || some_same one other n (λ k lt. tests k (omega (arith, lt))) i

-- ---- clients

may_be : (a b : Option ℕ) → may_be_same_client a b ≡ (not (one_client a a) || (not (one_client b b) || one_client a b))
may_be None b = refl
may_be (Some a) None = grind (arith, nat_tests)
may_be (Some a) (Some b) = grind (arith, nat_tests)

before_same : (margin : ℕ) (above : Bool) (one later two after : Line) (end : Option ℕ) → began later ≡ began after
    → one_client one.client later.client ≡ one_client two.client after.client → ended_before margin above one end later ≡ ended_before margin above two end after
before_same margin above one later two after None begins clients = refl
before_same margin above one later two after (Some end) begins clients = λ i.
    nat_lt (end + margin) (begins i) || (clients i && (nat_lt end (begins i) || (above && end == begins i)))

-- ---- lines that are the same but for how their clients are numbered

record AreAlike (lines others : List Line) : Type 0 where
  many : length lines ≡ length others
  calls : (k : ℕ) → k < length lines → (line_at lines k).call ≡ (line_at others k).call
  times : (k : ℕ) → k < length lines → (line_at lines k).times ≡ (line_at others k).times
  clients : (j k : ℕ) → j < length lines → k < length lines
      → one_client (line_at lines j).client (line_at lines k).client ≡ one_client (line_at others j).client (line_at others k).client

-- no line has learnt
abbrev NoneLearns : List Line → Type 0
NoneLearns lines = (k : ℕ) → k < length lines → is_learn (kind_of (line_at lines k).call) ≡ false

-- lines as a log
abbrev log_of : Bool → List Line → Lines
log_of timed lines = record { timed = timed; lines = lines }

-- ---- without times, where none has learnt, a call comes before the later ones of its client

and_true : (b : Bool) → (b && true) ≡ b
and_true true = refl
and_true false = refl

or_nothing : (b other : Bool) → (b || (other && false)) ≡ b
or_nothing true other = refl
or_nothing false true = refl
or_nothing false false = refl

and_nothing : (b : Bool) → false ≡ (b && false)
and_nothing true = refl
and_nothing false = refl

heard_alone : (lines : List Line) (n a j : ℕ) → ((k : ℕ) → k < n → is_learn (kind_of (line_at lines k).call) ≡ false)
    → has_heard lines n a j ≡ (nat_lt j n && is_of a (line_at lines j).client)
heard_alone lines zero a j none =
    let low : nat_lt j 0 ≡ false = grind (arith, nat_tests) in
    sym (ap (λ b. b && is_of a (line_at lines j).client) low)
heard_alone lines (suc n) a j none =
    (λ i. heard_alone lines n a j (λ k lt. none k (omega arith)) i || (is_of a (line_at lines n).client && (n == j || (none n (omega arith) i && has_heard lines n (teller_of (line_at lines n).call) j))))
    ∙ by (n == j) refl
  where
    mine : ℕ → Bool
    mine k = is_of a (line_at lines k).client

    by : (b : Bool) → (n == j) ≡ b → ((nat_lt j n && is_of a (line_at lines j).client) || (is_of a (line_at lines n).client && (n == j || false)))
        ≡ (nat_lt j (suc n) && is_of a (line_at lines j).client)
    by true here =
        let at : n ≡ j = eqb-true n j here in
        let low : nat_lt j n ≡ false = grind (arith, nat_tests, at) in
        let up : nat_lt j (suc n) ≡ true = grind (arith, nat_tests, at) in
        rw (low, up, here) (and_true (is_of a (line_at lines n).client) ∙ ap (λ k. is_of a (line_at lines k).client) at)
    by false other =
        let same : nat_lt j (suc n) ≡ nat_lt j n = grind (arith, nat_tests, other) in
        rw (same, other) (or_nothing (nat_lt j n && is_of a (line_at lines j).client) (is_of a (line_at lines n).client))

told_alone : (lines : List Line) (j k : ℕ) (client : Option ℕ) → k < length lines → NoneLearns lines
    → heard_by lines k client j ≡ (nat_lt j k && one_client client (line_at lines j).client)
told_alone lines j k None lk none = and_nothing (nat_lt j k)
told_alone lines j k (Some a) lk none =
    heard_alone lines k a j (λ i lt. none i (omega arith)) ∙ ap (λ b. nat_lt j k && b) (is_one (line_at lines j).client)
  where
    is_one : (client : Option ℕ) → is_of a client ≡ one_client (Some a) client
    is_one None = refl
    is_one (Some b) = refl

before_alike : (timed : Bool) (margin : ℕ) (lines others : List Line) → AreAlike lines others → (timed ≡ false → NoneLearns lines) → (j k : ℕ) → j < length lines → k < length lines
    → comes_before timed margin lines j k ≡ comes_before timed margin others j k
before_alike true margin lines others alike none j k lj lk =
    ap (λ end. ended_before margin (nat_lt j k) (line_at lines j) end (line_at lines k)) (ap ended_of (alike.times j lj))
    ∙ before_same margin (nat_lt j k) (line_at lines j) (line_at lines k) (line_at others j) (line_at others k) (ended (line_at others j)) (ap began_of (alike.times k lk)) (alike.clients j k lj lk)
before_alike false margin lines others alike none j k lj lk =
    let many = alike.many in
    told_alone lines j k (line_at lines k).client lk (none refl)
    ∙ (ap (λ b. nat_lt j k && b) (alike.clients k j lk lj)
    ∙ sym (told_alone others j k (line_at others k).client (omega arith) (λ i lt. ap (λ call. is_learn (kind_of call)) (sym (alike.calls i (omega arith))) ∙ none refl i (omega arith))))

-- ---- what stands at them

module _ (lines others : List Line) (alike : AreAlike lines others) (timed : Bool) (none : timed ≡ false → NoneLearns lines) (opts : AuditOpts) where
  abbrev n : ℕ
  n = length lines

  abbrev c : Case
  c = case_of (log_of timed lines) opts

  abbrev d : Case
  d = case_of (log_of timed others) opts

  kinds : (k : ℕ) → k < n → kind_at c k ≡ kind_at d k
  kinds k lt = ap kind_of (alike.calls k lt)

  versions : (k : ℕ) → k < n → version_at c k ≡ version_at d k
  versions k lt = ap version_of (alike.calls k lt)

  before : (j k : ℕ) → j < n → k < n → c.before j k ≡ d.before j k
  before = before_alike timed opts.margin lines others alike none

  may : (j k : ℕ) → j < n → k < n → may_be_same_client (client_at c j) (client_at c k) ≡ may_be_same_client (client_at d j) (client_at d k)
  may j k lj lk =
      may_be (client_at c j) (client_at c k)
      ∙ ((λ i. not (alike.clients j j lj lj i) || (not (alike.clients k k lk lk i) || alike.clients j k lj lk i)) ∙ sym (may_be (client_at d j) (client_at d k)))

  knows_same : (k : ℕ) → k < n → knows c k ≡ knows d k
  knows_same k lk =
      ap (max c.start)
      (greatest_same (λ j. c.before j k && shows (kind_at c j)) (λ j. d.before j k && shows (kind_at d j)) (version_at c) (version_at d) n
      (λ j lj i. before j k lj lk i && shows (kinds j lj i)) versions
      ∙ ap (greatest_of (λ j. d.before j k && shows (kind_at d j)) (version_at d)) alike.many)

  last_same : (k : ℕ) → k < n → last c k ≡ last d k
  last_same k lk =
      greatest_same (λ j. c.before j k && draws (kind_at c j)) (λ j. d.before j k && draws (kind_at d j)) (version_at c) (version_at d) n
      (λ j lj i. before j k lj lk i && draws (kinds j lj i)) versions
      ∙ ap (greatest_of (λ j. d.before j k && draws (kind_at d j)) (version_at d)) alike.many

  some_of : (one other : ℕ → Bool) → ((k : ℕ) → k < n → one k ≡ other k) → some_below one (length lines) ≡ some_below other (length others)
  some_of one other tests = some_same one other n tests ∙ ap (some_below other) alike.many

  module _ (k : ℕ) (lk : k < n) where
    reported : is_reported c (version_at c k) ≡ is_reported d (version_at d k)
    reported =
        some_of (λ j. reports (kind_at c j) && version_at c j == version_at c k) (λ j. reports (kind_at d j) && version_at d j == version_at d k)
        (λ j lj i. reports (kinds j lj i) && versions j lj i == versions k lk i)

    drawn : is_drawn c (version_at c k) ≡ is_drawn d (version_at d k)
    drawn =
        some_of (λ j. draws (kind_at c j) && version_at c j == version_at c k) (λ j. draws (kind_at d j) && version_at d j == version_at d k)
        (λ j lj i. draws (kinds j lj i) && versions j lj i == versions k lk i)

    raised : is_raised c (version_at c k) ≡ is_raised d (version_at d k)
    raised =
        some_of (λ j. reports (kind_at c j) && (version_at c j == version_at c k && nat_lt (knows c j) (version_at c k)))
        (λ j. reports (kind_at d j) && (version_at d j == version_at d k && nat_lt (knows d j) (version_at d k)))
        (λ j lj i. reports (kinds j lj i) && (versions j lj i == versions k lk i && nat_lt (knows_same j lj i) (versions k lk i)))

    own : is_own c k ≡ is_own d k
    own =
        some_of (λ j. draws (kind_at c j) && (version_at c j == version_at c k && may_be_same_client (client_at c j) (client_at c k)))
        (λ j. draws (kind_at d j) && (version_at d j == version_at d k && may_be_same_client (client_at d j) (client_at d k)))
        (λ j lj i. draws (kinds j lj i) && (versions j lj i == versions k lk i && may j k lj lk i))

    twice : is_twice c k ≡ is_twice d k
    twice =
        some_of (λ j. not (j == k) && (draws (kind_at c j) && (version_at c j == version_at c k && not (is_commit (kind_at c j) && is_commit (kind_at c k)))))
        (λ j. not (j == k) && (draws (kind_at d j) && (version_at d j == version_at d k && not (is_commit (kind_at d j) && is_commit (kind_at d k)))))
        (λ j lj i. not (j == k) && (draws (kinds j lj i) && (versions j lj i == versions k lk i && not (is_commit (kinds j lj i) && is_commit (kinds k lk i)))))

    stand_alike : (fault : Fault) → stands c fault k ≡ stands d fault k
    stand_alike Order = λ i. is_read (kinds k lk i) && nat_lt (versions k lk i) (knows_same k lk i)
    stand_alike Wrong = λ i. is_read (kinds k lk i) && (not (versions k lk i == c.start) && (not (raised i) && (c.complete || reported i)))
    stand_alike NotAbove = λ i. draws (kinds k lk i) && nat_le (versions k lk i) (max (knows_same k lk i) (last_same k lk i))
    stand_alike Twice = λ i. draws (kinds k lk i) && twice i
    stand_alike Stray = λ i. is_report (kinds k lk i) && cond (drawn i) (not (own i)) (c.complete || nat_le (versions k lk i) c.start)

    one_alike : (fault : Fault) → found_if c fault k ≡ found_if d fault k
    one_alike fault = ap (λ b. cond {A = List Found} b (record { place = k; fault = fault } ∷ []) []) (stand_alike fault)

    faults_alike : faults_at c k ≡ faults_at d k
    faults_alike = λ i. one_alike Order i ++ one_alike Wrong i ++ one_alike NotAbove i ++ one_alike Twice i ++ one_alike Stray i

-- ---- the lines of a key

pub places_same : (keys others : List (Option ℕ)) (key other : Option ℕ) (n : ℕ) → ((j : ℕ) → j < n → option_eq ◌==◌ (key_at keys j) key ≡ option_eq ◌==◌ (key_at others j) other)
    → places_below keys key n ≡ places_below others other n
places_same keys others key other zero same = refl
places_same keys others key other (suc n) same = λ i.
    places_same keys others key other n (λ j lt. same j (omega (arith, lt))) i ++ cond (same n (omega arith) i) (n ∷ []) []

part_alike : (lines others : List Line) (places : List ℕ) → AreAlike lines others → ((i : ℕ) → i < length places → slice_index places i < length lines)
    → AreAlike (lines_in lines places) (lines_in others places)
part_alike lines others places alike within = record {
  many = length-map places (line_at lines) ∙ sym (length-map places (line_at others));
  calls = λ k lt. ap (λ (line : Line). line.call) (at_part lines places k (inside k lt))
      ∙ (alike.calls (slice_index places k) (within k (inside k lt)) ∙ sym (ap (λ (line : Line). line.call) (at_part others places k (inside k lt))));
  times = λ k lt. ap (λ (line : Line). line.times) (at_part lines places k (inside k lt))
      ∙ (alike.times (slice_index places k) (within k (inside k lt)) ∙ sym (ap (λ (line : Line). line.times) (at_part others places k (inside k lt))));
  clients = λ j k lj lk.
      (λ i. one_client (at_part lines places j (inside j lj) i).client (at_part lines places k (inside k lk) i).client)
      ∙ (alike.clients (slice_index places j) (slice_index places k) (within j (inside j lj)) (within k (inside k lk))
      ∙ sym (λ i. one_client (at_part others places j (inside j lj) i).client (at_part others places k (inside k lk) i).client));
}
  where
    inside : (k : ℕ) → k < length (lines_in lines places) → k < length places
    inside k lt = omega (arith, length-map places (line_at lines))

none_of_part : (lines : List Line) (places : List ℕ) → ((i : ℕ) → i < length places → slice_index places i < length lines) → NoneLearns lines → NoneLearns (lines_in lines places)
none_of_part lines places within none k lt =
    let inside : k < length places = omega (arith, length-map places (line_at lines)) in
    ap (λ (line : Line). is_learn (kind_of line.call)) (at_part lines places k inside) ∙ none (slice_index places k) (within k inside)

-- ---- logs that are the same but for numbers

module _ (lines others : List Line) (keys other_keys : List (Option ℕ)) (same : AreSameButForNumbers lines keys others other_keys)
    (timed : Bool) (none : timed ≡ false → NoneLearns lines) where
  alike : AreAlike lines others
  alike = record { many = same.calls.as_many; calls = same.calls.calls; times = same.calls.times; clients = same.clients }

  -- the lines of a key stand at the same places
  places_alike : (k n : ℕ) → k < length lines → n ≤ length lines → places_below keys (key_at keys k) n ≡ places_below other_keys (key_at other_keys k) n
  places_alike k n lk le = places_same keys other_keys (key_at keys k) (key_at other_keys k) n (λ j lt. same.keys_alike j k (omega arith) lk)

  all_places : (k : ℕ) → k < length lines → places_of keys (key_at keys k) ≡ places_of other_keys (key_at other_keys k)
  all_places k lk =
      places_alike k (length keys) lk (let many = same.calls.keyed in omega arith)
      ∙ ap (places_below other_keys (key_at other_keys k)) (same.calls.keyed ∙ (same.calls.as_many ∙ sym same.calls.others_keyed))

  line_alike : (opts : AuditOpts) (k : ℕ) → k < length lines
      → faults_at_by_key (log_of timed lines) keys opts k ≡ faults_at_by_key (log_of timed others) other_keys opts k
  line_alike opts k lk =
      let places = places_of keys (key_at keys k) in
      let many = same.calls.keyed in
      let has = has_place keys (key_at keys k) (length keys) k (same_self (key_at keys k)) (omega arith) in
      let within : (i : ℕ) → i < length places → slice_index places i < length lines = λ i li.
      let there = (of_key keys (key_at keys k) places refl i li).0 in omega arith in
      let inside : place_among keys k < length (lines_in lines places) = (let lt = has.0 in omega (arith, length-map places (line_at lines))) in
      ap (map (told_at k))
      (faults_alike (lines_in lines places) (lines_in others places) (part_alike lines others places alike within) timed (λ is. none_of_part lines places within (none is)) opts (place_among keys k) inside
      ∙ (λ i. faults_at (case_of (log_of timed (lines_in others (all_places k lk i))) opts) (length (places_alike k k lk (omega arith) i))))

  below_alike : (opts : AuditOpts) (n : ℕ) → n ≤ length lines
      → faults_below_by_key (log_of timed lines) keys opts n ≡ faults_below_by_key (log_of timed others) other_keys opts n
  below_alike opts zero le = refl
  below_alike opts (suc n) le = λ i. below_alike opts n (omega arith) i ++ line_alike opts n (omega arith) i

  pub faults_of_both : (opts : AuditOpts) → faults_by_key (log_of timed lines) keys opts ≡ faults_by_key (log_of timed others) other_keys opts
  faults_of_both opts =
      below_alike opts (length lines) (omega arith) ∙ ap (faults_below_by_key (log_of timed others) other_keys opts) same.calls.as_many

-- ---- and have times

module _ (lines others : List Line) (keys other_keys : List (Option ℕ)) (same : AreSameButForNumbers lines keys others other_keys) where
  pub found_alike : (opts : AuditOpts) → faults_by_key (with_times lines) keys opts ≡ faults_by_key (with_times others) other_keys opts
  found_alike opts = faults_of_both lines others keys other_keys same true (λ is. absurd (not_both is)) opts
    where
      not_both : true ≡ false → ⊥
      not_both is = cc

  pub audited_alike : (margin : ℕ) → audited margin lines keys ≡ audited margin others other_keys
  audited_alike margin = ap (filter (λ (found : Found). is_watched found.fault)) (found_alike (opts_of margin))

  begins_alike : (k : ℕ) → began (line_at lines k) ≡ began (line_at others k)
  begins_alike k = elim (cases_lt k (length lines)) [
    | inl lt ↦ ap began_of (same.calls.times k lt)
    | inr ge ↦
        let many = same.calls.as_many in
        ap began (get_or_past lines k nobody ge ∙ sym (get_or_past others k nobody (omega arith)))
  ]

  pub audited_to_alike : (margin to : ℕ) → audited_to margin to lines keys ≡ audited_to margin to others other_keys
  audited_to_alike margin to =
      filter_agree (λ (found : Found). begins_before (Some to) (line_at lines found.place)) (λ (found : Found). begins_before (Some to) (line_at others found.place))
      (λ found. ap (λ began. nat_lt began to) (begins_alike found.place)) (audited margin lines keys)
      ∙ ap (filter (λ (found : Found). begins_before (Some to) (line_at others found.place))) (audited_alike margin)

  pub audited_from_alike : (margin from : ℕ) → audited_from margin from lines keys ≡ audited_from margin from others other_keys
  audited_from_alike margin from =
      filter_agree (λ (found : Found). not (begins_before (Some from) (line_at lines found.place))) (λ (found : Found). not (begins_before (Some from) (line_at others found.place)))
      (λ found. ap (λ began. not (nat_lt began from)) (begins_alike found.place)) (audited margin lines keys)
      ∙ ap (filter (λ (found : Found). not (begins_before (Some from) (line_at others found.place)))) (audited_alike margin)
