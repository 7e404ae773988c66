-- What the tables of a log say, and why a fault stands.
use Rattle.std.proofs.Common.{◌≡◌, ℕ, zero, suc, max, ◌-◌, ◌<◌, ◌≤◌, ◌==◌, nat_lt, Bool, true, false, ◌&&◌, ◌||◌, List, length, Option, None, Some, is_some, refl, ap, subst, sym, arith}
use Rattle.std.proofs.lemmas.Bool.Decides.{nat_tests}
use Rattle.std.proofs.lemmas.List.Folds.{list_any_at}
use Rattle.fdb_lines.specs.declared.fault.Fault.TheVariants.{Order, Wrong, NotAbove, Twice, Stray}
use Rattle.fdb_lines.specs.declared.line.Line.{Line}
use Rattle.fdb_lines.specs.declared.log.Log.{Log}
use Rattle.fdb_lines.specs.declared.log.AuditOpts.{AuditOpts}
use Rattle.fdb_lines.specs.declared.fault.Reason.TheVariants.{Known, Reported}
use Rattle.fdb_lines.specs.declared.fault.Witness.{Witness}
use Rattle.fdb_lines.specs.declared.known.Exposure.{Exposure}
use Rattle.fdb_lines.specs.declared.known.Exposure.TheVariants.{Shown, Drawn}
use Rattle.fdb_lines.specs.declared.locators.LineKind.TheVariants.{Raises, Owned, Nameless}
use Rattle.fdb_lines.specs.declared.tables.LogTables.{LogTables}
use Rattle.fdb_lines.specs.Audit.{case_of, start_of}
use Rattle.fdb_lines.specs.Before.{comes_before}
use Rattle.fdb_lines.specs.Faults.{is_drawn, is_own, is_raised, knows, some_below, last, stands, draws_again, draws_it, reports_it}
use Rattle.fdb_lines.specs.Lines.{Case, Kind, Lines, Read, Commit, Ask, Report, Learn, client_at, draws, is_ask, is_commit, kind_at, kind_of, line_at, may_be_same_client, nobody, reports, same_client, shows, version_at}
use Rattle.fdb_lines.specs.Log.{lines_of}
use Rattle.fdb_lines.specs.Reasons.{IsFirstPassing, IsKnown, IsReason, shows_or_draws}
use Rattle.fdb_lines.specs.private.Entries.{other, IsFirstFrom}
use Rattle.fdb_lines.specs.private.Known.{by_at, counts_at, newest_known, of_version, version_by, version_in}
use Rattle.fdb_lines.specs.private.Locators.{is_located_at, knows_at, name}
use Rattle.fdb_lines.specs.private.Tables.{subject_of, drawn_by, has_ask, AreKnownIn, AreTables, Subject, IsAnswer, IsFoundIn}
use Rattle.fdb_lines.proofs.Entries.{first_is, first_same}
use Rattle.fdb_lines.proofs.Knowing.{found_is, version_is}
use Rattle.fdb_lines.proofs.Numbers.{greatest_bound, greatest_least, some_at}

-- ---- the tables

-- what holds of the tables of a log, of their subject
pub are_of_subject : {log : Log} {opts : AuditOpts} {made : LogTables} {subject : Subject} → subject_of log opts ≡ subject → AreTables (lines_of log) opts made
    → AreTables (lines_of subject.log) subject.opts made
are_of_subject {made = made} same are = subst (λ (subject : Subject). AreTables (lines_of subject.log) subject.opts made) same are

abbrev before : Lines → AuditOpts → ℕ → ℕ → Bool
before log opts = comes_before log.timed opts.margin log.lines

abbrev pub newest : Lines → AuditOpts → Exposure → ℕ → ℕ
newest log opts seen k = newest_known (comes_before log.timed opts.margin log.lines) seen log.lines k

pub newest_is : (log : Lines) (opts : AuditOpts) (seen : Exposure) (known : List (Option Witness)) (k : ℕ) → AreKnownIn log opts seen known → k < length log.lines
    → version_by log.lines (by_at known k) ≡ newest log opts seen k
newest_is log opts seen known k are lt = version_is _ _ log.lines (by_at known k) (are.1 k lt)

pub knows_is : (log : Lines) (opts : AuditOpts) (shown : List (Option Witness)) (k : ℕ) → AreKnownIn log opts Shown shown → k < length log.lines
    → knows_at (start_of opts.complete) log.lines shown k ≡ knows (case_of log opts) k
knows_is log opts shown k are lt = ap (max (start_of opts.complete)) (newest_is log opts Shown shown k are lt)

pub known_is : (log : Lines) (opts : AuditOpts) (seen : Exposure) (known : List (Option Witness)) (k version : ℕ) → AreKnownIn log opts seen known → k < length log.lines
    → newest log opts seen k ≤ version → IsFoundIn log opts seen k version (of_version log.lines version (by_at known k))
known_is log opts seen known k version are lt most =
    found_is (comes_before log.timed opts.margin log.lines) opts.margin seen log.lines k version (by_at known k) (are.1 k lt) most

-- ---- a log in which no line is an ask shows all that it draws

drawn_is_shown : (kind : Kind) → draws kind ≡ true → is_ask kind ≡ false → shows kind ≡ true
drawn_is_shown Read drawn other = absurd cc
drawn_is_shown Commit drawn other = refl
drawn_is_shown Ask drawn other = absurd cc
drawn_is_shown Report drawn other = refl
drawn_is_shown Learn drawn other = absurd cc

pub shown_too : (log : Lines) → has_ask log.lines ≡ false → (j : ℕ) → j < length log.lines → counts_at Drawn log.lines j ≡ true → counts_at Shown log.lines j ≡ true
shown_too log none j lt drawn =
    let some = list_any_at (λ (line : Line). is_ask (kind_of line.call)) log.lines j nobody lt in
    drawn_is_shown (kind_of (line_at log.lines j).call) drawn (grind arith)

pub none_beyond : (log : Lines) (opts : AuditOpts) (k : ℕ) → has_ask log.lines ≡ false → last (case_of log opts) k ≤ knows (case_of log opts) k
none_beyond log opts k none =
    let test = λ (j : ℕ). before log opts j k && counts_at Shown log.lines j in
    greatest_least (λ j. before log opts j k && counts_at Drawn log.lines j) (version_in log.lines) (length log.lines) (knows (case_of log opts) k) (λ j lt passes.
    let shown = shown_too log none j lt in
    let up = greatest_bound test (version_in log.lines) (length log.lines) j lt in
    grind (arith, nat_tests))

pub unseen_undrawn : (log : Lines) (opts : AuditOpts) (k version : ℕ) → has_ask log.lines ≡ false → IsFoundIn log opts Shown k version None → IsFoundIn log opts Drawn k version None
unseen_undrawn log opts k version none unseen j lt =
    let shown = shown_too log none j lt in
    let other = unseen j lt in
    grind (arith, nat_tests)

-- a question of a version is answered by what is found for it
pub answered : (test question : ℕ → Bool) (n : ℕ) (first : Option ℕ) → ((j : ℕ) → j < n → test j ≡ question j) → IsFirstFrom test 0 n first
    → is_some first ≡ some_below question n
answered test question n first same found = sym (first_is question n first (first_same test question n first same found))

pub raised_is : (log : Lines) (opts : AuditOpts) (shown : List (Option Witness)) (v : ℕ) (first : Option ℕ) → AreKnownIn log opts Shown shown
    → IsFirstFrom (is_located_at Raises (start_of opts.complete) log.lines shown (name v 0)) 0 (length log.lines) first → is_some first ≡ is_raised (case_of log opts) v
raised_is log opts shown v first are =
    answered _ _ (length log.lines) first (λ j l. let knows = knows_is log opts shown j are l in grind (arith, nat_tests))

-- who drew a version

-- some pass one test or another
pub some_either : (one another either : ℕ → Bool) (n : ℕ) → ((j : ℕ) → j < n → (one j || another j) ≡ either j)
    → (some_below one n || some_below another n) ≡ some_below either n
some_either one another either zero same = refl
some_either one another either (suc n) same =
    let rest = some_either one another either n (λ j l. same j (omega (arith, l))) in
    let here = same n (omega arith) in
    grind arith

-- a known client's version was drawn by it, or by one that is not known
pub owned_is : (log : Lines) (opts : AuditOpts) (shown : List (Option Witness)) (k a : ℕ) (own nameless : Option ℕ) → client_at (case_of log opts) k ≡ Some a
    → IsFirstFrom (is_located_at Owned (start_of opts.complete) log.lines shown (name (version_at (case_of log opts) k) a)) 0 (length log.lines) own
    → IsFirstFrom (is_located_at Nameless (start_of opts.complete) log.lines shown (name (version_at (case_of log opts) k) 0)) 0 (length log.lines) nameless
    → (is_some own || is_some nameless) ≡ is_own (case_of log opts) k
owned_is log opts shown k a own nameless whose first other =
    let c = case_of log opts in
    let of_it : ℕ → Bool = λ j. draws (kind_at c j) && (version_at c j == version_at c k && same_client (client_at c j) (Some a)) in
    let of_nobody : ℕ → Bool = λ j. draws (kind_at c j) && (version_at c j == version_at c k && same_client (client_at c j) None) in
    let one = answered _ of_it (length log.lines) own (λ j l. grind (arith, nat_tests)) first in
    let two = answered _ of_nobody (length log.lines) nameless (λ j l. grind (arith, nat_tests)) other in
    let either = some_either of_it of_nobody (λ j. draws (kind_at c j) && (version_at c j == version_at c k && may_be_same_client (client_at c j) (client_at c k)))
    (length log.lines) (λ j l. grind (arith, nat_tests)) in
    grind arith

-- the version of a client that is not known was drawn by anybody
pub anybody_is : (log : Lines) (opts : AuditOpts) (k : ℕ) (first : Option ℕ) → client_at (case_of log opts) k ≡ None
    → IsFirstFrom (draws_it (case_of log opts) (version_at (case_of log opts) k)) 0 (length log.lines) first
    → is_some first ≡ is_own (case_of log opts) k
anybody_is log opts k first whose = answered _ _ (length log.lines) first (λ j l. grind (arith, nat_tests))

-- ---- drawn twice

-- beside a commit the asks of its version, and beside an ask what else draws it
pub beside_a_commit : (c : Case) (k : ℕ) (first : Option ℕ) → is_commit (kind_at c k) ≡ true
    → IsFirstFrom (λ j. is_ask (kind_at c j) && version_at c j == version_at c k) 0 (length c.lines) first → IsFirstFrom (draws_again c k) 0 (length c.lines) first
beside_a_commit c k first commit =
    first_same (λ j. is_ask (kind_at c j) && version_at c j == version_at c k) (draws_again c k) (length c.lines) first
    (λ j l.
    let same = λ (e : j ≡ k). ap (λ i. is_ask (kind_at c i)) e in
    grind (arith, nat_tests))

pub beside_an_ask : (c : Case) (k : ℕ) (first : Option ℕ) → is_commit (kind_at c k) ≡ false
    → IsFirstFrom (other (draws_it c (version_at c k)) k) 0 (length c.lines) first → IsFirstFrom (draws_again c k) 0 (length c.lines) first
beside_an_ask c k first not_commit =
    first_same (other (draws_it c (version_at c k)) k) (draws_again c k) (length c.lines) first (λ j l. grind (arith, nat_tests))

-- ---- a version that was known

-- a greatest that none has is 0
untold : (log : Lines) (opts : AuditOpts) (seen : Exposure) (k version : ℕ) → IsFoundIn log opts seen k version None → newest log opts seen k ≡ version → version ≡ 0
untold log opts seen k version none is =
    let test = λ (j : ℕ). before log opts j k && counts_at seen log.lines j in
    let most = greatest_least test (version_in log.lines) (length log.lines) (version - 1) (λ i l passes.
    let up = greatest_bound test (version_in log.lines) (length log.lines) i l passes in
    let other = none i l in
    grind (arith, nat_tests)) in
    omega arith

pub shown_is : (log : Lines) (opts : AuditOpts) (k version : ℕ) (by : Option Witness) → IsFoundIn log opts Shown k version by → version ≡ knows (case_of log opts) k
    → IsKnown log opts shows k version by
shown_is log opts k version None none is = ((let zero = untold log opts Shown k version none in grind arith), none)
shown_is log opts k version (Some by) found is = record { there = found.0; knew = found.1; means = found.2 }

pub by_drawn : (log : Lines) (opts : AuditOpts) (k version : ℕ) (by : Option Witness) → IsFoundIn log opts Shown k version None → IsFoundIn log opts Drawn k version by
    → version ≡ max (knows (case_of log opts) k) (last (case_of log opts) k) → IsKnown log opts shows_or_draws k version by
by_drawn log opts k version None no_show no_draw is = (
  (let shown = untold log opts Shown k version no_show in let drawn = untold log opts Drawn k version no_draw in grind arith),
  λ j lt. let a = no_show j lt in let b = no_draw j lt in grind arith,
)
by_drawn log opts k version (Some by) no_show found is =
    let drawn = found.1 in
    record { there = found.0; knew = grind arith; means = found.2 }

-- ---- the reasons

pub order_is : (log : Lines) (opts : AuditOpts) (k version : ℕ) (by : Option Witness) → stands (case_of log opts) Order k ≡ true → version ≡ knows (case_of log opts) k
    → IsFoundIn log opts Shown k version by → IsReason log opts k Order (Known version by)
order_is log opts k version by stand is found = (grind (arith, nat_tests), is, shown_is log opts k version by found is)

is_first : (test : ℕ → Bool) (n j : ℕ) → IsFirstFrom test 0 n (Some j) → IsFirstPassing test n j
is_first test n j first = (first.1, first.2, λ i lt. first.3 i (omega arith) lt)

pub wrong_is : (log : Lines) (opts : AuditOpts) (k j version : ℕ) (by : Option Witness) → stands (case_of log opts) Wrong k ≡ true
    → IsFirstFrom (reports_it (case_of log opts) (version_at (case_of log opts) k)) 0 (length log.lines) (Some j) → version ≡ knows (case_of log opts) j
    → IsFoundIn log opts Shown j version by → IsReason log opts k Wrong (Reported j version by)
wrong_is log opts k j version by stand first is found =
    let c = case_of log opts in
    let v = version_at c k in
    let raised = some_at (λ i. reports (kind_at c i) && (version_at c i == v && nat_lt (knows c i) v)) (length c.lines) j first.1 in
    (is_first (reports_it c v) (length log.lines) j first, grind (arith, nat_tests, first.2), is, shown_is log opts j version by found is)

pub not_above_is : (log : Lines) (opts : AuditOpts) (k version : ℕ) (by : Option Witness) → stands (case_of log opts) NotAbove k ≡ true
    → version ≡ max (knows (case_of log opts) k) (last (case_of log opts) k) → IsKnown log opts shows_or_draws k version by
    → IsReason log opts k NotAbove (Known version by)
not_above_is log opts k version by stand is known = (grind (arith, nat_tests), is, known)

pub twice_is : (log : Lines) (opts : AuditOpts) (k : ℕ) (first : Option ℕ) → true ≡ stands (case_of log opts) Twice k
    → IsFirstFrom (draws_again (case_of log opts) k) 0 (length log.lines) first → IsAnswer log opts k Twice (Some (drawn_by first))
twice_is log opts k None stand none = let fails = first_is (draws_again (case_of log opts) k) (length log.lines) None none in grind arith
twice_is log opts k (Some j) stand first = (sym stand, is_first (draws_again (case_of log opts) k) (length log.lines) j first)

pub stray_is : (log : Lines) (opts : AuditOpts) (k : ℕ) (first : Option ℕ) → true ≡ stands (case_of log opts) Stray k
    → IsFirstFrom (draws_it (case_of log opts) (version_at (case_of log opts) k)) 0 (length log.lines) first → IsAnswer log opts k Stray (Some (drawn_by first))
stray_is log opts k None stand none = (sym stand, first_is (draws_it (case_of log opts) (version_at (case_of log opts) k)) (length log.lines) None none)
stray_is log opts k (Some j) stand first =
    let c = case_of log opts in
    let drawn : is_drawn c (version_at c k) ≡ true = first_is (draws_it c (version_at c k)) (length log.lines) (Some j) first in
    (sym stand, (is_first (draws_it c (version_at c k)) (length log.lines) j first, grind (arith, nat_tests)))
