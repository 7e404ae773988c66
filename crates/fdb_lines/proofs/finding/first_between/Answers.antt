use Rattle.std.proofs.Common.{◌≡◌, ℕ, suc, ◌<◌, List, [], ◌∷◌, ◌++◌, Option, Some, None, option_map, map, slice_get, refl, ap, sym, subst, ◌∙◌, add-one, append-nil, arith, rules}
use Rattle.fdb_lines.specs.declared.fault.Finding.{Finding}
use Rattle.fdb_lines.specs.Lines.{Case}
use Rattle.fdb_lines.specs.Listing.{faults_at, faults_below}
use Rattle.fdb_lines.specs.Reasons.{found_of}
use Rattle.fdb_lines.specs.private.Tables.{case_in, IsFirstBetween}
use Rattle.fdb_lines.proofs.Listed.{first_of_more}
use Rattle.fdb_lines.proofs.finding.first_between.Goals as goal

-- what stands first after one line more
first_here : (c : Case) (from k to : ℕ) (before after : List Finding) (first : Finding) → before ≡ [] → faults_below c k ≡ faults_below c from
    → map found_of after ≡ map found_of before ++ faults_at c k → k < to → Some first ≡ slice_get after 0 → IsFirstBetween c from to (Some first.found)
first_here c from k to (y ∷ ys) after first none same more lt is = absurd cc
first_here c from k to [] [] first none same more lt is = absurd cc
first_here c from k to [] (x ∷ xs) first none same more lt is =
    let here = ap (λ found. found ++ faults_at c k) same ∙ ap (λ found. faults_below c from ++ found) (sym more) in
    subst (λ (o : Option Finding). IsFirstBetween c from to (option_map found_of o)) (sym is) (first_of_more c from (suc k) to x.found (omega arith) (map found_of xs, here))

-- and none
none_here : (c : Case) (from k : ℕ) (before after : List Finding) → before ≡ [] → faults_below c k ≡ faults_below c from
    → map found_of after ≡ map found_of before ++ faults_at c k → after ≡ [] → faults_below c (suc k) ≡ faults_below c from
none_here c from k (y ∷ ys) after none same more empty = absurd cc
none_here c from k [] (x ∷ xs) none same more empty = absurd cc
none_here c from k [] [] none same more empty =
    ap (λ found. found ++ faults_at c k) same ∙ (ap (λ found. faults_below c from ++ found) (sym more) ∙ append-nil (faults_below c from))

empty : (findings : List Finding) → None ≡ slice_get findings 0 → findings ≡ []
empty [] none = refl
empty (x ∷ xs) none = absurd cc

pub loop-place-preserved : goal.loop-place-preserved
loop-place-preserved c =
    let it = case_in c.args.tables.now in
    let after = c.add_findings.new.findings.items in
    let inv = c.loop-place.invariant in
    let none = empty after (rw (c.in_default.is, c.deref.ensures.value) at c.first.ensures.value) in
    record {
      below = rw add-one (none_here it c.args.from c.loop-place.place c.loop-place.findings.items after inv.none inv.below c.in_ok-add_findings.ensures.0 none);
      none = none;
    }

pub returns-in-Some : goal.returns-in-Some
returns-in-Some c =
    let it = case_in c.args.tables.now in
    let inv = c.loop-place.invariant in
    record {
      listed =
          first_here it c.args.from c.loop-place.place c.args.to c.loop-place.findings.items c.add_findings.new.findings.items c.in-Some.first.now inv.none inv.below
          c.in_ok-add_findings.ensures.0 c.loop-place-test.true (rw c.deref.ensures.value at c.in-Some.ensures.value);
      reason = search rules;
      late = search rules;
    }

pub returns : goal.returns
returns c =
    let most = c.loop-place.auto.place-end c.requires.range.0 in
    let least = c.loop-place-test.false in
    let all : c.loop-place.place ≡ c.args.to = omega arith in
    record { listed = rw all at c.loop-place.invariant.below; reason = tt; late = tt }
