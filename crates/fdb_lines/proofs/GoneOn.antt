-- What is told of lines that come later, by lines that were kept, is what is told of them by all.
use Rattle.std.proofs.Common.{◌≡◌, ◌∙◌, ℕ, ◌<◌, ◌≤◌, true, List, [], ◌∷◌, ◌++◌, None, Some, ap, append-nil, append_assoc, arith, length, map, subst, sym}
use Rattle.std.specs.Prelude.{IsPermutation}
use Rattle.std.specs.List.{filter, range_with_len}
use Rattle.std.proofs.lemmas.Bool.Decides.{nat_tests}
use Rattle.std.proofs.lemmas.List.{length-map, length_push}
use Rattle.fdb_lines.specs.declared.fault.Found.{Found}
use Rattle.fdb_lines.specs.declared.line.Line.{Line}
use Rattle.fdb_lines.specs.Before.{began}
use Rattle.fdb_lines.specs.Carried.{StandFor}
use Rattle.fdb_lines.specs.Keys.{placed_found}
use Rattle.fdb_lines.specs.Lines.{line_at, lines_in}
use Rattle.fdb_lines.specs.Listing.{faults_of}
use Rattle.fdb_lines.specs.Watching.{is_due, is_watched, told_of, watched}
use Rattle.fdb_lines.specs.private.Due.{due_at, told_below}
use Rattle.fdb_lines.proofs.Carried.{and_one_more, one_more_is}
use Rattle.fdb_lines.proofs.EntriesTell.{all_due, below_same, told_same, window_more}
use Rattle.fdb_lines.proofs.Watched.{filtered, told_of_all, told_stays}

-- ---- the lines that were kept, and those that come since, stand for all

pub numbers_on : (places : List ℕ) (lines more : List Line) (line : Line)
    → (places ++ length lines ∷ []) ++ range_with_len (length (lines ++ line ∷ [])) (length more) ≡ places ++ range_with_len (length lines) (length (line ∷ more))
numbers_on places lines more line =
    append_assoc places (length lines ∷ []) (range_with_len (length (lines ++ line ∷ [])) (length more))
    ∙ ap (λ n. places ++ length lines ∷ range_with_len n (length more)) (length_push lines line)

stands_on : (margin at : ℕ) (lines : List Line) (places : List ℕ) (more : List Line) → StandFor margin at lines places
    → StandFor margin at (lines ++ more) (places ++ range_with_len (length lines) (length more))
stands_on margin at lines places [] stand =
    subst (StandFor margin at (lines ++ [])) (sym (append-nil places)) (subst (λ (ls : List Line). StandFor margin at ls places) (sym (append-nil lines)) stand)
stands_on margin at lines places (line ∷ more) stand =
    subst (StandFor margin at (lines ++ line ∷ more)) (numbers_on places lines more line)
    (subst (λ (ls : List Line). StandFor margin at ls ((places ++ length lines ∷ []) ++ range_with_len (length (lines ++ line ∷ [])) (length more))) (append_assoc lines (line ∷ []) more)
    (stands_on margin at (lines ++ line ∷ []) (places ++ length lines ∷ []) more (and_one_more margin at lines places stand line)))

they_are : (margin at : ℕ) (lines : List Line) (places : List ℕ) (more : List Line) → StandFor margin at lines places
    → lines_in (lines ++ more) (places ++ range_with_len (length lines) (length more)) ≡ lines_in lines places ++ more
they_are margin at lines places [] stand =
    ap (lines_in (lines ++ [])) (append-nil places) ∙ (ap (λ (ls : List Line). lines_in ls places) (append-nil lines) ∙ sym (append-nil (lines_in lines places)))
they_are margin at lines places (line ∷ more) stand =
    let further = places ++ length lines ∷ [] in
    ap (lines_in (lines ++ line ∷ more)) (sym (numbers_on places lines more line))
    ∙ (ap (λ (ls : List Line). lines_in ls (further ++ range_with_len (length (lines ++ line ∷ [])) (length more))) (sym (append_assoc lines (line ∷ []) more))
    ∙ (they_are margin at (lines ++ line ∷ []) further more (and_one_more margin at lines places stand line)
    ∙ (ap (λ (ls : List Line). ls ++ more) (one_more_is margin at lines places line stand) ∙ append_assoc (lines_in lines places) (line ∷ []) more)))

-- ---- what is told of lines that began from a moment on

pub any_number : (from one other : ℕ) (line : Line) → is_due from from 0 None one line ≡ is_due from from other None one line
any_number from one other line = grind (arith, nat_tests)

same_due : (from one other : ℕ) (line : Line) → is_due from from 0 None one line ≡ is_due from from 0 None other line
same_due from one other line = grind (arith, nat_tests)

begins : (from at number : ℕ) (line : Line) → at ≤ from → is_due from from 0 None number line ≡ true → at ≤ began line
begins from at number line le is = grind (arith, nat_tests)

pub by_part : (margin at from : ℕ) (lines : List Line) (places : List ℕ) → at ≤ from → StandFor margin at lines places
    → map (placed_found places) (told_of margin (is_due from from 0 None) (lines_in lines places)) ≡ told_of margin (is_due from from 0 None) lines
by_part margin at from lines places le stand =
    let due = is_due from from 0 None in
    let part = lines_in lines places in
    let c = watched margin part in
    ap (map (placed_found places))
    (sym (filtered (λ k. due k (line_at part k)) c (length part))
    ∙ (below_same (λ k. due k (line_at part k)) (due_at due places part) c (length part) (λ k lt. same_due from k _ (line_at part k))
    ∙ ap (told_below (due_at due places part) c) (length-map places (line_at lines))))
    ∙ told_of_all margin at lines places stand due (λ number line is. begins from at number line le is)

module _ (margin at from : ℕ) (lines : List Line) (places : List ℕ) (more : List Line) (le : at ≤ from) (stand : StandFor margin at lines places) where
  abbrev beyond : List ℕ
  beyond = places ++ range_with_len (length lines) (length more)

  pub told_later : told_of margin (is_due from from 0 None) (lines ++ more) ≡ map (placed_found beyond) (told_of margin (is_due from from 0 None) (lines_in lines places ++ more))
  told_later =
      sym (by_part margin at from (lines ++ more) beyond le (stands_on margin at lines places more stand))
      ∙ ap (λ (ls : List Line). map (placed_found beyond) (told_of margin (is_due from from 0 None) ls)) (they_are margin at lines places more stand)

  pub told_once : ((j : ℕ) → j < length more → from ≤ began (line_at more j))
      → IsPermutation (told_of margin (is_due 0 0 0 (Some from)) lines ++ map (placed_found beyond) (told_of margin (is_due from from 0 None) (lines_in lines places ++ more)))
      (filter (λ (found : Found). is_watched found.fault) (faults_of (watched margin (lines ++ more))))
  told_once later =
      let all = lines ++ more in
      let every = filter (λ (found : Found). is_watched found.fault) (faults_of (watched margin all)) in
      let before = told_of margin (is_due 0 0 0 (Some from)) in
      let since = told_of margin (is_due from from 0 None) in
      subst (λ l. IsPermutation (before lines ++ l) every) told_later
      (subst (λ l. IsPermutation (l ++ since all) every) (told_stays margin from lines more later (is_due 0 0 0 (Some from)) (λ number line is. early number line is))
      (subst (IsPermutation (before all ++ since all)) (sym (all_due margin all))
      (subst (λ l. IsPermutation (before all ++ l) (told_of margin (is_due 0 0 0 None) all))
      (sym (told_same margin (is_due from from 0 None) (is_due from from (length all) None) all (λ k lt. any_number from k (length all) (line_at all k))))
      (window_more margin from from (length all) None all tt (λ j ge lt. absurd (omega (arith, ge, lt)))))))
    where
      early : (number : ℕ) (line : Line) → is_due 0 0 0 (Some from) number line ≡ true → began line < from
      early number line is = grind (arith, nat_tests)
