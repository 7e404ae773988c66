-- What a watch finds by the lines that it keeps is what it has to tell of all.
use Rattle.std.proofs.Common.{◌≡◌, ℕ, ◌<◌, ◌≤◌, nat_le, Bool, true, false, ◌&&◌, ◌||◌, List, Option, length, map, slice_index, slice_index_or, refl, ap, sym, subst, ◌∙◌, inl, inr, arith}
use Rattle.std.specs.List.{All}
use Rattle.std.proofs.lemmas.Bool.{and_parts, both_ways, cases_lt}
use Rattle.std.proofs.lemmas.Bool.Decides.{nat_tests}
use Rattle.std.proofs.lemmas.List.{get_or-map, length-map}
use Rattle.std.proofs.lemmas.Simd.{map-map}
use Rattle.fdb_lines.specs.declared.fault.Fault.{Fault}
use Rattle.fdb_lines.specs.declared.fault.Fault.TheVariants.{Order, Wrong, NotAbove, Twice, Stray}
use Rattle.fdb_lines.specs.declared.fault.Found.{Found}
use Rattle.fdb_lines.specs.declared.line.Line.{Line}
use Rattle.fdb_lines.specs.declared.fault.Finding.{Finding}
use Rattle.fdb_lines.specs.declared.watch.Watch.{Watch}
use Rattle.fdb_lines.specs.Audit.{case_of}
use Rattle.fdb_lines.specs.Before.{began}
use Rattle.fdb_lines.specs.Carried.{with_times}
use Rattle.fdb_lines.specs.Faults.{stands}
use Rattle.fdb_lines.specs.Keys.{placed_found}
use Rattle.fdb_lines.specs.Late.{HasLate}
use Rattle.fdb_lines.specs.Lines.{Lines, line_at, lines_in}
use Rattle.fdb_lines.specs.Log.{lines_of}
use Rattle.fdb_lines.specs.Reasons.{found_of, HasReason}
use Rattle.fdb_lines.specs.Watch.{due, judged_from, HasSeen, IsTold}
use Rattle.fdb_lines.specs.Watching.{begins_before, is_watched, opts_of}
use Rattle.fdb_lines.specs.private.Due.{due_at, told_below}
use Rattle.fdb_lines.proofs.Carried.{at_part, stand_for_all}
use Rattle.fdb_lines.proofs.LateKept.{late_same}
use Rattle.fdb_lines.proofs.Reasoned.{reason_same}
use Rattle.fdb_lines.proofs.Watched.{all_told, told_of_all, IsToldAt}

-- what is found at the lines that are due, of some lines with numbers
pub record AreFound (margin : ℕ) (due : ℕ → Line → Bool) (numbers : List ℕ) (log : Lines) (found : List Finding) : Type 0 where
  pub told : map found_of found ≡ told_below (due_at due numbers log.lines) (case_of log (opts_of margin)) (length log.lines)
  pub reasons : All (HasReason log (opts_of margin)) found
  pub late : All (HasLate log (opts_of margin)) found

-- lines with times are a log with times, or there is none
as_timed : (margin : ℕ) (due : ℕ → Line → Bool) (numbers : List ℕ) (log : Lines) (found : List Finding) → (0 < length log.lines → log.timed ≡ true)
    → AreFound margin due numbers log found → AreFound margin due numbers (with_times log.lines) found
as_timed margin due numbers log found timed are = elim (cases_lt 0 (length log.lines)) [
  | inl some ↦ subst (λ b. AreFound margin due numbers (record { timed = b; lines = log.lines }) found) (timed some) are
  | inr none ↦
      let size : length log.lines ≡ 0 = omega arith in
      let no_line = ap (told_below (due_at due numbers log.lines) (case_of (with_times log.lines) (opts_of margin))) size in
      let empty = are.told ∙ ap (told_below (due_at due numbers log.lines) (case_of log (opts_of margin))) size in
      let few : length found ≡ 0 = sym (length-map found found_of) ∙ ap length empty in
      record {
        told = empty ∙ sym no_line;
        reasons = λ k d lt. absurd (omega arith);
        late = λ k d lt. absurd (omega arith);
      }
]

since_judged : (watch : Watch) (to : Option ℕ) (number : ℕ) (line : Line) → due watch to number line ≡ true → judged_from watch ≤ began line
since_judged watch to number line is =
    let parts = and_parts (begins_before to line) _ is in
    let later : (nat_le watch.from (began line) || (nat_le watch.settled number && nat_le (judged_from watch) (began line))) ≡ true = parts.1 in
    let low : judged_from watch ≤ watch.from = omega arith in
    grind (arith, nat_tests)

module _ (watch : Watch) (to : Option ℕ) (lines : List Line) (seen : HasSeen watch lines) (found : List Finding)
    (are : AreFound watch.margin (due watch to) watch.numbers.items (with_times (lines_in lines watch.numbers.items)) found)
    (kept : All (λ (finding : Finding). HasReason (lines_of watch.log) (opts_of watch.margin) finding × HasLate (lines_of watch.log) (opts_of watch.margin) finding) found) where
  abbrev numbers : List ℕ
  numbers = watch.numbers.items

  abbrev part : List Line
  part = lines_in lines numbers

  abbrev test : ℕ → Bool
  test = due_at (due watch to) numbers part

  abbrev at : ℕ
  at = judged_from watch

  each_told : (j : ℕ) (d : Finding) → j < length found
      → IsToldAt test (case_of (with_times part) (opts_of watch.margin)) (length part) (found_of (slice_index_or found j d))
  each_told j d lt =
      subst (IsToldAt test (case_of (with_times part) (opts_of watch.margin)) (length part)) (get_or-map found_of found j d (found_of d) lt)
      (subst (All (IsToldAt test (case_of (with_times part) (opts_of watch.margin)) (length part))) (sym are.told)
      (all_told test (case_of (with_times part) (opts_of watch.margin)) (length part)) j (found_of d) (omega (arith, length-map found found_of)))

  there : (it : Found) → IsToldAt test (case_of (with_times part) (opts_of watch.margin)) (length part) it → it.place < length numbers
  there it told = let lt = told.there in omega (arith, length-map numbers (line_at lines))

  begins : (it : Found) → IsToldAt test (case_of (with_times part) (opts_of watch.margin)) (length part) it → at ≤ began (line_at lines (slice_index numbers it.place))
  begins it told =
      let from = since_judged watch to (slice_index numbers it.place) (line_at part it.place) told.due in
      let same = ap began (at_part lines numbers it.place (there it told)) in
      omega arith

  stands_all : (fault : Fault) (i : ℕ) → i < length numbers → at ≤ began (line_at lines (slice_index numbers i)) → is_watched fault ≡ true
      → stands (case_of (with_times part) (opts_of watch.margin)) fault i ≡ true → stands (case_of (with_times lines) (opts_of watch.margin)) fault (slice_index numbers i) ≡ true
  stands_all Order i li from of stand = sym (stand_for_all watch.margin at lines numbers i (opts_of watch.margin) refl seen.stand li from).0 ∙ stand
  stands_all NotAbove i li from of stand = sym (stand_for_all watch.margin at lines numbers i (opts_of watch.margin) refl seen.stand li from).1 ∙ stand
  stands_all Wrong i li from of stand = absurd (both_ways false refl of)
  stands_all Twice i li from of stand = absurd (both_ways false refl of)
  stands_all Stray i li from of stand = absurd (both_ways false refl of)

  told_all : IsTold watch to lines numbers found
  told_all = record {
    tells = record {
      told =
          sym (map-map (placed_found numbers) found_of found)
          ∙ (ap (map (placed_found numbers)) are.told
          ∙ (ap (λ n. map (placed_found numbers) (told_below test (case_of (with_times part) (opts_of watch.margin)) n)) (length-map numbers (line_at lines))
          ∙ told_of_all watch.margin at lines numbers seen.stand (due watch to) (since_judged watch to)));
      reasons = λ j d lt.
          let finding = slice_index_or found j d in
          let it = each_told j d lt in
          reason_same watch.margin at lines numbers seen.stand finding.found.place (there finding.found it) (begins finding.found it) finding.found.fault finding.reason it.is_of
          (are.reasons j d lt);
      late = λ j d lt.
          let finding = slice_index_or found j d in
          let it = each_told j d lt in
          let li = there finding.found it in
          let from = begins finding.found it in
          late_same watch.margin at lines numbers seen.stand finding.found.place li from finding.found.fault it.is_of
          (stands_all finding.found.fault finding.found.place li from it.is_of it.stand) finding.late (are.late j d lt);
      within = λ j d lt. let finding = slice_index_or found j d in there finding.found (each_told j d lt);
    };
    kept = kept;
  }

pub told_is : (watch : Watch) (to : Option ℕ) (lines : List Line) → HasSeen watch lines → (0 < length watch.log.lines.items → watch.log.timed ≡ true) → (found : List Finding)
    → AreFound watch.margin (due watch to) watch.numbers.items (lines_of watch.log) found → IsTold watch to lines watch.numbers.items found
told_is watch to lines seen timed found are =
    told_all watch to lines seen found
    (subst (λ (part : List Line). AreFound watch.margin (due watch to) watch.numbers.items (with_times part) found) seen.kept
    (as_timed watch.margin (due watch to) watch.numbers.items (lines_of watch.log) found timed are))
    (λ j d lt. (are.reasons j d lt, are.late j d lt))
