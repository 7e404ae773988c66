use Rattle.std.proofs.Common.{◌≡◌, ℕ, ◌+◌, ◌-◌, ◌<◌, ◌≤◌, List, length, drop, get_or, slice_range, ap, ◌∙◌, arith, rules}
use Rattle.std.proofs.lemmas.List.{get_or-take, get_or-drop, get_or_default}
use Rattle.std.specs.List.Sorted.{IsNonDecreasingBy}
use Rattle.fdb_lines.specs.declared.line.End.{End}
use Rattle.fdb_lines.specs.private.EndTable.{IsFront, end_at, end_key, no_end}
use Rattle.fdb_lines.proofs.end_table.front_around.Goals as goal

in_part : (ends : List End) (low high i : ℕ) → low ≤ i → i < high → end_at (slice_range ends low high) (i - low) ≡ end_at ends i
in_part ends low high i le lt =
    let at = get_or-take (high - low) (drop low ends) (i - low) no_end (omega arith) ∙ get_or-drop low ends (i - low) no_end in
    let there : low + (i - low) ≡ i = omega arith in
    at ∙ ap (end_at ends) there

-- the front of a part is that of all, where the part begins before the moment and ends at it or above
front_of_all : (ends : List End) (low high front moment : ℕ) (first last : End) → IsNonDecreasingBy end_key ends → low ≤ high → high < length ends
    → first ≡ get_or ends low first → last ≡ get_or ends high last → end_key first < moment → moment ≤ end_key last → front ≤ high - low
    → IsFront (slice_range ends low high) moment front → length (slice_range ends low high) ≡ high - low → IsFront ends moment (low + front)
front_of_all ends low high front moment first last sorted le lt first_is last_is under above few part size =
    let one = ap end_key (first_is ∙ get_or_default ends low first no_end (omega arith)) in
    let other = ap end_key (last_is ∙ get_or_default ends high last no_end lt) in
    let same = λ (i : ℕ) (l : low ≤ i) (h : i < high). ap end_key (in_part ends low high i l h) in (
      λ i less. let rise = sorted i low no_end in let here = same i in let before = part.0 (i - low) in grind arith,
      λ i from within. let rise = sorted high i no_end in let here = same i in let behind = part.1 (i - low) in grind arith,
    )

pub returns-then-not-is_before-clause-parts : goal.returns-then-not-is_before-clause-parts
returns-then-not-is_before-clause-parts c =
    front_of_all c.args.ends.now c.saturating_sub-low.result c.saturating_add-high.result c.front_of.result (end_key c.args.moment.now)
    c.index-ends-low.result c.index-ends-high.result c.requires
    (search rules) (search rules) c.index-ends-low.is c.index-ends-high.is (search rules) (search rules) (search rules) c.front_of.ensures.parts (search rules)
