-- A log takes ranked lines, one after another.
use Rattle.std.proofs.Common.{◌≡◌, ℕ, ◌<◌, true, false, List, length, map, take, get_or, None, ap, ◌∙◌, inl, inr, arith}
use Rattle.std.proofs.lemmas.Bool.Decides.{nat_tests}
use Rattle.std.proofs.lemmas.List.{get_or_default, length-map, length-take}
use Rattle.fdb_lines.specs.declared.line.Line.{Line}
use Rattle.fdb_lines.specs.declared.log.Log.{Log}
use Rattle.fdb_lines.specs.Lines.{Lines, has_times, is_learn, kind_of, line_at, nobody}
use Rattle.fdb_lines.specs.Log.{refusal_of}
use Rattle.fdb_values.specs.ByValue.{AreByValue, call_at, ranked_line}
use Rattle.fdb_values.proofs.RankedCase.{line_is, same_kind}

no_refusal : (log : Lines) (line : Line) → length log.lines < 4294967295 → (0 < length log.lines → log.timed ≡ true) → has_times line ≡ true
    → is_learn (kind_of line.call) ≡ false → refusal_of log line ≡ None
no_refusal log line few timed has no_learn = grind (arith, nat_tests)

pub taken : (rank : ℕ → ℕ) (log : Log) → log.timed ≡ true → AreByValue log.lines.items → (items : List Line) → items ≡ map (ranked_line rank) log.lines.items
    → (k : ℕ) → k < length items → (item : Line) → item ≡ get_or items k item → (made : Lines) → made.lines ≡ take k items → (0 < k → made.timed ≡ true)
    → (refusal_of made item ≡ None) × (has_times item ≡ true)
taken rank log timed by items are k lt item is made so_far made_timed =
    let lines = log.lines.items in
    let many : length items ≡ length lines = ap length are ∙ length-map lines (ranked_line rank) in
    let lk : k < length lines = omega (arith, many) in
    let it : item ≡ ranked_line rank (line_at lines k) = is ∙ (get_or_default items k item nobody lt ∙ (ap (λ all. line_at all k) are ∙ line_is lines rank k lk)) in
    let has : has_times item ≡ true = ap has_times it ∙ (log.alike k lk ∙ timed) in
    let kind : kind_of item.call ≡ call_at lines k = ap (λ (line : Line). kind_of line.call) it ∙ same_kind rank (line_at lines k).call in
    let no_learn : is_learn (kind_of item.call) ≡ false = ap is_learn kind ∙ elim (by.calls k lk) [ inl read ↦ ap is_learn read | inr commit ↦ ap is_learn commit ] in
    let size : length made.lines ≡ k = ap length so_far ∙ (let few = length-take k items in grind arith) in
    (no_refusal made item (let few = log.few in omega arith) (λ some. made_timed (omega arith)) has no_learn, has)
