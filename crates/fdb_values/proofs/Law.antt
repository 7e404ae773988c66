-- No fault stands by rank exactly where the lines are explained by value.
use Rattle.std.proofs.Common.{◌↔◌, ℕ, List, map, Some, true}
use Rattle.fdb_lines.specs.declared.line.Line.{Line}
use Rattle.fdb_lines.specs.Carried.{with_times}
use Rattle.fdb_lines.specs.Faults.{IsFaultless}
use Rattle.fdb_lines.specs.Order.{rank_of}
use Rattle.fdb_values.specs.ByValue.{AreByValue, AreExplainedByValue, IsOrderOfValues, ranked, ranked_line}
use Rattle.fdb_values.proofs.RankedCase.{of_lines}
use Rattle.fdb_values.proofs.ByRank.{by_rank}
use Rattle.fdb_values.proofs.InOrder.{faultless}
use Rattle.fdb_values.proofs.Facts.{ranked as turns}

pub law : (margin : ℕ) (lines : List Line) (rank : ℕ → ℕ) → AreByValue lines → IsOrderOfValues margin lines rank
    → IsFaultless (ranked margin lines rank) ↔ AreExplainedByValue margin lines
law margin lines rank by o =
    let c = ranked margin lines rank in
    let of = of_lines margin lines rank by in
    let log = with_times (map (ranked_line rank) lines) in (
      λ none. by_rank margin lines rank by o c of none (rank_of true log.lines) (turns log.lines (record { complete = Some 0; margin = margin })),
      λ e. faultless margin lines by e.0 e.1 rank o c of,
    )
