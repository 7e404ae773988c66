use Rattle.std.proofs.Common.{◌≡◌, ◌++◌, drop, map, string_bytes}
use Rattle.std.specs.List.{flat_map}
use Rattle.fdb_audit.specs.Figures.{between, figure_text, figures_text}
use Rattle.fdb_audit.specs.private.{figure_of}
use Rattle.fdb_audit.proofs.figures.push_figures.Given as goal

-- what is written, and what is left, are all figures
abbrev pub invariant-loop-figure : goal.invariant-loop-figure
invariant-loop-figure l =
    string_bytes l.out ++ flat_map (λ it. figure_text l.json (between l.json) it.name it.number) (map figure_of (drop l.figure-index l.more))
    ≡ string_bytes l.fn.out ++ figures_text l.json (map figure_of l.figures)
