-- Numbers that are printed by their names. (this product's own)
use Rattle.std.specs.Prelude.{ℕ, ◌++◌, ◌∷◌, Bool, true, false, List, [], Option, None, Some, codes, decimal}
use Rattle.std.specs.List.{flat_map}
use Rattle.fdb_lines.specs.declared.slot.Effect.{Effect}
use Rattle.fdb_lines.specs.declared.slot.Effect.TheVariants.{Asks, Reports, Reads}
use Rattle.fdb_lines.specs.declared.log.AuditOpts.{AuditOpts}
use Rattle.fdb_lines.specs.declared.log.Summary.{Summary}

-- a number, or null
abbrev pub number_or_null : Option ℕ → List ℕ
number_or_null None = codes "null"
number_or_null (Some number) = decimal number

-- A name, and its number; that may be missing.
pub record Figure : Type 0 where
  pub name : List ℕ
  pub number : Option ℕ

abbrev pub figure : List ℕ → ℕ → Figure
figure name number = record { name = name; number = Some number }

-- in words, which leave out a number that is missing, or as a member of an object; behind a text
abbrev pub figure_text : Bool → List ℕ → List ℕ → Option ℕ → List ℕ
figure_text false before name None = []
figure_text false before name (Some number) = before ++ name ++ codes " " ++ decimal number
figure_text true before name number = before ++ codes "\"" ++ name ++ codes "\":" ++ number_or_null number

-- what stands between two
abbrev pub between : Bool → List ℕ
between false = codes " "
between true = codes ","

abbrev pub figures_text : Bool → List Figure → List ℕ
figures_text json [] = []
figures_text json (it ∷ more) =
    figure_text json [] it.name it.number ++ flat_map (λ other. figure_text json (between json) other.name other.number) more

-- figures in words, behind others
abbrev pub figures_words : List ℕ → List Figure → List ℕ
figures_words words figures = words ++ codes " " ++ figures_text false figures

-- ---- those of a verdict

-- how much was judged
abbrev pub summary_figures : Summary → List Figure
summary_figures counts =
    figure (codes "lines") counts.lines ∷ figure (codes "timed") counts.timed ∷ figure (codes "reads") counts.reads
    ∷ figure (codes "commits") counts.commits ∷ figure (codes "asks") counts.asks ∷ figure (codes "reports") counts.reports
    ∷ figure (codes "learns") counts.learns ∷ figure (codes "unreported") counts.unreported
    ∷ record { name = codes "ordered"; number = counts.ordered } ∷ []

-- what is asked of a log
abbrev pub opts_figures : AuditOpts → List Figure
opts_figures opts = record { name = codes "complete"; number = opts.complete } ∷ figure (codes "margin") opts.margin ∷ []

-- an effect with its version
abbrev pub effect_figure : Effect → Figure
effect_figure (Asks version) = figure (codes "ask") version
effect_figure (Reports version) = figure (codes "report") version
effect_figure (Reads version) = figure (codes "read") version

-- a step of an order by its number, and its effect
abbrev pub step_figures : ℕ → Effect → List Figure
step_figures number effect = figure (codes "history") number ∷ effect_figure effect ∷ []
