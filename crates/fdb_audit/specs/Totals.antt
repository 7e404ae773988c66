-- What is printed of how many faults were found. (this product's own)
use Rattle.std.specs.Prelude.{ℕ, ◌++◌, ◌∷◌, Bool, true, false, List, [], Option, None, Some, codes, length, slice_get}
use Rattle.fdb_lines.specs.declared.fault.Fault.{Fault}
use Rattle.fdb_lines.specs.declared.fault.Fault.TheVariants.{Order, Wrong, NotAbove, Twice, Stray}
use Rattle.fdb_lines.specs.Text.{fault_name}
use Rattle.fdb_audit.specs.Counting.{how_many_of}
use Rattle.fdb_audit.specs.Figures.{Figure, figure, figures_text}
use Rattle.fdb_audit.specs.Text.{Beside}

abbrev pub kind_figure : Fault → List Fault → Figure
kind_figure fault faults = figure (fault_name fault) (how_many_of fault faults)

-- how many there are, in all and of each kind
abbrev pub fault_figures : List Fault → List Figure
fault_figures faults =
    figure (codes "faults") (length faults) ∷ kind_figure Order faults ∷ kind_figure Wrong faults ∷ kind_figure NotAbove faults
    ∷ kind_figure Twice faults ∷ kind_figure Stray faults ∷ []

-- that there is more than is counted, where there is
abbrev pub more_text : (json more : Bool) → List ℕ
more_text json false = []
more_text false true = codes " more"
more_text true true = codes ",\"more\":true"

abbrev pub kinds : (json more : Bool) → List Fault → List ℕ
kinds false more faults = codes " " ++ figures_text false (fault_figures faults) ++ more_text false more
kinds true more faults = figures_text true (fault_figures faults) ++ more_text true more ++ codes "}"

-- how many faults were found
abbrev pub faults_line : Bool → List Fault → List ℕ
faults_line false faults = codes "audit total" ++ kinds false false faults
faults_line true faults = codes "{" ++ kinds true false faults

-- the text of a member that has a number
abbrev pub value_of : Beside → Option ℕ → Option (List ℕ)
value_of it None = None
value_of it (Some number) = slice_get it.texts number
