-- What lines let others know of their versions: that they were shown, or drawn.
use Rattle.std.specs.Prelude.{Bool}
use Rattle.fdb_lines.specs.declared.known.Exposure.{Exposure}
use Rattle.fdb_lines.specs.declared.known.Exposure.TheVariants.{Shown, Drawn}
use Rattle.fdb_lines.specs.Lines.{Kind, shows, draws}

abbrev pub counts : Exposure → Kind → Bool
counts Shown kind = shows kind
counts Drawn kind = draws kind
