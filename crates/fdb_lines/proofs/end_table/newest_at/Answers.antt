use Rattle.std.proofs.Common.{◌-◌, inl, inr, arith}
use Rattle.std.proofs.lemmas.List.{get_or_default}
use Rattle.fdb_lines.specs.private.EndTable.{no_end}
use Rattle.fdb_lines.proofs.Newest.{first_of_group}
use Rattle.fdb_lines.proofs.end_table.newest_at.Goals as goal
use Rattle.fdb_lines.proofs.end_table.newest_at.Goals.{else-i-gt0-via-then-i-gt0+else-ends-i, else-i-gt0-via-else-i-gt0}

pub returns-else-i-gt0 : goal.returns-else-i-gt0
returns-else-i-gt0 c =
    let ends = c.args.ends.now in
    let i = c.args.i in
    let lt = c.requires.place in
    first_of_group ends c.requires.sorted i lt
    (elim c.else-i-gt0.branch [
      | else-i-gt0-via-then-i-gt0+else-ends-i w ↦
          inr (rw (get_or_default ends (i - 1) w.index-ends-i.result no_end (omega arith), get_or_default ends i w.index-ends-i-then-i-gt0.result no_end lt) at w.if-ends-i.false)
      | else-i-gt0-via-else-i-gt0 w ↦ let none = w.if-i-gt0.false in inl (omega arith)
    ])
