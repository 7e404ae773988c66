-- A watch that has nothing to do until a line comes.
use Rattle.std.specs.Prelude.{◌≡◌, ◌<◌, ◌≤◌, All, length}
use Rattle.fdb_lines.specs.declared.watch.Watch.{Watch}
use Rattle.fdb_lines.specs.Before.{began}

-- it has told of all lines, and keeps few
pub record IsQuiet (watch : Watch) : Type 0 where
  pub told : watch.settled ≡ watch.count
  pub few : length watch.numbers.items ≤ 2
  pub began : All (λ line. began line < watch.from) watch.log.lines.items
