-- How a fault is printed, and why a line is refused. (this product's own)
use Rattle.std.specs.Prelude.{ℕ, ◌+◌, ◌++◌, List, codes, decimal}
use Rattle.fdb_lines.specs.declared.fault.Fault.{Fault}
use Rattle.fdb_lines.specs.declared.fault.Fault.TheVariants.{Order, Wrong, NotAbove, Twice, Stray}
use Rattle.fdb_lines.specs.declared.fault.Found.{Found}
use Rattle.fdb_lines.specs.declared.log.LineError.{LineError}
use Rattle.fdb_lines.specs.declared.log.LineError.TheVariants.{TooMany, SomeTimes, TimedLearn, NoClient, Memory}
use Rattle.fdb_lines.specs.declared.watch.WatchError.{WatchError}
use Rattle.fdb_lines.specs.declared.watch.WatchError.TheVariants.{NoTimes, Line}

abbrev pub fault_name : Fault → List ℕ
fault_name Order = codes "Order"
fault_name Wrong = codes "Wrong"
fault_name NotAbove = codes "NotAbove"
fault_name Twice = codes "Twice"
fault_name Stray = codes "Stray"

-- a fault, by its name and its line, counted from 1
abbrev pub found_text : Found → List ℕ
found_text found = fault_name found.fault ++ codes " " ++ decimal (found.place + 1)

abbrev pub line_error_text : LineError → List ℕ
line_error_text TooMany = codes "too many lines"
line_error_text SomeTimes = codes "times on some lines only"
line_error_text TimedLearn = codes "a learn beside times"
line_error_text NoClient = codes "no client and no times"
line_error_text Memory = codes "out of memory"

abbrev pub watch_error_text : WatchError → List ℕ
watch_error_text NoTimes = codes "no times"
watch_error_text (Line error) = line_error_text error
