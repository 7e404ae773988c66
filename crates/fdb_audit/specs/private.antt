-- What a printer shows, and what is judged. (this product's own)
pub mod Clocks
pub mod Followed
pub mod Numbering
pub mod Kept
pub mod KeptTexts
pub mod KeyTimes
pub mod Pace
use Rattle.std.specs.Prelude.{◌≡◌, ℕ, Bool, List, [], Option, map, option_copied, string_bytes}
use Rattle.fdb_lines.specs.declared.order.Order.{Order}
use Rattle.fdb_lines.specs.declared.order.Order.TheVariants.{One, ByKey}
use Rattle.fdb_lines.specs.Judged.{HaveKeys}
use Rattle.fdb_lines.specs.Lines.{Lines}
use Rattle.fdb_lines.specs.Log.{lines_of}
use Rattle.fdb_log_reader.specs.Names.{names_of}
use Rattle.fdb_log_reader.specs.Printed.{printed}
use Rattle.fdb_audit.specs.Figures.{Figure}
use Rattle.fdb_audit.specs.Groups.{by_client, by_member, Grouping}
use Rattle.fdb_audit.specs.Text.{Beside, PrintedLog}
use Rattle.fdb_audit.specs.Judged.{orders_text, steps_text}
use Rattle.fdb_audit.specs.declared.printer.Subject.{Subject}
use Rattle.fdb_audit.specs.declared.members.Column.{Column}
use Rattle.fdb_audit.specs.declared.members.MemberTexts.{MemberTexts}
use Rattle.fdb_audit.specs.declared.printer.ClientNames.{ClientNames}
use Rattle.fdb_audit.specs.declared.printer.ClientNames.TheVariants.{Texts, OfLog}
use Rattle.fdb_audit.specs.declared.figures.Figure.{Figure as Written}
use Rattle.fdb_audit.specs.declared.groups.By.{By}
use Rattle.fdb_audit.specs.declared.groups.By.TheVariants.{Client, Member}
use Rattle.fdb_audit.specs.declared.groups.Group.{Group}
use Rattle.fdb_audit.specs.declared.printer.Printer.{Printer}

abbrev pub beside_of : Column → Beside
beside_of it = record { member = string_bytes it.member; texts = map string_bytes it.texts.items; numbers = it.numbers.items }

abbrev pub beside_in : MemberTexts → Beside
beside_in it = record { member = it.name.now; texts = map string_bytes it.texts.now; numbers = it.numbers.now }

-- the names of the members that are printed beside lines
abbrev pub members_of : List Column → List (List ℕ)
members_of columns = map (λ (column : Column). string_bytes column.member) columns

abbrev pub figure_of : Written → Figure
figure_of it = record { name = it.0.now; number = it.1 }

-- the names of clients as they are printed
abbrev pub names_in : ClientNames → List (List ℕ)
names_in (Texts texts) = map string_bytes texts.now
names_in (OfLog names) = map printed (names_of names.now)

abbrev pub shown_in : Printer → PrintedLog
shown_in printer = record {
  lines = (lines_of printer.log.now).lines;
  names = names_in printer.names;
  own = printer.own.now;
  beside = map beside_of printer.beside.now;
}

-- what is judged: a log, with its keys and options

abbrev pub log_in : Subject → Lines
log_in subject = lines_of subject.printer.log.now

abbrev pub keys_in : Subject → Option (List (Option ℕ))
keys_in subject = option_copied subject.keys

-- where lines have keys, each has its own
abbrev pub HasKeys : Subject → Type 0
HasKeys subject = HaveKeys (log_in subject) (keys_in subject)

abbrev pub order_text : Bool → PrintedLog → Order → List ℕ
order_text json it (One steps) = steps_text json it [] 0 steps.items
order_text json it (ByKey orders) = orders_text json it orders.items

-- ---- groups of faults

abbrev pub grouping_of : By → Grouping
grouping_of (Client printer) = by_client (shown_in printer)
grouping_of (Member member) = by_member (beside_in member)

abbrev pub owners_in : List Group → List (Option ℕ)
owners_in groups = map (λ (group : Group). group.owner) groups
