-- What is printed of an audit of a log. (this product's own)
use Rattle.std.specs.Prelude.{◌≡◌, ⊤, ℕ, ◌+◌, ◌++◌, Bool, true, false, List, [], ◌∷◌, Option, None, Some, Ok, codes, is_some, map, slice_get}
use Rattle.std.specs.List.{flat_map}
use Rattle.fdb_lines.specs.declared.fault.Found.{Found}
use Rattle.fdb_lines.specs.declared.order.KeyOrder.{KeyOrder}
use Rattle.fdb_lines.specs.declared.log.AuditOpts.{AuditOpts}
use Rattle.fdb_lines.specs.declared.fault.Finding.{Finding}
use Rattle.fdb_lines.specs.declared.log.Summary.{Summary}
use Rattle.fdb_lines.specs.declared.slot.OrderStep.{OrderStep}
use Rattle.fdb_lines.specs.Audit.{case_of}
use Rattle.fdb_lines.specs.Judged.{faults_in, AreAll, AreExplainedIn, AreOrders, HasLateIn, HasReasonIn, IsSummary}
use Rattle.fdb_lines.specs.Lines.{Lines}
use Rattle.fdb_lines.specs.OrderSteps.{IsOrderOf}
use Rattle.fdb_log_reader.specs.Columns.{ArePrinted, HasCells, KeyColumn, NumberColumn, ShownColumn}
use Rattle.fdb_log_reader.specs.Printed.{printed}
use Rattle.fdb_log_reader.specs.Reading.{Reading, reading_in}
use Rattle.fdb_audit.specs.Groups.{groupings, AreMostOfEach}
use Rattle.fdb_audit.specs.Figures.{figures_words, opts_figures, summary_figures}
use Rattle.fdb_audit.specs.Objects.{fault_object, step_object, text_or_null, total_object}
use Rattle.fdb_audit.specs.Text.{Beside, PrintedLog, finding_text, line, owner_of, step_line}
use Rattle.fdb_audit.specs.Totals.{faults_line, value_of}
use Rattle.fdb_audit.specs.declared.judgement.Wanted.{Wanted}

-- ---- what is printed: sentences, or JSON objects

abbrev pub step_text : Bool → PrintedLog → List ℕ → ℕ → OrderStep → List ℕ
step_text false it key number step = step_line it key number step
step_text true it key number step = step_object it key number step

-- a line for each step of an order, counted on from a number
abbrev pub steps_text : Bool → PrintedLog → List ℕ → ℕ → List OrderStep → List ℕ
steps_text json it key number [] = []
steps_text json it key number (step ∷ steps) = line (step_text json it key number step) ++ steps_text json it key (number + 1) steps

-- a key, as it is told of a step: by the first member that is printed beside the calls
abbrev pub key_text : Bool → List Beside → Option ℕ → List ℕ
key_text json [] key = []
key_text false (it ∷ more) key = owner_of it key
key_text true (it ∷ more) key = codes ",\"key\":" ++ text_or_null (value_of it key)

abbrev pub orders_text : Bool → PrintedLog → List KeyOrder → List ℕ
orders_text json it orders = flat_map (λ order. steps_text json it (key_text json it.beside order.key) 0 order.steps.items) orders

-- an order that explains the lines, if it is wanted
abbrev pub IsHistory : Lines → PrintedLog → Option (List (Option ℕ)) → AuditOpts → Wanted → Bool → List ℕ → Type 0
IsHistory log it keys opts wanted false text = text ≡ []
IsHistory log it None opts wanted true text =
    (steps : List OrderStep) × IsOrderOf (case_of log opts) steps × (text ≡ steps_text wanted.json it [] 0 steps)
IsHistory log it (Some keys) opts wanted true text =
    (orders : List KeyOrder) × AreOrders log keys opts orders × (text ≡ orders_text wanted.json it orders)

-- how much was judged
abbrev pub total_line : Bool → PrintedLog → Option (List (Option ℕ)) → AuditOpts → Summary → List ℕ
total_line false it keys opts counts = figures_words (codes "audit total") (summary_figures counts)
total_line true it keys opts counts = total_object (summary_figures counts) (opts_figures opts) (is_some keys) (map (λ member. member.member) it.beside)

-- What is printed where no fault stands: how much that stands on, and an order that explains the lines if it is wanted.
abbrev pub head_text : Bool → PrintedLog → Option (List (Option ℕ)) → AuditOpts → Summary → List ℕ
head_text false it keys opts counts = line (figures_words (codes "audit ok") (summary_figures counts))
head_text true it keys opts counts = line (total_line true it keys opts counts) ++ line (faults_line true [])

abbrev pub passed_text : Bool → List ℕ → List ℕ → List ℕ
passed_text false head history = head ++ history
passed_text true head history = history ++ head

abbrev pub IsPassed : Lines → PrintedLog → Option (List (Option ℕ)) → AuditOpts → Wanted → List ℕ → Type 0
IsPassed log it keys opts wanted text =
    (counts : Summary) × IsSummary log keys opts counts × (history : List ℕ) × IsHistory log it keys opts wanted wanted.history history
    × (text ≡ passed_text wanted.json (head_text wanted.json it keys opts counts) history)

abbrev pub fault_line : Bool → PrintedLog → Finding → List ℕ
fault_line false it finding = finding_text it finding
fault_line true it finding = fault_object it finding

-- a line for each of some faults
abbrev pub list_text : Bool → PrintedLog → List Finding → List ℕ
list_text json it found = flat_map (λ finding. line (fault_line json it finding)) found

-- the faults that are listed: all, or the first alone, or none where the totals alone are wanted
abbrev pub IsListing : Lines → PrintedLog → Option (List (Option ℕ)) → AuditOpts → Wanted → Bool → Bool → Found → List ℕ → Type 0
IsListing log it keys opts wanted true totals first text =
    (found : List Finding) × AreAll log keys opts found × (text ≡ list_text wanted.json it found)
IsListing log it keys opts wanted false true first text = text ≡ []
IsListing log it keys opts wanted false false first text =
    (finding : Finding) × (finding.found ≡ first) × HasReasonIn log keys opts finding × HasLateIn log keys opts finding
    × (text ≡ list_text wanted.json it (finding ∷ []))

-- how much was judged and how many faults were found, in all and of the groups with most, if that is wanted
abbrev pub AreTotals : Lines → PrintedLog → Option (List (Option ℕ)) → AuditOpts → Wanted → Bool → List ℕ → Type 0
AreTotals log it keys opts wanted false text = text ≡ []
AreTotals log it keys opts wanted true text =
    let found = faults_in log keys opts in
    (counts : Summary) × IsSummary log keys opts counts × (groups : List ℕ) × AreMostOfEach wanted.json (groupings it) found groups
    × (text ≡ line (total_line wanted.json it keys opts counts) ++ line (faults_line wanted.json (map (λ (it : Found). it.fault) found)) ++ groups)

-- What is printed where faults stand: those that are listed, each with a reason that is true of the lines, and totals.
abbrev pub IsFaulted : Lines → PrintedLog → Option (List (Option ℕ)) → AuditOpts → Wanted → Found → List ℕ → Type 0
IsFaulted log it keys opts wanted first text =
    (listing : List ℕ) × IsListing log it keys opts wanted wanted.all wanted.totals first listing
    × (totals : List ℕ) × AreTotals log it keys opts wanted wanted.totals totals × (text ≡ listing ++ totals)

-- What an audit of a log finds, and prints: no fault, exactly where some history explains the lines; or the first fault.
abbrev pub IsTextOf : Lines → PrintedLog → Option (List (Option ℕ)) → AuditOpts → Wanted → Option Found → List ℕ → Type 0
IsTextOf log it keys opts wanted None text = AreExplainedIn log keys opts × IsPassed log it keys opts wanted text
IsTextOf log it keys opts wanted (Some first) text =
    (¬ (AreExplainedIn log keys opts)) × (slice_get (faults_in log keys opts) 0 ≡ Some first)
    × IsFaulted log it keys opts wanted first text

-- the same of lines without keys, beside which no member is printed
abbrev pub IsText : Lines → List (List ℕ) → AuditOpts → Wanted → Option Found → List ℕ → Type 0
IsText log names opts wanted first text =
    IsTextOf log (record { lines = log.lines; names = names; own = []; beside = [] }) None opts wanted first text

-- ---- of what was read

-- where keys were kept, each line has its own
abbrev pub HasOwnKeys : Reading → Type 0
HasOwnKeys reading = HasCells reading.keys reading.log

-- the keys of the lines, if they were kept
abbrev pub keys_of_lines : Option KeyColumn → Option (List (Option ℕ))
keys_of_lines None = None
keys_of_lines (Some column) = Some column.numbers

-- they are printed beside the calls, as JSON strings, under the name of their member
abbrev pub keys_beside : Option KeyColumn → List Beside
keys_beside None = []
keys_beside (Some column) = record { member = printed column.member; texts = map printed column.keys; numbers = column.numbers } ∷ []

-- a member that is shown is printed by JSON texts of what the lines say
pub record IsBeside (column : ShownColumn) (it : Beside) : Type 0 where
  pub member : it.member ≡ printed column.member
  pub texts : ArePrinted column.values it.texts it.numbers

-- each of those that are shown, in their order
abbrev pub AreBeside : List ShownColumn → List Beside → Type 0
AreBeside [] [] = ⊤
AreBeside [] (it ∷ more) = ⊥
AreBeside (column ∷ columns) [] = ⊥
AreBeside (column ∷ columns) (it ∷ more) = IsBeside column it × AreBeside columns more

-- what lines are told as: their own numbers, where they have such
abbrev pub own_numbers : Option NumberColumn → List ℕ
own_numbers None = []
own_numbers (Some column) = column.numbers

-- what is printed of a log that was read: its clients are JSON strings, safe on a terminal and within a line
abbrev pub print_of : Reading → List Beside → PrintedLog
print_of reading shown = record { lines = reading.log.lines; names = map printed reading.names; own = own_numbers reading.numbers; beside = keys_beside reading.keys ++ shown }

abbrev pub IsTextOfReading : Reading → AuditOpts → Wanted → Option Found → List ℕ → Type 0
IsTextOfReading reading opts wanted first text =
    (shown : List Beside) × AreBeside reading.shown shown
    × IsTextOf reading.log (print_of reading shown) (keys_of_lines reading.keys) opts wanted first text

-- these bytes stand for a log, and this is what is found and printed
abbrev pub IsJudgement : List ℕ → AuditOpts → Wanted → Option Found → List ℕ → Type 0
IsJudgement bytes opts wanted first text =
    (reading : Reading) × (reading_in bytes ≡ Ok reading) × IsTextOfReading reading opts wanted first text
