-- What is printed of a log and its faults. (this product's own)
use Rattle.std.specs.Prelude.{ℕ, ◌+◌, ◌-◌, ◌++◌, ◌∷◌, ◌==◌, ◌&&◌, nat_lt, not, Bool, true, false, cond, List, [], Option, None, Some, codes, decimal, slice_get, unwrap_or}
use Rattle.std.specs.List.{flat_map}
use Rattle.fdb_lines.specs.declared.fault.Found.{Found}
use Rattle.fdb_lines.specs.declared.fault.Late.{Late}
use Rattle.fdb_lines.specs.declared.line.Operation.{Operation}
use Rattle.fdb_lines.specs.declared.line.Operation.TheVariants.{Read, Commit, Ask, Report, Learn}
use Rattle.fdb_lines.specs.declared.line.Line.{Line}
use Rattle.fdb_lines.specs.declared.fault.Finding.{Finding}
use Rattle.fdb_lines.specs.declared.fault.Means.{Means}
use Rattle.fdb_lines.specs.declared.fault.Means.TheVariants.{Ended, Own, Learnt}
use Rattle.fdb_lines.specs.declared.fault.Reason.{Reason}
use Rattle.fdb_lines.specs.declared.fault.Reason.TheVariants.{Known, Unreported, Reported, Drawn, Undrawn}
use Rattle.fdb_lines.specs.declared.fault.Witness.{Witness}
use Rattle.fdb_lines.specs.declared.slot.OrderStep.{OrderStep}
use Rattle.fdb_lines.specs.Before.{began, ended}
use Rattle.fdb_lines.specs.Lines.{draws, kind_of, line_at}
use Rattle.fdb_lines.specs.Text.{fault_name}
use Rattle.fdb_log_reader.specs.Columns.{text_at}
use Rattle.fdb_audit.specs.Figures.{figures_text, step_figures}
use Rattle.fdb_audit.specs.declared.printer.LogFault.{LogFault}

-- a line ends with one newline byte
abbrev pub line : List ℕ → List ℕ
line text = text ++ 10 ∷ []

-- ---- what is printed of a log

-- A member that is printed beside each call: its name, its texts, and which of these each line has.
pub record Beside : Type 0 where
  pub member : List ℕ
  pub texts : List (List ℕ)
  pub numbers : List (Option ℕ)

-- the lines; the names of their clients, by number; what each line is told as, by place; and the members that are printed
-- beside the calls
pub record PrintedLog : Type 0 where
  pub lines : List Line
  pub names : List (List ℕ)
  pub own : List ℕ
  pub beside : List Beside

-- ---- a line, as a sentence names it

-- a client: by its name, or by its number where it has none
abbrev pub name_or_number : ℕ → Option (List ℕ) → List ℕ
name_or_number client None = decimal client
name_or_number client (Some name) = name

-- a client behind a text, or another text where it is not known
abbrev pub client_or : List (List ℕ) → List ℕ → List ℕ → Option ℕ → List ℕ
client_or names before none None = none
client_or names before none (Some client) = before ++ name_or_number client (slice_get names client)

-- what a line says that was done, with the version, or of whom it has learnt, by number
abbrev pub call_text : Operation → List ℕ
call_text (Read version) = codes "read " ++ decimal version
call_text (Commit version) = codes "commit " ++ decimal version
call_text (Ask version) = codes "ask " ++ decimal version
call_text (Report version) = codes "report " ++ decimal version
call_text (Learn client) = codes "learn " ++ decimal client

-- a member's text, behind its name; nothing where the line has none
abbrev pub member_text : List ℕ → Option (List ℕ) → List ℕ
member_text member None = []
member_text member (Some text) = codes " " ++ member ++ codes ":" ++ text

abbrev pub members_text : List Beside → ℕ → List ℕ
members_text beside place = flat_map (λ it. member_text it.member (text_at it.texts it.numbers place)) beside

-- a text of a member, by its number; or that there is none
abbrev pub owner_of : Beside → Option ℕ → List ℕ
owner_of it None = codes " no " ++ it.member
owner_of it (Some number) = member_text it.member (slice_get it.texts number)

abbrev pub whose_text : List (List ℕ) → Option ℕ → List ℕ
whose_text names None = []
whose_text names (Some client) = codes "client " ++ name_or_number client (slice_get names client) ++ codes ", "

-- what the line at a place is told as: its own number, or else its place counted from 1
abbrev pub printed_line : List ℕ → ℕ → ℕ
printed_line own place = unwrap_or (slice_get own place) (place + 1)

abbrev pub line_text : List ℕ → ℕ → List ℕ
line_text own place = codes "line " ++ decimal (printed_line own place)

abbrev pub mention : PrintedLog → ℕ → List ℕ
mention it place =
    let this = line_at it.lines place in
    line_text it.own place ++ codes " (" ++ whose_text it.names this.client ++ call_text this.call
    ++ members_text it.beside place ++ codes ")"

-- ---- why a fault stands, in one sentence

-- how long after an end a moment was, and 0 where no end is known
abbrev pub since : Option ℕ → ℕ → ℕ
since None moment = 0
since (Some end) moment = moment - end

abbrev pub wait_text : List ℕ → ℕ → ℕ → List ℕ
wait_text own place wait =
    codes " had ended " ++ decimal wait ++ codes " before " ++ line_text own place ++ codes " began"

-- that a line had ended before the call at a place began, and how long
abbrev pub ended_text : PrintedLog → ℕ → ℕ → List ℕ
ended_text it place other =
    mention it other
    ++ wait_text it.own place (since (ended (line_at it.lines other)) (began (line_at it.lines place)))

-- how the call at a place knew of a line
abbrev pub means_text : PrintedLog → ℕ → ℕ → Means → List ℕ
means_text it place other Ended = ended_text it place other
means_text it place other Own = mention it other ++ codes " is an earlier call of its client"
means_text it place other (Learnt teller) = line_text it.own teller ++ codes " had learnt of " ++ mention it other

-- how the call at a place knew of a version
abbrev pub known_text : PrintedLog → ℕ → ℕ → Option Witness → List ℕ
known_text it place version None = codes "all began with " ++ decimal version
known_text it place version (Some by) = means_text it place by.place by.means

-- what the caller of a line did: it read, drew or reported its version
abbrev pub deed_text : Operation → List ℕ
deed_text (Read version) = codes " read " ++ decimal version
deed_text (Commit version) = codes " drew " ++ decimal version
deed_text (Ask version) = codes " drew " ++ decimal version
deed_text (Report version) = codes " reported " ++ decimal version
deed_text (Learn client) = codes " learnt of " ++ decimal client

-- whether a version was known by the line at a place
abbrev pub is_by : ℕ → Option Witness → Bool
is_by place None = false
is_by place (Some by) = by.place == place

abbrev pub had_ended : Means → Bool
had_ended Ended = true
had_ended Own = false
had_ended (Learnt teller) = false

-- whether a line is told by its end as how a version was known
abbrev pub is_told : ℕ → Option Witness → Bool
is_told place None = false
is_told place (Some by) = had_ended by.means && by.place == place

-- How late a call was, and after which line: the first that let be known what made it late. Nothing where no such line
-- had ended before, or where that line is told anyhow.
abbrev pub late_text : PrintedLog → ℕ → Option Late → Option Witness → List ℕ
late_text it place None by = codes ", but "
late_text it place (Some late) by =
    cond (nat_lt 0 late.by && not (is_told late.place by))
    (codes ", " ++ decimal late.by ++ codes " too late: " ++ ended_text it place late.place ++ codes ", and ")
    (codes ", but ")

-- a clause of plain English, behind what the caller of the line at a place did
abbrev pub reason_text : PrintedLog → ℕ → Option Late → Reason → List ℕ
reason_text it place late (Known version by) =
    late_text it place late by ++ decimal version ++ codes " was known: " ++ known_text it place version by
reason_text it place late Unreported = codes ", which nobody reported"
reason_text it place late (Reported reporter version by) =
    cond (is_by place by)
    (codes ", which was reported only after this: " ++ known_text it reporter version by)
    (codes ", which " ++ mention it reporter ++ codes " reported when " ++ decimal version ++ codes " was known: "
    ++ known_text it reporter version by)
reason_text it place late (Drawn other) =
    cond (draws (kind_of (line_at it.lines place).call)) (codes ", and so did " ++ mention it other)
    (codes ", which " ++ mention it other ++ codes " drew")
reason_text it place late Undrawn = codes ", which nobody drew"

abbrev pub sentence_text : PrintedLog → ℕ → Option Late → Reason → List ℕ
sentence_text it place late reason =
    let this = line_at it.lines place in
    client_or it.names (codes "client ") (codes "its caller") this.client ++ deed_text this.call ++ members_text it.beside place ++ reason_text it place late reason

-- ---- a fault, on a line of its own

-- a fault, by its line
abbrev pub fault_of : List ℕ → Found → LogFault
fault_of own found = record { fault = found.fault; line = printed_line own found.place }

abbrev pub fault_text : LogFault → List ℕ
fault_text it = fault_name it.fault ++ codes " " ++ decimal it.line

-- a fault by its name and line, and why it stands
abbrev pub finding_text : PrintedLog → Finding → List ℕ
finding_text it finding =
    codes "audit fault: " ++ fault_text (fault_of it.own finding.found) ++ codes ": "
    ++ sentence_text it finding.found.place finding.late finding.reason

-- ---- an order

-- whose step it is: of a line, with its client where that is known, or of others, with the key of the lines that are in order
abbrev pub step_owner : PrintedLog → List ℕ → Option ℕ → List ℕ
step_owner it key None = codes " others" ++ key
step_owner it key (Some place) =
    codes " " ++ line_text it.own place ++ client_or it.names (codes " client ") [] (line_at it.lines place).client
    ++ members_text it.beside place

abbrev pub shared_text : Bool → List ℕ
shared_text true = codes " shared"
shared_text false = []

abbrev pub step_line : PrintedLog → List ℕ → ℕ → OrderStep → List ℕ
step_line it key number step =
    figures_text false (step_figures number step.effect) ++ step_owner it key step.place ++ shared_text step.shared
