-- What is printed of a log as JSON, an object a line (RFC 8259). (this product's own)
use Rattle.std.specs.Prelude.{ℕ, ◌++◌, ◌∷◌, if◌then◌else◌, Bool, true, List, [], Option, None, Some, codes, decimal, slice_get}
use Rattle.std.specs.List.{flat_map}
use Rattle.fdb_lines.specs.declared.fault.Late.{Late}
use Rattle.fdb_lines.specs.declared.line.Operation.{Operation}
use Rattle.fdb_lines.specs.declared.line.Operation.TheVariants.{Read, Commit, Ask, Report, Learn}
use Rattle.fdb_lines.specs.declared.line.Times.{Times}
use Rattle.fdb_lines.specs.declared.fault.Finding.{Finding}
use Rattle.fdb_lines.specs.declared.fault.Means.{Means}
use Rattle.fdb_lines.specs.declared.fault.Means.TheVariants.{Ended, Own, Learnt}
use Rattle.fdb_lines.specs.declared.fault.Reason.{Reason}
use Rattle.fdb_lines.specs.declared.fault.Reason.TheVariants.{Known, Unreported, Reported, Drawn, Undrawn}
use Rattle.fdb_lines.specs.declared.fault.Witness.{Witness}
use Rattle.fdb_lines.specs.declared.slot.OrderStep.{OrderStep}
use Rattle.fdb_lines.specs.Lines.{line_at}
use Rattle.fdb_lines.specs.Text.{fault_name}
use Rattle.fdb_log_reader.specs.Columns.{text_at}
use Rattle.fdb_audit.specs.Figures.{Figure, figure, figures_text, step_figures}
use Rattle.fdb_audit.specs.Text.{Beside, PrintedLog, client_or, name_or_number, printed_line}

-- a text that is JSON by itself, or null
abbrev pub text_or_null : Option (List ℕ) → List ℕ
text_or_null None = codes "null"
text_or_null (Some text) = text

abbrev pub truth : Bool → List ℕ
truth holds = if holds then codes "true" else codes "false"

-- ---- a line

abbrev pub call_field : List (List ℕ) → Operation → List ℕ
call_field names (Read version) = codes ",\"read\":" ++ decimal version
call_field names (Commit version) = codes ",\"commit\":" ++ decimal version
call_field names (Ask version) = codes ",\"ask\":" ++ decimal version
call_field names (Report version) = codes ",\"report\":" ++ decimal version
call_field names (Learn client) = codes ",\"learn\":" ++ name_or_number client (slice_get names client)

abbrev pub times_figures : Times → List Figure
times_figures times = figure (codes "began") times.began ∷ record { name = codes "ended"; number = times.ended } ∷ []

abbrev pub times_field : Option Times → List ℕ
times_field None = []
times_field (Some times) = codes "," ++ figures_text true (times_figures times)

abbrev pub member_field : Beside → ℕ → List ℕ
member_field it place = it.member ++ codes ":" ++ text_or_null (text_at it.texts it.numbers place)

abbrev pub members_field : List Beside → ℕ → List ℕ
members_field [] place = []
members_field (it ∷ more) place =
    codes ",\"members\":{" ++ member_field it place ++ flat_map (λ other. codes "," ++ member_field other place) more ++ codes "}"

abbrev pub line_object : PrintedLog → ℕ → List ℕ
line_object it place =
    let this = line_at it.lines place in
    codes "{\"line\":" ++ decimal (printed_line it.own place) ++ client_or it.names (codes ",\"client\":") [] this.client ++ call_field it.names this.call
    ++ times_field this.times ++ members_field it.beside place ++ codes "}"

-- ---- a fault

abbrev pub means_field : PrintedLog → Means → List ℕ
means_field it Ended = codes ",\"means\":\"ended\""
means_field it Own = codes ",\"means\":\"own\""
means_field it (Learnt teller) = codes ",\"means\":\"learnt\",\"teller\":" ++ line_object it teller

abbrev pub by_field : PrintedLog → Option Witness → List ℕ
by_field it None = codes ",\"by\":null"
by_field it (Some by) = codes ",\"by\":" ++ line_object it by.place ++ means_field it by.means

abbrev pub reason_field : PrintedLog → Reason → List ℕ
reason_field it (Known version by) = codes ",\"reason\":\"known\",\"known\":" ++ decimal version ++ by_field it by
reason_field it Unreported = codes ",\"reason\":\"unreported\""
reason_field it (Reported reporter version by) =
    codes ",\"reason\":\"reported\",\"reported\":" ++ line_object it reporter ++ codes ",\"known\":" ++ decimal version ++ by_field it by
reason_field it (Drawn other) = codes ",\"reason\":\"drawn\",\"drawn\":" ++ line_object it other
reason_field it Undrawn = codes ",\"reason\":\"undrawn\""

-- how late a call was, and the line that first let be known what made it late
abbrev pub late_field : PrintedLog → Option Late → List ℕ
late_field it None = []
late_field it (Some late) = codes ",\"late\":" ++ decimal late.by ++ codes ",\"first\":" ++ line_object it late.place

abbrev pub fault_object : PrintedLog → Finding → List ℕ
fault_object it finding =
    codes "{\"fault\":\"" ++ fault_name finding.found.fault ++ codes "\",\"at\":" ++ line_object it finding.found.place
    ++ late_field it finding.late ++ reason_field it finding.reason ++ codes "}"

-- ---- an order

-- the line whose step it is; null for others
abbrev pub step_field : PrintedLog → Option ℕ → List ℕ
step_field it None = codes ",\"at\":null"
step_field it (Some place) = codes ",\"at\":" ++ line_object it place

abbrev pub step_object : PrintedLog → List ℕ → ℕ → OrderStep → List ℕ
step_object it key number step =
    codes "{" ++ figures_text true (step_figures number step.effect) ++ step_field it step.place ++ key ++ codes ",\"shared\":"
    ++ truth step.shared ++ codes "}"

-- ---- how much was judged, and by which arguments

-- names with commas between them
abbrev pub member_names : List (List ℕ) → List ℕ
member_names [] = []
member_names (name ∷ names) = name ++ flat_map (λ other. codes "," ++ other) names

abbrev pub total_object : List Figure → List Figure → Bool → List (List ℕ) → List ℕ
total_object counts arguments by_key members =
    codes "{\"total\":{" ++ figures_text true counts ++ codes "},\"arguments\":{" ++ figures_text true arguments ++ codes ",\"by_key\":"
    ++ truth by_key ++ codes ",\"members\":[" ++ member_names members ++ codes "]}}"
