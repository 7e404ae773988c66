-- The lines that are read by themselves are calls: each shows a version, or draws one.
use Rattle.std.proofs.Common.{◌≡◌, ℕ, nat_lt, Bool, true, false, not, List, [], ◌∷◌, length, map, Option, None, Some, IfOk, IsTrue, Result, Ok, Err, option_map, refl, string_bytes, sym, if◌then◌else◌}
use Rattle.std.specs.List.{All}
use Rattle.std.specs.Prelude.{⊤}
use Rattle.std.proofs.lemmas.List.Elements.{All-cons, All-nil}
use Rattle.std.proofs.lemmas.Option.{none-some}
use Rattle.fdb_lines.specs.declared.line.Operation.{Operation}
use Rattle.fdb_lines.specs.declared.line.Operation.TheVariants.{Read, Commit, Ask, Report, Learn as LearnFrom}
use Rattle.fdb_lines.specs.Lines.{are_known, is_learn, kind_of}
use Rattle.fdb_lines.specs.Reasons.{shows_or_draws}
use Rattle.fdb_log_reader.specs.declared.error.Why.{Why}
use Rattle.fdb_log_reader.specs.declared.error.Why.TheVariants.{BadMember, SomeTimes, TooLong, TooMany}
use Rattle.fdb_log_reader.specs.declared.member.Member.TheVariants.{Learn}
use Rattle.fdb_log_reader.specs.declared.reader.TheConstants.{MAX_LINE_BYTES}
use Rattle.fdb_log_reader.specs.Members.{and_then}
use Rattle.fdb_log_reader.specs.ReadLine.{LineNames, SaidLine, are_full, line_in, line_read, lines_read, names_after, no_names, refusal_alone, unless, with_names}
use Rattle.fdb_log_reader.specs.Reading.{lines_in, value_of}
use Rattle.fdb_audit.specs.declared.arguments.AuditArguments.{AuditArguments}
use Rattle.fdb_audit.specs.Watched.{lines_asked}

abbrev pub IsCall : SaidLine → Type 0
IsCall said = IsTrue (shows_or_draws (kind_of said.line.call))

abbrev Calls : Result (SaidLine × LineNames) Why → Type 0
Calls (Ok read) = IsCall read.0
Calls (Err why) = ⊤

of_call : (call : Operation) → is_learn (kind_of call) ≡ false → IsTrue (shows_or_draws (kind_of call))
of_call (Read version) none = refl
of_call (Commit version) none = refl
of_call (Ask version) none = refl
of_call (Report version) none = refl
of_call (LearnFrom teller) none = sym none

not_learnt : (known learns : Bool) → (if not known then Some SomeTimes else (if learns then Some (BadMember Learn) else None)) ≡ None → learns ≡ false
not_learnt false learns is = absurd (none-some SomeTimes (sym is))
not_learnt true true is = absurd (none-some (BadMember Learn) (sym is))
not_learnt true false is = refl

calls_unless : (said : SaidLine) (names : LineNames) (why : Option Why) → (why ≡ None → IsCall said) → Calls (unless why (said, names))
calls_unless said names None is = is refl
calls_unless said names (Some why) is = tt

calls_else : (b : Bool) (why : Why) (read : Result (SaidLine × LineNames) Why) → Calls read → Calls (if b then Err why else read)
calls_else true why read is = tt
calls_else false why read is = is

calls_then : {T : Type 0} (said : Result T Why) (next : T → Result (SaidLine × LineNames) Why) → ((t : T) → Calls (next t)) → Calls (and_then said next)
calls_then (Ok said) next is = is said
calls_then (Err why) next is = tt

call_read : (shown : List (List ℕ)) (names : LineNames) (bytes : List ℕ) → Calls (line_read shown names bytes)
call_read shown names bytes =
    calls_else (nat_lt MAX_LINE_BYTES (length bytes)) TooLong _
    (calls_else (are_full names) TooMany _
    (calls_then (value_of bytes) _ (λ value. calls_then _ _ (λ parts. calls_unless _ (with_names names parts) (refusal_alone parts)
    (λ none. of_call parts.call (not_learnt (are_known parts.times) (is_learn (kind_of parts.call)) none))))))

one_call : (read : Result (SaidLine × LineNames) Why) → Calls read → IfOk (line_in read) IsCall
one_call (Ok read) is = is
one_call (Err why) is = tt

all_calls : (shown : List (List ℕ)) (names : LineNames) (lines : List (List ℕ)) → All (λ read. IfOk read IsCall) (lines_read shown names lines)
all_calls shown names [] = All-nil (λ read. IfOk read IsCall)
all_calls shown names (line ∷ lines) =
    let read = line_read shown names line in
    All-cons (λ read. IfOk read IsCall) (line_in read) (lines_read shown (names_after names read) lines) (one_call read (call_read shown names line)) (all_calls shown (names_after names read) lines)

pub calls_asked : (asked : AuditArguments) (text : List ℕ) → All (λ read. IfOk read IsCall) (lines_asked asked text)
calls_asked asked text = all_calls (map string_bytes asked.shown.items) (no_names (option_map string_bytes asked.key)) (lines_in text)
