use Rattle.std.proofs.Common.{◌≡◌, ◌∙◌, ◌<◌, IfOk, List, OnOk, Result, ap, is_some, length, map, option_map, subst, sym, ℕ}
use Rattle.std.specs.List.{All}
use Rattle.std.proofs.lemmas.List.{length-map}
use Rattle.std.proofs.lemmas.List.Elements.{All-map, All-weaker}
use Rattle.fdb_lines.specs.declared.key_part.KeptLine.{KeptLine}
use Rattle.fdb_lines.specs.KeyWatch.{IsKept}
use Rattle.fdb_log_reader.specs.declared.error.Why.{Why}
use Rattle.fdb_log_reader.specs.declared.read_line.ReadLine.{ReadLine}
use Rattle.fdb_log_reader.specs.LineReader.{line_names}
use Rattle.fdb_log_reader.specs.ReadLine.{SaidLine, member_in, said_in}
use Rattle.fdb_log_reader.specs.Reading.{EndsALine, lines_in}
use Rattle.fdb_audit.specs.Following.{keys_taken, lines_taken, taken}
use Rattle.fdb_audit.specs.Kept.{KeptSaid, Rise, kept_at, kept_members, kept_said, lines_kept, named_in, named_said}
use Rattle.fdb_audit.specs.private.KeptTexts.{number_of, said_of}
use Rattle.fdb_audit.proofs.read_back.refusal_of.Goals as goal

pub returns-then-are_said-clause-said : goal.returns-then-are_said-clause-said
returns-then-are_said-clause-said c = λ _ start read told are each.
    let text = c.args.text.now in
    let taking = c.args.taking.now in
    let kept = c.args.kept.now in
    let places : c.deref.result.now ≡ map number_of kept = c.deref.ensures.value ∙ c.in_ok-places.ensures in
    let said : said_of c.in-Ok.read.said ≡ kept_said (lines_kept (member_in (line_names c.args.reader.now)) text) =
    subst (λ it. IfOk it (λ read. said_of read.said ≡ kept_said (lines_kept (option_map (λ key. key.now) c.key_member.result) text))) c.in-Ok.is c.in_ok-read.ensures.said
    ∙ ap (λ key. kept_said (lines_kept key text)) c.key_member.ensures in
    let size = length-map (taken read) (λ (said : SaidLine). said.line) in
    let came : All (λ place. place < length (lines_taken read)) (map number_of kept) =
    All-map (λ place. place < length (lines_taken read)) number_of kept
    (All-weaker (IsKept (lines_taken read) (keys_taken read)) (λ (one : KeptLine). number_of one < length (lines_taken read)) (λ one is. is.came) kept each) in
    let within : All (λ place. place < length (taken read)) c.deref.result.now =
    subst (λ (list : List ℕ). All (λ place. place < length (taken read)) list) (sym places) (subst (λ n. All (λ place. place < n) (map number_of kept)) size came) in
    sym said ∙ (c.in_ok-is_kept.ensures c.if-is_kept.true start read told are within
    ∙ ap (λ (list : List ℕ). kept_at start.kept read list taking.settled taking.watch.from (is_some taking.clocks.second)) places)

pub returns-then-are_said-clause-rise : goal.returns-then-are_said-clause-rise
returns-then-are_said-clause-rise c = λ _.
    let text = c.args.text.now in
    let read = c.in-Ok.read in
    let said : said_of read.said ≡ kept_said (lines_kept (member_in (line_names c.args.reader.now)) text) =
    subst (λ it. IfOk it (λ read. said_of read.said ≡ kept_said (lines_kept (option_map (λ key. key.now) c.key_member.result) text))) c.in-Ok.is c.in_ok-read.ensures.said
    ∙ ap (λ key. kept_said (lines_kept key text)) c.key_member.ensures in
    subst (λ (said : KeptSaid). Rise said.front.lines) said read.said.rise

pub returns-then-are_said-clause-many : goal.returns-then-are_said-clause-many
returns-then-are_said-clause-many c = λ _.
    subst (λ it. IfOk it (λ read. length (lines_in c.args.text.now) ≡ length read.lines.items)) c.in-Ok.is c.in_ok-read.ensures.many
    ∙ (ap length (sym c.deref-then-is_kept.ensures.value) ∙ c.are_said.ensures.many c.if-are_said.true)

pub returns-then-are_said-clause-ends : goal.returns-then-are_said-clause-ends
returns-then-are_said-clause-ends c = λ _. subst (λ it. OnOk it (EndsALine c.args.text.now)) c.in-Ok.is c.in_ok-read.ensures.ends

pub returns-then-are_said-clause-lines : goal.returns-then-are_said-clause-lines
returns-then-are_said-clause-lines c = λ _.
    let text = c.args.text.now in
    let read = c.in-Ok.read in
    let own = line_names read.reader in
    let lines : map (named_said own) (taken (map said_in read.lines.items)) ≡ named_in (option_map (λ key. key.now) c.key_member.result) kept_members text =
    subst (λ it. IfOk it (λ read. map (named_said (line_names read.reader)) (taken (map said_in read.lines.items)) ≡ named_in (option_map (λ key. key.now) c.key_member.result) kept_members text))
    c.in-Ok.is c.in_ok-read.ensures.lines in
    ap (λ key. named_in key kept_members text) (sym c.key_member.ensures)
    ∙ (sym lines
    ∙ (ap (λ (items : List (Result ReadLine Why)). map (named_said own) (taken (map said_in items))) (sym c.deref-then-is_kept.ensures.value) ∙ c.are_said.ensures.said c.if-are_said.true))
