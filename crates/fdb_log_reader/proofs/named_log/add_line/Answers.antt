use Rattle.std.proofs.Common.{ℕ, List, inl, inr, Ok, Result, ap, refl, ◌≡◌, [], ◌∙◌, ◌<◌, option_map, subst, sym, true, ◌==◌, length, arith, rules}
use Rattle.std.specs.Prelude.{⊤}
use Rattle.std.proofs.lemmas.Bool.Decides.{nat_tests}
use Rattle.std.proofs.lemmas.Result.{err_from_is_err_and}
use Rattle.fdb_lines.specs.declared.log.TheConstants.{MAX_LINES}
use Rattle.serde_json.specs.Find.{get}
use Rattle.fdb_log_reader.specs.declared.error.Why.{Why}
use Rattle.fdb_log_reader.specs.Members.{and_then}
use Rattle.fdb_log_reader.specs.Reading.{Reading, reading_of, with_line, with_own_number, with_said}
use Rattle.fdb_log_reader.specs.private.Usual.{beside_of, says_of}
use Rattle.fdb_log_reader.proofs.UsualForm.{none_shown, shown_nothing, with_number, with_usual}
use Rattle.fdb_log_reader.proofs.named_log.add_line.Goals as goal

pub returns-clause-read : goal.returns-clause-read
returns-clause-read c =
    let before = reading_of c.args.named.now in
    let few : length before.log.lines < MAX_LINES = let lines = c.lines.ensures in let test = c.if-lines-ge-MAX_LINES.false in search (rules, arith, nat_tests) in
    let hidden : before.shown ≡ [] = none_shown c.args.named.now.shown.items (subst (λ n. (n == 0) ≡ true) c.args.named.now.shown.ok.0 (sym c.is_empty.ensures ∙ c.if-is_empty.true)) in
    let is = c.in-Some.ensures in
    let said = λ (name : List ℕ). get name is.0 in
    let between = reading_of c.add_said.new.named in
    let read : with_said before (says_of c.in-Some.line) (beside_of c.in-Some.line) ≡ Ok between =
    shown_nothing (let ok : Result ⊤ Why = Ok tt in ok) c.args.named.now c.add_said.new.named _ (beside_of c.in-Some.line) hidden c.in_ok-add_said.ensures.shown c.in_ok-add_said.ensures.read in
    with_number c.add_number_of.result between _ said (with_line before c.args.bytes.now)
    (with_usual before c.args.bytes.now (option_map (λ kept. kept.now) c.key_member.result) c.in-Some.line c.key_member.ensures hidden c.requires.short few is
    ∙ ap (λ (read : Result Reading Why). and_then read (with_own_number said)) read)
    refl (c.add_number_of.ensures is.0 is.1)

pub returns-in_err-add_said-clause-read : goal.returns-in_err-add_said-clause-read
returns-in_err-add_said-clause-read c =
    let before = reading_of c.args.named.now in
    let few : length before.log.lines < MAX_LINES = let lines = c.lines.ensures in let test = c.if-lines-ge-MAX_LINES.false in search (rules, arith, nat_tests) in
    let hidden : before.shown ≡ [] = none_shown c.args.named.now.shown.items (subst (λ n. (n == 0) ≡ true) c.args.named.now.shown.ok.0 (sym c.is_empty.ensures ∙ c.if-is_empty.true)) in
    let is = c.in-Some.ensures in
    let said = λ (name : List ℕ). get name is.0 in
    let error = err_from_is_err_and c.from_residual.result c.from_residual.ensures.1 in
    rw (error.1, error.2) (elim c.in_err-add_said.ensures.read [
      | inl memory ↦ inl memory
      | inr refused ↦ inr (with_usual before c.args.bytes.now (option_map (λ kept. kept.now) c.key_member.result) c.in-Some.line c.key_member.ensures hidden c.requires.short few is
          ∙ ap (λ (read : Result Reading Why). and_then read (with_own_number said)) refused)
    ])
