use Rattle.std.proofs.Common.{◌≡◌, [], Result, Err, ◌∙◌, ap, arith, inl, inr, map, refl, string_bytes, subst}
use Rattle.std.proofs.KnownBytes.{Consumes-nil}
use Rattle.fdb_command.specs.private.Asked.{AskBy}
use Rattle.fdb_command.specs.private.Ending.{IsEnding}
use Rattle.fdb_command.proofs.Answered.{failed, told_as}
use Rattle.fdb_command.proofs.Ended.{answered, helped, stopped, wrong}
use Rattle.fdb_command.proofs.driving.carry_out.Goals as goal

same_fault : {T E : Type 0} (r : Result T E) (fault its : E) → r ≡ Err fault → r ≡ Err its → fault ≡ its
same_fault r fault its first second = cc

pub returns-in-Ok-answer_of-clause-given : goal.returns-in-Ok-answer_of-clause-given
returns-in-Ok-answer_of-clause-given g c =
    let arguments = map string_bytes c.in-Ok.arguments.items in
    let asked : AskBy g.P.Program.promise arguments c.in-Input.matches c.in-Input.options = rw (c.in-Input.is, c.deref.ensures.value) at c.in_ok-help.ensures.ok in
    let its = c.in-Ok-answer_of.ensures in
    let answer = c.in-Ok-answer_of.answer in
    rw c.in-Ok.is (record {
      asked = λ no_words no_memory. inl (asked.are.taken, asked.suits);
      leaves = answered g.P.Program.promise arguments (g.I.Read.remaining c.args.input.now) g.O.Write.contents c.args.out.now c.put.new.out answer c.answer_of.new.out (its.printed arguments asked) c.put.result c.put.ensures.ended;
      untaken = λ is. absurd (subst (IsEnding answer.text.items answer.found answer.refused (g.O.Write.contents c.answer_of.new.out) (g.O.Write.contents c.put.new.out)) is c.put.ensures.ended);
      left = its.left arguments asked;
      quiet = λ untold unsaid. c.put.ensures.quiet (its.unsaid arguments asked unsaid) ∙ its.quiet arguments asked untold unsaid;
      few = its.few;
    })

pub returns-clause-given : goal.returns-clause-given
returns-clause-given g c =
    let arguments = map string_bytes c.in-Ok.arguments.items in
    let asked : AskBy g.P.Program.promise arguments c.in-Input.matches c.in-Input.options = rw (c.in-Input.is, c.deref.ensures.value) at c.in_ok-help.ensures.ok in
    let its = c.in-Err-answer_of.ensures in
    rw c.in-Ok.is (record {
      asked = λ no_words no_memory. inl (asked.are.taken, asked.suits);
      leaves = stopped g.P.Program.promise arguments (g.I.Read.remaining c.args.input.now) g.O.Write.contents c.args.out.now c.answer_of.new.out asked.are.taken c.in-Err-answer_of.fault its.own (its.refused arguments asked)
          (its.faulty arguments asked) (its.own_file arguments asked) (its.begun arguments asked);
      untaken = λ is. absurd (its.own (same_fault _ _ _ refl is));
      left = its.left arguments asked;
      quiet = its.quiet arguments asked;
      few = its.few;
    })

pub returns-in_err-help-clause-given : goal.returns-in_err-help-clause-given
returns-in_err-help-clause-given g c =
    let arguments = map string_bytes c.in-Ok.arguments.items in
    let (made, is, told) = failed c.from_residual.result _ c.from_residual.ensures.1 in
    let kind = told_as c.in_err-help.field-0.0 made told in
    rw (c.in-Ok.is, is) (record {
      asked = λ no_words no_memory. elim kind [ inl words ↦ absurd (no_words (ap Err words)) | inr memory ↦ absurd (no_memory (ap Err memory)) ];
      leaves = wrong g.P.Program.promise arguments (g.I.Read.remaining c.args.input.now) g.O.Write.contents c.args.out.now c.in_err-help.field-0.0 made told (rw c.deref.ensures.value at c.in_err-help.ensures.err);
      untaken = λ words. refl;
      left = λ none. refl;
      quiet = λ none unsaid. refl;
      few = ([], omega arith, Consumes-nil _);
    })

pub returns-in-Help-clause-given : goal.returns-in-Help-clause-given
returns-in-Help-clause-given g c =
    let arguments = map string_bytes c.in-Ok.arguments.items in
    let help = rw (c.in-Help.is, c.deref.ensures.value) at c.in_ok-help.ensures.ok in
    rw c.in-Ok.is (record {
      asked = λ no_words no_memory. inr help;
      leaves = helped g.P.Program.promise arguments (g.I.Read.remaining c.args.input.now) g.O.Write.contents c.args.out.now c.show.new.out c.show.result help c.show.ensures;
      untaken = λ words. refl;
      left = λ none. refl;
      quiet = λ none unsaid. refl;
      few = ([], omega arith, Consumes-nil _);
    })

pub returns-in-Err-clause-missing : goal.returns-in-Err-clause-missing
returns-in-Err-clause-missing g c =
    let told = c.from-in-Err.ensures in
    rw c.in-Err.is ((λ memory. ap Err (told.1 (c.from.ensures.0 memory)), λ words. ap Err (told.0 (c.from.ensures.1 words))), refl, refl, refl)
