use Rattle.std.proofs.Common.{Err, ap, arith, map, string_bytes}
use Rattle.std.proofs.lemmas.Result.{IfErr-weaker, IfOk-weaker}
use Rattle.fdb_command.proofs.Ended.{becomes, failing}
use Rattle.fdb_command.proofs.Untold.{begun, unwritten}
use Rattle.fdb_command.proofs.driving.drive.Goals as goal

pub returns-in-Ok-clause-driven : goal.returns-in-Ok-clause-driven
returns-in-Ok-clause-driven g c = record {
  range = omega arith;
  given = IfOk-weaker c.args.arguments _ _
      (λ list ended. record {
        asked = λ no_words no_memory. ended.asked (λ is. cc) (λ is. cc);
        done = λ is. ended.leaves;
        refused = λ is. absurd (omega (arith, is));
        wrong = λ is. absurd (omega (arith, is));
        short = λ is. absurd (omega (arith, is));
        faulty = λ is. absurd (omega (arith, is));
        begun = λ is. absurd (omega (arith, is));
        untaken = λ is. absurd (omega (arith, is));
        left = ended.left;
        quiet = λ is. ended.quiet;
        few = ended.few;
      })
      c.in-Ok.ensures.given;
  missing = IfErr-weaker c.args.arguments _ _ (λ error missing. (λ memory. let is = missing.0.0 memory in absurd (cc), λ words. let is = missing.0.1 words in absurd (cc), missing.1, missing.2)) c.in-Ok.ensures.missing;
}

pub returns-in-Err-clause-driven : goal.returns-in-Err-clause-driven
returns-in-Err-clause-driven g c = record {
  range = c.status.ensures.range.1;
  given = IfOk-weaker c.args.arguments _ _
      (λ list ended.
      let promise = g.P.Program.promise in
      let arguments = map string_bytes list.items in
      let remaining = g.I.Read.remaining c.args.input.now in
      let its = becomes promise arguments remaining g.O.Write.contents c.args.out.now c.carry_out.new.out c.in-Err.fault in
      record {
        asked = λ no_words no_memory. ended.asked (λ is. no_words (c.status.ensures.arguments (cc))) (λ is. no_memory (c.status.ensures.memory (cc)));
        done = λ is. absurd (omega (arith, is, c.status.ensures.range.0));
        refused = λ is. let (error, why) = c.status.ensures.only_refused is in (error, its _ why ended.leaves);
        wrong = λ is. its _ (c.status.ensures.only_arguments is) ended.leaves;
        short = λ is. its _ (c.status.ensures.only_memory is) ended.leaves;
        faulty = λ is. let (found, why) = c.status.ensures.only_found is in (found, its _ why ended.leaves);
        begun = λ is. failing promise arguments remaining g.O.Write.contents c.args.out.now c.carry_out.new.out c.in-Err.fault ended.leaves (c.status.ensures.only_failed is);
        untaken = λ is. ended.untaken (ap Err (c.status.ensures.only_arguments is));
        left = ended.left;
        quiet = λ is. absurd (omega (arith, is, c.status.ensures.range.0));
        few = ended.few;
      })
      c.in-Err.ensures.given;
  missing = IfErr-weaker c.args.arguments _ _
      (λ error missing. (
        λ memory. let is = missing.0.0 memory in c.status.ensures.memory (cc),
        λ words. let is = missing.0.1 words in c.status.ensures.arguments (cc),
        missing.1,
        missing.2,
      ))
      c.in-Err.ensures.missing;
}

pub returns-in-Err-clause-unwritten : goal.returns-in-Err-clause-unwritten
returns-in-Err-clause-unwritten g c = unwritten g.P.Program.promise _ _ _ _ _ _ _ _ _ _ (returns-in-Err-clause-driven g c)

pub returns-in-Err-clause-begun : goal.returns-in-Err-clause-begun
returns-in-Err-clause-begun g c = begun g.P.Program.promise _ _ _ _ _ _ _ _ _ _ (returns-in-Err-clause-driven g c)
