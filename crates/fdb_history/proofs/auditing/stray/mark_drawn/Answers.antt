use Rattle.std.proofs.Common.{◌∙◌, ap, sym}
use Rattle.std.proofs.lemmas.List.{take_all}
use Rattle.fdb_history.specs.Log.{answer_in}
use Rattle.fdb_history.specs.declared.log.Call.{Call}
use Rattle.fdb_history.proofs.chains.Marks.{drawn_too-answered, drawn_too-other, no_answer}
use Rattle.fdb_history.proofs.auditing.stray.mark_drawn.Goals as goal
use Rattle.fdb_history.proofs.auditing.stray.mark_drawn.Goals.{in-Answered, in_default}

pub loop-call-preserved : goal.loop-call-preserved
loop-call-preserved c =
    let answer = ap (λ (call : Call). call.answer) (sym c.call-item.is) in
    elim c.match-call.branch [
      | in-Answered w ↦
          rw w.drawn-is
          (λ was are. drawn_too-answered c.args.chain.now w.mark.new.drawn was c.args.client c.args.calls.now c.loop-call.call-index c.call-item.result w.in-Answered.issued c.loop-call-test.true (ap answer_in (answer ∙ w.in-Answered.is)) (w.mark.ensures _ (c.loop-call.invariant was are)))
      | in_default w ↦
          rw w.drawn-is
          (λ was are. drawn_too-other c.args.chain.now c.loop-call.drawn was c.args.client c.args.calls.now c.loop-call.call-index c.call-item.result c.loop-call-test.true (ap answer_in answer ∙ no_answer c.call-item.result.answer w.in_default.not-Answered) (c.loop-call.invariant was are))
    ]

pub returns : goal.returns
returns c = λ was are. rw (← take_all c.loop-call.call-index c.args.calls.now c.loop-call-test.false) (c.loop-call.invariant was are)
