use Rattle.std.proofs.Common.{◌∙◌, List, map, sym}
use Rattle.std.specs.Borrow.{Bor}
use Rattle.serde_json.specs.View.{view}
use Rattle.serde_json.specs.declared.value.Value.{Value}
use Rattle.fdb_script.proofs.Arrays.{rounds_all, rounds_more}
use Rattle.fdb_script.proofs.reading.command.rounds_of.Goals as goal

pub loop-number-preserved : goal.loop-number-preserved
loop-number-preserved c =
    let round = c.index-rounds-number in
    rw c.in_ok-push.ensures.ok
    (sym (rounds_more (λ (round : Bor (List Value)). map view round.now) c.args.clients c.loop-number.all c.args.rounds.now c.loop-number.number round.result c.in_ok-commands.commands c.loop-number-test.true round.is c.in_ok-commands.ensures) ∙ c.loop-number.invariant)

pub returns : goal.returns
returns c = sym c.loop-number.invariant ∙ rounds_all (λ (round : Bor (List Value)). map view round.now) c.args.clients c.loop-number.all c.args.rounds.now c.loop-number.number c.loop-number-test.false
